-- Parts that the code shows by a function of their own (specs/Rest.antt): read one by one or together, they are the same. Assumes nothing.
use mathlib.Core.Path.{◌≡◌, refl, ap}
use mathlib.Core.Bool.{Bool, true, false, cond}
use mathlib.Core.List.{List}
use Prim.Native.Nat.{ℕ}
use lib.Dec.{eqb}
use Rattle.records.specs.Record.{bit0, bit1}
use Rattle.text.specs.Tree.{Expr, ForInitStatement, Statement}
use Rattle.text.specs.Reading.{Read, give, behind, ◌and◌, maybe, from, expr, condition, for_init, statement}
use Rattle.text.proofs.Grouped.{one_grouped, two_grouped}
use Rattle.show_simple.specs.Parts.{selection_statement, for_statement}
use Rattle.show_simple.specs.Rest.{ForRestStatement, for_rest}
use Rattle.show_simple.proofs.Simple.{rest_of}
use Rattle.show_statement.specs.Rest.{SelectionRestStatement, selection_rest}

-- an if statement, from its condition and what stands behind it
abbrev pub if_of : Expr → SelectionRestStatement → Statement
if_of e (SelectionRestStatement.Statement s) = Statement.If e s
if_of e (SelectionRestStatement.Else s t) = Statement.IfElse e s t

-- a for statement, from its start, its rest and its body
abbrev pub for_of : ForInitStatement → ForRestStatement → Statement → Statement
for_of i r s = Statement.For i r.condition r.post_expr s

module _ (rs ns : List ℕ) where
  pub selection_grouped : (v i : ℕ) → selection_statement v (from rs ns i) ≡ (give if_of and expr and selection_rest v) (from rs ns i)
  selection_grouped v i = go (eqb v 0)
    where
      go : (b : Bool) → cond b (give Statement.If and expr and statement) (give Statement.IfElse and expr and statement and statement) (from rs ns i)
          ≡ (give if_of and expr and cond b (give SelectionRestStatement.Statement and statement) (give SelectionRestStatement.Else and statement and statement)) (from rs ns i)
      go true = one_grouped rs ns expr statement i Statement.If if_of SelectionRestStatement.Statement (λ x y. refl)
      go false = two_grouped rs ns expr statement i statement Statement.IfElse if_of SelectionRestStatement.Else (λ x y z. refl)

  pub for_grouped : (v i : ℕ) → for_statement v (from rs ns i) ≡ (give for_of and for_init and for_rest v and statement) (from rs ns i)
  for_grouped v i =
      ap (λ (f : Read (Statement → Statement)). behind f statement (from rs ns i))
      (two_grouped rs ns for_init (maybe (bit0 v) condition) i {C = Statement → Statement} (maybe (bit1 v) expr) Statement.For for_of rest_of (λ x y z. refl))
