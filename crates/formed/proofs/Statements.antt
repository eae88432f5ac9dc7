-- Statements and the unit (01, kinds 60 to 81). Assumes nothing.
use mathlib.Core.Bool.{Bool, true, false}
use mathlib.Core.List.{List, [], ◌∷◌}
use mathlib.Core.Option.{none, some}
use Prim.Native.Nat.{ℕ}
use Rattle.records.specs.Record.{part}
use Rattle.shapes.specs.Class.Class.{expr, full_type, prototype, initializer, declaration, compound, statement, condition, for_init, external, unit}
use Rattle.text.specs.Tree.{Condition, ForInitStatement, JumpStatement, Statement, Statements, ExternalDeclaration}
use Rattle.formed.specs.Formed.{Each, FormedStatements, FormedStatement, FormedExternal}
use Rattle.formed.proofs.As.{as_sort}
use Rattle.formed.proofs.Plan.{Items, items, Row, ◌so◌, reads}
use Rattle.formed.proofs.Plan.Plan.{give, one, several, ◌and◌}
use Rattle.formed.proofs.Optional.{maybe, maybe_holds}
use Rattle.text.proofs.Span.{Span, ◌then◌}
use Rattle.formed.proofs.Kind.{Kind, by_variant}
use Rattle.formed.proofs.Opened.{opened}
use Rattle.formed.proofs.Declarations.{declaration_kind}

-- lists
unfoldable statements : Items statement Statements
unfolding opened
statements = items Statements.no_statements Statements.statements FormedStatements tt (λ x p y q. (p, q))

unfoldable externals : Items external (List ExternalDeclaration)
unfolding opened
externals = items [] ◌∷◌ (Each FormedExternal) tt (λ x p y q. (p, q))

-- what several variants share
for_row : Bool → Bool → Row FormedStatement
unfolding opened
for_row b d =
    give Statement.For and one for_init and maybe b condition and maybe d expr and one statement
    so λ x p. maybe_holds b condition (λ y q. maybe_holds d expr (λ z r u s. (p, q, r, s)))

module _ (rs ns : List ℕ) where
  pub compound_kind : Kind rs ns compound 60
  unfolding opened statements
  compound_kind v t n a b f = reads rs ns (several n statements so λ x p. p)

  pub declaration_statement : Kind rs ns statement 47
  unfolding opened
  declaration_statement v t n a b f i m ps = as_sort Statement.OfDeclaration (λ x p. p) (declaration_kind rs ns v t n a b f i m ps)

  pub statement_kinds : Span (Kind rs ns statement) 60 9
  unfolding opened statements for_row Span
  statement_kinds =
      (λ v t n a b f i m ps. as_sort Statement.Compound (λ x p. p) (compound_kind v t n a b f i m ps))
      then by_variant rs ns statement 61 (
      (λ n a b f. reads rs ns (give Statement.Expression and give none so tt))
      then (λ n a b f. reads rs ns (give Statement.Expression and (give some and one expr) so λ x p. p))
      then tt)
      then by_variant rs ns statement 62 (
      (λ n a b f. reads rs ns (give Statement.If and one expr and one statement so λ x p y q. (p, q)))
      then (λ n a b f. reads rs ns (give Statement.IfElse and one expr and one statement and one statement so λ x p y q z r. (p, q, r)))
      then tt)
      then (λ v t n a b f. reads rs ns (give Statement.Switch and one expr and several n statements so λ x p y q. (p, q)))
      then by_variant rs ns statement 64 (
      (λ n a b f. reads rs ns (give Statement.Default so tt))
      then (λ n a b f. reads rs ns (give Statement.Case and one expr so λ x p. p))
      then tt)
      then (λ v t n a b f. reads rs ns (give Statement.While and one condition and one statement so λ x p y q. (p, q)))
      then (λ v t n a b f. reads rs ns (give Statement.DoWhile and one statement and one expr so λ x p y q. (p, q)))
      then by_variant rs ns statement 67 (
      (λ n a b f. reads rs ns (for_row false false))
      then (λ n a b f. reads rs ns (for_row true false))
      then (λ n a b f. reads rs ns (for_row false true))
      then (λ n a b f. reads rs ns (for_row true true))
      then tt)
      then by_variant rs ns statement 68 (
      (λ n a b f. reads rs ns (give Statement.OfJump and give JumpStatement.Continue so tt))
      then (λ n a b f. reads rs ns (give Statement.OfJump and give JumpStatement.Break so tt))
      then (λ n a b f. reads rs ns (give Statement.OfJump and give JumpStatement.Discard so tt))
      then (λ n a b f. reads rs ns (give Statement.OfJump and give (JumpStatement.Return none) so tt))
      then (λ n a b f. reads rs ns (give Statement.OfJump and (give (λ e. JumpStatement.Return (some e)) and one expr) so λ x p. p))
      then tt)
      then tt

  pub condition_kind : Kind rs ns condition 69
  unfolding opened Span
  condition_kind = by_variant rs ns condition 69 (
      (λ n a b f. reads rs ns (give Condition.OfExpr and one expr so λ x p. p))
      then (λ n a b f. reads rs ns (give (Condition.Assignment (part ns a b)) and one full_type and one initializer so λ x p y q. (f.text, p, q)))
      then tt)

  pub for_init_kind : Kind rs ns for_init 70
  unfolding opened Span
  for_init_kind = by_variant rs ns for_init 70 (
      (λ n a b f. reads rs ns (give (ForInitStatement.Expression none) so tt))
      then (λ n a b f. reads rs ns (give (λ e. ForInitStatement.Expression (some e)) and one expr so λ x p. p))
      then (λ n a b f. reads rs ns (give ForInitStatement.OfDeclaration and one declaration so λ x p. p))
      then tt)

  pub declaration_external : Kind rs ns external 47
  unfolding opened
  declaration_external v t n a b f i m ps = as_sort ExternalDeclaration.OfDeclaration (λ x p. p) (declaration_kind rs ns v t n a b f i m ps)

  pub function_kind : Kind rs ns external 81
  unfolding opened
  function_kind v t n a b f = reads rs ns (give ExternalDeclaration.FunctionDefinition and one prototype and one compound so λ x p y q. (p, q))

  pub unit_kind : Kind rs ns unit 80
  unfolding opened externals
  unit_kind v t n a b f = reads rs ns (several n externals so λ x p. p)
