-- The parts of a ternary that the code shows by functions of their own (specs/Rest.antt): read one by one or together, they are the same. Assumes nothing.
use mathlib.Core.Path.{◌≡◌, refl}
use mathlib.Core.List.{List}
use Prim.Native.Nat.{ℕ}
use Rattle.text.specs.Tree.{Expr}
use Rattle.text.specs.Reading.{give, ◌and◌, from, expr}
use Rattle.text.proofs.Grouped.{two_grouped}
use Rattle.show_expr.specs.Rest.{Choice, choice}

-- a ternary, from its condition and what stands behind its mark
abbrev pub ternary_of : Expr → Choice → Expr
ternary_of c (Choice.either s e) = Expr.Ternary c s e

pub ternary_grouped : (rs ns : List ℕ) (i : ℕ) → (give Expr.Ternary and expr and expr and expr) (from rs ns i) ≡ (give ternary_of and expr and choice) (from rs ns i)
ternary_grouped rs ns i = two_grouped rs ns expr expr i expr Expr.Ternary ternary_of Choice.either (λ x y z. refl)
