-- An operator joins its operand exactly if the walk's test of both says so, for any expression. Assumes nothing.
use mathlib.Core.Path.{◌≡◌, ◌∙◌, ap}
use Prim.Native.Nat.{ℕ, suc}
use native.Mathlib.Omega.{arith}
use borrow.Author.Tests.{ne_eqb}
use Rattle.text.specs.Tree.{Expr}
use Rattle.text.specs.Joins.{joins_under, joins_right}
use Rattle.text.specs.Reading.{unary_op_of, binary_op_of}
use Rattle.text.proofs.ByKind.{by_variant}
use Rattle.signs.specs.Sign.{of_unary, of_binary, plus_or_minus, joins_with, additive}
use Rattle.signs.proofs.Operators as Operators
use Rattle.formed.proofs.Signs.{plus, minus}
use Rattle.joined.specs.Stack.{bare_sign, under_sign}
use Rattle.joined.proofs.Own.{head, under_plus, under_minus}

module _ (e : Expr) where
  -- a binary operator before its right operand
  pub right : (v : ℕ) → joins_with (of_binary v) (bare_sign (head e) additive) ≡ joins_right (binary_op_of v) e
  unfolding bare_sign
  right = Operators.right e

  -- a unary operator over its operand
  abbrev Under : ℕ → Type 0
  Under v = joins_with (of_unary v) (under_sign (head e) (of_unary v)) ≡ joins_under (unary_op_of v) e

  pub under : (v : ℕ) → Under v
  unfolding joins_with plus_or_minus unary_op_of
  under = by_variant Under (Operators.under e 0) (Operators.under e 1) (ap (joins_with plus) (under_plus e) ∙ Operators.under e 2) (ap (joins_with minus) (under_minus e) ∙ Operators.under e 3) (Operators.under e 4)
      (λ n. let v = suc (suc (suc (suc (suc n)))) in rw (ne_eqb v 2 (λ q. omega arith), ne_eqb v 3 (λ q. omega arith)) (Operators.under e 5))
