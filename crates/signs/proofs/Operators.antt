-- An operator joins its operand exactly if it is a plus or minus and the operand begins with the same sign (text, specs/Joins), for any expression and any variant. Assumes nothing.
use mathlib.Core.Path.{◌≡◌, refl, sym, ◌∙◌}
use mathlib.Core.Bool.{Bool, true, false, ◌&&◌, ◌||◌, or-false, and-true}
use Prim.Native.Nat.{ℕ, suc, ◌≤◌}
use Prim.Native.Char.{code}
use native.Mathlib.Omega.{arith}
use lib.Dec.{eqb, ltb}
use lib.ListN.{get_or-eq_default}
use borrow.Author.Tests.{ne_eqb}
use Rattle.words.specs.Form.{same, one_of}
use Rattle.words.specs.Symbol.{symbol_text}
use Rattle.records.proofs.Laws.{split}
use Rattle.text.specs.Tree.{UnaryOp, BinaryOp, Expr}
use Rattle.text.specs.Operator.{precedence, binary_op, unary_symbol, bare_operand, bare_right}
use Rattle.text.specs.Joins.{sign, sign_if, joins, joins_under, joins_right}
use Rattle.text.specs.Reading.{unary_op_of, binary_op_of}
use Rattle.text.proofs.Span.{Span, ◌then◌, at}
use Rattle.text.proofs.ByKind.{by_variant}
use Rattle.signs.specs.Sign.{plus_or_minus, of_unary, of_binary, joins_with, additive}

-- what is left of `reads_as_one` where the first bytes are equal
as_one : (b : Bool) → b ≡ b && true || false
as_one b = sym (or-false (b && true) ∙ and-true b)

module _ (e : Expr) where
  -- a binary operator before its right operand
  abbrev OnRight : ℕ → Type 0
  OnRight v = joins_with (of_binary v) (sign_if (ltb (precedence e) additive) (sign e)) ≡ joins_right (binary_op_of v) e

  rights : Span OnRight 0 18
  unfolding Span joins_with plus_or_minus binary_op_of joins one_of same binary_op symbol_text
  rights =
      refl then refl then refl then refl then refl then refl then refl then refl then refl then refl then refl then refl then refl then refl
      then as_one (eqb (code "+") (sign_if (bare_right BinaryOp.Add e) (sign e)))
      then as_one (eqb (code "-") (sign_if (bare_right BinaryOp.Sub e) (sign e)))
      then refl then refl
      then tt

  -- the last operator stands for all variants beyond it
  last_op : (v : ℕ) → 18 ≤ v → OnRight v
  unfolding joins_with plus_or_minus binary_op_of joins one_of same binary_op symbol_text
  last_op v h = rw (get_or-eq_default _ BinaryOp.Mod h, ne_eqb v 14 (λ q. omega arith), ne_eqb v 15 (λ q. omega arith)) refl

  pub right : (v : ℕ) → OnRight v
  right v = split v 18 (λ h. at OnRight 0 18 rights v (omega arith) (omega arith)) (last_op v)

  -- a unary operator over its operand
  abbrev Under : ℕ → Type 0
  Under v = joins_with (of_unary v) (sign_if (bare_operand (unary_op_of v) e) (sign e)) ≡ joins_under (unary_op_of v) e

  pub under : (v : ℕ) → Under v
  unfolding joins_with plus_or_minus unary_op_of joins one_of same unary_symbol symbol_text
  under = by_variant Under refl refl
      (as_one (eqb (code "+") (sign_if (bare_operand UnaryOp.Add e) (sign e))))
      (as_one (eqb (code "-") (sign_if (bare_operand UnaryOp.Minus e) (sign e))))
      refl
      (λ n. let v = suc (suc (suc (suc (suc n)))) in rw (ne_eqb v 2 (λ q. omega arith), ne_eqb v 3 (λ q. omega arith)) refl)
