-- Laws of the text of an i32: different numbers have different texts, and none has more than eleven characters. Assumes nothing.
use mathlib.Core.Path.{◌≡◌, refl, sym, ap}
use mathlib.Core.Bool.{Bool, true, false, cond}
use mathlib.Core.List.{List, ◌∷◌}
use Prim.Native.Nat.{ℕ, ◌-◌, ◌≤◌, ◌<◌, ◌^◌}
use Prim.Native.Char.{code}
use native.Mathlib.Omega.{arith}
use lib.ListN.{length, get_or, drop}
use borrow.Author.Tests.{ltb-true}
use Rattle.decimal.specs.Decimal.{decimal, negative, magnitude, int_text}
use Rattle.decimal.proofs.Laws.{decimal_injective, all_digits, length_positive}
use Rattle.decimal.proofs.Sign.{magnitude_digits}

-- a text of digits does not begin with the sign
no_sign : (n : ℕ) (t : List ℕ) → decimal n ≡ code "-" ∷ t → ⊥
no_sign n t e = let d = (all_digits n 0 (length_positive n)).0 in let z : get_or (decimal n) 0 0 ≡ code "-" = ap (λ (l : List ℕ). get_or l 0 0) e in omega arith

module _ (a b : ℕ) (ha : a < 2 ^ 32) (hb : b < 2 ^ 32) where
  apart : (p q : Bool) → negative a ≡ p → negative b ≡ q
      → cond p (code "-" ∷ decimal (cond p (2 ^ 32 - a) a)) (decimal (cond p (2 ^ 32 - a) a)) ≡ cond q (code "-" ∷ decimal (cond q (2 ^ 32 - b) b)) (decimal (cond q (2 ^ 32 - b) b))
      → a ≡ b
  apart true true f g e =
      let k : 2 ^ 32 - a ≡ 2 ^ 32 - b = decimal_injective (2 ^ 32 - a) (2 ^ 32 - b) (ap (drop 1) e) in
      let x = ltb-true (2 ^ 31 - 1) a f in
      omega arith
  apart true false f g e = absurd (no_sign b (decimal (2 ^ 32 - a)) (sym e))
  apart false true f g e = absurd (no_sign a (decimal (2 ^ 32 - b)) e)
  apart false false f g e = decimal_injective a b e

  pub int_injective : int_text a ≡ int_text b → a ≡ b
  unfolding int_text magnitude
  int_injective e = apart (negative a) (negative b) refl refl e

-- a sign and at most ten digits
pub at_most_11 : (a : ℕ) → length (int_text a) ≤ 11
unfolding int_text
at_most_11 a = go (negative a)
  where
    go : (p : Bool) → length (cond p (code "-" ∷ decimal (magnitude a)) (decimal (magnitude a))) ≤ 11
    go true = omega (arith, magnitude_digits a)
    go false = omega (arith, magnitude_digits a)
