-- 32 bits as a signed number, its sign and its magnitude. Assumes nothing.
use mathlib.Core.Path.{◌≡◌, refl, ◌∙◌, ap}
use mathlib.Core.Bool.{Bool, true, false, cond}
use Prim.Native.Nat.{ℕ, ◌≤◌, ◌<◌, ◌-◌, ◌^◌}
use native.Mathlib.Omega.{arith}
use lib.ListN.{length}
use borrow.Author.Tests.{lt-ltb, le-ltb}
use lib.IntN.{pos, negsuc, nat_abs}
use mir.Syntax.{w32}
use mir.Val.{to_z}
use Rattle.std.specs.Int.{is_negative}
use mir.Facts.{to_z_pos}
use Rattle.decimal.specs.Decimal.{decimal, negative, signed, magnitude}
use Rattle.decimal.proofs.Laws.{below_or_from, at_most_10}

-- the library's reading of 32 bits is the definition's
pub signed_is : (a : ℕ) → a < 2 ^ 32 → to_z w32 a ≡ signed a
unfolding signed
signed_is a h =
    below_or_from (λ (m : ℕ). to_z w32 m ≡ signed m) (2 ^ 31) a (λ p. to_z_pos w32 {n = a} (omega arith) ∙ simp (le-ltb (2 ^ 31 - 1) a (omega arith)))
    (λ p. simp (le-ltb a (2 ^ 31) p, lt-ltb (2 ^ 31 - 1) a (omega arith)) (ap negsuc (omega arith)))

pub negative_signed : (a : ℕ) → is_negative (signed a) ≡ negative a
unfolding signed
negative_signed a = by (negative a)
  where
    by : (b : Bool) → is_negative (cond b (negsuc (2 ^ 32 - 1 - a)) (pos a)) ≡ b
    by true = refl
    by false = le-ltb a 0 (omega arith)

-- the magnitude of 32 bits is that of the number they stand for
pub magnitude_signed : (a : ℕ) → a < 2 ^ 32 → nat_abs (signed a) ≡ magnitude a
unfolding signed magnitude
magnitude_signed a h =
    below_or_from (λ (m : ℕ). nat_abs (signed m) ≡ magnitude m) (2 ^ 31) a (λ p. simp (le-ltb (2 ^ 31 - 1) a (omega arith)))
    (λ p. simp (lt-ltb (2 ^ 31 - 1) a (omega arith)) (omega arith))

-- no 32 bits are farther from 0 than the least i32, and no magnitude has more than 10 digits
pub magnitude_at_most : (a : ℕ) → magnitude a ≤ 2 ^ 31
unfolding magnitude
magnitude_at_most a =
    below_or_from (λ (m : ℕ). magnitude m ≤ 2 ^ 31) (2 ^ 31) a (λ p. simp (le-ltb (2 ^ 31 - 1) a (omega arith)) (omega arith))
    (λ p. simp (lt-ltb (2 ^ 31 - 1) a (omega arith)) (omega arith))

pub magnitude_digits : (a : ℕ) → length (decimal (magnitude a)) ≤ 10
magnitude_digits a = at_most_10 (magnitude a) (omega (arith, magnitude_at_most a))
