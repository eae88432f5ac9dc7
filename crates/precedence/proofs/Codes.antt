-- Numbers behind a number, for what is known behind the last code. Assumes nothing.
use mathlib.Core.Path.{◌≡◌, sym, ap, ◌∙◌}
use Prim.Native.Nat.{ℕ, zero, suc, ◌+◌}
use native.Mathlib.Nat.{add-zero}
use native.Mathlib.Omega.{arith}

-- k + n, told so that it computes where n is known
infix 30 ◌above◌
abbrev pub ◌above◌ : ℕ → ℕ → ℕ
◌above◌ k zero = k
◌above◌ k (suc n) = suc (k above n)

pub above_sum : (k n : ℕ) → k above n ≡ k + n
above_sum k zero = sym (add-zero k)
above_sum k (suc n) = ap suc (above_sum k n) ∙ omega arith
