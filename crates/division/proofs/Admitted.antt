-- The tokens of formed trees are proper where their names pass. Assumes nothing.
use mathlib.Core.Path.{◌≡◌, refl}
use mathlib.Core.Bool.{Bool, true, false, cond}
use mathlib.Core.List.{List}
use Prim.Native.Nat.{ℕ, ◌^◌, ◌-◌, ◌<◌}
use native.Mathlib.Omega.{arith}
use lib.ListN.{length}
use borrow.Author.Tests.{lt-ltb, ltb-true}
use Rattle.words.specs.Keyword.{type_keywords}
use Rattle.decimal.specs.Decimal.{negative, magnitude}
use Rattle.lexis.specs.Glsl.{proper_where}
use Rattle.division.proofs.Divided.{Admits}

magnitude_below : (n : ℕ) → n < 2 ^ 32 → magnitude n < 2 ^ 32
unfolding magnitude
magnitude_below n h = go (negative n) refl
  where
    go : (b : Bool) → negative n ≡ b → cond b (2 ^ 32 - n) n < 2 ^ 32
    go true e = omega (arith, ltb-true (2 ^ 31 - 1) n e, h)
    go false e = h

pub admits : (passes : List ℕ → Bool) → Admits passes (proper_where passes)
unfolding proper_where
admits passes = record {
  names = λ n f k. rw (f, k) refl;
  types = λ v h. lt-ltb v (length type_keywords) h;
  ints = λ n h. lt-ltb (magnitude n) (2 ^ 32) (magnitude_below n h);
  uints = λ n h. lt-ltb n (2 ^ 32) h;
  floats = λ t h. h;
  doubles = λ t h. h;
  words = λ w. refl;
  symbols = λ y. refl;
}
