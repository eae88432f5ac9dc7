-- What a test says: of two tests, and of a number below another. Assumes nothing.
use mathlib.Core.Path.{◌≡◌, refl}
use mathlib.Core.Bool.{Bool, true, false, ◌&&◌, ◌||◌}
use Prim.Native.Nat.{ℕ, ◌≤◌, ◌<◌}
use lib.Dec.{T, ltb}
use borrow.Author.Tests.{ltb-true, ltb-false}

pub both_left : (a b : Bool) → T (a && b) → T a
both_left true b t = tt
both_left false b t = t

pub both_right : (a b : Bool) → T (a && b) → T b
both_right true b t = t
both_right false b t = absurd t

pub either_left : (a b : Bool) → T a → T (a || b)
either_left true b t = tt
either_left false b t = absurd t

pub either_right : (a b : Bool) → T b → T (a || b)
either_right true b t = tt
either_right false b t = t

-- below n, or not
pub split : {A : Type 0} (k n : ℕ) → (k < n → A) → (n ≤ k → A) → A
split {A} k n below behind = go (ltb k n) refl
  where
    go : (b : Bool) → ltb k n ≡ b → A
    go true e = below (ltb-true k n e)
    go false e = behind (ltb-false k n e)
