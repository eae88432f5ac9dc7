-- What holds of each kind that is taken, from a statement of each number in its range. Assumes nothing.
use mathlib.Core.Path.{◌≡◌, refl, sym, subst}
use mathlib.Core.Bool.{Bool, true, false, ◌&&◌, ◌||◌, and-eq-true_iff as both}
use Prim.Native.Nat.{ℕ, suc, ◌-◌, ◌≤◌}
use native.Mathlib.Omega.{arith}
use lib.Dec.{eqb, leb}
use borrow.Author.Tests.{leb-true, eqb-true}
use Rattle.shapes.specs.Class.{Allowed, takes_kind}
use Rattle.text.proofs.Span.{Span, at}

-- a test of a range
pub between : (low high k : ℕ) → leb low k && leb k high ≡ true → (low ≤ k) × (k ≤ high)
between low high k e = let b = (both (leb low k) (leb k high)).0 e in (leb-true low k b.0, leb-true k high b.1)

-- P of each kind that is taken: those in the range, and the one more
abbrev pub Taken : Allowed → (ℕ → Type 0) → Type 0
Taken x P = Span P x.low (suc (x.high - x.low)) × P x.also

pub taken : (x : Allowed) (P : ℕ → Type 0) → Taken x P → (k : ℕ) → takes_kind x k ≡ true → P k
taken x P ps k e = go (leb x.low k && leb k x.high) refl e
  where
    go : (b : Bool) → leb x.low k && leb k x.high ≡ b → b || eqb k x.also ≡ true → P k
    go true r t = let h = between x.low x.high k r in at P x.low (suc (x.high - x.low)) ps.0 k h.0 (omega (arith, h.0, h.1))
    go false r t = subst P (sym (eqb-true _ _ t)) ps.1
