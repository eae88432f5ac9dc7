-- A statement of each number in a range, as a list of its proofs. Assumes nothing.
use mathlib.Core.Path.{◌≡◌, subst}
use mathlib.Core.Logic.{⊎_elim}
use Prim.Native.Nat.{ℕ, zero, suc, ◌+◌, ◌≤◌, ◌<◌}
use native.Mathlib.Omega.{arith}
use native.Mathlib.Nat.{eq-or-lt_of_le}

-- P of n numbers, the first of them low
unfoldable pub Span : (ℕ → Type 0) → ℕ → ℕ → Type 0
Span P low zero = Unit
Span P low (suc n) = P low × Span P (suc low) n

-- `p then q then .. then tt`
infixr 10 ◌then◌
abbrev pub ◌then◌ : {A B : Type 0} → A → B → A × B
◌then◌ a b = (a, b)

pub at : (P : ℕ → Type 0) (low n : ℕ) → Span P low n → (k : ℕ) → low ≤ k → k < low + n → P k
unfolding Span
at P low zero ps k h l = absurd (omega arith)
at P low (suc n) ps k h l = ⊎_elim (λ (e : low ≡ k). subst P e ps.0) (λ (g : low < k). at P (suc low) n ps.1 k g (omega arith)) (eq-or-lt_of_le h)

pub map : {P Q : ℕ → Type 0} (low n : ℕ) → ((k : ℕ) → k < low + n → P k → Q k) → Span P low n → Span Q low n
unfolding Span
map low zero f ps = tt
map low (suc n) f ps = (f low (omega arith) ps.0, map (suc low) n (λ k h. f k (omega arith)) ps.1)
