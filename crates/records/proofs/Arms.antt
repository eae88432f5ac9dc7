-- What the arms of a `match` on a number say: the number is the arm's, or it is none of those before. Assumes nothing.
use mathlib.Core.Path.{◌≡◌, sym, ◌∙◌, ap}
use Prim.Native.Nat.{ℕ, zero, suc, ◌+◌, ◌≤◌}
use native.Mathlib.Omega.{arith}
use Rattle.records.proofs.Laws.{split}

-- the arm of code k
pub by_code : {A : Type 0} (f : ℕ → A) {x y k : ℕ} → x ≡ y → x ≡ k → f k ≡ f y
by_code f e k = ap f (sym k ∙ e)

-- the last arm: none of the n numbers from i on
abbrev pub NoneFrom : (i n v : ℕ) → Type 0
NoneFrom i zero v = Unit {0}
NoneFrom i (suc n) v = NoneFrom i n v × (v ≡ i + n → ⊥)

pub beyond : (n v : ℕ) → NoneFrom 0 n v → n ≤ v
beyond zero v h = omega arith
beyond (suc n) v h = let k = beyond n v h.0 in let d : v ≡ 0 + n → ⊥ = h.1 in split v (suc n) (λ l. absurd (d (omega arith))) (λ l. l)
