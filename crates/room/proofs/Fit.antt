-- Laws of two parts one behind the other. Assumes nothing.
use mathlib.Core.Path.{◌≡◌, sym, ap, ◌∙◌}
use mathlib.Core.Bool.{true, false}
use mathlib.Core.List.{List, [], ◌∷◌, ◌++◌}
use Prim.Native.Nat.{ℕ, suc, ◌+◌, ◌≤◌}
use native.Mathlib.Omega.{arith}
use lib.ListN.{length, set, length-append}
use lib.Seq.{sets}
use lib.Dec.{leb}
use borrow.Author.Tests.{leb-true, leb-false}
use Rattle.room.specs.Room.{laid}
use Rattle.room.proofs.Laid.{laid_fits, laid_out}

pub front_fits : (size at n m : ℕ) → leb (at + (n + m)) size ≡ true → at + n ≤ size
front_fits size at n m e = let h = leb-true (at + (n + m)) size e in omega arith

pub back_fits : (size at n m size' : ℕ) → leb (at + (n + m)) size ≡ true → size' ≡ size → at + n + m ≤ size'
back_fits size at n m size' e f = let h = leb-true (at + (n + m)) size e in omega arith

-- two parts one behind the other are one
pub sets_append : (room : List ℕ) (at : ℕ) (front back : List ℕ) → sets room at (front ++ back) ≡ sets (sets room at front) (at + length front) back
sets_append room at [] back = ap (λ (n : ℕ). sets room n back) (omega arith)
sets_append room at (x ∷ front) back =
    sets_append (set room at x) (suc at) front back ∙ ap (λ (n : ℕ). sets (sets (set room at x) (suc at) front) n back) (omega arith)

module _ (room : List ℕ) (at : ℕ) (front back : List ℕ) where
  pub laid_two : {room₁ room₂ : List ℕ} → leb (at + (length front + length back)) (length room) ≡ true → room₁ ≡ laid room at front
      → room₂ ≡ sets room₁ (at + length front) back → room₂ ≡ laid room at (front ++ back)
  laid_two h e f =
      let k = leb-true (at + (length front + length back)) (length room) h in
      f ∙ ap (λ (r : List ℕ). sets r (at + length front) back) (e ∙ laid_fits room at front (omega arith)) ∙ sym (sets_append room at front back)
      ∙ sym (laid_fits room at (front ++ back) (simp length-append (omega arith)))

  pub laid_neither : leb (at + (length front + length back)) (length room) ≡ false → room ≡ laid room at (front ++ back)
  laid_neither h =
      let k = leb-false (at + (length front + length back)) (length room) h in
      sym (laid_out room at (front ++ back) (simp length-append (omega arith)))
