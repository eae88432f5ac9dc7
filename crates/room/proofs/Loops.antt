-- Laws for what stores bytes: a loop, the library's copy of a part, and one byte. Assumes nothing.
use mathlib.Core.Path.{◌≡◌, refl, sym, ap, ◌∙◌}
use mathlib.Core.Bool.{Bool, true, false}
use mathlib.Core.List.{List, [], ◌∷◌, ◌++◌, append_assoc}
use Prim.Native.Nat.{ℕ, suc, ◌+◌, ◌≤◌, ◌<◌}
use native.Mathlib.Omega.{arith}
use native.Mathlib.Numerals.{add-one}
use lib.ListN.{length, get_or, take, drop, set, drop_of_length-le, length-append, get_or-append}
use lib.Seq.{sets, sets-eq, drop-cons, drop-drop, length-take-le, get_or-append-add, set-get_or}
use lib.Dec.{ltb}
use borrow.Rule.Slice.PartMut.{put_mid}
use borrow.Author.Tests.{ltb-true, ltb-false}
use Rattle.room.specs.Room.{laid}
use Rattle.room.proofs.Laid.{laid_fits, laid_out}

-- a turn of a loop that stores one byte after the other: what is left from here on is all of it from the start
module _ (room : List ℕ) {goal : List ℕ} (at j : ℕ) where
  pub stored : (x : ℕ) (rest all : List ℕ) → all ≡ x ∷ rest → sets room (at + j) all ≡ goal → sets (set room (at + j) x) (at + (j + 1)) rest ≡ goal
  stored x rest all e g =
      let k : at + (j + 1) ≡ suc (at + j) = omega arith in
      ap (λ (n : ℕ). sets (set room (at + j) x) n rest) k ∙ ap (λ (l : List ℕ). sets room (at + j) l) (sym e) ∙ g

  pub stored_all : (all : List ℕ) → all ≡ [] → sets room (at + j) all ≡ goal → room ≡ goal
  stored_all all e g = ap (λ (l : List ℕ). sets room (at + j) l) (sym e) ∙ g

pub next_of : (src : List ℕ) (j : ℕ) → j < length src → drop j src ≡ get_or src j 0 ∷ drop (j + 1) src
next_of src j h = drop-cons src j 0 h ∙ ap (λ (n : ℕ). get_or src j 0 ∷ drop n src) (sym (add-one j))

-- a byte that is stored again, where all stand
module _ (room : List ℕ) (at : ℕ) (src : List ℕ) (fits : at + length src ≤ length room) where
  byte_there : (k : ℕ) → k < length src → get_or (sets room at src) (at + k) 0 ≡ get_or src k 0
  byte_there k h =
      let behind = drop (at + length src) room in
      let front : length (take at room) ≡ at = length-take-le at room (omega arith) in
      ap (λ (l : List ℕ). get_or l (at + k) 0) (sets-eq src room at fits)
      ∙ get_or-append (take at room ++ src) behind 0 (at + k) (simp length-append (omega (arith, front)))
      ∙ ap (λ (n : ℕ). get_or (take at room ++ src) (n + k) 0) (sym front)
      ∙ get_or-append-add (take at room) src k 0

  again : (k : ℕ) → k < length src → set (sets room at src) (at + k) (get_or src k 0) ≡ sets room at src
  again k h = ap (set (sets room at src) (at + k)) (sym (byte_there k h)) ∙ set-get_or (sets room at src) (at + k) 0

  -- a turn of the loop that stores byte i, or where there is none another again
  pub stored_or_again : (room₁ : List ℕ) (i k : ℕ) → k < length src → (i < length src → k ≡ i) → sets room₁ (at + i) (drop i src) ≡ sets room at src
      → sets (set room₁ (at + k) (get_or src k 0)) (at + (i + 1)) (drop (i + 1) src) ≡ sets room at src
  stored_or_again room₁ i k within new g = go (ltb i (length src)) refl
    where
      go : (b : Bool) → ltb i (length src) ≡ b → sets (set room₁ (at + k) (get_or src k 0)) (at + (i + 1)) (drop (i + 1) src) ≡ sets room at src
      go true e =
          let h = ltb-true i (length src) e in
          ap (λ (j : ℕ). sets (set room₁ (at + j) (get_or src j 0)) (at + (i + 1)) (drop (i + 1) src)) (new h) ∙ stored room₁ at i (get_or src i 0) (drop (i + 1) src) (drop i src) (next_of src i h) g
      go false e =
          let h = ltb-false i (length src) e in
          ap (sets (set room₁ (at + k) (get_or src k 0)) (at + (i + 1))) (drop_of_length-le src {i = i + 1} (omega arith))
          ∙ ap (λ (l : List ℕ). set l (at + k) (get_or src k 0)) (stored_all room₁ at i (drop i src) (drop_of_length-le src {i = i} h) g)
          ∙ again k within

-- bytes in the place of as many, as the library leaves them
pub put_there : (room bs : List ℕ) (at k : ℕ) → at + length bs ≤ length room → k ≡ length bs → put_mid at k room bs ≡ sets room at bs
put_there room bs at k h e = rw (e, drop-drop (length bs) at room) (sym (append_assoc (take at room) bs (drop (at + length bs) room)) ∙ sym (sets-eq bs room at h))

-- one byte that fits, and one that does not
pub laid_one : (room : List ℕ) (at b : ℕ) → at < length room → set room at b ≡ laid room at (b ∷ [])
laid_one room at b h = sym (laid_fits room at (b ∷ []) (omega arith))

pub laid_none : (room : List ℕ) (at b : ℕ) → length room ≤ at → room ≡ laid room at (b ∷ [])
laid_none room at b h = sym (laid_out room at (b ∷ []) (omega arith))
