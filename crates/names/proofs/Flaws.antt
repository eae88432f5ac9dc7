-- What a loop over the bytes of a name knows that counts their flaws, one that looks at the last byte again, and one that takes several at a time. Assumes nothing.
use mathlib.Core.Path.{◌≡◌, refl, sym, ◌∙◌, ap}
use mathlib.Core.List.{List, [], ◌∷◌, ◌++◌}
use mathlib.Core.Bool.{Bool, true, false, ◌&&◌, cond, and_assoc, and_comm, and-true, and-false}
use Prim.Native.Nat.{ℕ, zero, suc, ◌≤◌, ◌<◌, ◌+◌, ◌-◌}
use native.Mathlib.Nat.{le_of_suc-le-suc, not-suc-le-zero}
use native.Mathlib.Omega.{arith}
use lib.ListN.{length, get_or, take, drop, length-drop, take-append-drop, drop_of_length-le}
use lib.Seq.{drop-drop, get_or-drop, get_or-take, length-take-le, take_all}
use lib.Dec.{eqb}
use Rattle.std.specs.List.{list_all}
use borrow.Author.Tests.{lt-ltb, le-ltb, ne_eqb}
use Rattle.words.specs.Letter.{name_byte}
use Rattle.word_table.specs.Table.{flaw}
use Rattle.word_table.specs.Slot.{byte_or_last}
use Rattle.words.specs.Form.{all}
use Rattle.words.proofs.Tests.{split}
use Rattle.words.proofs.Laws.{all_more, all_done}

pub flaw_small : (x : ℕ) → flaw x ≤ 1
unfolding flaw
flaw_small x = by (name_byte x)
  where
    by : (b : Bool) → cond b 0 1 ≤ 1
    by true = omega arith
    by false = omega arith

-- no flaws so far, and none in the next byte
none_so_far : (m x : ℕ) → eqb (m + flaw x) 0 ≡ eqb m 0 && name_byte x
unfolding flaw
none_so_far m x = by (name_byte x)
  where
    by : (b : Bool) → eqb (m + cond b 0 1) 0 ≡ eqb m 0 && b
    by true = let e : m + 0 ≡ m = omega arith in ap (λ (n : ℕ). eqb n 0) e ∙ sym (and-true (eqb m 0))
    by false = ne_eqb (m + 1) 0 (λ e. omega arith) ∙ sym (and-false (eqb m 0))

-- `all` is the library's test of a list
pub all_listed : (f : ℕ → Bool) (s : List ℕ) → all f s ≡ list_all f s
unfolding all
all_listed f [] = refl
all_listed f (x ∷ s) = ap (λ (b : Bool). f x && b) (all_listed f s)

pub no_flaw : (x : ℕ) → eqb (flaw x) 0 ≡ name_byte x
no_flaw x = let e : 0 + flaw x ≡ flaw x = omega arith in ap (λ (n : ℕ). eqb n 0) (sym e) ∙ none_so_far 0 x

-- what all have, each has, and so have all from k on
all_has : (f : ℕ → Bool) (s : List ℕ) (j : ℕ) → j < length s → all f s && f (get_or s j 0) ≡ all f s
unfolding all
all_has f [] j h = absurd (not-suc-le-zero h)
all_has f (x ∷ s) zero h = by (f x)
  where
    by : (b : Bool) → (b && all f s) && b ≡ b && all f s
    by true = and-true (all f s)
    by false = refl
all_has f (x ∷ s) (suc j) h = and_assoc (f x) (all f s) (f (get_or s j 0)) ∙ ap (λ (z : Bool). f x && z) (all_has f s j (le_of_suc-le-suc h))

all_append : (f : ℕ → Bool) (u v : List ℕ) → all f (u ++ v) ≡ all f u && all f v
unfolding all
all_append f [] v = refl
all_append f (x ∷ u) v = ap (λ (z : Bool). f x && z) (all_append f u v) ∙ sym (and_assoc (f x) (all f u) (all f v))

all_cut : (f : ℕ → Bool) (k : ℕ) (s : List ℕ) → all f s ≡ all f (take k s) && all f (drop k s)
all_cut f k s = ap (all f) (sym (take-append-drop k s)) ∙ all_append f (take k s) (drop k s)

all_from : (f : ℕ → Bool) (k : ℕ) (s : List ℕ) → all f s && all f (drop k s) ≡ all f s
all_from f k s = rw (all_cut f k s) (by (all f (take k s)) (all f (drop k s)))
  where
    by : (a b : Bool) → (a && b) && b ≡ a && b
    by true true = refl
    by true false = refl
    by false b = refl

-- the next byte of s, with r flaws, where there were m
pub flaws_more :
    (s : List ℕ) (i m r : ℕ) {w : Bool} → i < length s → w ≡ eqb m 0 && all name_byte (drop i s) → r ≡ flaw (get_or s i 0)
    → w ≡ eqb (m + r) 0 && all name_byte (drop (i + 1) s)
flaws_more s i m r h e q =
    all_more name_byte s (eqb m 0) h e refl
    ∙ ap (λ (z : Bool). z && all name_byte (drop (i + 1) s)) (sym (none_so_far m (get_or s i 0)) ∙ ap (λ (n : ℕ). eqb (m + n) 0) (sym q))

-- the same where behind the end the last byte is looked at again
byte_here : (s : List ℕ) (i : ℕ) → i < length s → byte_or_last s i ≡ get_or s i 0
byte_here s i h =
    split i (length s - 1) (λ l. simp (lt-ltb i (length s - 1) l))
    (λ l. let e : length s - 1 ≡ i = omega arith in simp (le-ltb i (length s - 1) l) (ap (λ (n : ℕ). get_or s n 0) e))

byte_last : (s : List ℕ) (i : ℕ) → length s ≤ i → byte_or_last s i ≡ get_or s (length s - 1) 0
byte_last s i h = let l : length s - 1 ≤ i = omega arith in simp (le-ltb i (length s - 1) l)

pub flaws_clamped :
    (s : List ℕ) (i m r : ℕ) → 0 < length s → all name_byte s ≡ eqb m 0 && all name_byte (drop i s) → r ≡ flaw (byte_or_last s i)
    → all name_byte s ≡ eqb (m + r) 0 && all name_byte (drop (i + 1) s)
unfolding all
flaws_clamped s i m r some e q =
    split i (length s) (λ h. flaws_more s i m r h e (q ∙ ap flaw (byte_here s i h)))
    (λ h.
    let last = get_or s (length s - 1) 0 in
    let l : length s ≤ i + 1 = omega arith in
    let so : all name_byte s ≡ eqb m 0 = all_done name_byte s (eqb m 0) h e in
    sym (all_has name_byte s (length s - 1) (omega arith)) ∙ ap (λ (z : Bool). z && name_byte last) so
    ∙ sym (none_so_far m last) ∙ ap (λ (n : ℕ). eqb (m + n) 0) (sym (q ∙ ap flaw (byte_last s i h)))
    ∙ sym (ap (λ (u : List ℕ). eqb (m + r) 0 && all name_byte u) (drop_of_length-le s l) ∙ and-true (eqb (m + r) 0)))

-- k bytes of s from `start` on
module _ (s : List ℕ) (start k : ℕ) where
  pub part_long : start + k ≤ length s → length (take k (drop start s)) ≡ k
  part_long h = length-take-le k (drop start s) (rw length-drop (omega arith))

  pub part_at : (i : ℕ) → i < k → get_or (take k (drop start s)) i 0 ≡ get_or s (start + i) 0
  part_at i h = get_or-take k (drop start s) i 0 h ∙ get_or-drop start s i 0

-- k bytes at a time, of which b says that all are in f; and the last k, which may overlap
module _ (f : ℕ → Bool) (s : List ℕ) (k : ℕ) (ok : Bool) (i : ℕ) (e : all f s ≡ ok && all f (drop i s)) where
  pub all_next : {b : Bool} → b ≡ all f (take k (drop i s)) → all f s ≡ (ok && b) && all f (drop (i + k) s)
  all_next {b} q =
      e ∙ ap (λ (z : Bool). ok && z) (all_cut f k (drop i s) ∙ rw (drop-drop k i s) (ap (λ (z : Bool). z && all f (drop (i + k) s)) (sym q)))
      ∙ sym (and_assoc ok b (all f (drop (i + k) s)))

  pub all_last : k ≤ length s → length s - k ≤ i → {b : Bool} → b ≡ all f (take k (drop (length s - k) s)) → ok && b ≡ all f s
  all_last h l {b} q =
      let start = length s - k in
      let rest = drop start s in
      let whole : take k rest ≡ rest = take_all k rest (rw length-drop (omega arith)) in
      let again : start + (i - start) ≡ i = omega arith in
      let within : drop i s ≡ drop (i - start) rest = ap (λ (n : ℕ). drop n s) (sym again) ∙ sym (drop-drop (i - start) start s) in
      ap (λ (z : Bool). ok && z) (q ∙ ap (all f) whole ∙ sym (all_from f (i - start) rest) ∙ and_comm (all f rest) (all f (drop (i - start) rest)))
      ∙ sym (and_assoc ok (all f (drop (i - start) rest)) (all f rest))
      ∙ ap (λ (u : List ℕ). (ok && all f u) && all f rest) (sym within) ∙ ap (λ (z : Bool). z && all f rest) (sym e)
      ∙ all_from f start s
