-- What a loop over the bytes of a text knows of `all`. Assumes nothing.
use mathlib.Core.Path.{◌≡◌, sym, ◌∙◌, ap}
use mathlib.Core.List.{List}
use mathlib.Core.Bool.{Bool, ◌&&◌, and_assoc, and-true}
use Prim.Native.Nat.{ℕ, suc, ◌≤◌, ◌<◌, ◌+◌}
use native.Mathlib.Numerals.{add-one}
use lib.ListN.{length, get_or, drop, drop_of_length-le}
use lib.Seq.{drop-cons}
use Rattle.words.specs.Form.{all}

-- `all`, folded without a branch: ok is what was found up to i
module _ (f : ℕ → Bool) (s : List ℕ) (ok : Bool) {i : ℕ} {w : Bool} where
  pub all_more : {b : Bool} → i < length s → w ≡ ok && all f (drop i s) → b ≡ f (get_or s i 0) → w ≡ (ok && b) && all f (drop (i + 1) s)
  unfolding all
  all_more {b} h e g = e ∙ rw (add-one, drop-cons s i 0 h) (ap (λ (z : Bool). ok && (z && all f (drop (suc i) s))) (sym g) ∙ sym (and_assoc ok b (all f (drop (suc i) s))))

  pub all_done : length s ≤ i → w ≡ ok && all f (drop i s) → w ≡ ok
  unfolding all
  all_done h e = e ∙ rw (drop_of_length-le s h) (and-true ok)
