-- The form of a name: what each test of it decides. Assumes nothing.
use mathlib.Core.Path.{◌≡◌}
use mathlib.Core.Bool.{false, not, ◌&&◌, and_assoc, and-false}
use mathlib.Core.List.{List}
use Prim.Native.Nat.{ℕ, ◌≤◌, ◌<◌}
use lib.Dec.{leb}
use lib.ListN.{length, get_or}
use borrow.Author.Tests.{le-leb, lt-leb}
use Rattle.words.specs.Keyword.{fixed_words}
use Rattle.words.specs.Form.{longest_name, digit, name_byte, all, one_of, name_form}

module _ (s : List ℕ) where
  pub name_empty : length s ≡ 0 → name_form s ≡ false
  unfolding name_form
  name_empty e = rw e

  pub name_long : longest_name < length s → name_form s ≡ false
  unfolding name_form
  name_long h = simp (lt-leb (length s) longest_name h, and-false)

  -- where it has a byte: by the other tests, in their order
  pub name_left :
      1 ≤ length s
      → name_form s ≡ leb (length s) longest_name && (not (digit (get_or s 0 0)) && (all name_byte s && not (one_of fixed_words s)))
  unfolding name_form
  name_left h = simp (le-leb 1 (length s) h, and_assoc)
