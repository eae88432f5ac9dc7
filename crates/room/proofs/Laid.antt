-- The laws of bytes that are written all or not at all. Assumes nothing.
use mathlib.Core.Path.{◌≡◌, refl, ◌∙◌}
use mathlib.Core.Bool.{Bool, true, false, cond}
use mathlib.Core.List.{List, [], ◌++◌}
use Prim.Native.Nat.{ℕ, ◌+◌, ◌≤◌, ◌<◌}
use lib.ListN.{length, take, drop}
use lib.Seq.{sets, length-sets, sets-eq}
use lib.Dec.{leb}
use borrow.Author.Tests.{le-leb, lt-leb}
use Rattle.room.specs.Room.{laid}

module _ (room : List ℕ) (at : ℕ) (bs : List ℕ) where
  -- they fit, and stand there
  pub laid_fits : at + length bs ≤ length room → laid room at bs ≡ sets room at bs
  unfolding laid
  laid_fits h = simp (le-leb _ _ h)

  -- they fit: what is in front, the bytes, what is behind
  pub laid_split : at + length bs ≤ length room → laid room at bs ≡ take at room ++ bs ++ drop (at + length bs) room
  laid_split h = laid_fits h ∙ sets-eq bs room at h

  -- they do not fit
  pub laid_out : length room < at + length bs → laid room at bs ≡ room
  unfolding laid
  laid_out h = simp (lt-leb _ _ h)

  -- no write changes the length
  pub length_laid : length (laid room at bs) ≡ length room
  unfolding laid
  length_laid = go (leb (at + length bs) (length room))
    where
      go : (b : Bool) → length (cond b (sets room at bs) room) ≡ length room
      go true = length-sets room at bs
      go false = refl

-- no bytes, no change
pub laid_nothing : (room : List ℕ) (at : ℕ) → laid room at [] ≡ room
unfolding laid
laid_nothing room at = go (leb (at + 0) (length room))
  where
    go : (b : Bool) → cond b room room ≡ room
    go true = refl
    go false = refl
