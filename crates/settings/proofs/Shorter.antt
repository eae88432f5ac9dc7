-- A record of 21 bytes says what the same with a 0 behind it says (02, #106: 21 bytes mean 0). Assumes nothing.
use mathlib.Core.Path.{◌≡◌, refl, ap}
use mathlib.Core.Bool.{Bool, ◌&&◌}
use mathlib.Core.List.{List, [], ◌∷◌, ◌++◌}
use Prim.Native.Nat.{ℕ, zero, suc, ◌<◌}
use native.Mathlib.Omega.{arith}
use lib.ListN.{length, get_or, length-append, replicate}
use lib.Dec.{leb}
use borrow.Author.Tests.{le-leb}
use Rattle.settings.specs.Settings.{limits, in_range, fewest_bytes, is_record, settings_of, read_settings}

-- a byte that is not there counts as 0
byte_same : (bs : List ℕ) (n k : ℕ) → get_or (bs ++ replicate n 0) k 0 ≡ get_or bs k 0
byte_same [] zero k = refl
byte_same [] (suc n) zero = refl
byte_same [] (suc n) (suc k) = byte_same [] n k
byte_same (b ∷ bs) n zero = refl
byte_same (b ∷ bs) n (suc k) = byte_same bs n k

pub settings_of_more : (bs : List ℕ) (n : ℕ) → settings_of (bs ++ replicate n 0) ≡ settings_of bs
unfolding settings_of
settings_of_more bs n = simp (byte_same bs n)

pub settings_same : (bs : List ℕ) → settings_of (bs ++ 0 ∷ []) ≡ settings_of bs
settings_same bs = settings_of_more bs 1

range_same : (bs ms : List ℕ) → length bs < length ms → in_range (bs ++ 0 ∷ []) ms ≡ in_range bs ms
unfolding in_range
range_same [] [] h = absurd (omega arith)
range_same [] (m ∷ ms) h = rw (le-leb 0 m (omega arith)) refl
range_same (b ∷ bs) [] h = refl
range_same (b ∷ bs) (m ∷ ms) h = ap (λ (r : Bool). leb b m && r) (range_same bs ms (omega arith))

record_same : (bs : List ℕ) → length bs ≡ fewest_bytes → is_record (bs ++ 0 ∷ []) ≡ is_record bs
unfolding is_record limits
record_same bs h = rw (length-append bs (0 ∷ []), h, range_same bs limits (rw h (omega arith))) refl

pub read_same : (bs : List ℕ) → length bs ≡ fewest_bytes → read_settings (bs ++ 0 ∷ []) ≡ read_settings bs
unfolding read_settings
read_same bs h = rw (record_same bs h, settings_same bs) refl
