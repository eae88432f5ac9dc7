-- Records that are read, and records that are refused with number 1, by computation. Assumes nothing.
use mathlib.Core.Path.{◌≡◌, refl}
use mathlib.Core.Bool.{true, false}
use mathlib.Core.List.{List, [], ◌∷◌, ◌++◌, map}
use Prim.Native.Nat.{ℕ}
use Rattle.std.specs.Prelude.{None, Some}
use lib.ListN.{take, set}
use Rattle.settings.specs.Settings.{limits, in_range, settings_of, is_record, read_settings, TIGHT, OPEN, EXPORT}
use Rattle.settings.specs.Answer.{settings_number}

-- TIGHT with byte k put to b
abbrev tight_but : ℕ → ℕ → List ℕ
tight_but k b = set TIGHT k b

-- the constants, a count of 16 without a style, and 22 bytes with the last at 0
abbrev good : List (List ℕ)
good = TIGHT ∷ OPEN ∷ EXPORT ∷ tight_but 1 16 ∷ (OPEN ++ 0 ∷ []) ∷ []

pub good_read : map read_settings good ≡ map (λ (bs : List ℕ). Some (settings_of bs)) good
unfolding read_settings is_record in_range limits
good_read = refl

-- no bytes, 20, 23, a style of 3, a count of 17, a flag of 2, and byte 21 at 2
abbrev bad : List (List ℕ)
bad = [] ∷ take 20 TIGHT ∷ (EXPORT ++ 0 ∷ []) ∷ tight_but 0 3 ∷ tight_but 1 17 ∷ tight_but 20 2 ∷ (TIGHT ++ 2 ∷ []) ∷ []

pub bad_refused : map read_settings bad ≡ map (λ (bs : List ℕ). None) bad
unfolding read_settings is_record in_range limits
bad_refused = refl

-- 01's numbers of the bad ones
pub bad_numbers : map (λ (bs : List ℕ). settings_number (read_settings bs)) bad ≡ 1 ∷ 1 ∷ 1 ∷ 1 ∷ 1 ∷ 1 ∷ 1 ∷ []
unfolding read_settings is_record in_range limits
bad_numbers = refl

-- 21 bytes mean 0 for byte 21, and EXPORT has it at 1 (02, #106)
pub needed : ((settings_of TIGHT).spaces_where_needed ≡ false) × ((settings_of EXPORT).spaces_where_needed ≡ true)
unfolding settings_of
needed = (refl, refl)
