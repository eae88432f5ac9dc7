-- The refusal is number 1 exactly for bytes that are no record, and its place is always 0. So the answer that the bytes have keeps the promise. Assumes nothing.
use mathlib.Core.Path.{◌≡◌, refl, ap, ◌∙◌}
use mathlib.Core.List.{List}
use mathlib.Core.Bool.{Bool, true, false, cond}
use Prim.Native.Nat.{ℕ}
use Rattle.std.specs.Prelude.{Option, None, Some}
use Rattle.settings.specs.declared.Settings.{Settings}
use Rattle.settings.specs.Settings.{is_record, settings_of, read_settings}
use Rattle.settings.specs.Answer.{settings_number, settings_place, Reads}

number_by : (good : Bool) (s : Settings) → settings_number (cond good (Some s) None) ≡ cond good 0 1
number_by true s = refl
number_by false s = refl

place_by : (good : Bool) (s : Settings) → settings_place (cond good (Some s) None) ≡ 0
place_by true s = refl
place_by false s = refl

number_of : (bs : List ℕ) → settings_number (read_settings bs) ≡ cond (is_record bs) 0 1
unfolding read_settings
number_of bs = number_by (is_record bs) (settings_of bs)

place_of : (bs : List ℕ) → settings_place (read_settings bs) ≡ 0
unfolding read_settings
place_of bs = place_by (is_record bs) (settings_of bs)

pub reads : (bs : List ℕ) (r : Option Settings) → r ≡ read_settings bs → Reads bs r
reads bs r e = record { answered = e; numbered = ap settings_number e ∙ number_of bs; placed = ap settings_place e ∙ place_of bs }
