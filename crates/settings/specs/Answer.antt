-- 01's number and place for each answer of `Settings::read` (01, "Calls"), and what it promises by them. Assumes nothing.
use Rattle.std.specs.Prelude.{◌≡◌, cond, List, ℕ, Option, None, Some}
use Rattle.settings.specs.declared.Settings.{Settings}
use Rattle.settings.specs.Settings.{is_record, read_settings}

-- the number of the refusal; 0 is none
abbrev pub settings_number : Option Settings → ℕ
settings_number (Some s) = 0
settings_number None = 1

-- the place that goes with it
abbrev pub settings_place : Option Settings → ℕ
settings_place (Some s) = 0
settings_place None = 0

-- the settings that the bytes say; by 01's numbers, refusal 1 at 0 exactly where they are no record
pub record Reads (bytes : List ℕ) (r : Option Settings) : Type 0 where
  pub answered : r ≡ read_settings bytes
  pub numbered : settings_number r ≡ cond (is_record bytes) 0 1
  pub placed : settings_place r ≡ 0
