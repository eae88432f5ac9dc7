-- The numbers of the refusals, 01's and 02's, and the number and place for each answer of the check (01, "Calls"). Assumes nothing.
use Rattle.std.specs.Prelude.{ℕ, Ok, Err}
use Rattle.accept.specs.declared.Refusal.{Refusal}
use Rattle.accept.specs.declared.Refusal.TheVariants as Why
use Rattle.accept.specs.Checked.{Checked}

abbrev pub number : Refusal → ℕ
number Why.SettingsOutOfRange = 1
number Why.RecordsOutOfSize = 2
number Why.NamesOutOfSize = 3
number Why.RecordMissing = 4
number Why.KindNotAllowed = 5
number Why.TooDeep = 6
number Why.VariantOutOfRange = 7
number Why.CountMissing = 8
number Why.UnusedSet = 9
number Why.TextBeyond = 10
number Why.TextMisformed = 11
number Why.RecordsLeftOver = 12
number Why.RoomTooSmall = 13
-- 02, #105
number Why.ReservedDeclared = 15

-- the number of the refusal; 0 is none
abbrev pub checked_number : Checked → ℕ
checked_number (Ok m) = 0
checked_number (Err r) = number r.refusal

-- the place that goes with it; where nothing is refused, the record behind the tree
abbrev pub checked_place : Checked → ℕ
checked_place (Ok m) = m
checked_place (Err r) = r.place
