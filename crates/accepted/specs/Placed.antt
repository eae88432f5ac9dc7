-- Where a refusal of the record check may stand: document 01's column "place" (01, "Calls"; 02, #105), a line for each refusal. Assumes nothing.
use Rattle.std.specs.Prelude.{◌≡◌, ℕ, ◌<◌, Ok, Err}
use Rattle.accept.specs.declared.Refusal.{Refusal}
use Rattle.accept.specs.declared.Refusal.TheVariants as Why
use Rattle.accept.specs.Checked.{Checked}

-- where there are n records, a refusal may stand at p; 1 and 13 are none of the check's
abbrev pub Stands : ℕ → Refusal → ℕ → Type 0
Stands n Why.SettingsOutOfRange p = ⊥
Stands n Why.RecordsOutOfSize p = p ≡ 0
Stands n Why.NamesOutOfSize p = p ≡ 0
Stands n Why.RecordMissing p = p ≡ n
Stands n Why.KindNotAllowed p = p < n
Stands n Why.TooDeep p = p < n
Stands n Why.VariantOutOfRange p = p < n
Stands n Why.CountMissing p = p < n
Stands n Why.UnusedSet p = p < n
Stands n Why.TextBeyond p = p < n
Stands n Why.TextMisformed p = p < n
Stands n Why.RecordsLeftOver p = p < n
Stands n Why.RoomTooSmall p = ⊥
Stands n Why.ReservedDeclared p = p < n

-- an accepted tree is all of the records
abbrev pub Placed : ℕ → Checked → Type 0
Placed n (Ok m) = m ≡ n
Placed n (Err r) = Stands n r.refusal r.place
