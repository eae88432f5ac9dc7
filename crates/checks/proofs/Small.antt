-- The numbers of the check's answers are small. Assumes nothing.
use mathlib.Core.Path.{ap}
use mathlib.Core.List.{List}
use Prim.Native.Nat.{ℕ, zero, suc, ◌*◌, ◌^◌, ◌≤◌, ◌<◌}
use native.Mathlib.Omega.{arith}
use mir.Syntax.{w64}
use mir.Val.{SFits}
use lib.IntN.{pos, neg_ℤ}
use lib.ListN.{length}
use Rattle.records.specs.Record.{record_size, record_count}
use Rattle.records.proofs.Laws.{split}
use Rattle.shapes.specs.Class.{Class}
use Rattle.accept.specs.Checked.{Checked}
use Rattle.std.specs.Prelude.{Ok, Err}
use Rattle.accept.specs.Refusal.{checked_place}
use Rattle.accept.specs.Check.{most_records, check}
use Rattle.accepted.specs.Placed.{Placed}
use Rattle.accepted.proofs.Places.{placed, in_range_lem}
use Rattle.accepted.proofs.Sizes.{too_many, records_refused}

placed_within : (n : ℕ) (o : Checked) → Placed n o → checked_place o ≤ n
placed_within n (Ok m) h = omega (arith, h)
placed_within n (Err r) h = (in_range_lem n r.refusal r.place h).0

pub place_small : (records names : List ℕ) (c : Class) → checked_place (check records names c) ≤ most_records
unfolding record_count
place_small records names c = split (record_size * most_records) (length records)
    (λ h.
    let e = ap checked_place (records_refused records names c (too_many records names h)) in
    omega arith)
    (λ h.
    let k = placed_within (record_count records) (check records names c) (placed records names c) in
    omega arith)

-- minus a number of 63 bits has 64
pub minus_fits : (n : ℕ) → n < 2 ^ 63 → SFits w64 (neg_ℤ (pos n))
minus_fits zero h = record { sfits = omega arith }
minus_fits (suc n) h = record { sfits = omega arith }
