-- `records::whole_records` meets its contract: by definition. Assumes nothing.
use mathlib.Core.Path.{refl}
use Rattle.records.specs.Record.{record_count}
use Rattle.records.proofs.whole_records.Goals as goal

pub returns : goal.returns
unfolding record_count
returns c = refl
