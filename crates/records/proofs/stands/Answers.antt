-- `records::stands` meets its contract: the records are counted. Assumes nothing.
use mathlib.Core.Path.{ap}
use lib.Dec.{ltb}
use Rattle.records.proofs.stands.Goals as goal

pub returns : goal.returns
returns c = ap (ltb c.args.i) c.whole_records.ensures
