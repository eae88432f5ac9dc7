-- `signs::joins_with` meets its contract: it is its definition. Assumes nothing.
use mathlib.Core.Path.{refl}
use Rattle.signs.specs.Sign.{joins_with}
use Rattle.signs.proofs.joins_with.Goals as goal

pub returns : goal.returns
unfolding joins_with
returns c = refl
