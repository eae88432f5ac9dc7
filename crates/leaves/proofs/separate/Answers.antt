-- `leaves::separate` meets its contract. Assumes nothing.
use Rattle.pen.proofs.Chain.{nothing_ran}
use Rattle.leaves.proofs.separate.Goals as goal

pub returns-then-first : goal.returns-then-first
returns-then-first c = rw c.if-first.true nothing_ran

pub returns : goal.returns
returns c = rw c.if-first.false c.write_list_separator.ensures
