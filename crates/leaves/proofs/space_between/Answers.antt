-- `leaves::space_between` meets its contract. Assumes nothing.
use Rattle.pen.proofs.Chain.{nothing_ran, by_space}
use Rattle.leaves.proofs.space_between.Goals as goal

pub returns-then-first : goal.returns-then-first
returns-then-first c = λ s. rw c.if-first.true nothing_ran

pub returns : goal.returns
returns c = λ s. rw c.if-first.false (by_space c.write_char.ensures)
