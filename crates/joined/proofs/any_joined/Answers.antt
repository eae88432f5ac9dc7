-- `joined::any_joined` meets its contract: beyond the most records the answer is no. Assumes nothing.
use borrow.Author.Tests.{le-ltb, lt-ltb, lt-leb}
use Rattle.joined.specs.Stack.{any_joined}
use Rattle.joined.proofs.any_joined.Goals as goal

pub returns-then-n-le-MOST_RECORDS : goal.returns-then-n-le-MOST_RECORDS
unfolding any_joined
returns-then-n-le-MOST_RECORDS c = simp (← c.whole_records-n.ensures, le-ltb _ _ c.if-n-le-MOST_RECORDS.true, c.walk.ensures)

pub returns-else-n-le-MOST_RECORDS : goal.returns-else-n-le-MOST_RECORDS
unfolding any_joined
returns-else-n-le-MOST_RECORDS c = simp (← c.whole_records-n.ensures, lt-ltb _ _ c.if-n-le-MOST_RECORDS.false, lt-leb _ _ c.if-n-le-MOST_RECORDS.false)
