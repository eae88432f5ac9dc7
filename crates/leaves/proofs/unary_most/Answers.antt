-- `leaves::unary_most` meets its contract: the test is the definition's, by what was read. Assumes nothing.
use Rattle.leaves.specs.Operand.{most_under}
use Rattle.leaves.proofs.unary_most.Goals as goal

pub returns-then-sign-is : goal.returns-then-sign-is
unfolding most_under
returns-then-sign-is c = simp (← c.is.ensures, ← c.variant_at.ensures, c.if-sign-is.true)

pub returns : goal.returns
unfolding most_under
returns c = simp (← c.is.ensures, ← c.variant_at.ensures, c.if-sign-is.false)
