-- `joined::head_of` meets its contract: each field by its promise. Assumes nothing.
use Rattle.joined.specs.Stack.{head_of}
use Rattle.joined.proofs.head_of.Goals as goal

pub returns : goal.returns
unfolding head_of
returns c = simp (c.sign_of.ensures, c.of_expr.ensures, c.own_of.ensures)
