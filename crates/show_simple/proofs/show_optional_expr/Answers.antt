-- `show_simple::show_optional_expr` meets its contract. Assumes nothing.
use mathlib.Core.Path.{refl}
use Rattle.text.specs.Text.{show_expr, optional}
use Rattle.text.specs.Reading.{expr}
use Rattle.leaves.proofs.Shown.{nothing_shown}
use Rattle.show_expr.proofs.Parts.{there}
use Rattle.show_simple.proofs.show_optional_expr.Goals as goal

pub returns-then-on : goal.returns-then-on
unfolding optional
returns-then-on c = there c.args.src.now.tree.records.now c.args.src.now.tree.names.now expr show_expr (optional show_expr) (λ x. refl) c.if-on.true c.show_expr.ensures

pub returns : goal.returns
unfolding optional
returns c = rw c.if-on.false nothing_shown
