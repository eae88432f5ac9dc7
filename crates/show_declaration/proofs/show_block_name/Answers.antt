-- `show_declaration::show_block_name` meets its contract. Assumes nothing.
use mathlib.Core.Path.{refl}
use Rattle.text.specs.Text.{show_arrayed_identifier, optional}
use Rattle.text.specs.Reading.{identifier}
use Rattle.leaves.proofs.Shown.{nothing_shown}
use Rattle.show_expr.proofs.Parts.{there}
use Rattle.show_declaration.proofs.show_block_name.Goals as goal

pub returns-then-on : goal.returns-then-on
unfolding optional
returns-then-on c = there c.args.src.now.tree.records.now c.args.src.now.tree.names.now identifier show_arrayed_identifier (optional show_arrayed_identifier) (λ x. refl) c.if-on.true c.ident.ensures

pub returns : goal.returns
unfolding optional
returns c = rw c.if-on.false nothing_shown
