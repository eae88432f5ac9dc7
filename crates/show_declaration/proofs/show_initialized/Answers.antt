-- `show_declaration::show_initialized` meets its contract. Assumes nothing.
use Rattle.text.specs.Text.{show_initialized}
use Rattle.leaves.proofs.Shown.{nothing_shown}
use Rattle.show_declaration.proofs.Printers.{initialized}
use Rattle.show_declaration.proofs.show_initialized.Goals as goal

pub returns-then-on : goal.returns-then-on
returns-then-on c = initialized c.args.src.now.tree.records.now c.args.src.now.tree.names.now c.if-on.true c.write_binary_op-assigned.ensures c.show_initializer.ensures

pub returns : goal.returns
unfolding show_initialized
returns c = rw c.if-on.false nothing_shown
