-- `show_expr::show_expr` meets its contract: an operand that may bind as it likes is bare. Assumes nothing.
use Rattle.show_expr.proofs.Parts.{plain}
use Rattle.show_expr.proofs.show_expr.Goals as goal

pub returns : goal.returns
returns c = plain c.args.src.now.tree.records.now c.args.src.now.tree.names.now c.expr.ensures
