-- `show_simple::show_expression_statement` meets its contract. Assumes nothing.
use Rattle.show_simple.proofs.Simple.{expression_parts}
use Rattle.show_simple.proofs.show_expression_statement.Goals as goal

pub returns : goal.returns
returns c = expression_parts c.args.src.now.tree.records.now c.args.src.now.tree.names.now c.args.v c.show_optional_expr-shown.ensures c.write_statement_terminator.ensures
