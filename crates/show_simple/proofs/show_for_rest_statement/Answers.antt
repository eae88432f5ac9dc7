-- `show_simple::show_for_rest_statement` meets its contract. Assumes nothing.
use Rattle.show_simple.proofs.Simple.{rest_parts}
use Rattle.show_simple.proofs.show_for_rest_statement.Goals as goal

pub returns : goal.returns
returns c = rest_parts c.args.src.now.tree.records.now c.args.src.now.tree.names.now c.args.v c.show_optional_condition-asked.ensures c.write_for_statement_separator-apart.ensures c.show_optional_expr.ensures
