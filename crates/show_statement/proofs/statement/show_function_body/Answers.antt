-- `show_statement::statement::show_function_body` meets its contract: in braces, since a body is never collapsed. Assumes nothing.
use mathlib.Core.Path.{refl}
use mathlib.Core.Bool.{true, false}
use Rattle.show_statement.proofs.Statements.{compound_parts}
use Rattle.show_statement.proofs.statement.show_function_body.Goals as goal

pub returns : goal.returns
returns c = compound_parts c.args.src.now.tree.records.now c.args.src.now.tree.names.now {s = c.args.src.now.settings} false true c.args.n refl c.enter_statements-entered.ensures c.consume_function_definition_statement-begun.ensures c.show_statements-filled.ensures c.exit_statements.ensures
