-- `show_unit::show_function_definition` meets its contract: prototype, body, end of the line. Assumes nothing.
use Rattle.pen.proofs.Chain.{by_enter_function_definition_statement}
use Rattle.show_unit.proofs.Unit.{function_parts}
use Rattle.show_unit.proofs.show_function_definition.Goals as goal

pub returns : goal.returns
returns c = function_parts c.args.src.now.tree.records.now c.args.src.now.tree.names.now c.args.src.now.settings.collapse_single_item_compound_statements c.show_function_prototype-declared.ensures (by_enter_function_definition_statement c.enter_function_definition_statement-entered.ensures) c.show_body-shown.ensures c.flush_line-flushed.ensures c.write_function_definition_terminator.ensures
