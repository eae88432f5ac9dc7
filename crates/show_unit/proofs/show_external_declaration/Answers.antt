-- `show_unit::show_external_declaration` meets its contract: by the kind of the record behind the flush. Assumes nothing.
use mathlib.Core.Path.{refl}
use Rattle.records.specs.declared.kind.Kind.TheVariants.{Declaration, FunctionDefinition}
use Rattle.records.proofs.Numbers.{in_arm}
use Rattle.leaves.proofs.Unlike.{no_number, not_this}
use Rattle.show_unit.proofs.Unit.{flushed, declared, defined, undeclared}
use Rattle.show_unit.proofs.show_external_declaration.Goals as goal

pub returns-in-Declaration : goal.returns-in-Declaration
returns-in-Declaration c = flushed c.args.src.now.tree.records.now c.args.src.now.tree.names.now c.args.src.now.settings.collapse_single_item_compound_statements c.enter_external_declaration-entered.ensures (declared c.args.src.now.tree.records.now c.args.src.now.tree.names.now c.args.src.now.settings.collapse_single_item_compound_statements refl (in_arm _ c.kind.ensures c.in-Some.is c.in-Declaration.is) c.show_declaration.ensures)

pub returns-in-FunctionDefinition : goal.returns-in-FunctionDefinition
returns-in-FunctionDefinition c = flushed c.args.src.now.tree.records.now c.args.src.now.tree.names.now c.args.src.now.settings.collapse_single_item_compound_statements c.enter_external_declaration-entered.ensures (defined c.args.src.now.tree.records.now c.args.src.now.tree.names.now c.args.src.now.settings.collapse_single_item_compound_statements refl (in_arm _ c.kind.ensures c.in-Some.is c.in-FunctionDefinition.is) c.past-inside.ensures c.show_function_definition.ensures)

pub returns-in_default : goal.returns-in_default
returns-in_default c = flushed c.args.src.now.tree.records.now c.args.src.now.tree.names.now c.args.src.now.settings.collapse_single_item_compound_statements c.enter_external_declaration-entered.ensures (undeclared c.args.src.now.tree.records.now c.args.src.now.tree.names.now c.args.src.now.settings.collapse_single_item_compound_statements refl (no_number _ c.kind.ensures c.in_default.is Declaration) (no_number _ c.kind.ensures c.in_default.is FunctionDefinition))

pub returns-in_default-kind : goal.returns-in_default-kind
returns-in_default-kind c = flushed c.args.src.now.tree.records.now c.args.src.now.tree.names.now c.args.src.now.settings.collapse_single_item_compound_statements c.enter_external_declaration-entered.ensures (undeclared c.args.src.now.tree.records.now c.args.src.now.tree.names.now c.args.src.now.settings.collapse_single_item_compound_statements refl (not_this _ c.kind.ensures c.in-Some.is Declaration c.in_default-kind.not-Declaration) (not_this _ c.kind.ensures c.in-Some.is FunctionDefinition c.in_default-kind.not-FunctionDefinition))
