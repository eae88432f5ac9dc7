-- `show_unit::show_body` meets its contract: a record of kind 60, or none. Assumes nothing.
use mathlib.Core.Path.{refl}
use mathlib.Core.Bool.{true}
use native.Mathlib.Omega.{arith}
use Rattle.text.specs.Text.{show_compound_statement}
use Rattle.text.specs.Reading.{Item, item_of, compound_of, statements}
use Rattle.show_expr.proofs.Printers.{of_row}
use Rattle.show_unit.proofs.Unit.{no_body}
use Rattle.show_unit.proofs.show_body.Goals as goal

pub returns-in_default : goal.returns-in_default
returns-in_default c = no_body c.args.src.now.tree.records.now c.args.src.now.tree.names.now c.args.src.now.settings.collapse_single_item_compound_statements refl c.in_default.ensures (show_compound_statement c.args.src.now.settings.collapse_single_item_compound_statements true) c.show_function_body.ensures

pub returns : goal.returns
unfolding item_of compound_of
returns c = of_row c.args.src.now.tree.records.now c.args.src.now.tree.names.now c.in-Some.ensures.0 (λ (x : Item). x.compound) _ (show_compound_statement c.args.src.now.settings.collapse_single_item_compound_statements true) 60 (statements c.in-Some.r.count) refl (omega arith) c.in-Some.ensures.1 c.in-Some.ensures.2 c.show_function_body-2.ensures
