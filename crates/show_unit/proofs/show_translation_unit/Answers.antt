-- `show_unit::show_translation_unit` meets its contract: its declarations, one behind the other. Assumes nothing.
use mathlib.Core.Path.{refl}
use mathlib.Core.List.{[], ◌∷◌}
use native.Mathlib.Omega.{arith}
use Rattle.text.specs.Text.{show_translation_unit}
use Rattle.text.specs.Reading.{Item, item_of, unit_of, several, external as an_external}
use Rattle.leaves.proofs.Shown.{step_alike, done}
use Rattle.show_expr.proofs.Printers.{of_row, no_row}
use Rattle.show_unit.proofs.Unit.{externals}
use Rattle.show_unit.proofs.show_translation_unit.Goals as goal

pub returns-in_default : goal.returns-in_default
unfolding show_translation_unit item_of unit_of
returns-in_default c = no_row c.args.src.now.tree.records.now c.args.src.now.tree.names.now (λ (x : Item). x.unit) (show_translation_unit c.args.src.now.settings.collapse_single_item_compound_statements) 80 _ [] refl refl c.in_default.ensures refl

pub loop-k-preserved : goal.loop-k-preserved
loop-k-preserved c = step_alike (externals c.args.src.now.settings.collapse_single_item_compound_statements) c.args.src.now.settings c.args.src.now.tree.records.now c.args.src.now.tree.names.now (λ f xs. refl) c.loop-k.invariant c.loop-k-test.true c.show_external_declaration-at.ensures

pub returns : goal.returns
unfolding item_of unit_of
returns c = of_row c.args.src.now.tree.records.now c.args.src.now.tree.names.now c.in-Some.ensures.0 (λ (x : Item). x.unit) _ (show_translation_unit c.args.src.now.settings.collapse_single_item_compound_statements) 80 (several c.in-Some.r.count an_external [] ◌∷◌) refl (omega arith) c.in-Some.ensures.1 c.in-Some.ensures.2 (done (externals c.args.src.now.settings.collapse_single_item_compound_statements) c.args.src.now.settings c.args.src.now.tree.records.now c.args.src.now.tree.names.now c.loop-k.invariant (omega (arith, c.loop-k-test.false)))
