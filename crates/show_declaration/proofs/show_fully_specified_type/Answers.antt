-- `show_declaration::show_fully_specified_type` meets its contract. Assumes nothing.
use mathlib.Core.Path.{refl}
use Rattle.text.specs.Tree.{FullySpecifiedType}
use Rattle.text.specs.Text.{show_fully_specified_type}
use Rattle.text.specs.Reading.{Item, item_of, full_type_of}
use Rattle.show_expr.proofs.Printers.{no_row}
use Rattle.show_declaration.proofs.Printers.{full_type_of_lem}
use Rattle.show_declaration.proofs.show_fully_specified_type.Goals as goal

pub returns-in_default : goal.returns-in_default
unfolding show_fully_specified_type item_of full_type_of
returns-in_default c = no_row c.args.src.now.tree.records.now c.args.src.now.tree.names.now (λ (i : Item). i.full_type) show_fully_specified_type 31 _ FullySpecifiedType.no_full_type refl refl c.in_default.ensures refl

pub returns : goal.returns
returns c = full_type_of_lem c.args.src.now.tree.records.now c.args.src.now.tree.names.now c.in-Some.ensures.0 c.in-Some.ensures.1 c.in-Some.ensures.2 c.qualif-qualified.ensures c.ty.ensures
