-- `show_declaration::show_single_declaration` meets its contract. Assumes nothing.
use mathlib.Core.Path.{refl}
use Rattle.text.specs.Tree.{SingleDeclaration}
use Rattle.text.specs.Text.{show_single_declaration}
use Rattle.text.specs.Reading.{Item, item_of, single_of}
use Rattle.show_expr.proofs.Printers.{no_row}
use Rattle.show_declaration.proofs.Printers.{single_of_lem}
use Rattle.show_declaration.proofs.show_single_declaration.Goals as goal

pub returns-in_default : goal.returns-in_default
unfolding show_single_declaration item_of single_of
returns-in_default c = no_row c.args.src.now.tree.records.now c.args.src.now.tree.names.now (λ (i : Item). i.single) show_single_declaration 43 _ SingleDeclaration.no_single refl refl c.in_default.ensures refl

pub returns : goal.returns
returns c =
    single_of_lem c.args.src.now.tree.records.now c.args.src.now.tree.names.now c.in-Some.ensures.0
    c.in-Some.ensures.1
    c.in-Some.ensures.2 c.show_fully_specified_type-typed.ensures
    (c.show_declared-named.ensures c.args.src.now.settings)
    c.dims-sized.ensures c.show_initialized.ensures
