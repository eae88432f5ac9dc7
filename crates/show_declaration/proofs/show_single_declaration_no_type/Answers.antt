-- `show_declaration::show_single_declaration_no_type` meets its contract. Assumes nothing.
use mathlib.Core.Path.{refl}
use Rattle.text.specs.Tree.{SingleDeclarationNoType}
use Rattle.text.specs.Text.{show_single_declaration_no_type}
use Rattle.text.specs.Reading.{Item, item_of, declarator_of}
use Rattle.show_expr.proofs.Printers.{no_row}
use Rattle.show_declaration.proofs.Printers.{declarator_of_lem}
use Rattle.show_declaration.proofs.show_single_declaration_no_type.Goals as goal

pub returns-in_default : goal.returns-in_default
unfolding show_single_declaration_no_type item_of declarator_of
returns-in_default c = no_row c.args.src.now.tree.records.now c.args.src.now.tree.names.now (λ (i : Item). i.declarator) show_single_declaration_no_type 44 _ SingleDeclarationNoType.no_declarator refl refl c.in_default.ensures refl

pub returns : goal.returns
returns c = declarator_of_lem c.args.src.now.tree.records.now c.args.src.now.tree.names.now c.in-Some.ensures.0 c.in-Some.ensures.1 c.in-Some.ensures.2 c.ident-named.ensures c.show_initialized.ensures
