-- `show_declaration::show_init_declarator_list` meets its contract. Assumes nothing.
use mathlib.Core.Path.{refl}
use native.Mathlib.Omega.{arith}
use Rattle.text.specs.Tree.{InitDeclaratorList}
use Rattle.text.specs.Text.{show_single_declaration_no_type, show_init_declarator_list}
use Rattle.text.specs.Reading.{Item, item_of, declarators_of, declarator}
use Rattle.leaves.proofs.Shown.{step_alike, done}
use Rattle.show_expr.proofs.Printers.{no_row, item_behind}
use Rattle.show_declaration.proofs.Lists.{tail}
use Rattle.show_declaration.proofs.Printers.{declarators_of_lem}
use Rattle.show_declaration.proofs.show_init_declarator_list.Goals as goal

pub returns-in_default : goal.returns-in_default
unfolding show_init_declarator_list item_of declarators_of
returns-in_default c = no_row c.args.src.now.tree.records.now c.args.src.now.tree.names.now (λ (i : Item). i.declarators) show_init_declarator_list 42 _ InitDeclaratorList.no_declarators refl refl c.in_default.ensures refl

pub loop-k-preserved : goal.loop-k-preserved
loop-k-preserved c =
    step_alike tail c.args.src.now.settings c.args.src.now.tree.records.now c.args.src.now.tree.names.now (λ f xs. refl) c.loop-k.invariant c.loop-k-test.true
    (item_behind c.args.src.now.tree.records.now c.args.src.now.tree.names.now show_single_declaration_no_type declarator c.write_list_separator-at.ensures c.show_single_declaration_no_type-at.ensures)

pub returns : goal.returns
returns c =
    declarators_of_lem c.args.src.now.tree.records.now c.args.src.now.tree.names.now c.in-Some.ensures.0
    c.in-Some.ensures.1
    c.in-Some.ensures.2 c.show_single_declaration-at.ensures
    (done tail c.args.src.now.settings c.args.src.now.tree.records.now c.args.src.now.tree.names.now c.loop-k.invariant (omega (arith, c.loop-k-test.false)))
