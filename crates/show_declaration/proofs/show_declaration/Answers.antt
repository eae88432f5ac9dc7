-- `show_declaration::show_declaration` meets its contract. Assumes nothing.
use mathlib.Core.Path.{refl}
use mathlib.Core.Bool.{true}
use Rattle.text.specs.Tree.{Declaration}
use Rattle.text.specs.Text.{show_type_qualifier, show_function_prototype, show_init_declarator_list, show_block, show_declaration}
use Rattle.text.specs.Reading.{Item, item_of, declaration_of, qualifier, prototype, declarators, block}
use Rattle.show_expr.proofs.Printers.{no_row}
use Rattle.show_declaration.proofs.Printers.{alone, declaration_of_lem, precision_of, invariant_of}
use Rattle.show_declaration.proofs.show_declaration.Goals as goal

pub returns-in_default : goal.returns-in_default
unfolding show_declaration item_of declaration_of
returns-in_default c = no_row c.args.src.now.tree.records.now c.args.src.now.tree.names.now (λ (i : Item). i.declaration) show_declaration 47 _ Declaration.no_declaration refl refl c.in_default.ensures refl

pub returns-in-0 : goal.returns-in-0
unfolding show_declaration declaration_of
returns-in-0 c =
    declaration_of_lem c.args.src.now.tree.records.now c.args.src.now.tree.names.now c.in-Some.ensures.0 Declaration.OfPrototype prototype show_function_prototype
    c.in-Some.ensures.1 c.in-Some.ensures.2 (rw c.in-0.is refl) (λ x. refl)
    c.show_function_prototype-shown.ensures c.write_declaration_terminator.ensures

pub returns-in-1 : goal.returns-in-1
unfolding show_declaration declaration_of
returns-in-1 c =
    declaration_of_lem c.args.src.now.tree.records.now c.args.src.now.tree.names.now c.in-Some.ensures.0 Declaration.OfDeclarators declarators show_init_declarator_list
    c.in-Some.ensures.1 c.in-Some.ensures.2 (rw c.in-1.is refl) (λ x. refl)
    c.show_init_declarator_list-shown.ensures c.write_declaration_terminator-in-1.ensures

pub returns-in-2 : goal.returns-in-2
returns-in-2 c =
    precision_of c.args.src.now.tree.records.now c.args.src.now.tree.names.now c.in-Some.ensures.0
    c.in-Some.ensures.1
    c.in-2.is
    c.in-Some.ensures.2
    c.write_str-word.ensures
    c.write_char-spaced.ensures
    c.spec-qualified.ensures c.write_char-apart.ensures
    c.ty-shown.ensures c.write_declaration_terminator-in-2.ensures

pub returns-in-3 : goal.returns-in-3
unfolding show_declaration declaration_of
returns-in-3 c =
    declaration_of_lem c.args.src.now.tree.records.now c.args.src.now.tree.names.now c.in-Some.ensures.0 Declaration.OfBlock block show_block
    c.in-Some.ensures.1 c.in-Some.ensures.2 (rw c.in-3.is refl) (λ x. refl)
    c.show_block-shown.ensures c.write_declaration_terminator-in-3.ensures

pub returns-in-4 : goal.returns-in-4
returns-in-4 c =
    invariant_of c.args.src.now.tree.records.now c.args.src.now.tree.names.now c.in-Some.ensures.0
    c.in-Some.ensures.1
    c.in-4.is c.in-Some.ensures.2
    c.write_str-word-in-4.ensures c.write_char-spaced-in-4.ensures
    c.write_name-shown.ensures c.write_declaration_terminator-in-4.ensures

pub returns-in_default-variant : goal.returns-in_default-variant
unfolding show_declaration
returns-in_default-variant c =
    declaration_of_lem c.args.src.now.tree.records.now c.args.src.now.tree.names.now c.in-Some.ensures.0 Declaration.TypeOnly qualifier (λ q. show_type_qualifier q true)
    c.in-Some.ensures.1 c.in-Some.ensures.2 (alone c.args.src.now.tree.names.now c.in-Some.r _ c.in_default-variant.in_default-variant-own.rest) (λ x. refl)
    c.qual-shown.ensures c.write_declaration_terminator-in_default-variant.ensures
