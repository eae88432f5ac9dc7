-- `show_declaration::show_function_parameter_declaration` meets its contract. Assumes nothing.
use mathlib.Core.Path.{refl}
use Rattle.text.specs.Tree.{FunctionParameterDeclaration}
use Rattle.text.specs.Text.{show_function_parameter_declaration}
use Rattle.text.specs.Reading.{Item, item_of, parameter_of}
use Rattle.show_expr.proofs.Printers.{no_row}
use Rattle.show_declaration.proofs.Printers.{named, unnamed}
use Rattle.show_declaration.proofs.show_function_parameter_declaration.Goals as goal

pub returns-in_default : goal.returns-in_default
unfolding show_function_parameter_declaration item_of parameter_of
returns-in_default c = no_row c.args.src.now.tree.records.now c.args.src.now.tree.names.now (λ (i : Item). i.parameter) show_function_parameter_declaration 41 _ FunctionParameterDeclaration.no_parameter refl refl c.in_default.ensures refl

pub returns-then-r-eq1 : goal.returns-then-r-eq1
returns-then-r-eq1 c =
    named c.args.src.now.tree.records.now c.args.src.now.tree.names.now c.in-Some.ensures.0
    c.in-Some.ensures.1
    c.if-r-eq1.true
    c.in-Some.ensures.2 c.qualif-qualified.ensures c.ty-typed.ensures
    c.write_char-spaced.ensures c.ident.ensures

pub returns : goal.returns
returns c =
    unnamed c.args.src.now.tree.records.now c.args.src.now.tree.names.now c.in-Some.ensures.0 c.in-Some.ensures.1 c.if-r-eq1.false
    c.in-Some.ensures.2 c.qualif-qualified.ensures c.ty-typed.ensures
