-- `show_declaration::show_function_prototype` meets its contract. Assumes nothing.
use mathlib.Core.Path.{refl}
use native.Mathlib.Omega.{arith}
use Rattle.text.specs.Tree.{FunctionPrototype}
use Rattle.text.specs.Text.{show_function_parameter_declaration, show_function_prototype}
use Rattle.text.specs.Reading.{Item, item_of, prototype_of, parameter}
use Rattle.leaves.proofs.Shown.{step, done}
use Rattle.show_expr.proofs.Printers.{no_row, item_behind}
use Rattle.show_declaration.proofs.Lists.{parameters}
use Rattle.show_declaration.proofs.Printers.{prototype_of_lem}
use Rattle.show_declaration.proofs.show_function_prototype.Goals as goal

pub returns-in_default : goal.returns-in_default
unfolding show_function_prototype item_of prototype_of
returns-in_default c = no_row c.args.src.now.tree.records.now c.args.src.now.tree.names.now (λ (i : Item). i.prototype) show_function_prototype 40 _ FunctionPrototype.no_prototype refl refl c.in_default.ensures refl

pub loop-k-preserved : goal.loop-k-preserved
loop-k-preserved c =
    step parameters c.args.src.now.settings c.args.src.now.tree.records.now c.args.src.now.tree.names.now c.loop-k.invariant c.loop-k-test.true
    (item_behind c.args.src.now.tree.records.now c.args.src.now.tree.names.now show_function_parameter_declaration parameter c.separate-at.ensures c.show_function_parameter_declaration-at.ensures)

pub returns : goal.returns
returns c =
    prototype_of_lem c.args.src.now.tree.records.now c.args.src.now.tree.names.now c.in-Some.ensures.0
    c.in-Some.ensures.1
    c.in-Some.ensures.2
    c.show_fully_specified_type-typed.ensures
    c.write_char-spaced.ensures
    c.write_name-named.ensures
    c.write_char-at.ensures (done parameters c.args.src.now.settings c.args.src.now.tree.records.now c.args.src.now.tree.names.now c.loop-k.invariant (omega (arith, c.loop-k-test.false))) c.write_char.ensures
