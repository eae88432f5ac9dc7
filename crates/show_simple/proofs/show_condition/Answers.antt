-- `show_simple::show_condition` meets its contract. Assumes nothing.
use mathlib.Core.Path.{refl}
use Rattle.text.specs.Tree.{Condition}
use Rattle.text.specs.Text.{show_condition}
use Rattle.text.specs.Reading.{Item, item_of, condition_of}
use Rattle.show_expr.proofs.Printers.{no_row}
use Rattle.show_simple.proofs.Simple.{asked, declared}
use Rattle.show_simple.proofs.show_condition.Goals as goal

pub returns-in_default : goal.returns-in_default
unfolding show_condition item_of condition_of
returns-in_default c = no_row c.args.src.now.tree.records.now c.args.src.now.tree.names.now (λ (i : Item). i.condition) show_condition 69 _ Condition.no_condition refl refl c.in_default.ensures refl

pub returns-then-r-eq0 : goal.returns-then-r-eq0
returns-then-r-eq0 c = asked c.args.src.now.tree.records.now c.args.src.now.tree.names.now c.in-Some.ensures.0 c.in-Some.ensures.1 c.if-r-eq0.true c.in-Some.ensures.2 c.show_expr.ensures

pub returns : goal.returns
returns c = declared c.args.src.now.tree.records.now c.args.src.now.tree.names.now c.in-Some.ensures.0 c.in-Some.ensures.1 c.if-r-eq0.false c.in-Some.ensures.2 c.show_fully_specified_type-typed.ensures c.write_char-spaced.ensures c.write_name-named.ensures c.write_binary_op-assigned.ensures c.show_initializer.ensures
