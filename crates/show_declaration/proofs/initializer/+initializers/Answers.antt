use native.Mathlib.Omega.{arith}
use mathlib.Core.Path.{refl}
use Rattle.text.specs.Tree.{Initializer}
use Rattle.text.specs.Text.{show_initializer}
use Rattle.text.specs.Reading.{Item, item_of, initializer_of, initializer as initializer_part}
use Rattle.leaves.proofs.Shown.{wrote, step, done}
use Rattle.show_expr.proofs.Printers.{inside, no_row, item_behind}
use Rattle.show_declaration.proofs.Printers as Printers
use Rattle.show_declaration.proofs.Lists as Lists
use Rattle.show_declaration.proofs.initializer.+initializers.Goals as goal

pub show_initializer-returns-in_default : goal.show_initializer-returns-in_default
unfolding show_initializer item_of initializer_of
show_initializer-returns-in_default t c = no_row c.args.src.now.tree.records.now c.args.src.now.tree.names.now (λ (i : Item). i.initializer) show_initializer 45 _ Initializer.no_initializer refl refl c.in_default.ensures refl

pub show_initializer-returns-then-r-eq0 : goal.show_initializer-returns-then-r-eq0
show_initializer-returns-then-r-eq0 t c = Printers.simple c.args.src.now.tree.records.now c.args.src.now.tree.names.now c.in-Some.ensures.0 c.in-Some.ensures.1 c.if-r-eq0.true c.in-Some.ensures.2 c.show_expr.ensures

pub show_initializer-show_initializers-filled-requires : goal.show_initializer-show_initializers-filled-requires
show_initializer-show_initializers-filled-requires t c = omega (arith, c.decreases, (wrote c.enter_initializer_list-opened.ensures).next, (inside c.args.src.now.settings c.args.src.now.tree.records.now c.args.pen 45 c.in-Some.ensures.0 c.in-Some.ensures.1 (omega arith) c.in-Some.ensures.2).0, (inside c.args.src.now.settings c.args.src.now.tree.records.now c.args.pen 45 c.in-Some.ensures.0 c.in-Some.ensures.1 (omega arith) c.in-Some.ensures.2).1)

pub show_initializer-returns : goal.show_initializer-returns
show_initializer-returns t c = Printers.list_of c.args.src.now.tree.records.now c.args.src.now.tree.names.now c.in-Some.ensures.0 c.in-Some.ensures.1 c.if-r-eq0.false c.in-Some.ensures.2 c.enter_initializer_list-opened.ensures c.show_initializers-filled.ensures c.end_initializer_list.ensures

pub show_initializers-show_initializer-at-requires : goal.show_initializers-show_initializer-at-requires
show_initializers-show_initializer-at-requires t c = omega (arith, c.decreases, c.loop-k.invariant.ahead, (wrote c.separate-at.ensures).next)

pub show_initializers-loop-k-preserved : goal.show_initializers-loop-k-preserved
show_initializers-loop-k-preserved t c = step Lists.initializers c.args.src.now.settings c.args.src.now.tree.records.now c.args.src.now.tree.names.now c.loop-k.invariant c.loop-k-test.true (item_behind c.args.src.now.tree.records.now c.args.src.now.tree.names.now show_initializer initializer_part c.separate-at.ensures c.show_initializer-at.ensures)

pub show_initializers-returns : goal.show_initializers-returns
show_initializers-returns t c = done Lists.initializers c.args.src.now.settings c.args.src.now.tree.records.now c.args.src.now.tree.names.now c.loop-k.invariant (omega (arith, c.loop-k-test.false))
