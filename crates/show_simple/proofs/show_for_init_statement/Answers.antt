-- `show_simple::show_for_init_statement` meets its contract. Assumes nothing.
use mathlib.Core.Path.{refl}
use Rattle.text.specs.Tree.{ForInitStatement}
use Rattle.text.specs.Text.{show_for_init_statement}
use Rattle.text.specs.Reading.{Item, item_of, for_init_of}
use Rattle.show_expr.proofs.Printers.{no_row}
use Rattle.show_simple.proofs.Simple.{starts_empty, starts_expr, starts_declared}
use Rattle.show_simple.proofs.show_for_init_statement.Goals as goal

pub returns-in_default : goal.returns-in_default
unfolding show_for_init_statement item_of for_init_of
returns-in_default c = no_row c.args.src.now.tree.records.now c.args.src.now.tree.names.now (λ (i : Item). i.for_init) show_for_init_statement 70 _ ForInitStatement.no_for_init refl refl c.in_default.ensures refl

pub returns-then-r-eq0 : goal.returns-then-r-eq0
returns-then-r-eq0 c = starts_empty c.args.src.now.tree.records.now c.args.src.now.tree.names.now c.in-Some.ensures.0 c.in-Some.ensures.1 c.if-r-eq0.true c.in-Some.ensures.2 c.write_for_statement_separator.ensures

pub returns-then-r-eq1 : goal.returns-then-r-eq1
returns-then-r-eq1 c = starts_expr c.args.src.now.tree.records.now c.args.src.now.tree.names.now c.in-Some.ensures.0 c.in-Some.ensures.1 c.if-r-eq1.true c.in-Some.ensures.2 c.show_expr-shown.ensures c.write_for_statement_separator-then-r-eq1.ensures

pub returns : goal.returns
returns c = starts_declared c.args.src.now.tree.records.now c.args.src.now.tree.names.now c.in-Some.ensures.0 c.in-Some.ensures.1 c.if-r-eq0.false c.if-r-eq1.false c.in-Some.ensures.2 c.show_declaration.ensures
