use Prim.Native.Nat.{◌+◌, ◌-◌, ◌*◌}
use Rattle.records.specs.Record.{record_count}
use mathlib.Core.Bool.{true}
use Rattle.leaves.proofs.Shown.{Loop}
use Rattle.show_statement.proofs.Lists as Lists
use Rattle.show_statement.proofs.statement.+statements.Given as goal

abbrev pub decreases-show_compound_statement : goal.decreases-show_compound_statement
decreases-show_compound_statement l = 8 * (record_count l.src.now.tree.records.now - l.pen.next) + 3

abbrev pub decreases-show_do_while : goal.decreases-show_do_while
decreases-show_do_while l = 8 * (record_count l.src.now.tree.records.now - l.pen.next) + 3

abbrev pub decreases-show_for : goal.decreases-show_for
decreases-show_for l = 8 * (record_count l.src.now.tree.records.now - l.pen.next) + 3

abbrev pub decreases-show_selection_rest_statement : goal.decreases-show_selection_rest_statement
decreases-show_selection_rest_statement l = 8 * (record_count l.src.now.tree.records.now - l.pen.next) + 2

abbrev pub decreases-show_selection_statement : goal.decreases-show_selection_statement
decreases-show_selection_statement l = 8 * (record_count l.src.now.tree.records.now - l.pen.next) + 3

abbrev pub decreases-show_statement : goal.decreases-show_statement
decreases-show_statement l = 8 * (record_count l.src.now.tree.records.now - l.pen.next) + 1

abbrev pub decreases-show_statements : goal.decreases-show_statements
decreases-show_statements l = 8 * (record_count l.src.now.tree.records.now - l.pen.next) + 2

abbrev pub decreases-show_switch_statement : goal.decreases-show_switch_statement
decreases-show_switch_statement l = 8 * (record_count l.src.now.tree.records.now - l.pen.next) + 3

abbrev pub decreases-show_while : goal.decreases-show_while
decreases-show_while l = 8 * (record_count l.src.now.tree.records.now - l.pen.next) + 3

abbrev pub invariant-show_statements-loop-k : goal.invariant-show_statements-loop-k
invariant-show_statements-loop-k l = Loop (Lists.statements l.src.settings.collapse_single_item_compound_statements) l.src.settings l.src.tree.records.now l.src.tree.names.now l.n true l.initial.room l.initial.at (l.n - l._k) true l.room l.at
