use native.Mathlib.Omega.{arith}
use mathlib.Core.Path.{refl, ap}
use mathlib.Core.Bool.{not, ◌&&◌}
use lib.Dec.{eqb}
use Rattle.records.specs.declared.kind.Kind.TheVariants.{Declaration, Compound, ExprStatement, Selection, Switch, CaseLabel, While, DoWhile, For, Jump}
use Rattle.records.proofs.Numbers.{in_arm}
use Rattle.leaves.proofs.Unlike.{no_number, not_this}
use Rattle.pen.specs.declared.Pen.{Pen}
use Rattle.leaves.proofs.Shown.{wrote, same_record, step_alike, done}
use Rattle.text.specs.Text.{show_statement}
use Rattle.text.specs.Reading.{statement as a-statement, item_of, statement_of}
use Rattle.show_simple.specs.Parts.{expression_statement, selection_statement, switch_statement, case_label, while_statement, do_while_statement, for_statement}
use Rattle.show_statement.proofs.Statements as Statements
use Rattle.show_expr.proofs.Printers as Printers
use Rattle.show_statement.proofs.Lists as Lists
use Rattle.show_statement.proofs.statement.+statements.Goals as goal

pub show_compound_statement-show_statements-filled-requires : goal.show_compound_statement-show_statements-filled-requires
show_compound_statement-show_statements-filled-requires t c = omega (arith, c.decreases, (wrote c.enter_statements-entered.ensures).next, ap (λ (p : Pen). p.next) c.consume_function_definition_statement-begun.ensures)

pub show_compound_statement-returns : goal.show_compound_statement-returns
show_compound_statement-returns t c = Statements.compound_parts c.args.src.now.tree.records.now c.args.src.now.tree.names.now {s = c.args.src.now.settings} (not c.args.body && c.args.src.now.settings.collapse_single_item_compound_statements && eqb c.args.n 1) c.args.body c.args.n refl c.enter_statements-entered.ensures c.consume_function_definition_statement-begun.ensures c.show_statements-filled.ensures c.exit_statements.ensures

pub show_do_while-show_statement-shown-requires : goal.show_do_while-show_statement-shown-requires
show_do_while-show_statement-shown-requires t c = omega (arith, c.decreases, same_record c.args.src.now.settings c.write_str-word.ensures, same_record c.args.src.now.settings c.write_char-spaced.ensures)

pub show_do_while-returns : goal.show_do_while-returns
show_do_while-returns t c = Statements.do_while_parts c.args.src.now.tree.records.now c.args.src.now.tree.names.now c.write_str-word.ensures c.write_char-spaced.ensures c.show_statement-shown.ensures c.write_char-apart.ensures c.write_str-again.ensures c.write_statement_opening_parenthesis-opened.ensures c.show_expr-asked.ensures c.write_char-closed.ensures c.write_statement_terminator.ensures

pub show_for-show_statement-requires : goal.show_for-show_statement-requires
show_for-show_statement-requires t c = omega (arith, c.decreases, same_record c.args.src.now.settings c.write_str-word.ensures, (wrote c.write_statement_opening_parenthesis-opened.ensures).next, c.show_for_init_statement-begun.ensures.next, (wrote (c.flush_space-apart.ensures c.args.src.now.settings)).next, c.show_for_rest_statement-asked.ensures.next, (wrote c.write_statement_closing_parenthesis-closed.ensures).next)

pub show_for-returns : goal.show_for-returns
show_for-returns t c = Statements.for_parts c.args.src.now.tree.records.now c.args.src.now.tree.names.now c.args.v c.write_str-word.ensures c.write_statement_opening_parenthesis-opened.ensures c.show_for_init_statement-begun.ensures (c.flush_space-apart.ensures c.args.src.now.settings) c.show_for_rest_statement-asked.ensures c.write_statement_closing_parenthesis-closed.ensures c.show_statement.ensures

pub show_selection_rest_statement-show_statement-requires : goal.show_selection_rest_statement-show_statement-requires
show_selection_rest_statement-show_statement-requires t c = omega (arith, c.decreases, c.show_statement-chosen.ensures.next, (wrote c.write_else-other.ensures).next, ap (λ (p : Pen). p.next) c.consume_newline-same_line.ensures)

pub show_selection_rest_statement-returns : goal.show_selection_rest_statement-returns
show_selection_rest_statement-returns t c = Statements.else_parts c.args.src.now.tree.records.now c.args.src.now.tree.names.now c.args.v c.if-v-eq0.false c.show_statement-chosen.ensures c.write_else-other.ensures c.consume_newline-same_line.ensures c.show_statement.ensures

pub show_selection_statement-show_selection_rest_statement-requires : goal.show_selection_statement-show_selection_rest_statement-requires
show_selection_statement-show_selection_rest_statement-requires t c = omega (arith, c.decreases, same_record c.args.src.now.settings c.write_str-word.ensures, (wrote c.write_statement_opening_parenthesis-opened.ensures).next, c.show_expr-asked.ensures.next, (wrote c.write_statement_closing_parenthesis-closed.ensures).next)

pub show_selection_statement-returns : goal.show_selection_statement-returns
show_selection_statement-returns t c = Statements.if_parts c.args.src.now.tree.records.now c.args.src.now.tree.names.now c.args.v c.write_str-word.ensures c.write_statement_opening_parenthesis-opened.ensures c.show_expr-asked.ensures c.write_statement_closing_parenthesis-closed.ensures c.show_selection_rest_statement.ensures

pub show_statement-show_compound_statement-requires : goal.show_statement-show_compound_statement-requires
show_statement-show_compound_statement-requires t c = omega (arith, c.decreases, (wrote c.flush_line-flushed.ensures).next, (Printers.inside c.args.src.now.settings c.args.src.now.tree.records.now c.flush_line-flushed.result 60 c.record_at-r.ensures (in_arm _ c.kind.ensures c.in-Some.is c.in-Compound.is) (omega arith) c.past-inside.ensures).0, (Printers.inside c.args.src.now.settings c.args.src.now.tree.records.now c.flush_line-flushed.result 60 c.record_at-r.ensures (in_arm _ c.kind.ensures c.in-Some.is c.in-Compound.is) (omega arith) c.past-inside.ensures).1)

pub show_statement-show_selection_statement-requires : goal.show_statement-show_selection_statement-requires
show_statement-show_selection_statement-requires t c = omega (arith, c.decreases, (wrote c.flush_line-flushed.ensures).next, (Printers.inside c.args.src.now.settings c.args.src.now.tree.records.now c.flush_line-flushed.result 62 c.record_at-r.ensures (in_arm _ c.kind.ensures c.in-Some.is c.in-Selection.is) (omega arith) c.past-inside.ensures).0, (Printers.inside c.args.src.now.settings c.args.src.now.tree.records.now c.flush_line-flushed.result 62 c.record_at-r.ensures (in_arm _ c.kind.ensures c.in-Some.is c.in-Selection.is) (omega arith) c.past-inside.ensures).1)

pub show_statement-show_switch_statement-requires : goal.show_statement-show_switch_statement-requires
show_statement-show_switch_statement-requires t c = omega (arith, c.decreases, (wrote c.flush_line-flushed.ensures).next, (Printers.inside c.args.src.now.settings c.args.src.now.tree.records.now c.flush_line-flushed.result 63 c.record_at-r.ensures (in_arm _ c.kind.ensures c.in-Some.is c.in-Switch.is) (omega arith) c.past-inside.ensures).0, (Printers.inside c.args.src.now.settings c.args.src.now.tree.records.now c.flush_line-flushed.result 63 c.record_at-r.ensures (in_arm _ c.kind.ensures c.in-Some.is c.in-Switch.is) (omega arith) c.past-inside.ensures).1)

pub show_statement-show_while-requires : goal.show_statement-show_while-requires
show_statement-show_while-requires t c = omega (arith, c.decreases, (wrote c.flush_line-flushed.ensures).next, (Printers.inside c.args.src.now.settings c.args.src.now.tree.records.now c.flush_line-flushed.result 65 c.record_at-r.ensures (in_arm _ c.kind.ensures c.in-Some.is c.in-While.is) (omega arith) c.past-inside.ensures).0, (Printers.inside c.args.src.now.settings c.args.src.now.tree.records.now c.flush_line-flushed.result 65 c.record_at-r.ensures (in_arm _ c.kind.ensures c.in-Some.is c.in-While.is) (omega arith) c.past-inside.ensures).1)

pub show_statement-show_do_while-requires : goal.show_statement-show_do_while-requires
show_statement-show_do_while-requires t c = omega (arith, c.decreases, (wrote c.flush_line-flushed.ensures).next, (Printers.inside c.args.src.now.settings c.args.src.now.tree.records.now c.flush_line-flushed.result 66 c.record_at-r.ensures (in_arm _ c.kind.ensures c.in-Some.is c.in-DoWhile.is) (omega arith) c.past-inside.ensures).0, (Printers.inside c.args.src.now.settings c.args.src.now.tree.records.now c.flush_line-flushed.result 66 c.record_at-r.ensures (in_arm _ c.kind.ensures c.in-Some.is c.in-DoWhile.is) (omega arith) c.past-inside.ensures).1)

pub show_statement-show_for-requires : goal.show_statement-show_for-requires
show_statement-show_for-requires t c = omega (arith, c.decreases, (wrote c.flush_line-flushed.ensures).next, (Printers.inside c.args.src.now.settings c.args.src.now.tree.records.now c.flush_line-flushed.result 67 c.record_at-r.ensures (in_arm _ c.kind.ensures c.in-Some.is c.in-For.is) (omega arith) c.past-inside.ensures).0, (Printers.inside c.args.src.now.settings c.args.src.now.tree.records.now c.flush_line-flushed.result 67 c.record_at-r.ensures (in_arm _ c.kind.ensures c.in-Some.is c.in-For.is) (omega arith) c.past-inside.ensures).1)

pub show_statement-returns-in-Declaration : goal.show_statement-returns-in-Declaration
show_statement-returns-in-Declaration t c = Statements.flushed c.args.src.now.tree.records.now c.args.src.now.tree.names.now (show_statement c.args.src.now.settings.collapse_single_item_compound_statements) a-statement (Statements.flush_first c.args.src.now.settings.collapse_single_item_compound_statements) c.flush_line-flushed.ensures (Statements.declaration_row c.args.src.now.tree.records.now c.args.src.now.tree.names.now c.record_at-r.ensures (in_arm _ c.kind.ensures c.in-Some.is c.in-Declaration.is) c.show_declaration.ensures)

pub show_statement-returns-in-Compound : goal.show_statement-returns-in-Compound
show_statement-returns-in-Compound t c = Statements.flushed c.args.src.now.tree.records.now c.args.src.now.tree.names.now (show_statement c.args.src.now.settings.collapse_single_item_compound_statements) a-statement (Statements.flush_first c.args.src.now.settings.collapse_single_item_compound_statements) c.flush_line-flushed.ensures (Statements.compound_row c.args.src.now.tree.records.now c.args.src.now.tree.names.now c.record_at-r.ensures (in_arm _ c.kind.ensures c.in-Some.is c.in-Compound.is) c.past-inside.ensures c.show_compound_statement.ensures)

pub show_statement-returns-in-ExprStatement : goal.show_statement-returns-in-ExprStatement
unfolding item_of statement_of
show_statement-returns-in-ExprStatement t c = Statements.flushed c.args.src.now.tree.records.now c.args.src.now.tree.names.now (show_statement c.args.src.now.settings.collapse_single_item_compound_statements) a-statement (Statements.flush_first c.args.src.now.settings.collapse_single_item_compound_statements) c.flush_line-flushed.ensures (Statements.of_kind c.args.src.now.tree.records.now c.args.src.now.tree.names.now c.record_at-r.ensures 61 (expression_statement c.record_at-r.result.variant) refl (omega arith) (in_arm _ c.kind.ensures c.in-Some.is c.in-ExprStatement.is) c.past-inside.ensures c.show_expression_statement.ensures)

pub show_statement-returns-in-Selection : goal.show_statement-returns-in-Selection
unfolding item_of statement_of
show_statement-returns-in-Selection t c = Statements.flushed c.args.src.now.tree.records.now c.args.src.now.tree.names.now (show_statement c.args.src.now.settings.collapse_single_item_compound_statements) a-statement (Statements.flush_first c.args.src.now.settings.collapse_single_item_compound_statements) c.flush_line-flushed.ensures (Statements.of_kind c.args.src.now.tree.records.now c.args.src.now.tree.names.now c.record_at-r.ensures 62 (selection_statement c.record_at-r.result.variant) refl (omega arith) (in_arm _ c.kind.ensures c.in-Some.is c.in-Selection.is) c.past-inside.ensures c.show_selection_statement.ensures)

pub show_statement-returns-in-Switch : goal.show_statement-returns-in-Switch
unfolding item_of statement_of
show_statement-returns-in-Switch t c = Statements.flushed c.args.src.now.tree.records.now c.args.src.now.tree.names.now (show_statement c.args.src.now.settings.collapse_single_item_compound_statements) a-statement (Statements.flush_first c.args.src.now.settings.collapse_single_item_compound_statements) c.flush_line-flushed.ensures (Statements.of_kind c.args.src.now.tree.records.now c.args.src.now.tree.names.now c.record_at-r.ensures 63 (switch_statement c.record_at-r.result.count) refl (omega arith) (in_arm _ c.kind.ensures c.in-Some.is c.in-Switch.is) c.past-inside.ensures c.show_switch_statement.ensures)

pub show_statement-returns-in-CaseLabel : goal.show_statement-returns-in-CaseLabel
unfolding item_of statement_of
show_statement-returns-in-CaseLabel t c = Statements.flushed c.args.src.now.tree.records.now c.args.src.now.tree.names.now (show_statement c.args.src.now.settings.collapse_single_item_compound_statements) a-statement (Statements.flush_first c.args.src.now.settings.collapse_single_item_compound_statements) c.flush_line-flushed.ensures (Statements.of_kind c.args.src.now.tree.records.now c.args.src.now.tree.names.now c.record_at-r.ensures 64 (case_label c.record_at-r.result.variant) refl (omega arith) (in_arm _ c.kind.ensures c.in-Some.is c.in-CaseLabel.is) c.past-inside.ensures c.show_case_label.ensures)

pub show_statement-returns-in-While : goal.show_statement-returns-in-While
unfolding item_of statement_of
show_statement-returns-in-While t c = Statements.flushed c.args.src.now.tree.records.now c.args.src.now.tree.names.now (show_statement c.args.src.now.settings.collapse_single_item_compound_statements) a-statement (Statements.flush_first c.args.src.now.settings.collapse_single_item_compound_statements) c.flush_line-flushed.ensures (Statements.of_kind c.args.src.now.tree.records.now c.args.src.now.tree.names.now c.record_at-r.ensures 65 (while_statement) refl (omega arith) (in_arm _ c.kind.ensures c.in-Some.is c.in-While.is) c.past-inside.ensures c.show_while.ensures)

pub show_statement-returns-in-DoWhile : goal.show_statement-returns-in-DoWhile
unfolding item_of statement_of
show_statement-returns-in-DoWhile t c = Statements.flushed c.args.src.now.tree.records.now c.args.src.now.tree.names.now (show_statement c.args.src.now.settings.collapse_single_item_compound_statements) a-statement (Statements.flush_first c.args.src.now.settings.collapse_single_item_compound_statements) c.flush_line-flushed.ensures (Statements.of_kind c.args.src.now.tree.records.now c.args.src.now.tree.names.now c.record_at-r.ensures 66 (do_while_statement) refl (omega arith) (in_arm _ c.kind.ensures c.in-Some.is c.in-DoWhile.is) c.past-inside.ensures c.show_do_while.ensures)

pub show_statement-returns-in-For : goal.show_statement-returns-in-For
unfolding item_of statement_of
show_statement-returns-in-For t c = Statements.flushed c.args.src.now.tree.records.now c.args.src.now.tree.names.now (show_statement c.args.src.now.settings.collapse_single_item_compound_statements) a-statement (Statements.flush_first c.args.src.now.settings.collapse_single_item_compound_statements) c.flush_line-flushed.ensures (Statements.of_kind c.args.src.now.tree.records.now c.args.src.now.tree.names.now c.record_at-r.ensures 67 (for_statement c.record_at-r.result.variant) refl (omega arith) (in_arm _ c.kind.ensures c.in-Some.is c.in-For.is) c.past-inside.ensures c.show_for.ensures)

pub show_statement-returns-in-Jump : goal.show_statement-returns-in-Jump
show_statement-returns-in-Jump t c = Statements.flushed c.args.src.now.tree.records.now c.args.src.now.tree.names.now (show_statement c.args.src.now.settings.collapse_single_item_compound_statements) a-statement (Statements.flush_first c.args.src.now.settings.collapse_single_item_compound_statements) c.flush_line-flushed.ensures (Statements.jump_row c.args.src.now.tree.records.now c.args.src.now.tree.names.now c.record_at-r.ensures (in_arm _ c.kind.ensures c.in-Some.is c.in-Jump.is) c.past-inside.ensures c.show_jump_statement.ensures)

pub show_statement-returns-in_default : goal.show_statement-returns-in_default
show_statement-returns-in_default t c = Statements.flushed c.args.src.now.tree.records.now c.args.src.now.tree.names.now (show_statement c.args.src.now.settings.collapse_single_item_compound_statements) a-statement (Statements.flush_first c.args.src.now.settings.collapse_single_item_compound_statements) c.flush_line-flushed.ensures (Statements.no_statement_row c.args.src.now.tree.records.now c.args.src.now.tree.names.now c.record_at-r.ensures (let no = no_number _ c.kind.ensures c.in_default.is in ((((((((((tt, no Declaration), no Compound), no ExprStatement), no Selection), no Switch), no CaseLabel), no While), no DoWhile), no For), no Jump)))

pub show_statement-returns-in_default-kind : goal.show_statement-returns-in_default-kind
show_statement-returns-in_default-kind t c = Statements.flushed c.args.src.now.tree.records.now c.args.src.now.tree.names.now (show_statement c.args.src.now.settings.collapse_single_item_compound_statements) a-statement (Statements.flush_first c.args.src.now.settings.collapse_single_item_compound_statements) c.flush_line-flushed.ensures (Statements.no_statement_row c.args.src.now.tree.records.now c.args.src.now.tree.names.now c.record_at-r.ensures (let no = not_this _ c.kind.ensures c.in-Some.is in let w = c.in_default-kind in ((((((((((tt, no Declaration w.not-Declaration), no Compound w.not-Compound), no ExprStatement w.not-ExprStatement), no Selection w.not-Selection), no Switch w.not-Switch), no CaseLabel w.not-CaseLabel), no While w.not-While), no DoWhile w.not-DoWhile), no For w.not-For), no Jump w.not-Jump)))

pub show_statements-loop-k-preserved : goal.show_statements-loop-k-preserved
show_statements-loop-k-preserved t c = step_alike (Lists.statements c.args.src.now.settings.collapse_single_item_compound_statements) c.args.src.now.settings c.args.src.now.tree.records.now c.args.src.now.tree.names.now (λ f xs. refl) c.loop-k.invariant c.loop-k-test.true c.show_statement-at.ensures

pub show_statements-returns : goal.show_statements-returns
show_statements-returns t c = done (Lists.statements c.args.src.now.settings.collapse_single_item_compound_statements) c.args.src.now.settings c.args.src.now.tree.records.now c.args.src.now.tree.names.now c.loop-k.invariant (omega (arith, c.loop-k-test.false))

pub show_switch_statement-show_statements-filled-requires : goal.show_switch_statement-show_statements-filled-requires
show_switch_statement-show_statements-filled-requires t c = omega (arith, c.decreases, same_record c.args.src.now.settings c.write_str-word.ensures, (wrote c.write_statement_opening_parenthesis-opened.ensures).next, c.show_expr-asked.ensures.next, same_record c.args.src.now.settings c.write_char-closed.ensures, (wrote c.enter_block-entered.ensures).next)

pub show_switch_statement-returns : goal.show_switch_statement-returns
show_switch_statement-returns t c = Statements.switch_parts c.args.src.now.tree.records.now c.args.src.now.tree.names.now c.args.n c.write_str-word.ensures c.write_statement_opening_parenthesis-opened.ensures c.show_expr-asked.ensures c.write_char-closed.ensures c.enter_block-entered.ensures c.show_statements-filled.ensures c.exit_block.ensures

pub show_while-show_statement-requires : goal.show_while-show_statement-requires
show_while-show_statement-requires t c = omega (arith, c.decreases, same_record c.args.src.now.settings c.write_str-word.ensures, (wrote c.write_statement_opening_parenthesis-opened.ensures).next, c.show_condition-asked.ensures.next, (wrote c.write_statement_closing_parenthesis-closed.ensures).next)

pub show_while-returns : goal.show_while-returns
show_while-returns t c = Statements.while_parts c.args.src.now.tree.records.now c.args.src.now.tree.names.now c.write_str-word.ensures c.write_statement_opening_parenthesis-opened.ensures c.show_condition-asked.ensures c.write_statement_closing_parenthesis-closed.ensures c.show_statement.ensures
