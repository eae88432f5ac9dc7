-- `leaves::show_binary_op` meets its contract: the row holds the operator, and behind it stands the space that is needed. Assumes nothing.
use mathlib.Core.Path.{sym, ◌∙◌, ap}
use mathlib.Core.Bool.{not, ◌&&◌}
use borrow.Author.Tests.{not-true, not-false}
use Rattle.word_table.specs.Table.{text_at}
use Rattle.text.specs.Asked.{flag}
use Rattle.text.specs.Asked.Flag.{needed_operator_spaces}
use Rattle.text.specs.Operator.{binary_symbol}
use Rattle.text.specs.Joins.{joins_right}
use Rattle.text.specs.Reading.{expr, from, binary_op_of}
use Rattle.pen.proofs.Chain.{◌then◌}
use Rattle.leaves.proofs.Rows.{by_operator, binary_text}
use Rattle.leaves.proofs.Apart.{off, unneeded, needed, right_test}
use Rattle.leaves.proofs.show_binary_op.Goals as goal

-- no space is asked for
pub returns-then-not-asked : goal.returns-then-not-asked
unfolding flag
returns-then-not-asked c =
    let a = c.args in
    λ ns.
    by_operator (binary_symbol (binary_op_of a.v)) (c.row-text.ensures ∙ ap text_at c.section_row.ensures ∙ binary_text _) c.write_binary_op-op.ensures
    then off a.src.now.settings needed_operator_spaces (joins_right (binary_op_of a.v) (expr (from a.src.now.tree.records.now ns a.pen.next)).tree) (not-true (a.src.now.settings.spaces_where_needed && not a.src.now.settings.spaces_around_binary_ops) c.if-not-asked.true-raw)

-- one is needed
pub returns-then-joins_at : goal.returns-then-joins_at
unfolding flag
returns-then-joins_at c =
    let a = c.args in
    λ ns.
    by_operator (binary_symbol (binary_op_of a.v)) (c.row-text.ensures ∙ ap text_at c.section_row.ensures ∙ binary_text _) c.write_binary_op-op.ensures
    then needed a.src.now.settings needed_operator_spaces (joins_right (binary_op_of a.v) (expr (from a.src.now.tree.records.now ns a.pen.next)).tree) (sym (right_test a.src.now.tree.records.now ns a.pen.next a.v c.of_binary.ensures) ∙ sym (c.joins_at.ensures ns) ∙ c.if-joins_at.true) (not-false (a.src.now.settings.spaces_where_needed && not a.src.now.settings.spaces_around_binary_ops) c.if-not-asked.false-raw) c.write_char.ensures

-- none is needed
pub returns : goal.returns
unfolding flag
returns c =
    let a = c.args in
    λ ns.
    by_operator (binary_symbol (binary_op_of a.v)) (c.row-text.ensures ∙ ap text_at c.section_row.ensures ∙ binary_text _) c.write_binary_op-op.ensures
    then unneeded a.src.now.settings needed_operator_spaces (joins_right (binary_op_of a.v) (expr (from a.src.now.tree.records.now ns a.pen.next)).tree) (sym (right_test a.src.now.tree.records.now ns a.pen.next a.v c.of_binary.ensures) ∙ sym (c.joins_at.ensures ns) ∙ c.if-joins_at.false)
