-- `leaves::show_unary_op` meets its contract: the row holds the operator, and behind it stands the space that is needed. Assumes nothing.
use mathlib.Core.Path.{sym, ◌∙◌, ap}
use Rattle.word_table.specs.Table.{text_at}
use Rattle.text.specs.Token.{Token}
use Rattle.text.specs.Asked.{flag}
use Rattle.text.specs.Asked.Flag.{spaces_where_needed}
use Rattle.text.specs.Operator.{unary_symbol}
use Rattle.text.specs.Joins.{joins_under}
use Rattle.text.specs.Reading.{expr, from, unary_op_of}
use Rattle.pen.proofs.Chain.{◌then◌, by_token}
use Rattle.leaves.proofs.Rows.{unary_text}
use Rattle.leaves.proofs.Apart.{off, unneeded, needed, under_test}
use Rattle.leaves.proofs.show_unary_op.Goals as goal

-- no space is asked for
pub returns-then-not-src : goal.returns-then-not-src
unfolding flag
returns-then-not-src c =
    let a = c.args in
    λ ns.
    by_token (Token.symbol (unary_symbol (unary_op_of a.v))) (ap text_at c.section_row.ensures ∙ unary_text _) c.write_word-op.ensures
    then off a.src.now.settings spaces_where_needed (joins_under (unary_op_of a.v) (expr (from a.src.now.tree.records.now ns a.pen.next)).tree) c.if-not-src.true

-- one is needed
pub returns-then-joins_at : goal.returns-then-joins_at
unfolding flag
returns-then-joins_at c =
    let a = c.args in
    λ ns.
    by_token (Token.symbol (unary_symbol (unary_op_of a.v))) (ap text_at c.section_row.ensures ∙ unary_text _) c.write_word-op.ensures
    then needed a.src.now.settings spaces_where_needed (joins_under (unary_op_of a.v) (expr (from a.src.now.tree.records.now ns a.pen.next)).tree) (sym (under_test a.src.now.tree.records.now ns a.pen.next a.v c.of_unary.ensures c.requires) ∙ sym (c.joins_at.ensures ns) ∙ c.if-joins_at.true) c.if-not-src.false c.write_char.ensures

-- none is needed
pub returns : goal.returns
unfolding flag
returns c =
    let a = c.args in
    λ ns.
    by_token (Token.symbol (unary_symbol (unary_op_of a.v))) (ap text_at c.section_row.ensures ∙ unary_text _) c.write_word-op.ensures
    then unneeded a.src.now.settings spaces_where_needed (joins_under (unary_op_of a.v) (expr (from a.src.now.tree.records.now ns a.pen.next)).tree) (sym (under_test a.src.now.tree.records.now ns a.pen.next a.v c.of_unary.ensures c.requires) ∙ sym (c.joins_at.ensures ns) ∙ c.if-joins_at.false)
