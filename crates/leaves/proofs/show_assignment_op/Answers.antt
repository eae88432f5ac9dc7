-- `leaves::show_assignment_op` meets its contract: the row holds the operator. Assumes nothing.
use mathlib.Core.Path.{◌∙◌, ap}
use Rattle.word_table.specs.Table.{text_at}
use Rattle.text.specs.Operator.{assignment_symbol}
use Rattle.text.specs.Reading.{assignment_op}
use Rattle.leaves.proofs.Rows.{by_operator, assignment_text}
use Rattle.leaves.proofs.show_assignment_op.Goals as goal

pub returns : goal.returns
returns c = by_operator (assignment_symbol (assignment_op c.args.v)) (c.row-text.ensures ∙ ap text_at c.section_row.ensures ∙ assignment_text _) c.write_binary_op.ensures
