-- `leaves::show_qualifier_word` meets its contract: the row holds the text. Assumes nothing.
use mathlib.Core.Path.{◌∙◌, ap}
use Rattle.word_table.specs.Table.{text_at}
use Rattle.text.specs.Token.{Token}
use Rattle.leaves.specs.Qualifier.{qualifier_word}
use Rattle.pen.proofs.Chain.{by_token}
use Rattle.leaves.proofs.Rows.{qualifier_text}
use Rattle.leaves.proofs.show_qualifier_word.Goals as goal

pub returns : goal.returns
returns c = λ s. by_token (Token.word (qualifier_word c.args.v)) (ap text_at c.section_row.ensures ∙ qualifier_text _) c.write_word.ensures
