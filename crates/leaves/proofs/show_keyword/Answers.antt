-- `leaves::show_keyword` meets its contract. Assumes nothing.
use mathlib.Core.Path.{◌∙◌, ap}
use native.Mathlib.Omega.{arith}
use Rattle.word_table.specs.Table.{text_at}
use Rattle.text.specs.Token.{Token}
use Rattle.pen.proofs.Chain.{by_token, wrote_nothing}
use Rattle.leaves.proofs.Rows.{keyword_text, no_keyword}
use Rattle.leaves.proofs.show_keyword.Goals as goal

pub returns-then-v-gt-LAST_TYPE : goal.returns-then-v-gt-LAST_TYPE
returns-then-v-gt-LAST_TYPE c = λ s. by_token (Token.type c.args.v) (no_keyword _ (omega arith)) wrote_nothing

pub returns : goal.returns
returns c = λ s. by_token (Token.type c.args.v) (ap text_at c.section_row.ensures ∙ keyword_text _ (omega arith)) c.write_word.ensures
