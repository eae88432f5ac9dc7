-- `leaves::show_post` meets its contract. Assumes nothing.
use mathlib.Core.Path.{refl}
use Rattle.words.specs.Symbol.{Symbol, symbol_text}
use Rattle.text.specs.Token.{Token, spell}
use Rattle.pen.proofs.Chain.{by_token}
use Rattle.leaves.proofs.show_post.Goals as goal

pub returns-then-down : goal.returns-then-down
unfolding spell symbol_text
returns-then-down c = λ s. rw c.if-down.true (by_token (Token.symbol Symbol.dec_op) refl c.write_str.ensures)

pub returns : goal.returns
unfolding spell symbol_text
returns c = λ s. rw c.if-down.false (by_token (Token.symbol Symbol.inc_op) refl c.write_str-2.ensures)
