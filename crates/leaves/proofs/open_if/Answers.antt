-- `leaves::open_if` meets its contract. Assumes nothing.
use mathlib.Core.Path.{refl}
use Rattle.words.specs.Symbol.{Symbol, symbol_text}
use Rattle.text.specs.Token.{Token, spell}
use Rattle.pen.proofs.Chain.{nothing_ran, by_token}
use Rattle.leaves.proofs.open_if.Goals as goal

pub returns-then-on : goal.returns-then-on
unfolding spell symbol_text
returns-then-on c = λ s. rw c.if-on.true (by_token (Token.symbol Symbol.left_paren) refl c.write_char.ensures)

pub returns : goal.returns
returns c = λ s. rw c.if-on.false nothing_ran
