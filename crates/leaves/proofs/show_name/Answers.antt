-- `leaves::show_name` meets its contract. Assumes nothing.
use mathlib.Core.Path.{refl}
use Rattle.text.specs.Token.{Token, spell}
use Rattle.text.specs.Text.{optional}
use Rattle.pen.proofs.Chain.{nothing_ran, by_token}
use Rattle.leaves.proofs.show_name.Goals as goal

pub returns-then-named : goal.returns-then-named
unfolding spell optional
returns-then-named c = λ s. rw c.if-named.true (by_token (Token.name _) refl c.write_name.ensures)

pub returns : goal.returns
unfolding optional
returns c = λ s. rw c.if-named.false nothing_ran
