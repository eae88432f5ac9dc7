-- `show_declaration::show_declared` meets its contract. Assumes nothing.
use mathlib.Core.Path.{refl}
use Rattle.text.specs.Token.{Token, spell}
use Rattle.pen.proofs.Chain.{nothing_ran, ◌then◌, by_token, by_space}
use Rattle.show_declaration.proofs.show_declared.Goals as goal

pub returns-then-named : goal.returns-then-named
unfolding spell
returns-then-named c = λ s. rw c.if-named.true (by_space c.write_char-spaced.ensures then by_token (Token.name _) refl c.write_name.ensures)

pub returns : goal.returns
returns c = λ s. rw c.if-named.false nothing_ran
