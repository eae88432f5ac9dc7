-- `leaves::show_bool` meets its contract. Assumes nothing.
use mathlib.Core.Path.{sym, ◌∙◌, ap}
use native.Mathlib.Omega.{arith}
use mathlib.Core.Bool.{Bool}
use lib.Dec.{eqb}
use borrow.Author.Tests.{eq-eqb, ne_eqb}
use Rattle.text.specs.Token.{Token, spell}
use Rattle.text.specs.Text.{bool_word}
use Rattle.pen.proofs.Chain.{by_token}
use Rattle.leaves.proofs.Rows.{bool_text}
use Rattle.leaves.proofs.show_bool.Goals as goal

pub returns-then-v-eq1 : goal.returns-then-v-eq1
returns-then-v-eq1 c = λ s. by_token (Token.word (bool_word (eqb c.args.v 1))) (bool_text 1 (omega arith) ∙ ap (λ (b : Bool). spell (Token.word (bool_word b))) (sym (eq-eqb _ _ c.if-v-eq1.true))) c.write_word.ensures

pub returns : goal.returns
returns c = λ s. by_token (Token.word (bool_word (eqb c.args.v 1))) (bool_text 0 (omega arith) ∙ ap (λ (b : Bool). spell (Token.word (bool_word b))) (sym (ne_eqb _ _ c.if-v-eq1.false))) c.write_word-2.ensures
