-- `leaves::write_dot` meets its contract. Assumes nothing.
use mathlib.Core.Path.{refl}
use Rattle.words.specs.Symbol.{Symbol, symbol_text}
use Rattle.text.specs.Token.{Token, spell}
use Rattle.text.specs.Asked.{flag}
use Rattle.text.specs.Asked.Flag.{spaces_where_needed}
use Rattle.text.specs.Joins.{is_int}
use Rattle.text.specs.Reading.{expr, from}
use Rattle.pen.proofs.Chain.{by_token}
use Rattle.leaves.proofs.Apart.{dot_behind}
use Rattle.leaves.proofs.write_dot.Goals as goal

pub returns : goal.returns
unfolding flag spell symbol_text
returns c =
    let a = c.args in
    λ ns. dot_behind spaces_where_needed (is_int (expr (from a.src.now.tree.records.now ns a.at)).tree) (c.dot_apart-behind.ensures a.src.now.settings spaces_where_needed ns refl) (by_token (Token.symbol Symbol.dot) refl c.write_char.ensures)
