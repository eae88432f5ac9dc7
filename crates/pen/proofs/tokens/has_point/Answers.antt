-- `has_point` meets its contract: the library's search is the definition's. Assumes nothing.
use mathlib.Core.Path.{sym, ◌∙◌}
use Rattle.text.specs.Token.{point}
use Rattle.pen.proofs.Lay.{has_is}
use Rattle.pen.proofs.tokens.has_point.Goals as goal

pub returns : goal.returns
returns c = c.contains.ensures.value ∙ sym (has_is point c.args.text.now)
