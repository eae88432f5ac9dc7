-- The tokens of two lists of commands, one behind the other. Assumes nothing.
use mathlib.Core.Path.{◌≡◌, refl, sym, ap, ◌∙◌}
use mathlib.Core.List.{List, [], ◌∷◌, ◌++◌, append_assoc}
use Rattle.text.specs.Token.{Token}
use Rattle.text.specs.Command.{Command}
use Rattle.text.specs.Visible.{token_of, tokens_of}

pub tokens_append : (cs ds : List Command) → tokens_of (cs ++ ds) ≡ tokens_of cs ++ tokens_of ds
unfolding tokens_of
tokens_append [] ds = refl
tokens_append (c ∷ cs) ds = ap (λ (ts : List Token). token_of c ++ ts) (tokens_append cs ds) ∙ sym (append_assoc (token_of c) (tokens_of cs) (tokens_of ds))
