-- A text that is spelled out in tokens and spaces, and a test that longest match gives these tokens back: for worked texts. Assumes nothing.
use mathlib.Core.Path.{◌≡◌, refl}
use mathlib.Core.Bool.{Bool, true, not, ◌&&◌}
use mathlib.Core.List.{List, [], ◌∷◌, ◌++◌}
use Prim.Native.Nat.{ℕ}
use Prim.Native.Char.{code}
use borrow.Author.Tests.{not-true}
use Rattle.text.specs.Token.{Token, spell}
use Rattle.lexis.specs.Division.{white_space}
use Rattle.lexis.specs.Division.Divides.{at_end, skip}
use Rattle.lexis.specs.Glsl.{proper, glsl_word, unlisted, GlslDivides}
use Rattle.lexis.proofs.Laws.{lengthens}
use Rattle.lexis.proofs.Tests.{both}
use Rattle.lexis.proofs.Glsl.{spelling, glsl_between}
use Rattle.division.proofs.Clear.{Clear}
use Rattle.division.proofs.Parts.{taken}

pub data Item : Type 0 where
  gap : Item
  tok : Token → Item

abbrev pub spelled : List Item → List ℕ
spelled [] = []
spelled (gap ∷ is) = code " " ∷ spelled is
spelled (tok t ∷ is) = spell t ++ spelled is

abbrev pub tokens : List Item → List Token
tokens [] = []
tokens (gap ∷ is) = tokens is
tokens (tok t ∷ is) = t ∷ tokens is

-- each token is proper, and what stands behind it makes it longer in no language between GLSL and the preprocessor
abbrev clear : Token → List ℕ → Bool
clear t [] = true
clear t (b ∷ bs) = not (lengthens true t b)

abbrev pub apart : List Item → Bool
apart [] = true
apart (gap ∷ is) = apart is
apart (tok t ∷ is) = proper t && clear t (spelled is) && apart is

is_clear : (t : Token) (bs : List ℕ) → clear t bs ≡ true → Clear true t bs
is_clear t [] h = tt
is_clear t (b ∷ bs) h = not-true (lengthens true t b) h

pub spelled_divides : (is : List Item) → apart is ≡ true → GlslDivides (spelled is) (tokens is)
unfolding white_space
spelled_divides [] h = at_end
spelled_divides (gap ∷ is) h = skip refl (spelled_divides is h)
spelled_divides (tok t ∷ is) h =
    let g = both (proper t && clear t (spelled is)) (apart is) h in
    let k = both (proper t) (clear t (spelled is)) g.0 in
    taken (spelling unlisted glsl_word glsl_between) t k.0 (is_clear t (spelled is) k.1) (spelled_divides is g.1)
