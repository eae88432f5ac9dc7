-- The printer's words beside section 3.6's list of keywords (specs/Keywords): the type keywords that 02, #102 adds are its sampler and image words, in its order, less those that 01 holds already;
-- and the fixed words are its keywords, every one and no other. So a word that is wrong, lost or moved in one of the two lists is refused. Assumes nothing.
use mathlib.Core.Path.{◌≡◌, refl}
use mathlib.Core.Bool.{Bool, true, false, not, ◌&&◌, ◌||◌, cond}
use mathlib.Core.List.{List, [], ◌∷◌}
use Prim.Native.Nat.{ℕ}
use Prim.Native.Char.{code}
use Prim.Native.String as Str
use Prim.Native.String.{String}
use lib.Dec.{eqb}
use lib.ListN.{take, drop}
use Rattle.words.specs.Bytes.{bytes}
use Rattle.words.specs.Form.{same, one_of}
use Rattle.words.specs.Word.{word_text, other_words, qualifier_words, jump_words, bool_words, lone_words}
use Rattle.words.specs.Keyword.{type_keywords, fixed_words}
use Rattle.words.proofs.Search.{every_word}
use Rattle.lexis.specs.Keywords.{keywords}

-- the words that pass a test
unfoldable those : (String → Bool) → List String → List String
those f [] = []
those f (w ∷ ws) = cond (f w) (w ∷ those f ws) (those f ws)

-- a word that begins so
unfoldable begins : String → String → Bool
begins Str.[] w = true
begins (Str.◌∷◌ c s) Str.[] = false
begins (Str.◌∷◌ c s) (Str.◌∷◌ d w) = eqb (code c) (code d) && begins s w

-- a sampler or an image, of floats, of ints or of uints (4.60 §4.1.7)
unfoldable sampler_or_image : String → Bool
sampler_or_image w =
    begins "sampler" w || begins "isampler" w || begins "usampler" w || begins "image" w || begins "iimage" w || begins "uimage" w

-- 01's type keywords
abbrev held_count : ℕ
held_count = 51

unfoldable held : List String
held = take held_count type_keywords

the_rest_of_the_opaque_types : drop held_count type_keywords ≡ those (λ w. sampler_or_image w && not (one_of held (bytes w))) keywords
unfolding those begins sampler_or_image held same one_of type_keywords keywords
the_rest_of_the_opaque_types = refl

fixed_words_are_the_keywords : every_word (one_of fixed_words) keywords && every_word (one_of keywords) fixed_words ≡ true
unfolding every_word same one_of fixed_words type_keywords other_words qualifier_words jump_words bool_words lone_words word_text keywords
fixed_words_are_the_keywords = refl
