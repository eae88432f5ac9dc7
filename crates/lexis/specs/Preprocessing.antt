-- The words of GLSL with the preprocessor's numbers for its own, which are more: 1f, 08 and 1.2.3 are among them (C++98, pp-number, which 4.60 §3.3 takes over;
-- symbols are GLSL's). A compiler may cut a text by these or by GLSL's own. Assumes nothing.
use Rattle.std.specs.Prelude.{◌≡◌, Bool, true, false, ◌&&◌, ◌||◌, List, [], ◌∷◌, ℕ, eqb}
use Prim.Native.Char.{code}
use Rattle.words.specs.Letter.{digit, name_byte}
use Rattle.words.specs.Form.{one_of}
use Rattle.lexis.specs.Number.{sign, exponent_letter}
use Rattle.lexis.specs.Division.{begins_with}
use Rattle.lexis.specs.Glsl.{identifier_word, symbol_words, glsl_word}

-- a letter, a digit, an underscore or a point
unfoldable pub plain : ℕ → Bool
plain b = name_byte b || eqb b (code ".")

-- may these bytes go on with a number? A sign may stand first where an e or E is before them.
unfoldable pub goes_on : (behind_letter : Bool) → List ℕ → Bool
goes_on l [] = true
goes_on l (b ∷ bs) = (plain b || l && sign b) && goes_on (exponent_letter b) bs

unfoldable pub opens_number : List ℕ → Bool
opens_number [] = false
opens_number (b ∷ bs) = digit b || eqb b (code ".") && begins_with digit bs

unfoldable pub preprocessing_number : List ℕ → Bool
preprocessing_number s = opens_number s && goes_on false s

unfoldable pub preprocessing_word : List ℕ → Bool
preprocessing_word s = identifier_word s || preprocessing_number s || one_of symbol_words s

-- a language that has all words of GLSL and none that the preprocessor has not: either of the two, and what lies between
pub record Between (W : List ℕ → Bool) : Type 0 where
  pub has_all : (w : List ℕ) → glsl_word w ≡ true → W w ≡ true
  pub has_no_other : (w : List ℕ) → W w ≡ true → preprocessing_word w ≡ true
