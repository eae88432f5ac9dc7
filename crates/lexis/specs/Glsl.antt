-- GLSL's words, and the tokens that they are (4.60 chapter 3, §4.1). Assumes nothing.
use Rattle.std.specs.Prelude.{◌≡◌, Bool, true, false, not, ◌&&◌, ◌||◌, List, [], ◌∷◌, ℕ, ◌^◌, length, ltb}
use Prim.Native.String.{String}
use Rattle.words.specs.Letter.{digit, name_byte}
use Rattle.words.specs.Form.{all, one_of, name_form, float_form}
use Rattle.words.specs.Keyword.{type_keywords}
use Rattle.text.specs.Token.{Token, spell}
use Rattle.text.specs.Token.Token.{name, int, uint, float, double, word, symbol}
use Rattle.lexis.specs.Keywords.{listed}
use Rattle.lexis.specs.Number.{number_word}
use Rattle.lexis.specs.Division.{Divides}

-- a name or a keyword (4.60 §3.7: a nondigit, then digits and nondigits)
unfoldable pub identifier_word : List ℕ → Bool
identifier_word [] = false
identifier_word (b ∷ bs) = name_byte b && not (digit b) && all name_byte bs

-- the symbols of chapter 9, and what opens a comment (4.60 §3.4)
unfoldable pub symbol_words : List String
symbol_words =
    "(" ∷ ")" ∷ "[" ∷ "]" ∷ "{" ∷ "}" ∷ "." ∷ "," ∷ ":" ∷ ";" ∷ "?"
    ∷ "++" ∷ "--" ∷ "+" ∷ "-" ∷ "!" ∷ "~" ∷ "*" ∷ "/" ∷ "%" ∷ "<<" ∷ ">>" ∷ "<" ∷ ">" ∷ "<=" ∷ ">=" ∷ "==" ∷ "!=" ∷ "&" ∷ "^" ∷ "|" ∷ "&&" ∷ "^^" ∷ "||"
    ∷ "=" ∷ "*=" ∷ "/=" ∷ "%=" ∷ "+=" ∷ "-=" ∷ "<<=" ∷ ">>=" ∷ "&=" ∷ "^=" ∷ "|="
    ∷ "//" ∷ "/*" ∷ []

unfoldable pub glsl_word : List ℕ → Bool
glsl_word w = identifier_word w || number_word w || one_of symbol_words w

-- the tokens that a text may hold: names of 01's form that pass a test, numbers of 32 bits and floats in the forms that are printed (4.60 §4.1.3: a literal's 32 bits are taken as they are), the
-- language's own words and symbols
unfoldable pub proper_where : (passes : List ℕ → Bool) → Token → Bool
proper_where passes (name n) = name_form n && passes n
proper_where passes (Token.type v) = ltb v (length type_keywords)
proper_where passes (int n) = ltb n (2 ^ 32)
proper_where passes (uint n) = ltb n (2 ^ 32)
proper_where passes (float t) = float_form t
proper_where passes (double t) = float_form t
proper_where passes (word w) = true
proper_where passes (symbol y) = true

-- the token that a word is: the one that is spelled so (there is one at most: proofs/Glsl, `vocabulary`)
pub record Spelled (passes : List ℕ → Bool) (w : List ℕ) (t : Token) : Type 0 where
  pub spells : spell t ≡ w
  pub is_proper : proper_where passes t ≡ true

-- with names that GLSL does not list, as demand 3 has it
abbrev pub unlisted : List ℕ → Bool
unlisted n = not (listed n)

abbrev pub proper : Token → Bool
proper t = proper_where unlisted t

abbrev pub Lexeme : List ℕ → Token → Type 0
Lexeme w t = Spelled unlisted w t

abbrev pub GlslDivides : List ℕ → List Token → Type 0
GlslDivides bs ts = Divides Lexeme glsl_word bs ts

-- with all names that 01 accepts (02, #107): a word that GLSL lists and the printer never writes, `goto`, may be one
abbrev pub any : List ℕ → Bool
any n = true

-- longest-match splitting of a text gives these tokens; W has the words
abbrev pub Splits : (W : List ℕ → Bool) → List ℕ → List Token → Type 0
Splits W bs ts = Divides (Spelled any) W bs ts
