-- What is asked of a language's words, so that a text of tokens can be divided into them, and in one way only. Assumes nothing.
use mathlib.Core.Path.{◌≡◌}
use mathlib.Core.Bool.{Bool, true, not, ◌&&◌, ◌||◌}
use mathlib.Core.List.{List, ◌∷◌, ◌++◌}
use Prim.Native.Nat.{ℕ}
use Prim.Native.Char.{code}
use Prim.Native.String.{String}
use lib.Dec.{eqb}
use Rattle.words.specs.Bytes.{bytes}
use Rattle.words.specs.Letter.{digit, name_byte}
use Rattle.words.specs.Symbol.{Symbol}
use Rattle.words.specs.Symbol.Symbol.{left_paren, right_paren, left_bracket, right_bracket, left_brace, right_brace, dot, comma, colon, semicolon, question, inc_op, dec_op, plus, dash, bang, tilde, or_op, xor_op, and_op, vertical_bar, caret, ampersand, eq_op, ne_op, left_angle, right_angle, le_op, ge_op, left_op, right_op, star, slash, percent, equal, mul_assign, div_assign, mod_assign, add_assign, sub_assign, left_assign, right_assign, and_assign, xor_assign, or_assign}
use Rattle.text.specs.Token.{Token, has}
use Rattle.text.specs.Token.Token.{name, int, uint, float, double, word, symbol}
use Rattle.lexis.specs.Division.{white_space, begins_with}

-- the bytes that go on from a symbol to a longer one, to a number or to a comment
unfoldable pub symbol_lengthens : Symbol → String
symbol_lengthens left_paren = ""
symbol_lengthens right_paren = ""
symbol_lengthens left_bracket = ""
symbol_lengthens right_bracket = ""
symbol_lengthens left_brace = ""
symbol_lengthens right_brace = ""
symbol_lengthens dot = "0123456789"
symbol_lengthens comma = ""
symbol_lengthens colon = ""
symbol_lengthens semicolon = ""
symbol_lengthens question = ""
symbol_lengthens inc_op = ""
symbol_lengthens dec_op = ""
symbol_lengthens plus = "+="
symbol_lengthens dash = "-="
symbol_lengthens bang = "="
symbol_lengthens tilde = ""
symbol_lengthens or_op = ""
symbol_lengthens xor_op = ""
symbol_lengthens and_op = ""
symbol_lengthens vertical_bar = "|="
symbol_lengthens caret = "^="
symbol_lengthens ampersand = "&="
symbol_lengthens eq_op = ""
symbol_lengthens ne_op = ""
symbol_lengthens left_angle = "<="
symbol_lengthens right_angle = ">="
symbol_lengthens le_op = ""
symbol_lengthens ge_op = ""
symbol_lengthens left_op = "="
symbol_lengthens right_op = "="
symbol_lengthens star = "="
symbol_lengthens slash = "*/="
symbol_lengthens percent = "="
symbol_lengthens equal = "="
symbol_lengthens mul_assign = ""
symbol_lengthens div_assign = ""
symbol_lengthens mod_assign = ""
symbol_lengthens add_assign = ""
symbol_lengthens sub_assign = ""
symbol_lengthens left_assign = ""
symbol_lengthens right_assign = ""
symbol_lengthens and_assign = ""
symbol_lengthens xor_assign = ""
symbol_lengthens or_assign = ""

-- may b, right behind t, belong to a longer word than t? A point does so behind a whole number (1.x begins with the float 1.), and behind any other number in a wide language only: 1u.x and
-- 1.5.x are one word each to the preprocessor, but not to GLSL (what is said of GLSL alone, as in 02, #107, takes `false`)
unfoldable pub lengthens : (wide : Bool) → Token → ℕ → Bool
lengthens wide (name n) b = name_byte b
lengthens wide (Token.type v) b = name_byte b
lengthens wide (int n) b = name_byte b || eqb b (code ".")
lengthens wide (uint n) b = name_byte b || wide && eqb b (code ".")
lengthens wide (float t) b = name_byte b || wide && eqb b (code ".")
lengthens wide (double t) b = name_byte b || wide && eqb b (code ".")
lengthens wide (word w) b = name_byte b
lengthens wide (symbol y) b = has b (bytes (symbol_lengthens y))

-- may b be the first byte of t?
unfoldable pub opens : Token → ℕ → Bool
opens (name n) b = name_byte b && not (digit b)
opens (Token.type v) b = name_byte b && not (digit b)
opens (int n) b = digit b
opens (uint n) b = digit b
opens (float t) b = digit b
opens (double t) b = digit b
opens (word w) b = name_byte b && not (digit b)
opens (symbol y) b = not (name_byte b)

-- how tokens are spelled, which of them are proper, which token a word is, and all words of the language: what is asked for a text of tokens to be divided into them
pub record Spelling (wide : Bool) (spell : Token → List ℕ) (proper : Token → Bool) (L : List ℕ → Token → Type 0) (W : List ℕ → Bool) : Type 0 where
  -- a proper token's spelling is that token
  pub spells : (t : Token) → proper t ≡ true → L (spell t) t
  -- what goes on from it to a longer word begins with a byte that may
  pub longest : (t : Token) → proper t ≡ true → (b : ℕ) (more : List ℕ) → W (spell t ++ (b ∷ more)) ≡ true → lengthens wide t b ≡ true
  -- how a proper token begins
  pub begins : (t : Token) → proper t ≡ true → begins_with (opens t) (spell t) ≡ true

-- and what is asked for it to be divided in one way only
pub record Vocabulary (L : List ℕ → Token → Type 0) (W : List ℕ → Bool) : Type 0 where
  -- the tokens are words
  pub within : (w : List ℕ) (t : Token) → L w t → W w ≡ true
  -- a word is one token at most
  pub one : (w : List ℕ) (t u : Token) → L w t → L w u → t ≡ u
  -- it is not empty, and no white space is first
  pub solid : (w : List ℕ) (t : Token) → L w t → begins_with (λ b. not (white_space b)) w ≡ true
