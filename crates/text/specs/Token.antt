-- The tokens of the text, and how each is spelled (01, "Tree records"; 000 show_expr, show_float, show_double). Assumes nothing.
use Rattle.std.specs.Prelude.{Bool, true, false, cond, List, [], ◌∷◌, ◌++◌, ℕ, get_or, eqb}
use Prim.Native.Char.{code}
use Rattle.words.specs.Bytes.{bytes}
use Rattle.words.specs.Word.{Word, word_text}
use Rattle.words.specs.Symbol.{Symbol, symbol_text}
use Rattle.words.specs.Keyword.{type_keywords}
use Rattle.decimal.specs.Decimal.{decimal}

pub data Token : Type 0 where
  -- an identifier, or the name of a type
  name : List ℕ → Token
  -- a type keyword, by its number
  type : ℕ → Token
  -- whole numbers: a sign is a token of its own
  int uint : ℕ → Token
  -- the text of a float or a double, with or without a point
  float double : List ℕ → Token
  word : Word → Token
  symbol : Symbol → Token

-- byte c stands in it
unfoldable pub has : ℕ → List ℕ → Bool
has c [] = false
has c (b ∷ bs) = cond (eqb b c) true (has c bs)

abbrev pub point : ℕ
point = code "."

-- a point behind it, where none stands in it (01, "Tree records"; 000 show_float, show_double)
unfoldable pub pointed : List ℕ → List ℕ
pointed t = cond (has point t) t (t ++ bytes ".")

unfoldable pub spell : Token → List ℕ
spell (name n) = n
spell (type v) = bytes (get_or type_keywords v "")
spell (int n) = decimal n
spell (uint n) = decimal n ++ bytes "u"
spell (float t) = pointed t
spell (double t) = pointed t ++ bytes "lf"
spell (word w) = bytes (word_text w)
spell (symbol y) = bytes (symbol_text y)
