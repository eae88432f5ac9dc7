-- The constant table of words and operators: one row each, at a fixed width, with its length (01, "Forms to follow": "a constant table of 51
-- words", and 68 more since 02, #102); and what tells a name from a word, behind the rows. Only promises between the code's functions cite this file. Assumes nothing.
use Rattle.std.specs.Prelude.{cond, List, [], ◌∷◌, ◌++◌, map, ℕ, ◌-◌, length, get_or, replicate}
use Prim.Native.Char.{code}
use Prim.Native.String.{String}
use Rattle.words.specs.Bytes.{bytes}
use Rattle.words.specs.Letter.{name_byte}
use Rattle.words.specs.Symbol.{symbol_text, unary_operators, binary_operators, assignment_operators}
use Rattle.words.specs.Keyword.{fixed_words}
use Rattle.word_table.specs.Slot.{each, slots}

-- the 36 operators
unfoldable pub operators : List String
operators = map symbol_text unary_operators ++ map symbol_text binary_operators ++ map symbol_text assignment_operators

unfoldable pub texts : List String
texts = fixed_words ++ operators

-- the most that a row holds, and the width of a row
abbrev pub widest : ℕ
widest = 23

abbrev pub width : ℕ
width = 24

-- a text, blanks up to the widest, and the text's length
abbrev pub row : String → List ℕ
row t = bytes t ++ replicate (widest - length (bytes t)) (code " ") ++ (length (bytes t) ∷ [])

abbrev pub rows : List String → List ℕ
rows [] = []
rows (t ∷ ts) = row t ++ rows ts

-- the flaws of a byte in a name: none, or it is one itself
unfoldable pub flaw : ℕ → ℕ
flaw x = cond (name_byte x) 0 1

-- the rows; behind them the row for each slot of the fixed words, and the flaws of each byte
unfoldable pub table : List ℕ
table = rows texts ++ (slots fixed_words ++ each flaw 0 256)

-- the text of row k, nothing behind the last
unfoldable pub text_at : ℕ → List ℕ
text_at k = bytes (get_or texts k "")
