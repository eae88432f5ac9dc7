-- The form of a name and of a float's text (01, "Tree records", the paragraph behind the table), and the names that GLSL keeps for itself (02, #105).
-- Assumes nothing.
use Rattle.std.specs.Prelude.{Bool, true, false, not, ◌&&◌, ◌||◌, cond, List, [], ◌∷◌, ℕ, length, get_or, take, eqb}
use Prim.Native.Char.{code}
use Prim.Native.String.{String}
use Rattle.words.specs.Bytes.{bytes}
unfoldable pub use Rattle.words.specs.Letter.{between, digit, letter, name_byte}
use Rattle.words.specs.Keyword.{fixed_words}
use Rattle.words.specs.declared.NameSort.{NameSort}
use Rattle.words.specs.declared.NameSort.TheVariants as Sort

-- how long a name and a float's text may be
abbrev pub longest_name : ℕ
longest_name = 255

abbrev pub longest_float : ℕ
longest_float = 400

unfoldable pub all : (ℕ → Bool) → List ℕ → Bool
all f [] = true
all f (x ∷ xs) = f x && all f xs

unfoldable pub same : List ℕ → List ℕ → Bool
same [] [] = true
same [] (y ∷ ys) = false
same (x ∷ xs) [] = false
same (x ∷ xs) (y ∷ ys) = eqb x y && same xs ys

-- one of these words
unfoldable pub one_of : List String → List ℕ → Bool
one_of [] s = false
one_of (w ∷ ws) s = same (bytes w) s || one_of ws s

-- 1 to 255 letters, digits and underscores, no digit first, and no fixed word
unfoldable pub name_form : List ℕ → Bool
name_form s = between 1 longest_name (length s) && not (digit (get_or s 0 0)) && all name_byte s && not (one_of fixed_words s)

-- GLSL keeps the names that begin with gl and an underscore (4.60 §3.7)
unfoldable pub reserved : List ℕ → Bool
reserved s = same (take 3 s) (bytes "gl_")

-- what a text is as a name (02, #105)
unfoldable pub name_sort : List ℕ → NameSort
name_sort s = cond (name_form s) (cond (reserved s) Sort.Reserved Sort.Ordinary) Sort.NoName

-- the digits at the front of s, and what is behind them
unfoldable pub digits : List ℕ → List ℕ
digits [] = []
digits (x ∷ xs) = cond (digit x) (x ∷ digits xs) []

unfoldable pub behind_digits : List ℕ → List ℕ
behind_digits [] = []
behind_digits (x ∷ xs) = cond (digit x) (behind_digits xs) (x ∷ xs)

-- one digit or more, and no 0 before others
unfoldable pub whole_part : List ℕ → Bool
whole_part [] = false
whole_part (x ∷ []) = true
whole_part (x ∷ (y ∷ ys)) = not (eqb x (code "0"))

-- one digit or more, the last not 0
unfoldable pub fraction : List ℕ → Bool
fraction [] = false
fraction (x ∷ []) = digit x && not (eqb x (code "0"))
fraction (x ∷ (y ∷ ys)) = digit x && fraction (y ∷ ys)

-- nothing, or a point and a fraction
unfoldable pub nothing_or_fraction : List ℕ → Bool
nothing_or_fraction [] = true
nothing_or_fraction (x ∷ xs) = eqb x (code ".") && fraction xs

-- 1 to 400 bytes: a whole part, then nothing or a point and a fraction
unfoldable pub float_form : List ℕ → Bool
float_form s = between 1 longest_float (length s) && whole_part (digits s) && nothing_or_fraction (behind_digits s)
