-- The decimal text of a number, and 32 bits as a signed number (01, "Tree records", kinds 2 and 3; 000 show_expr). Assumes nothing.
use Rattle.std.specs.Prelude.{Bool, true, false, cond, List, [], ◌∷◌, ◌++◌, ℕ, zero, suc, ◌+◌, ◌-◌, ◌*◌, ◌/◌, ◌%◌, ◌^◌, ℤ, pos, negsuc, ltb}
use Prim.Native.Char.{code}

-- the character of a digit
abbrev pub digit_byte : ℕ → ℕ
digit_byte d = code "0" + d

-- the digits of n, highest first, if there are at most w + 1 of them (by `elim`, which computes only the case that holds: then texts of 32 bits can be
-- computed)
unfoldable pub digits_of : (w : ℕ) → ℕ → List ℕ
digits_of zero n = digit_byte n ∷ []
digits_of (suc w) n = elim (ltb n 10) [ true ↦ digit_byte n ∷ [] | false ↦ digits_of w (n / 10) ++ (digit_byte (n % 10) ∷ []) ]

-- a number has no more digits than its value and one
unfoldable pub decimal : ℕ → List ℕ
decimal n = digits_of n n

-- the value of digits that stand behind a number m
abbrev pub value_of : (m : ℕ) → List ℕ → ℕ
value_of m [] = m
value_of m (d ∷ ds) = value_of (10 * m + (d - code "0")) ds

-- 01, kind 2: an IntConst is signed, its 32 bits are two's complement. Is it negative, and how far is it from 0?
abbrev pub negative : ℕ → Bool
negative a = ltb (2 ^ 31 - 1) a

unfoldable pub magnitude : ℕ → ℕ
magnitude a = cond (negative a) (2 ^ 32 - a) a

-- the number itself: -1 - k is `negsuc k`
unfoldable pub signed : ℕ → ℤ
signed a = cond (negative a) (negsuc (2 ^ 32 - 1 - a)) (pos a)

-- the text of an i32 from its 32 bits: a sign where it is negative, then how far it is from 0 (000 show_expr: `write!(f, "{}", x)`)
unfoldable pub int_text : ℕ → List ℕ
int_text a = cond (negative a) (code "-" ∷ decimal (magnitude a)) (decimal (magnitude a))
