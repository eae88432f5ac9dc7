-- The number words of GLSL as 4.60 §4.1.3 (integer-constant) and §4.1.4 (floating-constant) define them. Assumes nothing.
use Rattle.std.specs.Prelude.{Bool, true, false, not, ◌&&◌, ◌||◌, cond, List, [], ◌∷◌, ℕ, eqb}
use Prim.Native.Char.{code}
use Rattle.words.specs.Letter.{between, digit}
use Rattle.words.specs.Form.{digits, behind_digits, all, one_of}

abbrev pub is_empty : List ℕ → Bool
is_empty [] = true
is_empty (b ∷ bs) = false

abbrev pub octal_digit : ℕ → Bool
octal_digit b = between (code "0") (code "7") b

abbrev pub hexadecimal_digit : ℕ → Bool
hexadecimal_digit b = digit b || between (code "a") (code "f") b || between (code "A") (code "F") b

-- nothing, or one of the suffixes
abbrev pub integer_suffix : List ℕ → Bool
integer_suffix s = one_of ("" ∷ "u" ∷ "U" ∷ []) s

abbrev pub floating_suffix : List ℕ → Bool
floating_suffix s = one_of ("" ∷ "f" ∷ "F" ∷ "lf" ∷ "LF" ∷ []) s

-- one digit or more: no 0 first (decimal), or octal digits (0 itself among them)
unfoldable pub decimal_or_octal : List ℕ → Bool
decimal_or_octal [] = false
decimal_or_octal (d ∷ ds) = not (eqb d (code "0")) || all octal_digit ds

-- hexadecimal digits and a suffix
unfoldable pub hexadecimal_rest : List ℕ → Bool
hexadecimal_rest [] = true
hexadecimal_rest (b ∷ bs) = cond (hexadecimal_digit b) (hexadecimal_rest bs) (integer_suffix (b ∷ bs))

-- 0x or 0X, one hexadecimal digit or more, and a suffix
unfoldable pub hexadecimal : List ℕ → Bool
hexadecimal [] = false
hexadecimal (z ∷ []) = false
hexadecimal (z ∷ x ∷ []) = false
hexadecimal (z ∷ x ∷ h ∷ hs) = eqb z (code "0") && (eqb x (code "x") || eqb x (code "X")) && hexadecimal_digit h && hexadecimal_rest hs

unfoldable pub integer_constant : List ℕ → Bool
integer_constant w = decimal_or_octal (digits w) && integer_suffix (behind_digits w) || hexadecimal w

unfoldable pub sign : ℕ → Bool
sign b = eqb b (code "+") || eqb b (code "-")

unfoldable pub exponent_letter : ℕ → Bool
exponent_letter b = eqb b (code "e") || eqb b (code "E")

-- one digit or more and a suffix
unfoldable pub exponent_digits : List ℕ → Bool
exponent_digits s = not (is_empty (digits s)) && floating_suffix (behind_digits s)

unfoldable pub signed_exponent : List ℕ → Bool
signed_exponent [] = false
signed_exponent (b ∷ bs) = cond (sign b) (exponent_digits bs) (exponent_digits (b ∷ bs))

-- an exponent-part and a suffix
unfoldable pub exponent : List ℕ → Bool
exponent [] = false
exponent (b ∷ bs) = exponent_letter b && signed_exponent bs

-- behind the whole part: a point, digits before it or behind it, then perhaps an exponent; or an exponent
unfoldable pub behind_whole : (some_digit : Bool) → List ℕ → Bool
behind_whole d [] = false
behind_whole d (b ∷ bs) =
    cond (eqb b (code ".")) ((d || not (is_empty (digits bs))) && (floating_suffix (behind_digits bs) || exponent (behind_digits bs))) (d && exponent (b ∷ bs))

unfoldable pub floating_constant : List ℕ → Bool
floating_constant w = behind_whole (not (is_empty (digits w))) (behind_digits w)

unfoldable pub number_word : List ℕ → Bool
number_word w = integer_constant w || floating_constant w
