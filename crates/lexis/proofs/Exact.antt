-- Which bytes make a token a longer word of GLSL itself, the preprocessor's words left aside: behind a number a point does so only where it is whole, and there it does (02, #107). Assumes nothing.
use mathlib.Core.Path.{◌≡◌, refl, ◌∙◌, ap, subst}
use mathlib.Core.Bool.{Bool, true, false, ◌||◌, and-false}
use mathlib.Core.List.{List, [], ◌∷◌, ◌++◌, append_assoc}
use Prim.Native.Nat.{ℕ}
use Prim.Native.Char.{code}
use native.Mathlib.Omega.{arith}
use lib.Dec.{eqb}
use borrow.Author.Tests.{eqb-true, ne_eqb}
use Rattle.words.specs.Bytes.{bytes}
use Rattle.words.specs.Letter.{digit, name_byte}
use Rattle.words.specs.Form.{all, same, one_of, float_form}
use Rattle.decimal.specs.Decimal.{decimal}
use Rattle.text.specs.Token.{Token, spell, pointed, point}
use Rattle.text.specs.Token.Token.{name, int, uint, float, double, word, symbol}
use Rattle.lexis.specs.Division.{begins_with}
use Rattle.lexis.specs.Number.{integer_suffix, floating_suffix, exponent_letter, exponent, decimal_or_octal, integer_constant, behind_whole, floating_constant, hexadecimal, number_word}
use Rattle.lexis.specs.Glsl.{identifier_word, symbol_words, glsl_word, proper_where, Spelled}
use Rattle.lexis.proofs.Laws.{lengthens, Spelling}
use Rattle.lexis.proofs.Tests.{both, either, or_left, or_right, clash}
use Rattle.lexis.proofs.Letters.{digit_range, digit_name_byte}
use Rattle.lexis.proofs.Digits.{digits_front, behind_front, decimal_digits, decimal_begins, begins_append}
use Rattle.lexis.proofs.Numerals.{Float, a_float, not_empty, floating_word}
use Rattle.lexis.proofs.Behind.{identifier_first, no_symbol_word, letter_no_number}
use Rattle.lexis.proofs.Glsl.{spelling, glsl_between}

-- a hexadecimal number has an x second
abbrev x_letter : ℕ → Bool
x_letter b = eqb b (code "x") || eqb b (code "X")

no_x : (d b : ℕ) (hs : List ℕ) → x_letter b ≡ false → hexadecimal (d ∷ b ∷ hs) ≡ false
unfolding hexadecimal
no_x d b [] e = refl
no_x d b (h ∷ hs) e = rw (e, and-false (eqb d (code "0"))) refl

digit_no_x : (b : ℕ) → digit b ≡ true → x_letter b ≡ false
digit_no_x b h = let r = digit_range b h in rw (ne_eqb b (code "x") (λ e. omega (arith, r.1)), ne_eqb b (code "X") (λ e. omega (arith, r.1))) refl

no_hexadecimal : (ds : List ℕ) (b : ℕ) (r : List ℕ) → all digit ds ≡ true → begins_with digit ds ≡ true → x_letter b ≡ false → hexadecimal (ds ++ (b ∷ r)) ≡ false
unfolding all
no_hexadecimal [] b r h i e = clash i refl
no_hexadecimal (d ∷ []) b r h i e = no_x d b r e
no_hexadecimal (d ∷ c ∷ ds) b r h i e = no_x d c (ds ++ (b ∷ r)) (digit_no_x c (both (digit c) (all digit ds) (both (digit d) (all digit (c ∷ ds)) h).1).0)

-- digits, and behind them what is no suffix and no exponent
no_number : (ds : List ℕ) (b : ℕ) (r : List ℕ) → all digit ds ≡ true → begins_with digit ds ≡ true → digit b ≡ false → x_letter b ≡ false → integer_suffix (b ∷ r) ≡ false → behind_whole true (b ∷ r) ≡ false → number_word (ds ++ (b ∷ r)) ≡ false
unfolding number_word integer_constant floating_constant
no_number ds b r h i d x s w =
    rw (digits_front ds (b ∷ r) h d, behind_front ds (b ∷ r) h d, not_empty ds i, s, w, no_hexadecimal ds b r h i x, and-false (decimal_or_octal ds)) refl

-- a word that begins with a digit is a number
digit_first : (s : List ℕ) → begins_with digit s ≡ true → glsl_word s ≡ true → number_word s ≡ true
unfolding glsl_word
digit_first [] d h = clash d refl
digit_first (c ∷ s) d h =
    either (identifier_word (c ∷ s) || number_word (c ∷ s)) (one_of symbol_words (c ∷ s)) h
    (λ k. either (identifier_word (c ∷ s)) (number_word (c ∷ s)) k (λ w. letter_no_number c (identifier_first c s w) (or_left (digit c) (eqb c (code ".")) d)) (λ n. n))
    (λ y. no_symbol_word c s (digit_name_byte c d) y)

-- no point behind 1u
uint_no_point : (n : ℕ) (more : List ℕ) → glsl_word (spell (uint n) ++ (point ∷ more)) ≡ true → ⊥
unfolding spell behind_whole exponent exponent_letter same one_of digit
uint_no_point n more g =
    let w = bytes "u" ++ (point ∷ more) in
    let e : (decimal n ++ bytes "u") ++ (point ∷ more) ≡ decimal n ++ w = append_assoc (decimal n) (bytes "u") (point ∷ more) in
    clash (digit_first (decimal n ++ w) (begins_append digit (decimal n) w (decimal_begins n)) (subst (λ (s : List ℕ). glsl_word s ≡ true) e g))
    (no_number (decimal n) (code "u") (point ∷ more) (decimal_digits n) (decimal_begins n) refl refl refl refl)

-- nor behind 1. or 1.5, nor behind 1.5lf
module _ (t : List ℕ) (form : float_form t ≡ true) (b : ℕ) (r : List ℕ) (no_digit : digit b ≡ false) (no_suffix : floating_suffix (b ∷ r) || exponent (b ∷ r) ≡ false) where
  abbrev f : Float t
  f = a_float t form

  whole_then : behind_whole true (point ∷ (f.behind ++ (b ∷ r))) ≡ false
  unfolding behind_whole
  whole_then = rw (behind_front f.behind (b ∷ r) f.digits_behind no_digit, no_suffix) refl

  pointed_no_more : glsl_word (pointed t ++ (b ∷ r)) ≡ true → ⊥
  unfolding same one_of digit
  pointed_no_more g =
      let w = f.behind ++ (b ∷ r) in
      let e : pointed t ++ (b ∷ r) ≡ f.whole ++ (point ∷ w) = ap (λ (l : List ℕ). l ++ (b ∷ r)) f.points ∙ append_assoc f.whole (point ∷ f.behind) (b ∷ r) in
      clash (digit_first (f.whole ++ (point ∷ w)) (begins_append digit f.whole (point ∷ w) f.whole_begins) (subst (λ (s : List ℕ). glsl_word s ≡ true) e g))
      (no_number f.whole point w f.whole_digits f.whole_begins refl refl refl whole_then)

float_no_point : (t : List ℕ) → float_form t ≡ true → (more : List ℕ) → glsl_word (spell (float t) ++ (point ∷ more)) ≡ true → ⊥
unfolding spell exponent exponent_letter same one_of digit
float_no_point t h more g = pointed_no_more t h point more refl refl g

double_no_point : (t : List ℕ) → float_form t ≡ true → (more : List ℕ) → glsl_word (spell (double t) ++ (point ∷ more)) ≡ true → ⊥
unfolding spell exponent exponent_letter same one_of digit
double_no_point t h more g =
    pointed_no_more t h (code "l") (code "f" ∷ point ∷ more) refl refl (subst (λ (s : List ℕ). glsl_word s ≡ true) (append_assoc (pointed t) (bytes "lf") (point ∷ more)) g)

-- a byte of a name or a point, and it is no point
no_point : (b : ℕ) → name_byte b || eqb b (code ".") ≡ true → (eqb b (code ".") ≡ true → ⊥) → name_byte b || false ≡ true
no_point b l n = either (name_byte b) (eqb b (code ".")) l (λ h. or_left (name_byte b) false h) (λ p. absurd (n p))

module _ (passes : List ℕ → Bool) where
  -- as in a wide language
  wide : Spelling true spell (proper_where passes) (Spelled passes) glsl_word
  wide = spelling passes glsl_word glsl_between

  -- a number that no point goes on from
  pointless : (t : Token) (b : ℕ) (more : List ℕ) → ((more : List ℕ) → glsl_word (spell t ++ (point ∷ more)) ≡ true → ⊥) → name_byte b || eqb b (code ".") ≡ true → glsl_word (spell t ++ (b ∷ more)) ≡ true → name_byte b || false ≡ true
  pointless t b more none l g = no_point b l (λ p. none more (subst (λ (c : ℕ). glsl_word (spell t ++ (c ∷ more)) ≡ true) (eqb-true b point p) g))

  narrow : (t : Token) → proper_where passes t ≡ true → (b : ℕ) (more : List ℕ) → glsl_word (spell t ++ (b ∷ more)) ≡ true → lengthens false t b ≡ true
  unfolding proper_where lengthens
  narrow (name n) h b more g = wide.longest (name n) h b more g
  narrow (Token.type v) h b more g = wide.longest (Token.type v) h b more g
  narrow (int n) h b more g = wide.longest (int n) h b more g
  narrow (uint n) h b more g = pointless (uint n) b more (uint_no_point n) (wide.longest (uint n) h b more g) g
  narrow (float t) h b more g = pointless (float t) b more (float_no_point t h) (wide.longest (float t) h b more g) g
  narrow (double t) h b more g = pointless (double t) b more (double_no_point t h) (wide.longest (double t) h b more g) g
  narrow (word w) h b more g = wide.longest (word w) h b more g
  narrow (symbol y) h b more g = wide.longest (symbol y) h b more g

  -- so GLSL's words alone keep what is asked of a language that is not wide
  pub exact : Spelling false spell (proper_where passes) (Spelled passes) glsl_word
  exact = record { spells = wide.spells; longest = narrow; begins = wide.begins }

-- a point right behind a whole number makes a float of both
pub int_point : (n : ℕ) → glsl_word (spell (int n) ++ (point ∷ [])) ≡ true
unfolding spell glsl_word number_word all same one_of
int_point n =
    let w = decimal n ++ (point ∷ []) in
    or_left (identifier_word w || number_word w) (one_of symbol_words w)
    (or_right (identifier_word w) (number_word w)
    (or_right (integer_constant w) (floating_constant w) (floating_word (decimal n) [] [] (decimal_digits n) (decimal_begins n) refl refl refl)))
