-- The numbers that are printed are number words, and each is read back from its bytes. Assumes nothing.
use mathlib.Core.Path.{◌≡◌, refl, sym, ◌∙◌, ap, subst}
use mathlib.Core.Bool.{true, false, not, ◌&&◌, cond}
use mathlib.Core.List.{List, [], ◌∷◌, ◌++◌, append-nil, append_assoc}
use Prim.Native.Nat.{ℕ}
use Prim.Native.Char.{code}
use native.Mathlib.Omega.{arith}
use lib.ListN.{length}
use lib.Dec.{eqb}
use borrow.Author.Tests.{eqb-true, ne_eqb}
use Rattle.words.specs.Bytes.{bytes}
use Rattle.words.specs.Letter.{between, digit, letter, name_byte}
use Rattle.words.specs.Form.{longest_float, all, same, one_of, digits, behind_digits, whole_part, fraction, nothing_or_fraction, float_form}
use Rattle.decimal.specs.Decimal.{decimal, value_of}
use Rattle.decimal.proofs.Laws.{value_decimal}
use Rattle.text.specs.Token.{Token, has, point, pointed, spell}
use Rattle.text.specs.Token.Token.{int, uint, float, double}
use Rattle.lexis.specs.Preprocessing.{plain}
use Rattle.lexis.specs.Division.{begins_with}
use Rattle.lexis.specs.Number.{is_empty, exponent_letter, integer_suffix, floating_suffix, decimal_or_octal, integer_constant, exponent, behind_whole, floating_constant, hexadecimal, number_word}
use Rattle.lexis.proofs.Tests.{both, or_left, or_right, and_both, clash, all_append, all_wider}
use Rattle.lexis.proofs.Letters.{digit_range}
use Rattle.lexis.proofs.Digits.{digits_front, behind_front, digits_cut, digits_all, decimal_digits, decimal_begins, begins_append, decimal_constant}
use Rattle.lexis.proofs.Preprocessing.{digit_plain, calm}

-- the text of a float from its digits before and behind the point
pub float_text : (whole behind_point : List ℕ) → List ℕ
float_text ds [] = ds
float_text ds (f ∷ fs) = ds ++ (point ∷ f ∷ fs)

of_fraction : (whole behind_point suffix : List ℕ) → Token
of_fraction ds fs [] = float (float_text ds fs)
of_fraction ds fs (b ∷ r) = double (float_text ds fs)

of_rest : (whole behind : List ℕ) → Token
of_rest ds [] = int (value_of 0 ds)
of_rest ds (b ∷ r) = cond (eqb b point) (of_fraction ds (digits r) (behind_digits r)) (uint (value_of 0 ds))

-- the number that is printed so
pub number_token : List ℕ → Token
number_token s = of_rest (digits s) (behind_digits s)

token_of : (ds r : List ℕ) → all digit ds ≡ true → begins_with digit r ≡ false → number_token (ds ++ r) ≡ of_rest ds r
unfolding number_token
token_of ds r h i = rw (digits_front ds r h i, behind_front ds r h i)

-- what is asked of a printed number: that its bytes are a number word which begins with a digit and has no e or E, and that it is read back
pub record Numeral (s : List ℕ) (t : Token) : Type 0 where
  pub opens : begins_with digit s ≡ true
  pub is_calm : all calm s ≡ true
  pub is_number : number_word s ≡ true
  pub reads : number_token s ≡ t

digit_calm : (b : ℕ) → digit b ≡ true → calm b ≡ true
unfolding calm exponent_letter
digit_calm b h =
    let r = digit_range b h in
    and_both (plain b) (not (exponent_letter b)) (digit_plain b h) (rw (ne_eqb b (code "e") (λ e. omega (arith, r.1)), ne_eqb b (code "E") (λ e. omega (arith, r.1))))

digits_calm : (s : List ℕ) → all digit s ≡ true → all calm s ≡ true
digits_calm = all_wider digit calm digit_calm

-- whole numbers, behind them nothing or a u
integer_word : (ds r : List ℕ) → all digit ds ≡ true → decimal_or_octal ds ≡ true → begins_with digit r ≡ false → integer_suffix r ≡ true → number_word (ds ++ r) ≡ true
unfolding number_word integer_constant
integer_word ds r h c i j =
    or_left (integer_constant (ds ++ r)) (floating_constant (ds ++ r))
    (or_left (decimal_or_octal (digits (ds ++ r)) && integer_suffix (behind_digits (ds ++ r))) (hexadecimal (ds ++ r))
    (rw (digits_front ds r h i, behind_front ds r h i) (and_both (decimal_or_octal ds) (integer_suffix r) c j)))

pub int_numeral : (n : ℕ) → Numeral (spell (int n)) (int n)
unfolding spell of_rest same one_of
int_numeral n = record {
  opens = decimal_begins n;
  is_calm = digits_calm (decimal n) (decimal_digits n);
  is_number = subst (λ (s : List ℕ). number_word s ≡ true) (append-nil (decimal n)) (integer_word (decimal n) [] (decimal_digits n) (decimal_constant n) refl refl);
  reads = ap number_token (sym (append-nil (decimal n))) ∙ token_of (decimal n) [] (decimal_digits n) refl ∙ ap int (value_decimal n);
}

pub uint_numeral : (n : ℕ) → Numeral (spell (uint n)) (uint n)
unfolding spell of_rest same one_of all calm plain exponent_letter name_byte letter digit
uint_numeral n = record {
  opens = begins_append digit (decimal n) (bytes "u") (decimal_begins n);
  is_calm = all_append calm (decimal n) (bytes "u") (digits_calm (decimal n) (decimal_digits n)) refl;
  is_number = integer_word (decimal n) (bytes "u") (decimal_digits n) (decimal_constant n) refl refl;
  reads = token_of (decimal n) (bytes "u") (decimal_digits n) refl ∙ ap uint (value_decimal n);
}

-- a float's text: digits, and perhaps a point and digits; with a point it is written
pub record Float (t : List ℕ) : Type 0 where
  pub whole : List ℕ
  pub behind : List ℕ
  pub whole_digits : all digit whole ≡ true
  pub whole_begins : begins_with digit whole ≡ true
  pub digits_behind : all digit behind ≡ true
  pub points : pointed t ≡ whole ++ (point ∷ behind)
  pub texts : float_text whole behind ≡ t

whole_some : (ds : List ℕ) → all digit ds ≡ true → whole_part ds ≡ true → begins_with digit ds ≡ true
unfolding all whole_part
whole_some [] h w = w
whole_some (d ∷ ds) h w = (both (digit d) (all digit ds) h).0

fraction_digits : (fs : List ℕ) → fraction fs ≡ true → all digit fs ≡ true
unfolding all fraction
fraction_digits [] h = refl
fraction_digits (x ∷ []) h = and_both (digit x) true (both (digit x) (not (eqb x (code "0"))) h).0 refl
fraction_digits (x ∷ y ∷ fs) h = let a = both (digit x) (fraction (y ∷ fs)) h in and_both (digit x) (all digit (y ∷ fs)) a.0 (fraction_digits (y ∷ fs) a.1)

fraction_text : (ds fs : List ℕ) → fraction fs ≡ true → float_text ds fs ≡ ds ++ (point ∷ fs)
unfolding float_text fraction
fraction_text ds [] h = clash h refl
fraction_text ds (f ∷ fs) h = refl

point_behind_digits : (ds r : List ℕ) → all digit ds ≡ true → has point (ds ++ r) ≡ has point r
unfolding all has
point_behind_digits [] r h = refl
point_behind_digits (d ∷ ds) r h =
    let a = both (digit d) (all digit ds) h in
    rw (ne_eqb d point (λ e. omega (arith, (digit_range d a.0).0))) (point_behind_digits ds r a.1)

float_of : (t r : List ℕ) → behind_digits t ≡ r → whole_part (digits t) ≡ true → nothing_or_fraction r ≡ true → Float t
unfolding nothing_or_fraction pointed float_text has all
float_of t [] q w h =
    let e : t ≡ digits t ++ [] = digits_cut t ∙ rw q in
    let no_point : has point t ≡ false = ap (has point) e ∙ point_behind_digits (digits t) [] (digits_all t) in
    let d : t ≡ digits t = e ∙ append-nil (digits t) in
    record {
      whole = digits t;
      behind = [];
      whole_digits = digits_all t;
      whole_begins = whole_some (digits t) (digits_all t) w;
      digits_behind = refl;
      points = rw no_point (ap (λ (l : List ℕ). l ++ (point ∷ [])) d);
      texts = sym d;
    }
float_of t (b ∷ fs) q w h =
    let a = both (eqb b point) (fraction fs) h in
    let k : b ≡ point = eqb-true b point a.0 in
    let e : t ≡ digits t ++ (point ∷ fs) = digits_cut t ∙ rw (q, k) in
    let has_point : has point t ≡ true = ap (has point) e ∙ point_behind_digits (digits t) (point ∷ fs) (digits_all t) in
    record {
      whole = digits t;
      behind = fs;
      whole_digits = digits_all t;
      whole_begins = whole_some (digits t) (digits_all t) w;
      digits_behind = fraction_digits fs a.1;
      points = rw has_point e;
      texts = fraction_text (digits t) fs a.1 ∙ sym e;
    }

pub a_float : (t : List ℕ) → float_form t ≡ true → Float t
unfolding float_form
a_float t h =
    let a = both (between 1 longest_float (length t) && whole_part (digits t)) (nothing_or_fraction (behind_digits t)) h in
    float_of t (behind_digits t) refl (both (between 1 longest_float (length t)) (whole_part (digits t)) a.0).1 a.1

pub not_empty : (ds : List ℕ) → begins_with digit ds ≡ true → is_empty ds ≡ false
not_empty [] h = clash h refl
not_empty (d ∷ ds) h = refl

pub floating_word :
    (ds fs r : List ℕ) → all digit ds ≡ true → begins_with digit ds ≡ true → all digit fs ≡ true → begins_with digit r ≡ false → floating_suffix r ≡ true
    → floating_constant (ds ++ (point ∷ (fs ++ r))) ≡ true
unfolding floating_constant behind_whole digit
floating_word ds fs r h b i j s =
    rw (digits_front ds (point ∷ (fs ++ r)) h refl, behind_front ds (point ∷ (fs ++ r)) h refl, not_empty ds b, behind_front fs r i j)
    (or_left (floating_suffix r) (exponent r) s)

-- behind it a suffix
module _ (t r : List ℕ) (form : float_form t ≡ true) (no_digit : begins_with digit r ≡ false) where
  abbrev f : Float t
  f = a_float t form

  float_bytes : pointed t ++ r ≡ f.whole ++ (point ∷ (f.behind ++ r))
  float_bytes = ap (λ (l : List ℕ). l ++ r) f.points ∙ append_assoc f.whole (point ∷ f.behind) r

  float_opens : begins_with digit (pointed t ++ r) ≡ true
  float_opens = rw float_bytes (begins_append digit f.whole (point ∷ (f.behind ++ r)) f.whole_begins)

  float_calm : all calm r ≡ true → all calm (pointed t ++ r) ≡ true
  unfolding all calm plain exponent_letter name_byte letter digit
  float_calm c =
      rw float_bytes
      (all_append calm f.whole (point ∷ (f.behind ++ r)) (digits_calm f.whole f.whole_digits) (all_append calm f.behind r (digits_calm f.behind f.digits_behind) c))

  float_reads : number_token (pointed t ++ r) ≡ of_fraction f.whole f.behind r
  unfolding of_rest digit
  float_reads =
      ap number_token float_bytes ∙ token_of f.whole (point ∷ (f.behind ++ r)) f.whole_digits refl
      ∙ rw (digits_front f.behind r f.digits_behind no_digit, behind_front f.behind r f.digits_behind no_digit)

  float_number : floating_suffix r ≡ true → number_word (pointed t ++ r) ≡ true
  unfolding number_word
  float_number s =
      rw float_bytes
      (or_right (integer_constant (f.whole ++ (point ∷ (f.behind ++ r)))) (floating_constant (f.whole ++ (point ∷ (f.behind ++ r))))
      (floating_word f.whole f.behind r f.whole_digits f.whole_begins f.digits_behind no_digit s))

  pointed_numeral : (u : Token) → of_fraction f.whole f.behind r ≡ u → all calm r ≡ true → floating_suffix r ≡ true → Numeral (pointed t ++ r) u
  pointed_numeral u e c s = record { opens = float_opens; is_calm = float_calm c; is_number = float_number s; reads = float_reads ∙ e }

pub float_numeral : (t : List ℕ) → float_form t ≡ true → Numeral (spell (float t)) (float t)
unfolding spell of_fraction same one_of all
float_numeral t h = subst (λ (s : List ℕ). Numeral s (float t)) (append-nil (pointed t)) (pointed_numeral t [] h refl (float t) (ap float (a_float t h).texts) refl refl)

pub double_numeral : (t : List ℕ) → float_form t ≡ true → Numeral (spell (double t)) (double t)
unfolding spell of_fraction same one_of all calm plain exponent_letter name_byte letter digit
double_numeral t h = pointed_numeral t (bytes "lf") h refl (double t) (ap double (a_float t h).texts) refl refl
