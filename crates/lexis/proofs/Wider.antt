-- Each number word of GLSL is a preprocessing number. Assumes nothing.
use mathlib.Core.Path.{◌≡◌, refl, sym, subst}
use mathlib.Core.Bool.{Bool, true, false, not, ◌&&◌, ◌||◌, cond}
use mathlib.Core.List.{List, [], ◌∷◌}
use Prim.Native.Nat.{ℕ}
use Prim.Native.Char.{code}
use native.Mathlib.Omega.{arith}
use lib.Dec.{eqb}
use borrow.Author.Tests.{eqb-true}
use Rattle.words.specs.Letter.{between, digit, letter, name_byte}
use Rattle.words.specs.Form.{all, digits, behind_digits}
use Rattle.words.proofs.Search.{every_word}
use Rattle.lexis.specs.Preprocessing.{goes_on, opens_number, plain, preprocessing_number}
use Rattle.lexis.specs.Division.{begins_with}
use Rattle.lexis.specs.Number.{is_empty, sign, exponent_letter, hexadecimal_digit, integer_suffix, floating_suffix, decimal_or_octal, hexadecimal_rest, hexadecimal, integer_constant, exponent_digits, signed_exponent, exponent, behind_whole, floating_constant, number_word}
use Rattle.lexis.proofs.Tests.{both, either, or_left, or_right, and_both, clash, passes, all_append, all_wider}
use Rattle.lexis.proofs.Letters.{range, in_range_lem}
use Rattle.lexis.proofs.Digits.{digits_cut, digits_all, some_digits}
use Rattle.lexis.proofs.Preprocessing.{plain_then, plain_goes, name_byte_plain, digit_plain}

digits_plain : (s : List ℕ) → all plain (digits s) ≡ true
digits_plain s = all_wider digit plain digit_plain (digits s) (digits_all s)

-- the suffixes
integer_suffix_plain : (s : List ℕ) → integer_suffix s ≡ true → all plain s ≡ true
unfolding every_word all plain name_byte letter digit
integer_suffix_plain s h = passes (all plain) _ s refl h

floating_suffix_plain : (s : List ℕ) → floating_suffix s ≡ true → all plain s ≡ true
unfolding every_word all plain name_byte letter digit
floating_suffix_plain s h = passes (all plain) _ s refl h

-- integers
letter_plain : (b : ℕ) → letter b ≡ true → plain b ≡ true
unfolding name_byte
letter_plain b h = name_byte_plain b (or_left (letter b || digit b) (eqb b (code "_")) (or_left (letter b) (digit b) h))

hexadecimal_digit_plain : (b : ℕ) → hexadecimal_digit b ≡ true → plain b ≡ true
unfolding letter
hexadecimal_digit_plain b h =
    either (digit b || between (code "a") (code "f") b) (between (code "A") (code "F") b) h
    (λ i. either (digit b) (between (code "a") (code "f") b) i (digit_plain b)
    (λ r. let q = range _ _ b r in
    letter_plain b (or_left (between (code "a") (code "z") b) (between (code "A") (code "Z") b) (in_range_lem (code "a") (code "z") b q.0 (omega (arith, q.1))))))
    (λ r. let q = range _ _ b r in
    letter_plain b (or_right (between (code "a") (code "z") b) (between (code "A") (code "Z") b) (in_range_lem (code "A") (code "Z") b q.0 (omega (arith, q.1)))))

hexadecimal_rest_plain : (s : List ℕ) → hexadecimal_rest s ≡ true → all plain s ≡ true
unfolding hexadecimal_rest all
hexadecimal_rest_plain [] h = refl
hexadecimal_rest_plain (b ∷ s) h = go (hexadecimal_digit b) refl h (hexadecimal_rest_plain s)
  where
    go :
        (c : Bool) → hexadecimal_digit b ≡ c → cond c (hexadecimal_rest s) (integer_suffix (b ∷ s)) ≡ true → (hexadecimal_rest s ≡ true → all plain s ≡ true)
        → plain b && all plain s ≡ true
    go true e h later = and_both (plain b) (all plain s) (hexadecimal_digit_plain b e) (later h)
    go false e h later = integer_suffix_plain (b ∷ s) h

-- a byte that equals a plain one
is_plain : (b c : ℕ) → plain c ≡ true → eqb b c ≡ true → plain b ≡ true
is_plain b c h e = subst (λ (x : ℕ). plain x ≡ true) (sym (eqb-true b c e)) h

hexadecimal_word_plain : (s : List ℕ) → hexadecimal s ≡ true → all plain s ≡ true
unfolding hexadecimal all plain name_byte letter digit
hexadecimal_word_plain [] e = clash e refl
hexadecimal_word_plain (z ∷ []) e = clash e refl
hexadecimal_word_plain (z ∷ x ∷ []) e = clash e refl
hexadecimal_word_plain (z ∷ x ∷ h ∷ hs) e =
    let a = both (eqb z (code "0") && (eqb x (code "x") || eqb x (code "X")) && hexadecimal_digit h) (hexadecimal_rest hs) e in
    let c = both (eqb z (code "0") && (eqb x (code "x") || eqb x (code "X"))) (hexadecimal_digit h) a.0 in
    let d = both (eqb z (code "0")) (eqb x (code "x") || eqb x (code "X")) c.0 in
    and_both (plain z) (all plain (x ∷ h ∷ hs)) (is_plain z (code "0") refl d.0)
    (and_both (plain x) (all plain (h ∷ hs)) (either (eqb x (code "x")) (eqb x (code "X")) d.1 (is_plain x (code "x") refl) (is_plain x (code "X") refl))
    (and_both (plain h) (all plain hs) (hexadecimal_digit_plain h c.1) (hexadecimal_rest_plain hs a.1)))

-- digits, and what is behind them
digits_then_plain : (s : List ℕ) → all plain (behind_digits s) ≡ true → all plain s ≡ true
digits_then_plain s h = subst (λ (r : List ℕ). all plain r ≡ true) (sym (digits_cut s)) (all_append plain (digits s) (behind_digits s) (digits_plain s) h)

digits_then : (s : List ℕ) → goes_on false (behind_digits s) ≡ true → (l : Bool) → goes_on l s ≡ true
digits_then s h l = subst (λ (r : List ℕ). goes_on l r ≡ true) (sym (digits_cut s)) (plain_then (digits s) (behind_digits s) (digits_plain s) h l)

integer_plain : (s : List ℕ) → integer_constant s ≡ true → all plain s ≡ true
unfolding integer_constant
integer_plain s h =
    either (decimal_or_octal (digits s) && integer_suffix (behind_digits s)) (hexadecimal s) h
    (λ i. digits_then_plain s (integer_suffix_plain (behind_digits s) (both (decimal_or_octal (digits s)) (integer_suffix (behind_digits s)) i).1))
    (hexadecimal_word_plain s)

-- floating constants
exponent_digits_plain : (s : List ℕ) → exponent_digits s ≡ true → all plain s ≡ true
unfolding exponent_digits
exponent_digits_plain s h = digits_then_plain s (floating_suffix_plain (behind_digits s) (both (not (is_empty (digits s))) (floating_suffix (behind_digits s)) h).1)

signed_exponent_goes : (s : List ℕ) → signed_exponent s ≡ true → goes_on true s ≡ true
unfolding signed_exponent goes_on sign
signed_exponent_goes [] h = clash h refl
signed_exponent_goes (b ∷ s) h = go (sign b) refl h
  where
    go : (c : Bool) → sign b ≡ c → cond c (exponent_digits s) (exponent_digits (b ∷ s)) ≡ true → goes_on true (b ∷ s) ≡ true
    go true e i = and_both (plain b || sign b) (goes_on (exponent_letter b) s) (or_right (plain b) (sign b) e) (plain_goes s (exponent_digits_plain s i) (exponent_letter b))
    go false e i = plain_goes (b ∷ s) (exponent_digits_plain (b ∷ s) i) true

exponent_goes : (s : List ℕ) → exponent s ≡ true → (l : Bool) → goes_on l s ≡ true
unfolding exponent exponent_letter goes_on plain name_byte letter digit
exponent_goes [] h l = clash h refl
exponent_goes (b ∷ s) h l =
    let a = both (exponent_letter b) (signed_exponent s) h in
    let p : plain b ≡ true = either (eqb b (code "e")) (eqb b (code "E")) a.0 (is_plain b (code "e") refl) (is_plain b (code "E") refl) in
    and_both (plain b || l && sign b) (goes_on (exponent_letter b) s) (or_left (plain b) (l && sign b) p)
    (subst (λ (e : Bool). goes_on e s ≡ true) (sym a.0) (signed_exponent_goes s a.1))

behind_whole_goes : (d : Bool) (s : List ℕ) → behind_whole d s ≡ true → goes_on false s ≡ true
unfolding behind_whole goes_on plain name_byte letter digit
behind_whole_goes d [] h = clash h refl
behind_whole_goes d (b ∷ s) h = go (eqb b (code ".")) refl h
  where
    go :
        (c : Bool) → eqb b (code ".") ≡ c
        → cond c ((d || not (is_empty (digits s))) && (floating_suffix (behind_digits s) || exponent (behind_digits s))) (d && exponent (b ∷ s)) ≡ true
        → goes_on false (b ∷ s) ≡ true
    go true e i =
        and_both (plain b || false) (goes_on (exponent_letter b) s) (or_left (plain b) false (is_plain b (code ".") refl e))
        (digits_then s
        (either (floating_suffix (behind_digits s)) (exponent (behind_digits s)) (both (d || not (is_empty (digits s))) (floating_suffix (behind_digits s) || exponent (behind_digits s)) i).1
        (λ f. plain_goes (behind_digits s) (floating_suffix_plain (behind_digits s) f) false) (λ f. exponent_goes (behind_digits s) f false))
        (exponent_letter b))
    go false e i = exponent_goes (b ∷ s) (both d (exponent (b ∷ s)) i).1 false

number_goes : (s : List ℕ) → number_word s ≡ true → goes_on false s ≡ true
unfolding number_word floating_constant
number_goes s h =
    either (integer_constant s) (floating_constant s) h (λ i. plain_goes s (integer_plain s i) false)
    (λ f. digits_then s (behind_whole_goes (not (is_empty (digits s))) (behind_digits s) f) false)

-- how it begins
hexadecimal_opens : (s : List ℕ) → hexadecimal s ≡ true → begins_with digit s ≡ true
unfolding hexadecimal digit
hexadecimal_opens [] e = e
hexadecimal_opens (z ∷ []) e = clash e refl
hexadecimal_opens (z ∷ x ∷ []) e = clash e refl
hexadecimal_opens (z ∷ x ∷ h ∷ hs) e =
    let a = both (eqb z (code "0") && (eqb x (code "x") || eqb x (code "X")) && hexadecimal_digit h) (hexadecimal_rest hs) e in
    let c = both (eqb z (code "0") && (eqb x (code "x") || eqb x (code "X"))) (hexadecimal_digit h) a.0 in
    let d = both (eqb z (code "0")) (eqb x (code "x") || eqb x (code "X")) c.0 in
    subst (λ (b : ℕ). digit b ≡ true) (sym (eqb-true z (code "0") d.0)) refl

digit_opens : (s : List ℕ) → begins_with digit s ≡ true → opens_number s ≡ true
unfolding opens_number
digit_opens [] h = h
digit_opens (b ∷ s) h = or_left (digit b) (eqb b (code ".") && begins_with digit s) h

integer_opens : (s : List ℕ) → integer_constant s ≡ true → begins_with digit s ≡ true
unfolding integer_constant decimal_or_octal
integer_opens s h =
    either (decimal_or_octal (digits s) && integer_suffix (behind_digits s)) (hexadecimal s) h
    (λ i. some_digits s decimal_or_octal refl (both (decimal_or_octal (digits s)) (integer_suffix (behind_digits s)) i).0)
    (hexadecimal_opens s)

-- where no digit is first, a point is, and digits are behind it
point_opens : (b : ℕ) (s : List ℕ) → behind_whole false (b ∷ s) ≡ true → eqb b (code ".") && begins_with digit s ≡ true
unfolding behind_whole
point_opens b s h = go (eqb b (code ".")) h
  where
    go : (c : Bool) → cond c (not (is_empty (digits s)) && (floating_suffix (behind_digits s) || exponent (behind_digits s))) false ≡ true → c && begins_with digit s ≡ true
    go true i = some_digits s (λ ds. not (is_empty ds)) refl (both (not (is_empty (digits s))) (floating_suffix (behind_digits s) || exponent (behind_digits s)) i).0
    go false i = i

floating_opens : (s : List ℕ) → floating_constant s ≡ true → opens_number s ≡ true
unfolding floating_constant digits behind_digits behind_whole opens_number
floating_opens [] h = h
floating_opens (b ∷ s) h = go (digit b) h
  where
    go : (c : Bool) → behind_whole (not (is_empty (cond c (b ∷ digits s) []))) (cond c (behind_digits s) (b ∷ s)) ≡ true → c || eqb b (code ".") && begins_with digit s ≡ true
    go true i = refl
    go false i = point_opens b s i

pub number_wider : (s : List ℕ) → number_word s ≡ true → preprocessing_number s ≡ true
unfolding number_word preprocessing_number
number_wider s h =
    and_both (opens_number s) (goes_on false s)
    (either (integer_constant s) (floating_constant s) h (λ i. digit_opens s (integer_opens s i)) (floating_opens s))
    (number_goes s h)
