-- The laws of a decimal text, for every number. Assumes nothing.
use mathlib.Core.Path.{◌≡◌, refl, sym, ◌∙◌, ap}
use mathlib.Core.List.{List, [], ◌∷◌, ◌++◌}
use mathlib.Core.Bool.{Bool, true, false}
use Prim.Native.Nat.{ℕ, zero, suc, ◌≤◌, ◌<◌, ◌+◌, ◌-◌, ◌*◌, ◌/◌, ◌%◌, ◌^◌}
use Prim.Native.Char.{code}
use native.Mathlib.Omega.{arith}
use lib.ListN.{length, get_or, length-append, get_or-append}
use lib.Seq.{get_or-append-add}
use lib.Dec.{ltb}
use borrow.Author.Tests.{lt-ltb, le-ltb, ltb-true, ltb-false}
use Rattle.decimal.specs.Decimal.{digit_byte, digits_of, decimal, value_of}

-- a case for the numbers below a limit, and one for those from it on
pub below_or_from : (P : ℕ → Type 0) (limit n : ℕ) → (n < limit → P n) → (limit ≤ n → P n) → P n
below_or_from P limit n small big = go (ltb n limit) refl
  where
    go : (b : Bool) → ltb n limit ≡ b → P n
    go true e = small (ltb-true _ _ e)
    go false e = big (ltb-false _ _ e)

digits_small : (w n : ℕ) → n < 10 → digits_of w n ≡ digit_byte n ∷ []
unfolding digits_of
digits_small zero n h = refl
digits_small (suc w) n h = rw (lt-ltb n 10 h, digits_of)

digits_big : (w n : ℕ) → 10 ≤ n → digits_of (suc w) n ≡ digits_of w (n / 10) ++ (digit_byte (n % 10) ∷ [])
unfolding digits_of
digits_big w n h = rw (le-ltb n 10 h, digits_of)

-- the width that is offered does not matter where it is enough
digits_width : (v w n : ℕ) → n ≤ v → n ≤ w → digits_of v n ≡ digits_of w n
digits_width zero w n h k = digits_small zero n (omega arith) ∙ sym (digits_small w n (omega arith))
digits_width (suc v) zero n h k = digits_small (suc v) n (omega arith) ∙ sym (digits_small zero n (omega arith))
digits_width (suc v) (suc w) n h k =
    below_or_from (λ (m : ℕ). digits_of (suc v) m ≡ digits_of (suc w) m) 10 n
    (λ s. digits_small (suc v) n s ∙ sym (digits_small (suc w) n s))
    (λ b. digits_big v n b ∙ ap (λ (l : List ℕ). l ++ (digit_byte (n % 10) ∷ [])) (digits_width v w (n / 10) (omega arith) (omega arith)) ∙ sym (digits_big w n b))

-- the recursion without a width: below 10 one digit, from 10 on the digits of the tenth and the last one
pub decimal_small : (n : ℕ) → n < 10 → decimal n ≡ digit_byte n ∷ []
unfolding decimal
decimal_small n h = digits_small n n h

pub decimal_big : (n : ℕ) → 10 ≤ n → decimal n ≡ decimal (n / 10) ++ (digit_byte (n % 10) ∷ [])
unfolding decimal
decimal_big n h =
    digits_width n (suc n) n (omega arith) (omega arith)
    ∙ digits_big n n h
    ∙ ap (λ (l : List ℕ). l ++ (digit_byte (n % 10) ∷ [])) (digits_width n (n / 10) (n / 10) (omega arith) (omega arith))

-- an induction on a number by its tenth
pub by_tenth : (P : ℕ → Type 0) → ((n : ℕ) → n < 10 → P n) → ((n : ℕ) → 10 ≤ n → P (n / 10) → P n) → (n : ℕ) → P n
by_tenth P small big n = go n n (omega arith)
  where
    go : (limit n : ℕ) → n ≤ limit → P n
    go zero n h = small n (omega arith)
    go (suc limit) n h = below_or_from P 10 n (small n) (λ b. big n b (go limit (n / 10) (omega arith)))

value_last : (m : ℕ) (l : List ℕ) (d : ℕ) → value_of m (l ++ (d ∷ [])) ≡ 10 * value_of m l + (d - code "0")
value_last m [] d = refl
value_last m (x ∷ l) d = value_last (10 * m + (x - code "0")) l d

-- the value of the digits is the number
pub value_decimal : (n : ℕ) → value_of 0 (decimal n) ≡ n
value_decimal =
    by_tenth (λ (n : ℕ). value_of 0 (decimal n) ≡ n) (λ n h. rw (decimal_small n h) (omega arith))
    (λ n h e. rw (decimal_big n h) (value_last 0 (decimal (n / 10)) (digit_byte (n % 10)) ∙ rw e (omega arith)))

-- different numbers have different texts
pub decimal_injective : (m n : ℕ) → decimal m ≡ decimal n → m ≡ n
decimal_injective m n e = sym (value_decimal m) ∙ ap (value_of 0) e ∙ value_decimal n

pub length_small : (n : ℕ) → n < 10 → length (decimal n) ≡ 1
length_small n h = ap length (decimal_small n h)

pub length_big : (n : ℕ) → 10 ≤ n → length (decimal n) ≡ length (decimal (n / 10)) + 1
length_big n h = ap length (decimal_big n h) ∙ length-append (decimal (n / 10)) (digit_byte (n % 10) ∷ [])

pub length_positive : (n : ℕ) → 1 ≤ length (decimal n)
length_positive = by_tenth (λ (n : ℕ). 1 ≤ length (decimal n)) (λ n h. omega (arith, length_small n h)) (λ n h e. omega (arith, length_big n h))

-- a number below the power of ten has no more digits than its exponent
pub length_below : (k n : ℕ) → n < 10 ^ suc k → length (decimal n) ≤ suc k
length_below zero n h = omega (arith, length_small n (omega arith))
length_below (suc k) n h =
    below_or_from (λ (m : ℕ). length (decimal m) ≤ suc (suc k)) 10 n (λ s. omega (arith, length_small n s))
    (λ b. omega (arith, length_big n b, length_below k (n / 10) (omega arith)))

pub at_most_10 : (n : ℕ) → n < 2 ^ 32 → length (decimal n) ≤ 10
at_most_10 n h = length_below 9 n (omega arith)

pub at_most_20 : (n : ℕ) → n < 2 ^ 64 → length (decimal n) ≤ 20
at_most_20 n h = length_below 19 n (omega arith)

-- no leading zero: the text of 0 is one `0`, and that of any other number begins with another digit
pub decimal_zero : decimal 0 ≡ code "0" ∷ []
decimal_zero = decimal_small 0 (omega arith)

pub no_leading_zero : (n : ℕ) → 0 < n → code "0" < get_or (decimal n) 0 0
no_leading_zero =
    by_tenth (λ (n : ℕ). 0 < n → code "0" < get_or (decimal n) 0 0) (λ n h p. rw (decimal_small n h) (omega arith))
    (λ n h e p. rw (decimal_big n h, get_or-append (decimal (n / 10)) (digit_byte (n % 10) ∷ []) 0 0 (length_positive (n / 10))) (e (omega arith)))

abbrev pub IsDigit : ℕ → Type 0
IsDigit b = (code "0" ≤ b) × (b ≤ code "9")

-- every byte is a digit
pub all_digits : (n k : ℕ) → k < length (decimal n) → IsDigit (get_or (decimal n) k 0)
all_digits =
    by_tenth (λ (n : ℕ). (k : ℕ) → k < length (decimal n) → IsDigit (get_or (decimal n) k 0)) one more
  where
    one : (n : ℕ) → n < 10 → (k : ℕ) → k < length (decimal n) → IsDigit (get_or (decimal n) k 0)
    one n h k p =
        let e : k ≡ 0 = omega (arith, length_small n h) in
        rw (decimal_small n h, e) (omega arith, omega arith)

    more : (n : ℕ) → 10 ≤ n → ((k : ℕ) → k < length (decimal (n / 10)) → IsDigit (get_or (decimal (n / 10)) k 0)) → (k : ℕ) → k < length (decimal n) → IsDigit (get_or (decimal n) k 0)
    more n h r k p =
        below_or_from (λ (j : ℕ). k ≡ j → IsDigit (get_or (decimal n) j 0)) (length (decimal (n / 10))) k
        (λ s e. rw (decimal_big n h, get_or-append (decimal (n / 10)) (digit_byte (n % 10) ∷ []) 0 k s) (r k s))
        (λ b e. last (omega (arith, length_big n h)))
        refl
      where
        last : k ≡ length (decimal (n / 10)) + 0 → IsDigit (get_or (decimal n) k 0)
        last e = rw (decimal_big n h, e, get_or-append-add (decimal (n / 10)) (digit_byte (n % 10) ∷ []) 0 0) (omega arith, omega arith)
