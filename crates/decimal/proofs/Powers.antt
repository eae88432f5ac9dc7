-- A number's digits by powers of ten: how many there are, and each of them by itself, the highest first. Assumes nothing.
use mathlib.Core.Path.{◌≡◌, sym, ◌∙◌, ap, ap₂}
use mathlib.Core.List.{List, [], ◌∷◌, ◌++◌}
use Prim.Native.Nat.{ℕ, zero, suc, ◌≤◌, ◌<◌, ◌+◌, ◌*◌, ◌/◌, ◌%◌, ◌^◌}
use native.Mathlib.Nat.{div-div-eq-div-mul, div-one, mod-eq_of_lt, mod-lt, one-le-pow, pow-succ'}
use native.Mathlib.Omega.{arith}
use lib.Arith.{digits_div, digits_mod, mod-mul}
use lib.ListN.{length}
use Rattle.decimal.specs.Decimal.{digit_byte, decimal}
use Rattle.decimal.proofs.Laws.{below_or_from, by_tenth, decimal_small, decimal_big, length_small, length_big, length_positive, length_below}

pub power_positive : (k : ℕ) → 0 < 10 ^ k
power_positive k = one-le-pow k 10 (omega arith)

-- ---- how many digits

-- from a power of ten on a number has more digits than its exponent
length_from : (k n : ℕ) → 10 ^ k ≤ n → suc k ≤ length (decimal n)
length_from zero n h = length_positive n
length_from (suc k) n h =
    let p = power_positive k in
    omega (arith, length_big n (omega arith), length_from k (n / 10) (omega arith))

-- so between two powers it has one more than the lower one's exponent
pub length_between : (k n : ℕ) → 10 ^ k ≤ n → n < 10 ^ suc k → length (decimal n) ≡ suc k
length_between k n f b = omega (arith, length_from k n f, length_below k n b)

-- and it is below the power that has its digits for an exponent
pub below_power : (n : ℕ) → n < 10 ^ length (decimal n)
below_power n =
    below_or_from (λ (m : ℕ). m < 10 ^ length (decimal n)) (10 ^ length (decimal n)) n (λ s. s) (λ b. absurd (omega (arith, length_from (length (decimal n)) n b)))

-- ---- the digits

-- the last k digits of n, the highest first
unfoldable pub last_digits : (k n : ℕ) → List ℕ
last_digits zero n = []
last_digits (suc k) n = digit_byte (n / 10 ^ k % 10) ∷ last_digits k n

-- they are those of the tenth, and the last one
last_digits_tenth : (k n : ℕ) → last_digits (suc k) n ≡ last_digits k (n / 10) ++ (digit_byte (n % 10) ∷ [])
unfolding last_digits
last_digits_tenth zero n = ap (λ (m : ℕ). digit_byte (m % 10) ∷ []) (div-one n)
last_digits_tenth (suc k) n =
    ap₂ (λ (d : ℕ) (l : List ℕ). digit_byte (d % 10) ∷ l) (ap (λ (p : ℕ). n / p) (pow-succ' 10 k) ∙ sym (div-div-eq-div-mul n 10 (10 ^ k))) (last_digits_tenth k n)

last_digits_one : (n : ℕ) → n < 10 → last_digits 1 n ≡ digit_byte n ∷ []
unfolding last_digits
last_digits_one n h = ap (λ (d : ℕ). digit_byte d ∷ []) (ap (λ (d : ℕ). d % 10) (div-one n) ∙ mod-eq_of_lt h)

-- all of them are the text
pub decimal_last_digits : (n : ℕ) → decimal n ≡ last_digits (length (decimal n)) n
decimal_last_digits =
    by_tenth (λ (n : ℕ). decimal n ≡ last_digits (length (decimal n)) n)
    (λ n h. decimal_small n h ∙ sym (last_digits_one n h) ∙ ap (λ (k : ℕ). last_digits k n) (sym (length_small n h)))
    (λ n h e.
    decimal_big n h
    ∙ ap (λ (l : List ℕ). l ++ (digit_byte (n % 10) ∷ [])) e
    ∙ sym (last_digits_tenth (length (decimal (n / 10))) n)
    ∙ ap (λ (k : ℕ). last_digits k n) (omega (arith, length_big n h)))

-- the remainder by ten times a power: the digit at the power, and the remainder by the power
remainder_by : (n k : ℕ) → n % 10 ^ suc k ≡ n / 10 ^ k % 10 * 10 ^ k + n % 10 ^ k
remainder_by n k = ap (λ (p : ℕ). n % p) (pow-succ' 10 k) ∙ mod-mul n (omega arith) (power_positive k)

pub top_digit : (n k : ℕ) → n % 10 ^ suc k / 10 ^ k ≡ n / 10 ^ k % 10
top_digit n k = ap (λ (m : ℕ). m / 10 ^ k) (remainder_by n k) ∙ digits_div (n / 10 ^ k % 10) (mod-lt n (power_positive k))

pub below_top : (n k : ℕ) → n % 10 ^ suc k % 10 ^ k ≡ n % 10 ^ k
below_top n k = ap (λ (m : ℕ). m % 10 ^ k) (remainder_by n k) ∙ digits_mod (n / 10 ^ k % 10) (mod-lt n (power_positive k))
