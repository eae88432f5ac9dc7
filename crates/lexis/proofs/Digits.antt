-- Digits at the front of a text, and the digits of a whole number. Assumes nothing.
use mathlib.Core.Path.{◌≡◌, refl, ap}
use mathlib.Core.Bool.{Bool, true, false, cond}
use mathlib.Core.List.{List, [], ◌∷◌, ◌++◌}
use Prim.Native.Nat.{ℕ, zero, suc, ◌<◌, ◌+◌, ◌/◌, ◌%◌}
use Prim.Native.Char.{code}
use native.Mathlib.Omega.{arith}
use lib.ListN.{get_or}
use borrow.Author.Tests.{ne_eqb}
use Rattle.words.specs.Letter.{digit}
use Rattle.words.specs.Form.{all, digits, behind_digits}
use Rattle.decimal.specs.Decimal.{decimal}
use Rattle.decimal.proofs.Laws.{by_tenth, decimal_small, decimal_big, decimal_zero, no_leading_zero}
use Rattle.lexis.specs.Division.{begins_with}
use Rattle.lexis.specs.Number.{decimal_or_octal}
use Rattle.lexis.proofs.Tests.{both, clash, all_append}
use Rattle.lexis.proofs.Letters.{digit_of}

-- the digits of a text, and what is behind them
pub digits_front : (ds r : List ℕ) → all digit ds ≡ true → begins_with digit r ≡ false → digits (ds ++ r) ≡ ds
unfolding all digits
digits_front [] [] h i = refl
digits_front [] (b ∷ r) h i = rw i
digits_front (d ∷ ds) r h i = let a = both (digit d) (all digit ds) h in rw a.0 (ap (λ (l : List ℕ). d ∷ l) (digits_front ds r a.1 i))

pub behind_front : (ds r : List ℕ) → all digit ds ≡ true → begins_with digit r ≡ false → behind_digits (ds ++ r) ≡ r
unfolding all behind_digits
behind_front [] [] h i = refl
behind_front [] (b ∷ r) h i = rw i
behind_front (d ∷ ds) r h i = let a = both (digit d) (all digit ds) h in rw a.0 (behind_front ds r a.1 i)

pub digits_cut : (s : List ℕ) → s ≡ digits s ++ behind_digits s
unfolding digits behind_digits
digits_cut [] = refl
digits_cut (b ∷ s) = go (digit b) (digits_cut s)
  where
    go : (c : Bool) → s ≡ digits s ++ behind_digits s → b ∷ s ≡ cond c (b ∷ digits s) [] ++ cond c (behind_digits s) (b ∷ s)
    go true e = ap (λ (l : List ℕ). b ∷ l) e
    go false e = refl

pub digits_all : (s : List ℕ) → all digit (digits s) ≡ true
unfolding all digits
digits_all [] = refl
digits_all (b ∷ s) = go (digit b) refl (digits_all s)
  where
    go : (c : Bool) → digit b ≡ c → all digit (digits s) ≡ true → all digit (cond c (b ∷ digits s) []) ≡ true
    go true e later = rw e later
    go false e later = refl

-- where there are digits, one is first
pub some_digits : (s : List ℕ) (f : List ℕ → Bool) → f [] ≡ false → f (digits s) ≡ true → begins_with digit s ≡ true
unfolding digits
some_digits [] f none h = clash h none
some_digits (b ∷ s) f none h = go (digit b) h
  where
    go : (c : Bool) → f (cond c (b ∷ digits s) []) ≡ true → c ≡ true
    go true h = refl
    go false h = clash h none

-- a whole number's bytes
pub decimal_digits : (n : ℕ) → all digit (decimal n) ≡ true
unfolding all
decimal_digits =
    by_tenth (λ (n : ℕ). all digit (decimal n) ≡ true) (λ n h. rw (decimal_small n h, digit_of (code "0" + n) (omega arith) (omega arith)))
    (λ n h e. rw (decimal_big n h) (all_append digit (decimal (n / 10)) ((code "0" + n % 10) ∷ []) e (rw (digit_of (code "0" + n % 10) (omega arith) (omega arith)))))

pub begins_append : (f : ℕ → Bool) (u v : List ℕ) → begins_with f u ≡ true → begins_with f (u ++ v) ≡ true
begins_append f [] v h = clash h refl
begins_append f (b ∷ u) v h = h

pub decimal_begins : (n : ℕ) → begins_with digit (decimal n) ≡ true
decimal_begins =
    by_tenth (λ (n : ℕ). begins_with digit (decimal n) ≡ true) (λ n h. rw (decimal_small n h) (digit_of (code "0" + n) (omega arith) (omega arith)))
    (λ n h e. rw (decimal_big n h) (begins_append digit (decimal (n / 10)) ((code "0" + n % 10) ∷ []) e))

-- no 0 first, or 0 itself
no_zero_first : (s : List ℕ) → code "0" < get_or s 0 0 → decimal_or_octal s ≡ true
unfolding decimal_or_octal
no_zero_first [] h = absurd (omega arith)
no_zero_first (d ∷ s) h = rw (ne_eqb d (code "0") (λ e. omega arith))

pub decimal_constant : (n : ℕ) → decimal_or_octal (decimal n) ≡ true
unfolding decimal_or_octal all
decimal_constant zero = rw decimal_zero
decimal_constant (suc n) = no_zero_first (decimal (suc n)) (no_leading_zero (suc n) (omega arith))
