-- The form of a float's text: what each test of it decides. Assumes nothing.
use mathlib.Core.Path.{◌≡◌, refl, ap}
use mathlib.Core.List.{List, [], ◌∷◌}
use mathlib.Core.Bool.{Bool, true, false, not, ◌&&◌, cond, and-false}
use Prim.Native.Nat.{ℕ, zero, suc, ◌≤◌, ◌<◌, ◌+◌, ◌-◌}
use Prim.Native.Char.{code}
use native.Mathlib.Nat.{le_of_suc-le-suc, suc_inj}
use native.Mathlib.Omega.{arith}
use lib.ListN.{length, get_or, take, drop}
use lib.Seq.{take_all}
use lib.Dec.{eqb}
use borrow.Author.Tests.{le-leb, lt-leb, eq-eqb, ne_eqb}
use Rattle.std.specs.List.{prefix_len}
use Rattle.words.proofs.Tests.{split}
use Rattle.words.specs.Form.{longest_float, digit, digits, behind_digits, whole_part, fraction, nothing_or_fraction, float_form}

pub digits_length : (s : List ℕ) → length (digits s) ≤ length s
unfolding digits
digits_length [] = omega arith
digits_length (x ∷ s) = by (digit x) (digits_length s)
  where
    by : (b : Bool) → length (digits s) ≤ length s → length (cond b (x ∷ digits s) []) ≤ suc (length s)
    by true h = omega arith
    by false h = omega arith

-- the whole part's digits, and what is behind them
behind : (s : List ℕ) → behind_digits s ≡ drop (length (digits s)) s
unfolding digits behind_digits
behind [] = refl
behind (x ∷ s) = by (digit x) (behind s)
  where
    by : (b : Bool) → behind_digits s ≡ drop (length (digits s)) s → cond b (behind_digits s) (x ∷ s) ≡ drop (length (cond b (x ∷ digits s) [])) (x ∷ s)
    by true e = e
    by false e = refl

in_front : (s : List ℕ) → take (length (digits s)) s ≡ digits s
unfolding digits
in_front [] = refl
in_front (x ∷ s) = by (digit x) (in_front s)
  where
    by : (b : Bool) → take (length (digits s)) s ≡ digits s → take (length (cond b (x ∷ digits s) [])) (x ∷ s) ≡ cond b (x ∷ digits s) []
    by true e = ap (λ (d : List ℕ). x ∷ d) e
    by false e = refl

-- the library's count of them
pub digits_counted : (s : List ℕ) → prefix_len digit s ≡ length (digits s)
unfolding digits
digits_counted [] = refl
digits_counted (x ∷ s) = by (digit x) (digits_counted s)
  where
    by : (b : Bool) → prefix_len digit s ≡ length (digits s) → cond b (1 + prefix_len digit s) 0 ≡ length (cond b (x ∷ digits s) [])
    by true e = omega arith
    by false e = refl

pub whole_none : (d : List ℕ) → length d ≡ 0 → whole_part d ≡ false
unfolding whole_part
whole_none [] e = refl
whole_none (x ∷ d) e = absurd (omega arith)

pub whole_one : (d : List ℕ) → length d ≡ 1 → whole_part d ≡ true
unfolding whole_part
whole_one [] e = absurd (omega arith)
whole_one (x ∷ []) e = refl
whole_one (x ∷ y ∷ d) e = absurd (omega arith)

pub whole_more : (d : List ℕ) → 2 ≤ length d → whole_part d ≡ not (eqb (get_or d 0 0) (code "0"))
unfolding whole_part
whole_more [] h = absurd (omega arith)
whole_more (x ∷ []) h = absurd (omega arith)
whole_more (x ∷ y ∷ d) h = refl

-- a fraction: digits to the end, the last not 0
fraction_stop : (s : List ℕ) → length (digits s) < length s → fraction s ≡ false
unfolding fraction digits
fraction_stop [] h = refl
fraction_stop (x ∷ []) h = by (digit x) h
  where
    by : (b : Bool) → length (cond b (x ∷ []) []) < 1 → b && not (eqb x (code "0")) ≡ false
    by true h = absurd (omega arith)
    by false h = refl
fraction_stop (x ∷ y ∷ s) h = by (digit x) h (fraction_stop (y ∷ s))
  where
    by : (b : Bool) → length (cond b (x ∷ digits (y ∷ s)) []) < suc (suc (length s))
        → (length (digits (y ∷ s)) < suc (length s) → fraction (y ∷ s) ≡ false) → b && fraction (y ∷ s) ≡ false
    by true h later = later (le_of_suc-le-suc h)
    by false h later = refl

fraction_end : (s : List ℕ) (k : ℕ) → length s ≡ suc k → length (digits s) ≡ length s → fraction s ≡ not (eqb (get_or s k 0) (code "0"))
unfolding fraction digits
fraction_end [] k h e = absurd (omega arith)
fraction_end (x ∷ []) (suc k) h e = absurd (omega arith)
fraction_end (x ∷ []) zero h e = by (digit x) e
  where
    by : (b : Bool) → length (cond b (x ∷ []) []) ≡ 1 → b && not (eqb x (code "0")) ≡ not (eqb x (code "0"))
    by true e = refl
    by false e = absurd (omega arith)
fraction_end (x ∷ y ∷ s) zero h e = absurd (omega arith)
fraction_end (x ∷ y ∷ s) (suc k) h e = by (digit x) e (fraction_end (y ∷ s) k (suc_inj h))
  where
    by : (b : Bool) → length (cond b (x ∷ digits (y ∷ s)) []) ≡ suc (suc (length s))
        → (length (digits (y ∷ s)) ≡ suc (length s) → fraction (y ∷ s) ≡ not (eqb (get_or (y ∷ s) k 0) (code "0")))
        → b && fraction (y ∷ s) ≡ not (eqb (get_or (y ∷ s) k 0) (code "0"))
    by true e later = later (suc_inj e)
    by false e later = absurd (omega arith)

pub fraction_none : (s : List ℕ) → length s ≡ 0 → fraction s ≡ false
unfolding fraction
fraction_none [] e = refl
fraction_none (x ∷ s) e = absurd (omega arith)

pub fraction_some : (s : List ℕ) → 1 ≤ length s → fraction s ≡ eqb (length (digits s)) (length s) && not (eqb (get_or s (length s - 1) 0) (code "0"))
fraction_some s h =
    let l = digits_length s in
    split (length (digits s)) (length s) (λ k. simp (ne_eqb (length (digits s)) (length s) (λ e. omega arith)) (fraction_stop s k))
    (λ k. simp (eq-eqb (length (digits s)) (length s) (omega arith)) (fraction_end s (length s - 1) (omega arith) (omega arith)))

-- what is behind the digits: nothing, or a point and a fraction
pub rest_none : (r : List ℕ) → length r ≡ 0 → nothing_or_fraction r ≡ true
unfolding nothing_or_fraction
rest_none [] e = refl
rest_none (x ∷ r) e = absurd (omega arith)

pub rest_some : (r : List ℕ) → 1 ≤ length r → nothing_or_fraction r ≡ eqb (get_or r 0 0) (code ".") && fraction (take (length r - 1) (drop 1 r))
unfolding nothing_or_fraction
rest_some [] h = absurd (omega arith)
rest_some (x ∷ r) h = rw (take_all (suc (length r) - 1) r (omega arith)) refl

-- the tests of a float's text: its length, and its two parts, of n digits the first (a text of no bytes has no whole part)
pub float_long : (s : List ℕ) → longest_float < length s → float_form s ≡ false
unfolding float_form
float_long s h = simp (lt-leb (length s) longest_float h, and-false)

pub float_parts :
    (s : List ℕ) (n : ℕ) → length s ≤ longest_float → n ≡ length (digits s)
    → float_form s ≡ whole_part (take n s) && nothing_or_fraction (drop n s)
unfolding float_form digits whole_part
float_parts [] n h e = rw e refl
float_parts (x ∷ s) n h e = simp (le-leb 1 (suc (length s)) (omega arith), le-leb (suc (length s)) longest_float h, e, in_front, behind)
