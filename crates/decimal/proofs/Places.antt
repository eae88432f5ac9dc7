-- Digits that are written from the highest on, each to its place. Assumes nothing.
use mathlib.Core.Path.{◌≡◌, refl, sym, ◌∙◌, ap, ap₂}
use mathlib.Core.List.{List}
use Prim.Native.Nat.{ℕ, zero, suc, ◌≤◌, ◌<◌, ◌+◌, ◌-◌, ◌/◌, ◌%◌, ◌^◌}
use native.Mathlib.Nat.{mod-eq_of_lt, div-one}
use native.Mathlib.Omega.{arith}
use lib.ListN.{length, set, length-set}
use lib.Seq.{sets}
use Rattle.decimal.specs.Decimal.{digit_byte, decimal}
use Rattle.decimal.proofs.Laws.{length_positive}
use Rattle.decimal.proofs.Powers.{power_positive, below_power, last_digits, decimal_last_digits, top_digit, below_top}

-- Where the writing of n's digits stands; `end` is the place behind the last. The next digit goes to `place`, and its power of ten is `power`. `left` is what the
-- digits from it on say, and with these written from `place` on, the room is `all`.
pub record Standing (all : List ℕ) (n end : ℕ) (room : List ℕ) (left power place : ℕ) : Type 0 where
  pub exponent : ℕ
  pub is_power : power ≡ 10 ^ exponent
  pub is_left : left ≡ n % 10 ^ suc exponent
  pub in_front : place + suc exponent ≡ end
  pub in_room : end ≤ length room
  pub rest : sets room place (last_digits (suc exponent) n) ≡ all

-- before the first digit
pub begins : (room : List ℕ) (at n : ℕ) → at + length (decimal n) ≤ length room → Standing (sets room at (decimal n)) n (at + length (decimal n)) room n (10 ^ (length (decimal n) - 1)) at
begins room at n h =
    let p = length_positive n in
    let e : suc (length (decimal n) - 1) ≡ length (decimal n) = omega arith in record {
      exponent = length (decimal n) - 1;
      is_power = refl;
      is_left = sym (ap (λ (k : ℕ). n % 10 ^ k) e ∙ mod-eq_of_lt (below_power n));
      in_front = omega arith;
      in_room = h;
      rest = ap (λ (k : ℕ). sets room at (last_digits k n)) e ∙ sym (ap (sets room at) (decimal_last_digits n));
    }

module _ {all : List ℕ} {n end : ℕ} {room : List ℕ} {left power place : ℕ} (s : Standing all n end room left power place) where
  pub positive : 0 < power
  positive = omega (arith, power_positive s.exponent, s.is_power)

  pub a_place : place < length room
  a_place = omega (arith, s.in_front, s.in_room)

  -- the digit that is written next
  digit : left / power ≡ n / 10 ^ s.exponent % 10
  digit = ap₂ (λ (m p : ℕ). m / p) s.is_left s.is_power ∙ top_digit n s.exponent

  pub a_digit : left / power < 10
  a_digit = omega (arith, digit)

  -- behind it, where it is not the last
  pub goes_on : place + 1 < end → Standing all n end (set room place (digit_byte (left / power))) (left % power) (power / 10) (place + 1)
  unfolding last_digits
  goes_on h = go s.exponent s.is_power s.is_left s.in_front digit s.rest
    where
      go : (k : ℕ) → power ≡ 10 ^ k → left ≡ n % 10 ^ suc k → place + suc k ≡ end → left / power ≡ n / 10 ^ k % 10 → sets room place (last_digits (suc k) n) ≡ all
          → Standing all n end (set room place (digit_byte (left / power))) (left % power) (power / 10) (place + 1)
      go zero p l f d r = absurd (omega arith)
      go (suc k) p l f d r =
          record {
            exponent = k;
            is_power = omega arith;
            is_left = ap₂ (λ (m q : ℕ). m % q) l p ∙ below_top n (suc k);
            in_front = omega arith;
            in_room = omega (arith, length-set room place (digit_byte (left / power)), s.in_room);
            rest = ap₂ (λ (b q : ℕ). sets (set room place (digit_byte b)) q (last_digits (suc k) n)) d (omega arith) ∙ r;
          }

  -- the last digit is what is left
  last : place + 1 ≡ end → (left < 10) × (set room place (digit_byte left) ≡ all)
  unfolding last_digits
  last h = go s.exponent s.is_left s.in_front s.rest
    where
      go : (k : ℕ) → left ≡ n % 10 ^ suc k → place + suc k ≡ end → sets room place (last_digits (suc k) n) ≡ all
          → (left < 10) × (set room place (digit_byte left) ≡ all)
      go zero l f r = (omega arith, ap (λ (b : ℕ). set room place (digit_byte b)) (l ∙ sym (ap (λ (m : ℕ). m % 10) (div-one n))) ∙ r)
      go (suc k) l f r = absurd (omega arith)

  pub a_last_digit : place + 1 ≡ end → left < 10
  a_last_digit h = (last h).0

  pub ends : place + 1 ≡ end → set room place (digit_byte left) ≡ all
  ends h = (last h).1
