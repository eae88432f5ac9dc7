-- The calls that print, each by what its contract promises (glsl, proofs/Contracts): print_unit and print_expr where they give no number of a refusal; print_unit_into and print_expr_into where they answer
-- with a length, and glsl_print_unit and glsl_print_expr where they answer with a number that is not negative: there the front of the room is what print_unit or print_expr hands back. So what is said of
-- calls (Demand3, Spaces) is said of it. Assumes nothing.
use Rattle.std.specs.Prelude.{Ok, Err}
use mathlib.Core.Path.{◌≡◌, refl, sym, ap, ◌∙◌}
use mathlib.Core.List.{List}
use Prim.Native.Nat.{ℕ, zero, suc, ◌<◌, ◌+◌, ◌*◌, ◌^◌}
use native.Mathlib.Omega.{arith}
use lib.IntN.{ℤ, pos, neg_ℤ}
use lib.ListN.{get_or, take}
use Rattle.settings.specs.Settings.{read_settings}
use Rattle.accept.specs.declared.Refusal.{Refusal}
use Rattle.accept.specs.Check.{check}
use Rattle.accept.specs.Refusal.{number}
use Rattle.accepted.proofs.Unique.{number_not_zero}
use Rattle.checks.specs.Answer.{refusal_answer}
use Rattle.glsl.specs.Printed.{Printed, Prints, HandsBack, PrintsBits, refusal_number, refusal_place, printed_bits}
use Rattle.glsl.specs.Root.{root_class, root_text, print_outcome}
use Rattle.glsl.proofs.Outcome.{outcome_long, hands_back}
use Rattle.draft.specs.declared.Root.{Root}
use Rattle.reading.specs.Call.{Call}

-- no refusal's answer is a length
minus_something : (m n : ℕ) → (m ≡ 0 → ⊥) → neg_ℤ (pos m) ≡ pos n → ⊥
minus_something zero n h e = h refl
minus_something (suc m) n h e = let z : ◌≡◌ {A = ℕ} 0 1 = cc in omega arith

pub not_length : (x : Refusal) (q n : ℕ) → refusal_answer x q ≡ pos n → ⊥
unfolding refusal_answer
not_length x q n e = minus_something (number x * 2 ^ 32 + q) n (λ z. number_not_zero x (omega arith)) e

length_is : (o : Printed) (n : ℕ) → printed_bits o ≡ pos n → o ≡ Ok n
unfolding printed_bits
length_is (Ok m) n e = ap Ok (cc)
length_is (Err r) n e = absurd (not_length r.refusal r.place n e)

module _ (root : Root) (settings records names room room' : List ℕ) (lent : (p : ℕ) → get_or records p 0 < 256) where
  abbrev expected : Printed
  expected = print_outcome root settings records names room

  abbrev whole : List ℕ
  whole = root_text root settings records names

  -- print_unit, print_expr
  pub handed : (part : List ℕ) (m place : ℕ) → HandsBack expected whole part m place → m ≡ 0 → Call root
  handed part m place p e = record { settings = settings; records = records; names = names; room = room; written = part; no = m; place = place; lent = lent; promised = p; accepted = e }

  -- print_unit_into, print_expr_into
  pub into : (n : ℕ) → Prints expected whole room room' (Ok n) → Call root
  into n p = handed (take n room') 0 0 (hands_back expected whole room (outcome_long (read_settings settings) (check records names (root_class root)) whole room) p refl refl refl) refl

  -- glsl_print_unit, glsl_print_expr
  pub exported : (n : ℕ) (r : ℤ) → PrintsBits expected whole room room' r → r ≡ pos n → Call root
  exported n r p e =
      let answer : expected ≡ Ok n = length_is expected n (sym p.answered ∙ e) in
      into n (record { answered = sym answer; numbered = sym (ap refusal_number answer); placed = sym (ap refusal_place answer); left = p.left })
