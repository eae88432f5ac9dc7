-- The outcome of each public call is unique: any two that its contract allows are equal, in answer, place and every byte of the room, or of the part that is handed back. Which proposition
-- each contract is, proofs/Contracts says by computation; here is one law for each of these propositions, whatever the outcome and the text are. And an answer's number in 01 and its
-- length or place say all of it. (glsl_joined promises an equation: `one_value` of crate settings.) Assumes nothing.
use Rattle.std.specs.Prelude.{Result, Ok, Err}
use Rattle.std.specs.Borrow.{MutBor}
use mathlib.Core.Path.{◌≡◌, sym, ◌∙◌, ap}
use mathlib.Core.List.{List}
use Prim.Native.Nat.{ℕ}
use lib.IntN.{ℤ}
use Rattle.settings.proofs.Contracts.{one_value}
use Rattle.accept.specs.declared.Refusal.{Refusal}
use Rattle.accept.specs.declared.Refused.{Refused}
use Rattle.accept.specs.Checked.{refused}
use Rattle.accepted.proofs.Unique.{number_tells, number_not_zero}
use Rattle.glsl.specs.Root.{value}
use Rattle.glsl.specs.Printed.{Printed, refusal_number, Prints, HandsBack, HandsOut, PrintsBits}
use Rattle.glsl.specs.Joined.{Whether, Answers}

-- two answers of print_unit or print_expr that say the same
abbrev pub SameAnswer : (r₁ r₂ : Result (MutBor (List ℕ)) Refused) → Type 0
SameAnswer (Ok a) (Ok b) = a.now ≡ b.now
SameAnswer (Ok a) (Err y) = ⊥
SameAnswer (Err x) (Ok b) = ⊥
SameAnswer (Err x) (Err y) = (x.refusal ≡ y.refusal) × (x.place ≡ y.place)

module _ {o : Printed} {text : List ℕ} where
  -- print_unit_into, print_expr_into
  pub prints_unique : {room room₁ room₂ : List ℕ} {r₁ r₂ : Printed} → Prints o text room room₁ r₁ → Prints o text room room₂ r₂ → (r₁ ≡ r₂) × (room₁ ≡ room₂)
  prints_unique a b = (one_value a.answered b.answered, one_value a.left b.left)

  -- print_unit, print_expr
  pub hands_back_unique : {part₁ part₂ : List ℕ} {no₁ no₂ place₁ place₂ : ℕ} → HandsBack o text part₁ no₁ place₁ → HandsBack o text part₂ no₂ place₂ → (part₁ ≡ part₂) × (no₁ ≡ no₂) × (place₁ ≡ place₂)
  hands_back_unique a b = (one_value a.handed b.handed, one_value a.numbered b.numbered, one_value a.placed b.placed)

  -- and by it what they answer: the same part, or the same refusal at the same place
  pub hands_out_unique : (r₁ r₂ : Result (MutBor (List ℕ)) Refused) → HandsOut o text r₁ → HandsOut o text r₂ → SameAnswer r₁ r₂
  hands_out_unique (Ok a) (Ok b) h k = one_value h.handed k.handed
  hands_out_unique (Ok a) (Err y) h k = number_not_zero y.refusal (sym (one_value h.numbered k.numbered))
  hands_out_unique (Err x) (Ok b) h k = number_not_zero x.refusal (one_value h.numbered k.numbered)
  hands_out_unique (Err x) (Err y) h k = (number_tells x.refusal y.refusal (one_value h.numbered k.numbered), one_value h.placed k.placed)

  -- glsl_print_unit, glsl_print_expr
  pub prints_bits_unique : {room room₁ room₂ : List ℕ} {r₁ r₂ : ℤ} → PrintsBits o text room room₁ r₁ → PrintsBits o text room room₂ r₂ → (r₁ ≡ r₂) × (room₁ ≡ room₂)
  prints_bits_unique a b = (one_value a.answered b.answered, one_value a.left b.left)

-- joined
pub answers_unique : {records names : List ℕ} {r₁ r₂ : Whether} → Answers records names r₁ → Answers records names r₂ → r₁ ≡ r₂
answers_unique a b = one_value a.answered b.answered

-- an answer is told by its number in 01, 0 for a text, and its length or place
pub told : (r s : Printed) → refusal_number r ≡ refusal_number s → value r ≡ value s → r ≡ s
told (Ok m) (Ok k) e f = ap Ok f
told (Ok m) (Err y) e f = absurd (number_not_zero y.refusal (sym e))
told (Err x) (Ok k) e f = absurd (number_not_zero x.refusal e)
told (Err x) (Err y) e f =
    ap (λ (z : Refusal). refused z x.place) (number_tells x.refusal y.refusal e) ∙ ap (refused y.refusal) f
