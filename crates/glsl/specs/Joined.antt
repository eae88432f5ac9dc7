-- The one outcome of the joined question (01, "Calls"): whether the expression is joined, or the check's refusal; it takes no settings and no room, and
-- never gives refusal 1 or 13. Assumes nothing.
use Rattle.std.specs.Prelude.{◌≡◌, Bool, true, false, List, ℕ, ℤ, pos, Result, Ok, Err}
use Rattle.shapes.specs.Class.{Class}
use Rattle.accept.specs.declared.Refused.{Refused}
use Rattle.accept.specs.Checked.{Checked}
use Rattle.accept.specs.Refusal.{number, checked_number}
use Rattle.accept.specs.Check.{check}
use Rattle.checks.specs.Answer.{refusal_answer}
use Rattle.text.specs.Joined.{joined_answer}

abbrev pub Whether : Type 0
Whether = Result Bool Refused

unfoldable pub whether_joined : Checked → Bool → Whether
whether_joined (Err r) b = Err r
whether_joined (Ok m) b = Ok b

abbrev pub joined_outcome : (records names : List ℕ) → Whether
joined_outcome records names = whether_joined (check records names Class.expr) (joined_answer records names)

-- the documents' number and place; 0 is no refusal, which has no place
abbrev pub joined_number : Whether → ℕ
joined_number (Ok b) = 0
joined_number (Err r) = number r.refusal

abbrev pub joined_place : Whether → ℕ
joined_place (Ok b) = 0
joined_place (Err r) = r.place

-- where the check refuses; 0 where it does not
abbrev pub refused_at : Checked → ℕ
refused_at (Err r) = r.place
refused_at (Ok m) = 0

-- what the question promises: its answer, and by the documents' numbers the check's refusal at its place, or none
pub record Answers (records names : List ℕ) (r : Whether) : Type 0 where
  pub answered : r ≡ joined_outcome records names
  pub numbered : joined_number r ≡ checked_number (check records names Class.expr)
  pub placed : joined_place r ≡ refused_at (check records names Class.expr)

-- the 64 bits of the C function: 1 or 0
unfoldable pub joined_bits : Whether → ℤ
joined_bits (Ok false) = pos 0
joined_bits (Ok true) = pos 1
joined_bits (Err r) = refusal_answer r.refusal r.place
