-- The outcome of the joined question by what was found on the way: its number and its place are the check's, and small. Assumes nothing.
use Rattle.std.specs.Prelude.{Ok, Err}
use mathlib.Core.Path.{◌≡◌, refl, sym, ap, ◌∙◌}
use mathlib.Core.Bool.{Bool}
use mathlib.Core.List.{List}
use mathlib.Core.Logic.{◌⊎◌, inl, inr}
use Prim.Native.Nat.{ℕ, ◌<◌, ◌≤◌, ◌^◌}
use native.Mathlib.Omega.{arith}
use lib.ListN.{get_or}
use Rattle.records.specs.Record.{record_count}
use Rattle.shapes.specs.Class.{Class}
use Rattle.accept.specs.declared.Refused.{Refused}
use Rattle.accept.specs.Checked.{Checked}
use Rattle.accept.specs.Refusal.{checked_number, checked_place}
use Rattle.accept.specs.Check.{most_records, check}
use Rattle.accepted.proofs.Places.{refused_there, OfTheCheck, in_range_lem}
use Rattle.checks.proofs.Small.{place_small}
use Rattle.text.specs.Joined.{somewhere, joined_answer}
use Rattle.joined.specs.Stack.{any_joined}
use Rattle.joined.specs.Sentence.{in_words}
use Rattle.joined.proofs.Answer.{answer}
use Rattle.joined.proofs.Sentence.{sentence}
use Rattle.glsl.specs.Joined.{Whether, whether_joined, joined_outcome, joined_number, joined_place, refused_at, Answers}

judged_place : (o : Checked) (b : Bool) → checked_place o ≤ most_records → joined_place (whether_joined o b) < 2 ^ 32
unfolding whether_joined
judged_place (Err r) b h = omega arith
judged_place (Ok m) b h = omega arith

judged_told : (o : Checked) (b : Bool) → (joined_number (whether_joined o b) ≡ checked_number o) × (joined_place (whether_joined o b) ≡ refused_at o)
unfolding whether_joined
judged_told (Err r) b = (refl, refl)
judged_told (Ok m) b = (refl, refl)

judged_refused : (o : Checked) (b : Bool) (r : Refused) → whether_joined o b ≡ Err r → o ≡ Err r
unfolding whether_joined
judged_refused (Err q) b r e = cc
judged_refused (Ok m) b r e = let z : ◌≡◌ {A = ℕ} 0 1 = cc in absurd (omega arith)

module _ (records names : List ℕ) where
  pub question_refused : (r : Refused) → check records names Class.expr ≡ Err r → joined_outcome records names ≡ Err r
  unfolding whether_joined
  question_refused r e = ap (λ (o : Checked). whether_joined o (joined_answer records names)) e

  pub question_answered : (byte : (p : ℕ) → get_or records p 0 < 256) (m : ℕ) → check records names Class.expr ≡ Ok m
      → {a : Bool} (b : Bool) → a ≡ any_joined records → a ≡ b → joined_outcome records names ≡ Ok b
  unfolding whether_joined
  question_answered byte m e b f g =
      ap (λ (o : Checked). whether_joined o (joined_answer records names)) e
      ∙ ap (λ (x : Bool). whether_joined (Ok m) x) (sym (answer records names byte m e) ∙ sym f ∙ g)

  -- the answer that the question has keeps its promise
  pub answers : (r : Whether) → r ≡ joined_outcome records names → Answers records names r
  answers r e =
      let told = judged_told (check records names Class.expr) (joined_answer records names) in
      record { answered = e; numbered = ap joined_number e ∙ told.0; placed = ap joined_place e ∙ told.1 }

  -- an accepted expression's answer is document 02's sentence about its TIGHT text
  pub answered_in_words : (byte : (p : ℕ) → get_or records p 0 < 256) (m : ℕ) → check records names Class.expr ≡ Ok m
      → (r : Whether) → Answers records names r → r ≡ Ok (somewhere in_words (record_count records) records names 0)
  unfolding whether_joined
  answered_in_words byte m e r a =
      a.answered
      ∙ ap (λ (o : Checked). whether_joined o (joined_answer records names)) e
      ∙ ap (λ (x : Bool). whether_joined (Ok m) x) (sentence records names byte m e)

  pub question_small : joined_place (joined_outcome records names) < 2 ^ 32
  question_small = judged_place (check records names Class.expr) (joined_answer records names) (place_small records names Class.expr)

  -- its number is 0, for no refusal, or the check's: 2 to 12, or 15, and never 1 or 13
  pub question_number : (joined_number (joined_outcome records names) ≡ 0) ⊎ OfTheCheck (joined_number (joined_outcome records names))
  question_number = go (joined_outcome records names) refl
    where
      go : (o : Whether) → joined_outcome records names ≡ o → (joined_number o ≡ 0) ⊎ OfTheCheck (joined_number o)
      go (Ok b) e = inl refl
      go (Err r) e =
          let there = refused_there records names Class.expr r.refusal r.place (judged_refused (check records names Class.expr) (joined_answer records names) r e) in
          inr (in_range_lem (record_count records) r.refusal r.place there).1
