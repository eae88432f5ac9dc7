-- The outcome of a print by what was found on the way, how large its numbers are, and the part that is handed back: for every class and text. Assumes
-- nothing.
use Rattle.std.specs.Prelude.{Option, None, Some, Result, Ok, Err}
use mathlib.Core.Path.{◌≡◌, refl, sym, ap, subst, ◌∙◌}
use mathlib.Core.Bool.{Bool, true, false, cond}
use mathlib.Core.List.{List, [], ◌++◌}
use Prim.Native.Nat.{ℕ, ◌<◌, ◌≤◌, ◌^◌}
use native.Mathlib.Omega.{arith}
use lib.Dec.{leb}
use lib.ListN.{length, take, drop}
use lib.Seq.{take_at}
use borrow.Author.Tests.{le-leb, lt-leb}
use Rattle.settings.specs.declared.Settings.{Settings}
use Rattle.accept.specs.declared.Refusal.TheVariants as Why
use Rattle.accept.specs.declared.Refused.{Refused}
use Rattle.accept.specs.Checked.{Checked, refused as refusal}
use Rattle.accept.specs.Refusal.{number, checked_place}
use Rattle.accept.specs.Check.{most_records}
use Rattle.draft.specs.declared.TooLong.{TooLong}
use Rattle.draft.specs.Put.{Puts}
use Rattle.glsl.specs.Printed.{Printed, fitted, outcome, room_after, refusal_number, refusal_place, Prints, HandsBack, front}
use Rattle.glsl.specs.Root.{written_length, value}

-- the answer of a print, by that of its text being put
abbrev pub answer : Result ℕ TooLong → Printed
answer (Ok n) = Ok n
answer (Err e) = refusal Why.RoomTooSmall e.length

-- an answer and a room, by the outcome
module _ {t room room' : List ℕ} {o : Printed} where
  prints : (r : Printed) → o ≡ r → room' ≡ room_after r t room → Prints o t room room' r
  prints r e left = record {
    answered = sym e;
    numbered = sym (ap refusal_number e);
    placed = sym (ap refusal_place e);
    left = left ∙ sym (ap (λ (z : Printed). room_after z t room) e);
  }

  -- a refusal leaves the room as it was
  pub refused : (r : Refused) → o ≡ Err r → room' ≡ room → Prints o t room room' (Err r)
  refused r = prints (Err r)

  printed : (n : ℕ) → o ≡ Ok n → room' ≡ t ++ drop n room → Prints o t room room' (Ok n)
  printed n = prints (Ok n)

-- a text that was put, where it fits
put_fitted : (t room : List ℕ) {room' : List ℕ} (a : Result ℕ TooLong) → Puts t room room' a → Prints (fitted t room) t room room' (answer a)
unfolding Puts fitted
put_fitted t room (Ok n) (long, fits, stands) = printed n (simp (sym long, le-leb n (length room) fits)) stands
put_fitted t room (Err e) (long, short, same) = refused (record { refusal = Why.RoomTooSmall; place = e.length }) (simp (sym long, lt-leb e.length (length room) short)) same

module _ (r : Option Settings) (c : Checked) (t room : List ℕ) where
  pub settings_refused : r ≡ None → outcome r c t room ≡ refusal Why.SettingsOutOfRange 0
  unfolding outcome
  settings_refused e = ap (λ (x : Option Settings). outcome x c t room) e

  pub check_refused : (s : Settings) (x : Refused) → r ≡ Some s → c ≡ Err x → outcome r c t room ≡ Err x
  unfolding outcome
  check_refused s x e f = ap (λ (y : Option Settings). outcome y c t room) e ∙ ap (λ (y : Checked). outcome (Some s) y t room) f

  pub accepted : (s : Settings) (m : ℕ) → r ≡ Some s → c ≡ Ok m → outcome r c t room ≡ fitted t room
  unfolding outcome
  accepted s m e f = ap (λ (y : Option Settings). outcome y c t room) e ∙ ap (λ (y : Checked). outcome (Some s) y t room) f

  -- a text, put where settings and records were accepted
  pub accepted_put : (s : Settings) (m : ℕ) (a b : Result ℕ TooLong) {t' room' : List ℕ} → r ≡ Some s → c ≡ Ok m → t' ≡ t → Puts t' room room' a → a ≡ b
      → Prints (outcome r c t room) t room room' (answer b)
  accepted_put s m a b {room' = room'} e f same put which =
      subst (λ (x : Printed). Prints x t room room' (answer b)) (sym (accepted s m e f))
      (put_fitted t room b (subst (Puts t room room') which (subst (λ (x : List ℕ). Puts x room room' a) same put)))

-- no number of an outcome has more than 32 bits
fitted_value : (t room : List ℕ) → value (fitted t room) ≡ length t
unfolding fitted
fitted_value t room = go (leb (length t) (length room))
  where
    go : (b : Bool) → value (cond b (Ok (length t)) (refusal Why.RoomTooSmall (length t))) ≡ length t
    go true = refl
    go false = refl

pub outcome_small : (r : Option Settings) (c : Checked) (t room : List ℕ) → checked_place c ≤ most_records
    → ((s : Settings) (m : ℕ) → r ≡ Some s → c ≡ Ok m → length t < 2 ^ 32) → value (outcome r c t room) < 2 ^ 32
unfolding outcome
outcome_small None c t room near short = omega arith
outcome_small (Some s) (Err r) t room near short = omega arith
outcome_small (Some s) (Ok m) t room near short = omega (arith, fitted_value t room, short s m refl refl)

-- the length of an answer is its text's
abbrev Long : Printed → List ℕ → Type 0
Long (Ok n) t = n ≡ length t
Long (Err r) t = Unit {0}

pub outcome_long : (r : Option Settings) (c : Checked) (t room : List ℕ) → Long (outcome r c t room) t
unfolding outcome fitted
outcome_long None c t room = tt
outcome_long (Some s) (Err r) t room = tt
outcome_long (Some s) (Ok m) t room = go (leb (length t) (length room))
  where
    go : (b : Bool) → Long (cond b (Ok (length t)) (refusal Why.RoomTooSmall (length t))) t
    go true = refl
    go false = tt

-- so the part that is handed back is the front of what the room then holds
front_is : (o : Printed) (t room : List ℕ) → Long o t → (take (written_length o) (room_after o t room) ≡ front o t) × (written_length o ≡ length (front o t))
front_is (Ok n) t room e = (take_at t (drop n room) n (sym e), e)
front_is (Err r) t room e = (refl, refl)

module _ (o : Printed) (t room : List ℕ) {room' : List ℕ} {r : Printed} {n : ℕ} (long : Long o t) (a : Prints o t room room' r) (e : n ≡ written_length r) where
  pub part_is : take n room' ≡ front o t
  part_is = ap (λ (k : ℕ). take k room') (e ∙ ap written_length a.answered) ∙ ap (take (written_length o)) a.left ∙ (front_is o t room long).0

  -- with the number and the place of the answer
  pub hands_back : {number place : ℕ} → number ≡ refusal_number r → place ≡ refusal_place r → HandsBack o t (take n room') number place
  hands_back f g = record { handed = part_is; numbered = f ∙ a.numbered; placed = g ∙ a.placed }

  pub part_long : n ≡ length (take n room')
  part_long = e ∙ ap written_length a.answered ∙ (front_is o t room long).1 ∙ sym (ap length part_is)

-- where it refuses, the part is empty
pub nothing_handed : {o : Printed} {t room room' : List ℕ} {r : Printed} (e : Refused) → Prints o t room room' r → r ≡ Err e → HandsBack o t [] (number e.refusal) e.place
nothing_handed {t = t} e a f = record {
  handed = ap (λ (z : Printed). front z t) (sym f ∙ a.answered);
  numbered = sym (ap refusal_number f) ∙ a.numbered;
  placed = sym (ap refusal_place f) ∙ a.placed;
}
