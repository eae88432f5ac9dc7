-- The outcome of the record check is unique: two answers that its contract allows are equal, and so are their numbers and places in 01. These
-- two say all of an answer. Assumes nothing.
use mathlib.Core.Path.{◌≡◌, refl, sym, ◌∙◌, ap}
use mathlib.Core.List.{List, [], ◌∷◌}
use mathlib.Core.Option.{Option, none, some}
use Prim.Native.Nat.{ℕ}
use native.Mathlib.Omega.{arith}
use lib.ListN.{get_or}
use Rattle.shapes.specs.Class.{Class}
use Rattle.accept.specs.declared.Refusal.{Refusal}
use Rattle.accept.specs.declared.Refusal.TheVariants as Why
use Rattle.accept.specs.Checked.{Checked, refused}
use Rattle.std.specs.Prelude.{Ok, Err}
use Rattle.accept.specs.Refusal.{number, checked_number, checked_place}
use Rattle.accept.specs.Check.{check}

-- the contract of `check_unit` allows an answer r with r ≡ check records names Class.unit, that of `check_expr` with Class.expr
module _ (records names : List ℕ) (c : Class) (r s : Checked) (p : r ≡ check records names c) (q : s ≡ check records names c) where
  pub unique : r ≡ s
  unique = p ∙ sym q

  pub unique_told : (checked_number r ≡ checked_number s) × (checked_place r ≡ checked_place s)
  unique_told = (ap checked_number unique, ap checked_place unique)

-- the refusal of each number
abbrev numbered : ℕ → Option Refusal
numbered n =
    get_or (none
    ∷ some Why.SettingsOutOfRange
    ∷ some Why.RecordsOutOfSize
    ∷ some Why.NamesOutOfSize
    ∷ some Why.RecordMissing
    ∷ some Why.KindNotAllowed
    ∷ some Why.TooDeep
    ∷ some Why.VariantOutOfRange
    ∷ some Why.CountMissing
    ∷ some Why.UnusedSet
    ∷ some Why.TextBeyond
    ∷ some Why.TextMisformed
    ∷ some Why.RecordsLeftOver
    ∷ some Why.RoomTooSmall
    ∷ none
    ∷ some Why.ReservedDeclared
    ∷ []) n none

its_number : (x : Refusal) → numbered (number x) ≡ some x
its_number Why.SettingsOutOfRange = refl
its_number Why.RecordsOutOfSize = refl
its_number Why.NamesOutOfSize = refl
its_number Why.RecordMissing = refl
its_number Why.KindNotAllowed = refl
its_number Why.TooDeep = refl
its_number Why.VariantOutOfRange = refl
its_number Why.CountMissing = refl
its_number Why.UnusedSet = refl
its_number Why.TextBeyond = refl
its_number Why.TextMisformed = refl
its_number Why.RecordsLeftOver = refl
its_number Why.RoomTooSmall = refl
its_number Why.ReservedDeclared = refl

-- numbers tell refusals apart, and 0 is the number of none
pub number_tells : (x y : Refusal) → number x ≡ number y → x ≡ y
number_tells x y e = let s = sym (its_number x) ∙ ap numbered e ∙ its_number y in cc

pub number_not_zero : (x : Refusal) → number x ≡ 0 → ⊥
number_not_zero x e =
    let s : some x ≡ none = sym (its_number x) ∙ ap numbered e in
    let z : ◌≡◌ {A = ℕ} 0 1 = cc in
    omega arith

-- number and place tell answers apart
pub told : (r s : Checked) → checked_number r ≡ checked_number s → checked_place r ≡ checked_place s → r ≡ s
told (Ok m) (Ok k) e f = ap Ok f
told (Ok m) (Err s) e f = absurd (number_not_zero s.refusal (sym e))
told (Err r) (Ok k) e f = absurd (number_not_zero r.refusal e)
told (Err r) (Err s) e f = ap (λ (z : Refusal). refused z r.place) (number_tells r.refusal s.refusal e) ∙ ap (refused s.refusal) f
