-- The refusals of a print in the order of 01 ("Calls"), by their numbers: the settings' (1), else the check's (2 to 12, 15), else the room's (13), else 0. Assumes nothing.
use Rattle.std.specs.Prelude.{Option, None, Some, Ok, Err}
use mathlib.Core.Path.{◌≡◌, refl, sym}
use mathlib.Core.Bool.{Bool, true, false, cond}
use mathlib.Core.List.{List}
use Prim.Native.Nat.{ℕ, zero, suc}
use lib.Dec.{leb}
use lib.ListN.{length}
use Rattle.settings.specs.declared.Settings.{Settings}
use Rattle.settings.specs.Answer.{settings_number}
use Rattle.accept.specs.declared.Refusal.TheVariants as Why
use Rattle.accept.specs.Checked.{Checked, refused}
use Rattle.accept.specs.Refusal.{number, checked_number}
use Rattle.accepted.proofs.Unique.{number_not_zero}
use Rattle.glsl.specs.Printed.{fitted, outcome, refusal_number}

-- the first of two numbers that is one
abbrev or_else : ℕ → ℕ → ℕ
or_else zero n = n
or_else (suc m) n = suc m

kept : (m n : ℕ) → (m ≡ 0 → ⊥) → or_else m n ≡ m
kept zero n h = absurd (h refl)
kept (suc m) n h = refl

pub in_order : (s : Option Settings) (c : Checked) (text room : List ℕ)
    → refusal_number (outcome s c text room) ≡ or_else (settings_number s) (or_else (checked_number c) (cond (leb (length text) (length room)) 0 13))
unfolding outcome fitted
in_order None c text room = refl
in_order (Some s) (Err r) text room = sym (kept (number r.refusal) _ (number_not_zero r.refusal))
in_order (Some s) (Ok m) text room = go (leb (length text) (length room))
  where
    go : (b : Bool) → refusal_number (cond b (Ok (length text)) (refused Why.RoomTooSmall (length text))) ≡ cond b 0 13
    go true = refl
    go false = refl
