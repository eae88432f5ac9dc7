-- Laws of the pen over a room: where it moves to, and what makes a leaf writer's promise. Assumes nothing.
use mathlib.Core.Path.{◌≡◌, refl, sym, ap, ◌∙◌}
use mathlib.Core.Bool.{Bool, true, false, cond, ◌||◌}
use mathlib.Core.List.{List, [], ◌∷◌}
use Prim.Native.Nat.{ℕ, ◌+◌, ◌≤◌, min}
use native.Mathlib.Omega.{arith}
use lib.ListN.{length}
use lib.Dec.{eqb}
use Rattle.std.specs.List.{list_any}
use Rattle.room.specs.Room.{laid}
use Rattle.room.proofs.Laid.{laid_nothing}
use Rattle.text.specs.Token.{has}
use Rattle.pen.specs.declared.Pen.{Pen}
use Rattle.pen.specs.Sheet.{last_place, forward, lay}
use Rattle.pen.specs.Promise.{sheet, Wrote}

-- on by one part and then by another
pub forward_two : (n m : ℕ) (p : Pen) → forward m (forward n p) ≡ forward (n + m) p
forward_two n m p =
    let e : min (min (p.at + n) last_place + m) last_place ≡ min (p.at + (n + m)) last_place = omega arith in
    ap (λ (a : ℕ). record { at = a; next = p.next; state = p.state }) e

-- a byte stands in a text: the library's search is the definition's
pub has_is : (c : ℕ) (s : List ℕ) → has c s ≡ list_any (λ (b : ℕ). eqb b c) s
unfolding has
has_is c [] = refl
has_is c (b ∷ s) = by (eqb b c) (has_is c s)
  where
    by : (w : Bool) → has c s ≡ list_any (λ (b : ℕ). eqb b c) s → cond w true (has c s) ≡ w || list_any (λ (b : ℕ). eqb b c) s
    by true e = refl
    by false e = e

-- a leaf writer: the bytes are laid in the room and the pen has moved by their number
pub leaf : (bs : List ℕ) {room room' : List ℕ} {p p' : Pen} → p.at ≤ last_place → room' ≡ laid room p.at bs → p' ≡ forward (length bs) p → Wrote bs room p room' p'
unfolding lay
leaf [] {room = room} {room' = room'} {p = p} h e f = record {
  wrote =
      let k : min (p.at + 0) last_place ≡ p.at = omega arith in
      ap (λ (r : List ℕ). sheet r p) (sym (laid_nothing room p.at) ∙ sym e)
      ∙ ap (λ (q : Pen). sheet room' q) (ap (λ (n : ℕ). record { at = n; next = p.next; state = p.state }) (sym k) ∙ sym f);
}
leaf (b ∷ bs) h e f = record { wrote = rw (e, f) refl }
