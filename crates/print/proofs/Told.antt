-- The laws of what the program writes: bytes that were set behind the front of a room stand there, and a text is the part that its print hands back. Assumes nothing.
use Rattle.std.specs.Prelude.{Ok, Err}
use Rattle.std.proofs.Common.{◌≡◌, ℕ, ◌+◌, ◌≤◌, List, ◌++◌, length, take, drop, sym, ap, ◌∙◌, length-append, length-take-le, take_at, arith}
use Rattle.std.proofs.lemmas.List.Edits.{sets}
use Rattle.std.proofs.Math.Seq.{sets-eq}
use Rattle.accept.specs.Refusal.{number}
use Rattle.accepted.proofs.Unique.{number_not_zero}
use Rattle.glsl.specs.Printed.{Printed, front, refusal_number, refusal_place}
use Rattle.print.specs.Told.{refused, told}

pub added : (room : List ℕ) (at : ℕ) (bs : List ℕ) {room' : List ℕ} {end : ℕ} → at + length bs ≤ length room → room' ≡ sets room at bs → end ≡ at + length bs → take end room' ≡ take at room ++ bs
added room at bs {room' = room'} fits e ends =
    let long : length (take at room ++ bs) ≡ at + length bs = length-append (take at room) bs ∙ ap (λ (n : ℕ). n + length bs) (length-take-le at room (omega arith)) in
    ap (λ (n : ℕ). take n room') ends ∙ ap (take (at + length bs)) (e ∙ sets-eq bs room at fits)
    ∙ take_at (take at room ++ bs) (drop (at + length bs) room) (at + length bs) long

-- what is handed back, by what a print says of its outcome: its number tells a text from a refusal
pub text_told : (o : Printed) (t : List ℕ) {n : ℕ} {part : List ℕ} → n ≡ refusal_number o → n ≡ 0 → part ≡ front o t → part ≡ told o t
text_told (Ok m) t e zero is = is
text_told (Err r) t e zero is = absurd (number_not_zero r.refusal (sym e ∙ zero))

pub refusal_told : (o : Printed) (t : List ℕ) {n place : ℕ} {line : List ℕ} → n ≡ refusal_number o → place ≡ refusal_place o → (n ≡ 0 → ⊥) → line ≡ refused n place → line ≡ told o t
refusal_told (Ok m) t e f some is = absurd (some e)
refusal_told (Err r) t {place = place} e f some is = is ∙ ap (λ (i : ℕ). refused i place) e ∙ ap (refused (number r.refusal)) f
