-- A printer with one fixed text breaks demand 3 (01, "Strength of the promises"), whatever words are read by: no two different sound expressions share a text, and no text is read as every sound
-- expression, since the two of the story are sound, are printed with spaces, and are not the same. (That print_expr does not hand back one text, what it promises shows already: demand 2.) Assumes nothing.
use mathlib.Core.Path.{◌≡◌, refl, sym, ◌∙◌}
use mathlib.Core.Bool.{Bool}
use mathlib.Core.List.{List}
use Prim.Native.Nat.{ℕ}
use Rattle.words.specs.Bytes.{bytes}
use Rattle.settings.specs.Settings.{OPEN}
use Rattle.accepted.proofs.Case.{computing as checking}
use Rattle.text.proofs.Computing.{computing}
use Rattle.grammar.specs.Same.{Same}
use Rattle.glsl.specs.Printed.{fitted, outcome}
use Rattle.reading.specs.Read.{IsRead}
use Rattle.reading.specs.Call.{ExprCall}
use Rattle.reading.specs.Demand3.{recorded, SpacedAndSound, Demand3Of00}
use Rattle.reading.proofs.Computing.{reading}
use Rattle.reading.proofs.Story.{names, decremented_minus, different, call, open_call, open_sound}

unfoldable other_call : ExprCall
unfolding computing checking reading fitted outcome
other_call = call OPEN decremented_minus names (bytes "n-- - k") refl (record { handed = refl; numbered = refl; placed = refl })

other_sound : SpacedAndSound other_call
unfolding computing checking reading fitted outcome other_call
other_sound = record { spaced = refl; sound = (refl, refl) }

not_same : Same (recorded other_call) (recorded open_call) → ⊥
unfolding computing other_call open_call
not_same = different

module _ {W : List ℕ → Bool} (d : Demand3Of00 W) where
  pub no_shared_text : (a b : ExprCall) → SpacedAndSound a → SpacedAndSound b → (Same (recorded a) (recorded b) → ⊥) → (text : List ℕ) → a.written ≡ text → b.written ≡ text → ⊥
  no_shared_text a b h k apart text e f = apart (d.told_apart a b h k (e ∙ sym f))

  pub no_fixed_text : (text : List ℕ) → ((c : ExprCall) → SpacedAndSound c → IsRead W text (recorded c)) → ⊥
  no_fixed_text text read = not_same (d.unambiguous text (recorded other_call) (recorded open_call) (read other_call other_sound) (read open_call open_sound))
