-- `glsl::joined_bits` meets its contract: by the case. Assumes nothing.
use Rattle.std.specs.Prelude.{Ok}
use mir.Syntax.{w64}
use mir.Val.{bool_byte}
use lib.IntN.{pos}
use mathlib.Core.Path.{◌≡◌, refl, sym, ◌∙◌, ap}
use mathlib.Core.Bool.{Bool, true, false}
use mir.Facts.{to_z-of_z}
use Rattle.glsl.specs.Joined.{joined_bits}
use Rattle.glsl.proofs.joined_bits.Goals as goal

bit : (b : Bool) → pos (bool_byte b) ≡ joined_bits (Ok b)
unfolding joined_bits
bit true = refl
bit false = refl

pub returns-in-Ok : goal.returns-in-Ok
returns-in-Ok c = to_z-of_z {w = w64} (record { sfits = c.from.type_inv }) ∙ c.from.ensures ∙ bit c.in-Ok.joined ∙ sym (ap joined_bits c.in-Ok.is)

pub returns-in-Err : goal.returns-in-Err
unfolding joined_bits
returns-in-Err c = to_z-of_z {w = w64} (record { sfits = c.refusal_answer.type_inv }) ∙ c.refusal_answer.ensures ∙ sym (ap joined_bits c.in-Err.is)
