-- `glsl::printed_bits` meets its contract: by the case. Assumes nothing.
use mathlib.Core.Path.{sym, ◌∙◌, ap, subst}
use Prim.Native.Nat.{◌<◌, ◌^◌}
use native.Mathlib.Omega.{arith}
use mir.Syntax.{w64}
use mir.Facts.{to_z-of_z, to_z_pos}
use Rattle.glsl.specs.Printed.{Printed, printed_bits}
use Rattle.glsl.specs.Root.{value}
use Rattle.glsl.proofs.printed_bits.Goals as goal

pub returns-in-Ok : goal.returns-in-Ok
unfolding printed_bits
returns-in-Ok c =
    let h = subst (λ (o : Printed). value o < 2 ^ 32) c.in-Ok.is c.requires in
    to_z_pos w64 (omega arith) ∙ sym (ap printed_bits c.in-Ok.is)

pub returns-in-Err : goal.returns-in-Err
unfolding printed_bits
returns-in-Err c =
    to_z-of_z {w = w64} (record { sfits = c.refusal_answer.type_inv }) ∙ c.refusal_answer.ensures ∙ sym (ap printed_bits c.in-Err.is)
