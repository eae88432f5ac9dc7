-- `checks::answer_of` meets its contract: by the case. Assumes nothing.
use mathlib.Core.Path.{sym, ◌∙◌, ap, subst}
use Prim.Native.Nat.{◌<◌, ◌^◌}
use native.Mathlib.Omega.{arith}
use mir.Syntax.{w64}
use mir.Facts.{to_z-of_z, to_z_pos}
use Rattle.accept.specs.Checked.{Checked}
use Rattle.accept.specs.Refusal.{checked_place}
use Rattle.checks.specs.Answer.{answer}
use Rattle.checks.proofs.answer_of.Goals as goal

pub overflow_cast-result : goal.overflow_cast-result
overflow_cast-result c =
    let h = subst (λ (o : Checked). checked_place o < 2 ^ 32) c.in-Ok.is c.requires in
    record { sfits = omega arith }

pub refusal_answer-requires : goal.refusal_answer-requires
refusal_answer-requires c =
    subst (λ (o : Checked). checked_place o < 2 ^ 32) c.in-Err.is c.requires

pub returns-in-Ok : goal.returns-in-Ok
unfolding answer
returns-in-Ok c =
    let h = subst (λ (o : Checked). checked_place o < 2 ^ 32) c.in-Ok.is c.requires in
    to_z_pos w64 (omega arith) ∙ sym (ap answer c.in-Ok.is)

pub returns-in-Err : goal.returns-in-Err
unfolding answer
returns-in-Err c =
    to_z-of_z {w = w64} (record { sfits = c.refusal_answer.type_inv }) ∙ c.refusal_answer.ensures ∙ sym (ap answer c.in-Err.is)
