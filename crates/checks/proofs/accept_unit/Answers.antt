-- `checks::accept_unit` meets its contract: its place is small. Assumes nothing.
use mir.Syntax.{w64}
use mathlib.Core.Path.{sym, ◌∙◌, ap, subst}
use Prim.Native.Nat.{◌≤◌}
use native.Mathlib.Omega.{arith}
use mir.Facts.{to_z-of_z}
use Rattle.shapes.specs.Class.{Class}
use Rattle.accept.specs.Checked.{Checked}
use Rattle.accept.specs.Refusal.{checked_place}
use Rattle.accept.specs.Check.{most_records}
use Rattle.checks.specs.Answer.{answer}
use Rattle.checks.proofs.Small.{place_small}
use Rattle.checks.proofs.accept_unit.Goals as goal

pub answer_of-requires : goal.answer_of-requires
answer_of-requires c =
    let h = subst (λ (o : Checked). checked_place o ≤ most_records) (sym c.check_unit.ensures) (place_small c.args.records.now c.args.names.now Class.unit) in
    omega arith

pub returns : goal.returns
returns c =
    to_z-of_z {w = w64} (record { sfits = c.answer_of.type_inv }) ∙ c.answer_of.ensures ∙ ap answer c.check_unit.ensures
