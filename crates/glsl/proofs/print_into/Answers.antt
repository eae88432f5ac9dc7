-- `glsl::print_into` meets its contract, by what was found on the way. Assumes nothing.
use Rattle.std.specs.Prelude.{Ok, Err}
use mathlib.Core.Path.{refl, sym, ◌∙◌, subst}
use native.Mathlib.Omega.{arith}
use Rattle.settings.specs.Settings.{read_settings}
use Rattle.accept.specs.Check.{check}
use Rattle.accept.specs.Checked.{Checked}
use Rattle.walk.proofs.Walk.{passed_on}
use Rattle.glsl.specs.Printed.{Prints}
use Rattle.glsl.specs.Root.{root_class, root_text, print_outcome}
use Rattle.glsl.proofs.Outcome.{refused, settings_refused, check_refused, accepted_put}
use Rattle.glsl.proofs.Accepted.{root_text_lem, never_stops}
use Rattle.glsl.proofs.print_into.Goals as goal

pub put-requires : goal.put-requires
put-requires c =
    let a = c.args in
    never_stops a.root a.settings.now a.records.now a.names.now _ (sym c.read.ensures.answered ∙ c.in-Some.is) _ (sym c.check_root.ensures ∙ c.in_ok-check_root.was) (λ p. omega (arith, c.type_inv.records p))

-- the settings are refused
pub returns-in_default : goal.returns-in_default
returns-in_default c =
    let a = c.args in
    subst (λ r. Prints (print_outcome a.root a.settings.now a.records.now a.names.now a.room.now) (root_text a.root a.settings.now a.records.now a.names.now) a.room.now a.room.now (Err r)) (sym c.at.ensures)
    (refused _ (settings_refused (read_settings a.settings.now) (check a.records.now a.names.now (root_class a.root)) (root_text a.root a.settings.now a.records.now a.names.now) a.room.now (sym c.read.ensures.answered ∙ c.in_default.is)) refl)

-- the records are
pub returns-in_err-check_root : goal.returns-in_err-check_root
returns-in_err-check_root c =
    let a = c.args in
    subst (λ (r : Checked). Prints (print_outcome a.root a.settings.now a.records.now a.names.now a.room.now) (root_text a.root a.settings.now a.records.now a.names.now) a.room.now a.room.now r) (sym (passed_on _ _ c.from_residual.ensures.1))
    (refused _ (check_refused (read_settings a.settings.now) (check a.records.now a.names.now (root_class a.root)) (root_text a.root a.settings.now a.records.now a.names.now) a.room.now _ _ (sym c.read.ensures.answered ∙ c.in-Some.is) (sym c.check_root.ensures ∙ c.in_err-check_root.was)) refl)

pub returns-in-Ok : goal.returns-in-Ok
returns-in-Ok c =
    let a = c.args in
    let read = sym c.read.ensures.answered ∙ c.in-Some.is in
    accepted_put (read_settings a.settings.now) (check a.records.now a.names.now (root_class a.root)) (root_text a.root a.settings.now a.records.now a.names.now) a.room.now _ _ c.put.result (Ok _) read (sym c.check_root.ensures ∙ c.in_ok-check_root.was)
    (root_text_lem a.root a.settings.now a.records.now a.names.now _ read) c.put.ensures c.in-Ok.is

-- the text is too long
pub returns-in-Err : goal.returns-in-Err
returns-in-Err c =
    let a = c.args in
    let read = sym c.read.ensures.answered ∙ c.in-Some.is in
    subst (λ r. Prints (print_outcome a.root a.settings.now a.records.now a.names.now a.room.now) (root_text a.root a.settings.now a.records.now a.names.now) a.room.now c.put.new.room (Err r)) (sym c.at-in-Err.ensures)
    (accepted_put (read_settings a.settings.now) (check a.records.now a.names.now (root_class a.root)) (root_text a.root a.settings.now a.records.now a.names.now) a.room.now _ _ c.put.result (Err _) read (sym c.check_root.ensures ∙ c.in_ok-check_root.was)
    (root_text_lem a.root a.settings.now a.records.now a.names.now _ read) c.put.ensures c.in-Err.is)
