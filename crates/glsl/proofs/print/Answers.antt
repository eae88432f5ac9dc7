-- `glsl::print` meets its contract: the part is the front of what `print_into` left. Assumes nothing.
use mathlib.Core.Path.{sym, ap}
use Rattle.settings.specs.Settings.{read_settings}
use Rattle.accept.specs.Check.{check}
use Rattle.glsl.specs.Printed.{refusal_number, refusal_place}
use Rattle.glsl.specs.Root.{written_length, root_class, root_text, print_outcome}
use Rattle.glsl.proofs.Outcome.{outcome_long, hands_back, part_long}
use Rattle.glsl.proofs.print.Goals as goal

pub slice_bounds-result-end : goal.slice_bounds-result-end
slice_bounds-result-end c =
    let a = c.args in
    part_long (print_outcome a.root a.settings.now a.records.now a.names.now a.room.now) (root_text a.root a.settings.now a.records.now a.names.now) a.room.now (outcome_long (read_settings a.settings.now) (check a.records.now a.names.now (root_class a.root)) (root_text a.root a.settings.now a.records.now a.names.now) a.room.now) c.print_into.ensures
    (sym (ap written_length c.in_ok-n.was))

pub returns : goal.returns
returns c =
    let a = c.args in
    hands_back (print_outcome a.root a.settings.now a.records.now a.names.now a.room.now) (root_text a.root a.settings.now a.records.now a.names.now) a.room.now (outcome_long (read_settings a.settings.now) (check a.records.now a.names.now (root_class a.root)) (root_text a.root a.settings.now a.records.now a.names.now) a.room.now) c.print_into.ensures
    (sym (ap written_length c.in_ok-n.was)) (sym (ap refusal_number c.in_ok-n.was)) (sym (ap refusal_place c.in_ok-n.was))
