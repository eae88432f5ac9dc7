-- `show_unit::show_translation_unit` meets its contract: its declarations, one behind the other. Assumes nothing.
use mathlib.Core.Bool.{true}
use Prim.Native.Nat.{◌-◌}
use Rattle.leaves.proofs.Shown.{Loop}
use Rattle.show_unit.proofs.Unit.{externals}
use Rattle.show_unit.proofs.show_translation_unit.Given as goal

abbrev pub invariant-loop-k : goal.invariant-loop-k
invariant-loop-k l = Loop (externals l.src.settings.collapse_single_item_compound_statements) l.src.settings l.src.tree.records.now l.src.tree.names.now l._k-end true l.initial.room l.initial.at (l._k-end - l._k) true l.room l.at
