-- `show_declaration::show_init_declarator_list` meets its contract. Assumes nothing.
use mathlib.Core.Bool.{true}
use Prim.Native.Nat.{◌-◌}
use Rattle.leaves.proofs.Shown.{Loop}
use Rattle.show_declaration.proofs.Lists.{tail}
use Rattle.show_declaration.proofs.show_init_declarator_list.Given as goal

abbrev pub invariant-loop-k : goal.invariant-loop-k
invariant-loop-k l = Loop tail l.src.settings l.src.tree.records.now l.src.tree.names.now l._k-end true l.initial.room l.initial.at (l._k-end - l._k) true l.room l.at
