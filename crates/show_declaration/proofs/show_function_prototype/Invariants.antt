-- `show_declaration::show_function_prototype` meets its contract. Assumes nothing.
use mathlib.Core.Bool.{true}
use Prim.Native.Nat.{◌-◌}
use lib.Dec.{eqb}
use Rattle.leaves.proofs.Shown.{Loop}
use Rattle.show_declaration.proofs.Lists.{parameters}
use Rattle.show_declaration.proofs.show_function_prototype.Given as goal

abbrev pub invariant-loop-k : goal.invariant-loop-k
invariant-loop-k l = Loop parameters l.src.settings l.src.tree.records.now l.src.tree.names.now l.k-end true l.initial.room l.initial.at (l.k-end - l.k) (eqb l.k 0) l.room l.at
