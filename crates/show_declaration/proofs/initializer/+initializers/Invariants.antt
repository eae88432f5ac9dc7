use Prim.Native.Nat.{◌+◌, ◌-◌, ◌*◌}
use lib.Dec.{eqb}
use Rattle.records.specs.Record.{record_count}
use mathlib.Core.Bool.{true}
use Rattle.leaves.proofs.Shown.{Loop}
use Rattle.show_declaration.proofs.Lists as Lists
use Rattle.show_declaration.proofs.initializer.+initializers.Given as goal

abbrev pub decreases-show_initializer : goal.decreases-show_initializer
decreases-show_initializer l = 2 * (record_count l.src.now.tree.records.now - l.pen.next) + 0

abbrev pub decreases-show_initializers : goal.decreases-show_initializers
decreases-show_initializers l = 2 * (record_count l.src.now.tree.records.now - l.pen.next) + 1

abbrev pub invariant-show_initializers-loop-k : goal.invariant-show_initializers-loop-k
invariant-show_initializers-loop-k l = Loop Lists.initializers l.src.settings l.src.tree.records.now l.src.tree.names.now l.n true l.initial.room l.initial.at (l.n - l.k) (eqb l.k 0) l.room l.at
