-- `walk::node` and `walk::run` meet their contracts: the parts of a shape that are left, and the trees of a part that are left, are all of them from the start. Assumes nothing.
use mathlib.Core.Path.{◌≡◌}
use Prim.Native.Nat.{◌+◌, ◌-◌, ◌*◌, ◌<◌}
use Rattle.shapes.specs.Table.{class_of}
use Rattle.accept.specs.Check.{node as node_at, nodes as run_at}
use Rattle.walk.proofs.Walk.{parts_left}
use Rattle.walk.proofs.+node_run.Given as goal

abbrev pub decreases-node : goal.decreases-node
decreases-node l = 2 * l.left

abbrev pub decreases-run : goal.decreases-run
decreases-run l = 2 * l.left + 1

abbrev pub invariant-node-loop-part : goal.invariant-node-loop-part
invariant-node-loop-part l =
    let node_in = node_at l.tree.records.now l.tree.names.now in
    (0 < l.left) × (node_in l.left (class_of l.fn.class) l.i ≡ parts_left (node_in (l.left - 1)) l.r.count l.part-items l.part-index l.at)

abbrev pub invariant-run-loop : goal.invariant-run-loop
invariant-run-loop l =
    let run_in = run_at l.tree.records.now l.tree.names.now l.left (class_of l.class) in
    run_in l.n l.i ≡ run_in (l.n - l.counter) l.at
