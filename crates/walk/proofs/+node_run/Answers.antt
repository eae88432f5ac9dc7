-- `walk::node` and `walk::run` meet their contracts: the parts of a shape that are left, and the trees of a part that are left, are all of them from the start. Assumes nothing.
use mathlib.Core.Path.{sym, ◌∙◌}
use Prim.Native.Nat.{◌-◌}
use Rattle.accept.specs.Check.{node as node_at}
use Rattle.walk.proofs.Walk.{passed_on, run_step, part_step, parts_done}
use Rattle.walk.proofs.Open.{node_stop, variant_listed, deep_enough, opened}
use Rattle.walk.proofs.+node_run.Goals as goal

pub node-returns-in_err-at : goal.node-returns-in_err-at
node-returns-in_err-at t c =
    passed_on _ _ c.from_residual.ensures.1 ∙ sym (node_stop _ _ _ _ _ (sym c.alone.ensures ∙ c.in_err-at.was))

pub node-shape_of-shape-requires : goal.node-shape_of-shape-requires
node-shape_of-shape-requires t c = variant_listed _ _ _ _ _ c.record_at-r.ensures (sym c.alone.ensures ∙ c.in_ok-at.was)

pub node-loop-part-init : goal.node-loop-part-init
node-loop-part-init t c =
    let accepted = sym c.alone.ensures ∙ c.in_ok-at.was in
    (deep_enough _ _ _ _ _ c.record_at-r.ensures accepted, opened _ _ _ _ _ c.record_at-r.ensures accepted c.shape_of-shape.result c.shape_of-shape.ensures.says)

pub node-returns-in_err-at-2 : goal.node-returns-in_err-at-2
node-returns-in_err-at-2 t c =
    let f = node_at c.args.tree.now.records.now c.args.tree.now.names.now (c.args.left - 1) in
    let ps = c.shape_of-shape.result.parts.now in
    let l = c.loop-part in
    passed_on _ _ c.from_residual-in_err-at-2.ensures.1
    ∙ sym (part_step f _ ps l.part-index l.at l.invariant.1 _ c.loop-part-test.true c.class.ensures c.times.ensures c.run.ensures c.in_err-at-2.was)

pub node-loop-part-preserved : goal.node-loop-part-preserved
node-loop-part-preserved t c =
    let f = node_at c.args.tree.now.records.now c.args.tree.now.names.now (c.args.left - 1) in
    let ps = c.shape_of-shape.result.parts.now in
    let l = c.loop-part in
    (l.invariant.0, part_step f _ ps l.part-index l.at l.invariant.1 _ c.loop-part-test.true c.class.ensures c.times.ensures c.run.ensures c.in_ok-at-2.was)

pub node-returns : goal.node-returns
node-returns t c =
    let f = node_at c.args.tree.now.records.now c.args.tree.now.names.now (c.args.left - 1) in
    let ps = c.shape_of-shape.result.parts.now in
    let l = c.loop-part in
    sym (parts_done f _ ps l.part-index l.at l.invariant.1 c.loop-part-test.false)

pub run-loop-preserved : goal.run-loop-preserved
run-loop-preserved t c =
    run_step _ _ _ c.loop.counter c.loop.at c.loop-test.true c.loop.invariant (sym c.node.ensures ∙ c.in_ok-at.was)
