-- `joined::children_in` meets its contract: what is counted and what is left are all of them. Assumes nothing.
use mathlib.Core.Path.{sym, ◌∙◌}
use Prim.Native.Nat.{◌≤◌}
use native.Mathlib.Omega.{arith}
use Rattle.joined.proofs.Parts.{at_most, none_left, more_left}
use Rattle.joined.proofs.children_in.Goals as goal

pub loop-part-preserved : goal.loop-part-preserved
loop-part-preserved c =
    let few : c.times-total.result ≤ 65535 = rw c.times-total.ensures (at_most _ c.args.n (omega arith)) in
    (omega (arith, few, c.loop-part.invariant.0), sym (more_left c.args.n c.args.parts.now c.loop-part.part-index _ c.loop-part.total c.loop-part-test.true c.times-total.ensures) ∙ c.loop-part.invariant.1)

pub returns : goal.returns
returns c =
    let z = none_left c.args.n c.args.parts.now c.loop-part.part-index c.loop-part-test.false in
    omega (arith, z, c.loop-part.invariant.1)
