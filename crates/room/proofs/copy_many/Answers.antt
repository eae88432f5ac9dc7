-- `copy_many` meets its contract: what is left to store from here on is all of it from the start. Assumes nothing.
use native.Mathlib.Omega.{arith}
use Rattle.room.proofs.Loops.{stored, next_of}
use lib.ListN.{drop}
use Rattle.room.proofs.copy_many.Goals as goal

pub loop-j-preserved : goal.loop-j-preserved
loop-j-preserved c =
    let j = c.loop-j.j in
    let src = c.args.src.now in
    stored _ c.args.at j _ _ (drop j src) (next_of src j (omega arith)) c.loop-j.invariant
