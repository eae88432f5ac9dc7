-- `copy_few` meets its contract: what is left to store from here on is all of it from the start, and what is stored again stands there. Assumes nothing.
use native.Mathlib.Omega.{arith}
use Rattle.room.proofs.Loops.{stored_or_again}
use Rattle.room.proofs.copy_few.Goals as goal

pub loop-i-preserved : goal.loop-i-preserved
loop-i-preserved c =
    let a = c.args in
    let l = c.loop-i in
    stored_or_again a.room.now a.at a.src.now (omega arith) l.room l.i c.min-k.result (omega arith) (λ h. omega arith) l.invariant
