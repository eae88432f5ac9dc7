-- `copy_few` meets its contract: what is left to store from here on is all of it from the start, and what is stored again stands there. Assumes nothing.
use mathlib.Core.Path.{◌≡◌}
use Prim.Native.Nat.{◌+◌}
use lib.ListN.{drop}
use lib.Seq.{sets}
use Rattle.room.proofs.copy_few.Given as goal

abbrev pub invariant-loop-i : goal.invariant-loop-i
invariant-loop-i l = sets l.room (l.at + l.i) (drop l.i l.src) ≡ sets l.initial.room l.at l.src
