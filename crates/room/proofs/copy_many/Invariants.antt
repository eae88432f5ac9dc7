-- `copy_many` meets its contract: what is left to store from here on is all of it from the start. Assumes nothing.
use mathlib.Core.Path.{◌≡◌}
use Prim.Native.Nat.{◌+◌}
use lib.ListN.{drop}
use lib.Seq.{sets}
use Rattle.room.proofs.copy_many.Given as goal

abbrev pub invariant-loop-j : goal.invariant-loop-j
invariant-loop-j l = sets l.room (l.at + l.j) (drop l.j l.src) ≡ sets l.initial.room l.at l.src
