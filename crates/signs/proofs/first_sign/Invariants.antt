-- `signs::first_sign` meets its contract. The invariant: the sign at record i is the sign at the start. Assumes nothing.
use mathlib.Core.Path.{◌≡◌}
use mathlib.Core.List.{List}
use Prim.Native.Nat.{ℕ}
use Rattle.signs.proofs.Step.{SignAt}
use Rattle.signs.proofs.first_sign.Given as goal

abbrev pub invariant-loop-i : goal.invariant-loop-i
invariant-loop-i l = (ns : List ℕ) → SignAt l.records l.i ns ≡ SignAt l.records l.start ns
