-- `joined::walk` meets its contract. The invariant: the head, the stack and the answer are the walk's before record i. Assumes nothing.
use mathlib.Core.Path.{◌≡◌}
use mathlib.Core.List.{map}
use Prim.Native.Nat.{◌-◌, ◌≤◌}
use lib.ListN.{length}
use Rattle.signs.specs.Sign.{byte_of}
use Rattle.joined.specs.Stack.{seen, walk}
use Rattle.joined.proofs.walk.Given as goal

abbrev pub invariant-loop-i : goal.invariant-loop-i
invariant-loop-i l = (length l.stack ≤ l.n - l.i) × (walk l.records (l.n - l.i) l.i ≡ record { head = seen l.head; stack = map byte_of l.stack; found = l.found })
