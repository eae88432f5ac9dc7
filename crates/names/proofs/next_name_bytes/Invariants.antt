-- `names::next_name_bytes` meets its contract. The invariant: no flaws so far, and all is well in what is left. Assumes nothing.
use mathlib.Core.Path.{◌≡◌}
use mathlib.Core.Bool.{◌&&◌}
use Prim.Native.Nat.{◌≤◌}
use lib.ListN.{take, drop}
use lib.Dec.{eqb}
use Rattle.words.specs.Form.{all, name_byte}
use Rattle.names.proofs.next_name_bytes.Given as goal

abbrev pub invariant-loop-i : goal.invariant-loop-i
invariant-loop-i l = record {
  few : l.flaws ≤ l.i;
  rest : all name_byte (take 8 (drop l.start l.s)) ≡ eqb l.flaws 0 && all name_byte (drop l.i (take 8 (drop l.start l.s)));
}
