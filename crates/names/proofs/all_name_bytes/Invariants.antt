-- `names::all_name_bytes` meets its contract. The invariant: the answer is what was found so far and what is left. Assumes nothing.
use mathlib.Core.Path.{◌≡◌}
use mathlib.Core.Bool.{◌&&◌}
use lib.ListN.{drop}
use Rattle.words.specs.Form.{all, name_byte}
use Rattle.names.proofs.all_name_bytes.Given as goal

abbrev pub invariant-loop-i : goal.invariant-loop-i
invariant-loop-i l = all name_byte l.s ≡ l.ok && all name_byte (drop l.i l.s)
