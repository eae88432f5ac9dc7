-- `joined::children_in` meets its contract: what is counted and what is left are all of them. Assumes nothing.
use mathlib.Core.Path.{◌≡◌}
use mathlib.Core.List.{map}
use Prim.Native.Nat.{◌+◌, ◌*◌, ◌≤◌}
use lib.ListN.{length}
use Rattle.shapes.specs.Shape.{classes}
use Rattle.shapes.specs.Table.{part_of}
use Rattle.joined.proofs.Parts.{children_left}
use Rattle.joined.proofs.children_in.Given as goal

abbrev pub invariant-loop-part : goal.invariant-loop-part
invariant-loop-part l =
    (l.total ≤ 65535 * l.part-index) × (l.total + children_left l.n l.parts l.part-index ≡ length (classes l.n (map part_of l.parts)))
