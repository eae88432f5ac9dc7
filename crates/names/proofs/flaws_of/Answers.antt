-- `names::flaws_of` meets its contract: the flaws of the bytes stand behind the slots. Assumes nothing.
use mathlib.Core.Path.{◌≡◌, ◌∙◌, ap}
use Prim.Native.Nat.{◌+◌}
use lib.ListN.{get_or}
use native.Mathlib.Omega.{arith}
use Rattle.word_table.specs.Table.{flaw}
use Rattle.word_table.proofs.Listed.{first_flaw}
use Rattle.word_table.proofs.Slots.{flaw_here}
use Rattle.names.proofs.Flaws.{flaw_small}
use Rattle.names.proofs.flaws_of.Goals as goal

pub returns : goal.returns
returns c =
    let e : get_or c.table.result.now (first_flaw + c.from.result) 0 ≡ flaw c.args.x
    = flaw_here _ c.table.ensures _ (omega arith) ∙ ap flaw c.from.ensures in
    (e, omega (arith, e, flaw_small c.args.x))
