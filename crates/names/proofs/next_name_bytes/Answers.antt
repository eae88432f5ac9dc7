-- `names::next_name_bytes` meets its contract. The invariant: no flaws so far, and all is well in what is left. Assumes nothing.
use mathlib.Core.Path.{sym, ◌∙◌, ap}
use native.Mathlib.Omega.{arith}
use lib.ListN.{take, drop}
use Rattle.word_table.specs.Table.{flaw}
use Rattle.words.specs.Form.{name_byte}
use Rattle.words.proofs.Laws.{all_done}
use Rattle.names.proofs.Flaws.{flaws_more, part_long, part_at}
use Rattle.names.proofs.next_name_bytes.Goals as goal

pub loop-i-preserved : goal.loop-i-preserved
loop-i-preserved c =
    let a = c.args in
    let at = c.loop-i in
    let found = c.flaws_of-flaws.ensures in
    let long = part_long a.s.now a.start 8 c.requires in record {
      few = omega (arith, found.1);
      rest =
          flaws_more (take 8 (drop a.start a.s.now)) at.i _ _ (omega (arith, long)) at.invariant.rest
          (found.0 ∙ ap flaw (sym (part_at a.s.now a.start 8 at.i c.loop-i-test.true)));
    }

pub returns : goal.returns
returns c =
    let a = c.args in
    let long = part_long a.s.now a.start 8 c.requires in
    sym (all_done name_byte _ _ {i = c.loop-i.i} (omega (arith, long)) c.loop-i.invariant.rest)
