-- `names::few_name_bytes` meets its contract. The invariant: no flaws so far, and all is well in what is left. Assumes nothing.
use mathlib.Core.Path.{sym, ◌∙◌, ap}
use native.Mathlib.Omega.{arith}
use Rattle.word_table.specs.Table.{flaw}
use Rattle.words.specs.Form.{name_byte}
use Rattle.words.proofs.Laws.{all_done}
use Rattle.names.proofs.Flaws.{flaws_clamped}
use Rattle.names.proofs.few_name_bytes.Goals as goal

pub loop-i-preserved : goal.loop-i-preserved
loop-i-preserved c =
    let at = c.loop-i in
    let found = c.flaws_of-flaws.ensures in record {
      few = omega (arith, found.1);
      rest = flaws_clamped c.args.s.now at.i _ _ c.requires.0 at.invariant.rest (found.0 ∙ ap flaw c.byte_or_last.ensures);
    }

pub returns : goal.returns
returns c = sym (all_done name_byte c.args.s.now _ {i = c.loop-i.i} (omega arith) c.loop-i.invariant.rest)
