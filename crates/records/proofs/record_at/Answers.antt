-- `records::record_at` meets its contract: where an array stands, it is the record. Assumes nothing.
use mathlib.Core.Path.{sym, ◌∙◌}
use mathlib.Core.List.{[]}
use native.Mathlib.Omega.{arith}
use Rattle.records.specs.Record.{record_count}
use Rattle.records.proofs.Laws.{all_zero, record_behind}
use Rattle.records.proofs.Chunks.{record_in_arrays}
use Rattle.records.proofs.record_at.Goals as goal

pub returns-in-Some : goal.returns-in-Some
unfolding record_count
returns-in-Some c =
    let here = c.in-Some.ensures.lookup.3 in
    let front = c.as_chunks.ensures.front in
    c.of.ensures ∙ record_in_arrays c.args.records.now c.args.i (omega (arith, here.0, c.as_chunks.ensures.front_len)) (here.1 [] ∙ cc)

pub returns-in-None : goal.returns-in-None
unfolding record_count
returns-in-None c =
    all_zero c.default.result c.default.ensures
    ∙ sym (record_behind c.args.records.now c.args.i (omega (arith, c.in-None.ensures.lookup.3, c.as_chunks.ensures.front_len)))
