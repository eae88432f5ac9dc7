-- Each byte is tested against its limit, and none is without one. Assumes nothing.
use Rattle.std.proofs.Common.{rules, tests, ℕ, leb, sym, ◌∙◌}
use Rattle.std.proofs.lemmas.Iterator.{YieldsList-from_slice, YieldsList-from_zip}
use Rattle.std.proofs.lemmas.Iterator.Search.{all_from_yields_List}
use borrow.Author.Tests.{lt-leb}
use Rattle.settings.proofs.Range.{range_too_long, range_by_pairs}
use Rattle.settings.proofs.in_range.Goals as goal

pub returns-then-bytes-limits : goal.returns-then-bytes-limits
returns-then-bytes-limits c =
    let bytes = c.args.bytes.now in
    let limits = c.args.limits.now in
    all_from_yields_List (λ (p : ℕ × ℕ). leb p.0 p.1) c.all.new.self _ c.all.result c.all.ensures.ran (YieldsList-from_zip (YieldsList-from_slice bytes cc) (YieldsList-from_slice limits cc)) (λ x b q k. search (rules, tests))
    ∙ range_by_pairs bytes limits c.if-bytes-limits.true

pub returns-else-bytes-limits : goal.returns-else-bytes-limits
returns-else-bytes-limits c = lt-leb _ _ c.if-bytes-limits.false ∙ sym (range_too_long _ _ c.if-bytes-limits.false)
