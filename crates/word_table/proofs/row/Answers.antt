-- `word_table::row` meets its contract: the byte behind the widest text is the length, and the text stands at the row's start. Assumes nothing.
use mathlib.Core.Path.{◌≡◌, sym, ◌∙◌, ap}
use Prim.Native.Nat.{◌+◌, ◌*◌, ◌-◌}
use lib.ListN.{length}
use Rattle.word_table.specs.Table.{text_at}
use native.Mathlib.Omega.{arith}
use Rattle.word_table.proofs.Places.{text_fits, table_length, no_row, length_here, text_here}
use Rattle.word_table.proofs.row.Goals as goal

pub returns-then-k-ge-ROWS : goal.returns-then-k-ge-ROWS
returns-then-k-ge-ROWS c = sym (no_row _ c.if-k-ge-ROWS.true)

pub slice_bounds-result-end-2 : goal.slice_bounds-result-end-2
slice_bounds-result-end-2 c =
    let a = c.args in
    let e = length_here c.table.result.now c.table.ensures a.k c.if-k-ge-ROWS.false in
    omega (arith, e, text_fits a.k, ap length c.table.ensures, table_length)

pub returns : goal.returns
returns c =
    let a = c.args in
    let e = length_here c.table.result.now c.table.ensures a.k c.if-k-ge-ROWS.false in
    let n : 24 * a.k + c.from.result - 24 * a.k ≡ length (text_at a.k) = omega (arith, e) in
    text_here c.table.result.now c.table.ensures a.k c.if-k-ge-ROWS.false _ n
