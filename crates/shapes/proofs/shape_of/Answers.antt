-- `shapes::shape_of` meets its contract: the row's parts are among the parts, and it says what the definition says. Assumes nothing.
use mathlib.Core.Path.{◌∙◌, ap}
use Prim.Native.Nat.{◌≤◌}
use native.Mathlib.Omega.{arith}
use Rattle.shapes.specs.Table.{row_in}
use Rattle.shapes.proofs.Says.{shape_said, parts_within, few_parts}
use Rattle.shapes.proofs.shape_of.Goals as goal

pub slice_bounds-result-count : goal.slice_bounds-result-count
slice_bounds-result-count c =
    let within = parts_within c.args.k (omega arith) c.args.v c.requires in
    rw (c.from.ensures, c.from-2.ensures, c.variant_row-row.ensures) within.0

pub slice_bounds-result-start : goal.slice_bounds-result-start
slice_bounds-result-start c =
    let within = parts_within c.args.k (omega arith) c.args.v c.requires in
    let h : c.from.result ≤ c.from-2.result = rw (c.from.ensures, c.from-2.ensures, c.variant_row-row.ensures) within.0 in
    omega (arith, h)

pub slice_bounds-result-end : goal.slice_bounds-result-end
slice_bounds-result-end c =
    let within = parts_within c.args.k (omega arith) c.args.v c.requires in
    let h : c.from-2.result ≤ 57 = rw (c.from-2.ensures, c.variant_row-row.ensures) within.1 in
    omega (arith, h)

pub returns : goal.returns
returns c = record {
  says = rw (c.from.ensures, c.from-2.ensures) (ap row_in c.variant_row-row.ensures ∙ shape_said c.args.k (omega arith) c.args.v c.requires);
  few = rw (c.from.ensures, c.from-2.ensures, c.variant_row-row.ensures) (few_parts c.args.k (omega arith) c.args.v c.requires);
}
