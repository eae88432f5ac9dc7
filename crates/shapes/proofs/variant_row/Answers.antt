-- `shapes::variant_row` meets its contract: what it reads lies within. Assumes nothing.
use native.Mathlib.Omega.{arith}
use Rattle.shapes.proofs.Says.{row_within}
use Rattle.shapes.proofs.variant_row.Goals as goal

pub bounds-from : goal.bounds-from
bounds-from c = rw (c.from.ensures, c.kind_of.ensures, c.from-2.ensures) (row_within c.args.k (omega arith) c.args.v c.requires)
