-- `leaves::past` meets its contract. Assumes nothing.
use mathlib.Core.Path.{sym, ◌∙◌, ap}
use mathlib.Core.Bool.{Bool, cond}
use Prim.Native.Nat.{◌+◌}
use native.Mathlib.Omega.{arith}
use Rattle.records.proofs.Laws.{if_stands, bytes_stand}
use Rattle.leaves.specs.Shown.{before}
use Rattle.leaves.proofs.past.Goals as goal

pub overflow_add-behind : goal.overflow_add-behind
overflow_add-behind c = omega (arith, bytes_stand _ _ (if_stands _ _ c.stands.ensures c.if-stands.true))

pub returns : goal.returns
returns c = ap (λ (b : Bool). before (cond b (c.args.pen.next + 1) c.args.pen.next) c.args.pen) (sym c.if-stands.false ∙ c.stands.ensures)
