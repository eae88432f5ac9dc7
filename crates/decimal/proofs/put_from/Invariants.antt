-- `decimal::put_from` meets its contract. The invariant says where the writing stands: what is left, written from here on, gives the room with all digits (Places). Assumes nothing.
use Prim.Native.Nat.{◌+◌}
use lib.ListN.{length}
use lib.Seq.{sets}
use Rattle.decimal.specs.Decimal.{decimal}
use Rattle.decimal.proofs.Places.{Standing}
use Rattle.decimal.proofs.put_from.Given as goal

abbrev pub invariant-loop-place : goal.invariant-loop-place
invariant-loop-place l = Standing (sets l.initial.room l.at (decimal l.n)) l.n (l.at + length (decimal l.n)) l.room l.left l.power l.place
