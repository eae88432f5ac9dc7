-- `accept::alone` meets its contract: where a record stands, there is one behind it to speak of. Assumes nothing.
use native.Mathlib.Omega.{arith}
use Rattle.records.proofs.Laws.{bytes_stand, if_stands}
use Rattle.accept.proofs.alone.Goals as goal

pub contents-requires : goal.contents-requires
contents-requires c = omega (arith, bytes_stand _ _ (if_stands _ _ c.stands.ensures c.if-not-stands.false))
