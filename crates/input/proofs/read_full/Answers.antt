-- A turn of the loop puts what was read behind the front.
use Rattle.std.proofs.Common.{rules}
use Rattle.input.proofs.Front.{read_behind}
use Rattle.input.proofs.read_full.Goals as goal

pub loop-done-preserved : goal.loop-done-preserved
loop-done-preserved g c = record {
  within = search rules;
  consumed = read_behind _ _ _ c.read.result _ _ c.loop-done.buf c.read.new.buf _ c.loop-done.invariant.within c.loop-done.invariant.consumed c.read.ensures.bound c.read.ensures.bytes c.unwrap_or-n.ensures c.if-n-eq0.false;
}
