-- `joined::walk` meets its contract. The invariant: the head, the stack and the answer are the walk's before record i. Assumes nothing.
use mathlib.Core.Path.{sym, ap, ◌∙◌}
use mathlib.Core.Bool.{false}
use mathlib.Core.List.{List, map}
use native.Mathlib.Omega.{arith}
use lib.ListN.{length, length-drop}
use Rattle.std.specs.Prelude.{Option}
use Rattle.signs.specs.Sign.{byte_of}
use Rattle.signs.specs.declared.Sign.{Sign}
use Rattle.joined.specs.Stack.{no_head}
use Rattle.joined.proofs.Steps.{begins, again}
use Rattle.joined.proofs.walk.Goals as goal

pub loop-i-init : goal.loop-i-init
loop-i-init c =
    let empty = c.new-stack.ensures in
    (rw empty (omega arith), begins c.args.records.now c.args.n ∙ ap (λ (s : List (Option Sign)). record { head = no_head; stack = map byte_of s; found = false }) (sym empty))

pub loop-i-preserved : goal.loop-i-preserved
loop-i-preserved c =
    let l = c.loop-i in
    let left = ap length c.take_off.ensures ∙ length-drop c.children.result l.stack in
    let long = ap length c.push.ensures in (
      omega (arith, left, long, l.invariant.0),
      again c.args.records.now c.args.n l.i l.stack l.head c.head_of-head.result l.found c.bare_sign.result c.loop-i-test.true (omega arith) l.invariant.1 c.record_at-r.ensures c.second.ensures c.joins-found.ensures
          c.head_of-head.ensures c.children.ensures c.take_off.ensures c.bare_sign.ensures c.push.ensures,
    )
