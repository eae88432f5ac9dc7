-- `names::all_name_bytes` meets its contract. The invariant: the answer is what was found so far and what is left. Assumes nothing.
use Prim.Native.Nat.{◌+◌}
use native.Mathlib.Omega.{arith}
use Rattle.words.specs.Form.{name_byte}
use Rattle.names.proofs.Flaws.{all_next, all_last}
use Rattle.names.proofs.all_name_bytes.Goals as goal
use Rattle.names.proofs.all_name_bytes.Goals.{else-loop-i-test, then-loop-i-test+else-i-end-i-gt8}

pub loop-i-preserved : goal.loop-i-preserved
loop-i-preserved c =
    let at = c.loop-i in
    all_next name_byte c.args.s.now 8 at.ok at.i at.invariant c.next_name_bytes-ok.ensures

pub returns : goal.returns
returns c =
    let s = c.args.s.now in
    let at = c.loop-i in
    elim c.loop-i-test.branch [
      | else-loop-i-test w ↦ rw w.ok-is (all_last name_byte s 8 at.ok at.i at.invariant (omega arith) w.loop-i-test.false c.next_name_bytes.ensures)
      | then-loop-i-test+else-i-end-i-gt8 w ↦
          rw w.ok-is
          (all_last name_byte s 8 _ (at.i + 8) (all_next name_byte s 8 at.ok at.i at.invariant w.next_name_bytes-ok.ensures) (omega arith) (omega arith)
          c.next_name_bytes.ensures)
    ]
