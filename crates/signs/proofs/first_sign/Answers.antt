-- `signs::first_sign` meets its contract. The invariant: the sign at record i is the sign at the start. Assumes nothing.
use mathlib.Core.Path.{sym, ◌∙◌}
use native.Mathlib.Omega.{arith}
use Rattle.signs.proofs.Step.{next_sign, own_sign_is, no_sign_out}
use Rattle.signs.proofs.first_sign.Goals as goal

pub returns-then-not-goes_on : goal.returns-then-not-goes_on
returns-then-not-goes_on c =
    let l = c.loop-i in
    let rs = c.args.records.now in
    λ ns.
    c.own_sign.ensures
    ∙ own_sign_is rs l.i c.record_at-r.ensures c.record_at-next.ensures c.of_expr.ensures (sym c.goes_on.ensures ∙ c.if-not-goes_on.true) ns
    ∙ l.invariant ns

pub loop-i-preserved : goal.loop-i-preserved
loop-i-preserved c =
    let l = c.loop-i in
    let rs = c.args.records.now in
    λ ns. next_sign rs l.i c.record_at-r.ensures c.record_at-next.ensures c.of_expr.ensures (sym c.goes_on.ensures ∙ c.if-not-goes_on.false) ns ∙ l.invariant ns

pub returns : goal.returns
returns c =
    let l = c.loop-i in
    λ ns. no_sign_out c.args.records.now l.i (omega (arith, c.whole_records-i-end.ensures, c.loop-i-test.false)) ns ∙ l.invariant ns
