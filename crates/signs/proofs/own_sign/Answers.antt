-- `signs::own_sign` meets its contract: each arm by its kind. Assumes nothing.
use Rattle.records.specs.declared.kind.Kind.TheVariants.{IntConst, Unary}
use Rattle.records.proofs.Numbers.{in_arm, not_in_arm, no_kind}
use Rattle.signs.specs.Sign.{own_sign}
use Rattle.signs.proofs.own_sign.Goals as goal

pub returns-in_err-kind : goal.returns-in_err-kind
unfolding own_sign
returns-in_err-kind c =
    let no = no_kind c.args.r.kind c.kind.ensures c.in_err-kind.was in
    simp (c.from_residual.ensures, no IntConst, no Unary)

pub returns-in-IntConst : goal.returns-in-IntConst
unfolding own_sign
returns-in-IntConst c = simp (in_arm c.args.r.kind c.kind.ensures c.in_ok-kind.was c.in-IntConst.is, c.int_sign.ensures)

pub returns-in-Unary : goal.returns-in-Unary
unfolding own_sign
returns-in-Unary c = simp (in_arm c.args.r.kind c.kind.ensures c.in_ok-kind.was c.in-Unary.is, c.unary_sign.ensures)

pub returns-in_default : goal.returns-in_default
unfolding own_sign
returns-in_default c =
    let no = not_in_arm c.args.r.kind c.kind.ensures c.in_ok-kind.was in
    simp (no IntConst c.in_default.not-IntConst, no Unary c.in_default.not-Unary)
