-- `joined::own_of` meets its contract: each arm by its kind. Assumes nothing.
use mathlib.Core.Path.{sym, ap, ◌∙◌}
use Rattle.records.specs.declared.kind.Kind.TheVariants.{IntConst, Unary}
use Rattle.records.proofs.Numbers.{in_arm, not_in_arm, no_kind}
use Rattle.signs.specs.Sign.{byte_of}
use Rattle.joined.specs.Stack.{own_of}
use Rattle.joined.proofs.own_of.Goals as goal

pub returns-in_default : goal.returns-in_default
unfolding own_of
returns-in_default c =
    let no = no_kind c.args.r.kind c.kind.ensures c.in_default.is in
    simp (no IntConst, no Unary)

pub returns-in-IntConst : goal.returns-in-IntConst
unfolding own_of
returns-in-IntConst c = simp (in_arm c.args.r.kind c.kind.ensures c.in-Some.is c.in-IntConst.is)

pub returns-in-Some-of_unary : goal.returns-in-Some-of_unary
unfolding own_of
returns-in-Some-of_unary c =
    let op = sym (ap byte_of c.in-Some-of_unary.is) ∙ c.of_unary.ensures in
    simp (in_arm c.args.r.kind c.kind.ensures c.in-Some.is c.in-Unary.is, op)

pub returns-in-None : goal.returns-in-None
unfolding own_of
returns-in-None c =
    let none = sym (ap byte_of c.in-None.is) ∙ c.of_unary.ensures in
    simp (in_arm c.args.r.kind c.kind.ensures c.in-Some.is c.in-Unary.is, ← none)

pub returns-in_default-kind : goal.returns-in_default-kind
unfolding own_of
returns-in_default-kind c =
    let no = not_in_arm c.args.r.kind c.kind.ensures c.in-Some.is in
    simp (no IntConst c.in_default-kind.not-IntConst, no Unary c.in_default-kind.not-Unary)
