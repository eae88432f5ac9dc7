-- `joined::sign_of` meets its contract: each arm by its kind. Assumes nothing.
use mathlib.Core.Path.{◌≡◌}
use mathlib.Core.Bool.{false}
use lib.Dec.{eqb}
use Rattle.std.proofs.Common.{rules}
use Rattle.records.specs.declared.kind.Kind.TheVariants.{IntConst, Unary, FunCall}
use Rattle.records.proofs.Numbers.{in_arm, not_in_arm, no_kind}
use Rattle.signs.specs.Sign.{first_below, own_sign, goes_on}
use Rattle.signs.proofs.Step.{none_below}
use Rattle.joined.specs.Stack.{bare_sign, sign_of}
use Rattle.joined.proofs.sign_of.Goals as goal
use Rattle.joined.proofs.sign_of.Goals.{in_default-via-in-Some+in_default, in_default-via-in_default}

pub returns-in-Some-IntConst : goal.returns-in-Some-IntConst
unfolding sign_of goes_on own_sign first_below
returns-in-Some-IntConst c = simp (in_arm c.args.r.kind c.kind.ensures c.in-Some-IntConst.is c.in-Some-IntConst.field-0-is, none_below, c.int_sign.ensures)

pub returns-in-Some-Unary : goal.returns-in-Some-Unary
unfolding sign_of goes_on own_sign first_below
returns-in-Some-Unary c = simp (in_arm c.args.r.kind c.kind.ensures c.in-Some-Unary.is c.in-Some-Unary.field-0-is, none_below, c.unary_sign.ensures)

pub returns-in-Some-FunCall : goal.returns-in-Some-FunCall
unfolding sign_of goes_on
returns-in-Some-FunCall c = simp (in_arm c.args.r.kind c.kind.ensures c.in-Some-FunCall.is c.in-Some-FunCall.field-0-is)

pub returns-in_default : goal.returns-in_default
unfolding sign_of goes_on own_sign bare_sign
returns-in_default c =
    let k = c.args.r.kind in
    let others : (eqb k 2 ≡ false) × (eqb k 7 ≡ false) × (eqb k 12 ≡ false) = elim c.in_default.branch [
      | in_default-via-in-Some+in_default w ↦
          let no = not_in_arm k c.kind.ensures w.in_default.is in
          let int : w.in_default.field-0 ≡ IntConst → ⊥ = search rules in
          let unary : w.in_default.field-0 ≡ Unary → ⊥ = search rules in
          let call : w.in_default.field-0 ≡ FunCall → ⊥ = search rules in
          (no IntConst int, no Unary unary, no FunCall call)
      | in_default-via-in_default w ↦ let no = no_kind k c.kind.ensures w.in_default.is in (no IntConst, no Unary, no FunCall)
    ] in
    simp (others.0, others.1, others.2, c.bare_sign.ensures, c.first_below.ensures)
