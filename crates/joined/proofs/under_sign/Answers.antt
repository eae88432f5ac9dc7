-- `joined::under_sign` meets its contract: by the test. Assumes nothing.
use mathlib.Core.Path.{◌≡◌, ap}
use borrow.Author.Tests.{eq-eqb, ne_eqb}
use Rattle.std.proofs.Common.{rules, Some}
use Rattle.joined.specs.declared.ByItself.TheVariants.{Operator}
use Rattle.joined.specs.Stack.{under_sign, own_byte}
use Rattle.signs.specs.Sign.{byte_of}
use Rattle.joined.proofs.Own.{is_operator}
use Rattle.joined.proofs.under_sign.Goals as goal

pub returns-then-eq : goal.returns-then-eq
unfolding under_sign
returns-then-eq c =
    let e : c.args.operand.own ≡ Operator c.args.op = search rules in
    simp (eq-eqb (own_byte c.args.operand.own) (byte_of (Some c.args.op)) (ap own_byte e))

pub returns : goal.returns
unfolding under_sign
returns c =
    let ne : c.args.operand.own ≡ Operator c.args.op → ⊥ = search rules in
    simp (ne_eqb (own_byte c.args.operand.own) (byte_of (Some c.args.op)) (λ e. ne (is_operator c.args.operand.own c.args.op e)), c.bare_sign.ensures)
