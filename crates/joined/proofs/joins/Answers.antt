-- `joined::joins` meets its contract: each arm by its kind. Assumes nothing.
use mathlib.Core.Path.{sym, ap, ◌∙◌}
use Prim.Native.Char.{code}
use borrow.Author.Tests.{ne_eqb}
use Rattle.records.specs.declared.kind.Kind.TheVariants.{Unary, Binary, Dot}
use Rattle.records.proofs.Numbers.{in_arm, not_in_arm, no_kind}
use Rattle.signs.specs.Sign.{byte_of, joins_with}
use Rattle.joined.specs.Stack.{own_byte, joins_at, own_of}
use Rattle.joined.proofs.Own.{is_point}
use Rattle.joined.proofs.joins.Goals as goal

pub returns-in_default : goal.returns-in_default
unfolding joins_at
returns-in_default c =
    let no = no_kind c.args.r.kind c.kind.ensures c.in_default.is in
    simp (no Unary, no Binary, no Dot)

pub returns-in-Some-of_unary : goal.returns-in-Some-of_unary
unfolding joins_at own_of
returns-in-Some-of_unary c =
    let op = sym (ap byte_of c.in-Some-of_unary.is) ∙ c.of_unary.ensures in
    simp (in_arm c.args.r.kind c.kind.ensures c.in-Some.is c.in-Unary.is, c.joins.ensures, c.under_sign.ensures, op)

pub returns-in-None : goal.returns-in-None
unfolding joins_at own_of joins_with
returns-in-None c =
    let none = sym (ap byte_of c.in-None.is) ∙ c.of_unary.ensures in
    simp (in_arm c.args.r.kind c.kind.ensures c.in-Some.is c.in-Unary.is, ← none)

pub returns-in-Binary : goal.returns-in-Binary
unfolding joins_at
returns-in-Binary c = simp (in_arm c.args.r.kind c.kind.ensures c.in-Some.is c.in-Binary.is, c.joins-in-Binary.ensures, c.of_binary.ensures)

pub returns-in-IntConst : goal.returns-in-IntConst
unfolding joins_at
returns-in-IntConst c = simp (in_arm c.args.r.kind c.kind.ensures c.in-Some.is c.in-Dot.is, c.in-IntConst.is)

pub returns-in_default-matches : goal.returns-in_default-matches
unfolding joins_at
returns-in_default-matches c =
    let no_point = ne_eqb (own_byte c.args.next.own) (code ".") (λ e. c.in_default-matches.not-IntConst (is_point c.args.next.own e)) in
    simp (in_arm c.args.r.kind c.kind.ensures c.in-Some.is c.in-Dot.is, no_point)

pub returns-in_default-kind : goal.returns-in_default-kind
unfolding joins_at
returns-in_default-kind c =
    let no = not_in_arm c.args.r.kind c.kind.ensures c.in-Some.is in
    let w = c.in_default-kind in
    simp (no Unary w.not-Unary, no Binary w.not-Binary, no Dot w.not-Dot)
