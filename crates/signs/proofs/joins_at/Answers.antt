-- `signs::joins_at` meets its contract: by the tests. Assumes nothing.
use mathlib.Core.Path.{◌≡◌, ap, ◌∙◌}
use borrow.Author.Tests.{lt-leb}
use Rattle.std.proofs.Common.{rules, None}
use Rattle.records.specs.declared.Record.{Record}
use Rattle.signs.specs.Sign.{byte_of}
use Rattle.signs.proofs.Step.{no_operator, in_parentheses, by_sign}
use Rattle.signs.proofs.joins_at.Goals as goal

pub returns-then-is_none : goal.returns-then-is_none
returns-then-is_none c =
    let is : c.args.op ≡ None = search rules in
    no_operator c.args.records.now c.args.i (byte_of c.args.op) c.args.most (ap byte_of is)

pub returns-then-of_expr-most : goal.returns-then-of_expr-most
returns-then-of_expr-most c =
    let a = c.args in
    let r = c.record_at-next.ensures in
    λ ns.
    c.joins.ensures
    ∙ by_sign a.records.now a.i (byte_of a.op) a.most (ap (λ (r : Record). r.kind) r) (ap (λ (r : Record). r.variant) r) c.of_expr.ensures c.if-of_expr-most.true c.first_sign.ensures ns

pub returns-else-of_expr-most : goal.returns-else-of_expr-most
returns-else-of_expr-most c =
    let a = c.args in
    let r = c.record_at-next.ensures in
    λ ns.
    lt-leb _ _ c.if-of_expr-most.false
    ∙ in_parentheses a.records.now a.i (byte_of a.op) a.most (ap (λ (r : Record). r.kind) r) (ap (λ (r : Record). r.variant) r) c.of_expr.ensures c.if-of_expr-most.false ns
