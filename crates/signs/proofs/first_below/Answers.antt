-- `signs::first_below` meets its contract: each arm by its kind. Assumes nothing.
use mathlib.Core.Path.{ap, ◌∙◌}
use Prim.Native.Nat.{ℕ, ◌+◌}
use Rattle.std.proofs.Common.{inl, inr}
use Rattle.records.specs.declared.kind.Kind.TheVariants.{Binary, Ternary, Assignment, Bracket, Dot, PostInc, PostDec, Comma}
use Rattle.records.proofs.Numbers.{by_kind, not_in_arm, no_kind}
use Rattle.signs.specs.Sign.{first_below}
use Rattle.signs.proofs.first_below.Goals as goal

pub returns-in_default : goal.returns-in_default
unfolding first_below
returns-in_default c =
    let no = no_kind c.args.kind c.of.ensures c.in_default.is in
    simp (no Binary, no Ternary, no Assignment, no Bracket, no Dot, no PostInc, no PostDec, no Comma)

pub returns-in-Binary : goal.returns-in-Binary
unfolding first_below
returns-in-Binary c = ap (λ (n : ℕ). n + 1) c.of_binary_op.ensures.0 ∙ by_kind c.args.kind c.of.ensures (λ (k : ℕ). first_below k c.args.v) c.in-Some.is c.in-Binary.is

pub returns-in-Ternary : goal.returns-in-Ternary
unfolding first_below
returns-in-Ternary c = by_kind c.args.kind c.of.ensures (λ (k : ℕ). first_below k c.args.v) c.in-Some.is c.in-Ternary.is

pub returns-in-Assignment : goal.returns-in-Assignment
unfolding first_below
returns-in-Assignment c = by_kind c.args.kind c.of.ensures (λ (k : ℕ). first_below k c.args.v) c.in-Some.is c.in-Assignment.is

pub returns-in-Bracket : goal.returns-in-Bracket
unfolding first_below
returns-in-Bracket c =
    let f = λ (k : ℕ). first_below k c.args.v in
    let arm = by_kind c.args.kind c.of.ensures f {x = Bracket} c.in-Some.is in
    elim c.in-Bracket.is [ inl e ↦ arm e | inr e ↦ by_kind c.args.kind c.of.ensures f {x = Dot} c.in-Some.is e ]

pub returns-in-PostInc : goal.returns-in-PostInc
unfolding first_below
returns-in-PostInc c =
    let f = λ (k : ℕ). first_below k c.args.v in
    elim c.in-PostInc.is [ inl e ↦ by_kind c.args.kind c.of.ensures f {x = PostInc} c.in-Some.is e | inr e ↦ by_kind c.args.kind c.of.ensures f {x = PostDec} c.in-Some.is e ]

pub returns-in-Comma : goal.returns-in-Comma
unfolding first_below
returns-in-Comma c = by_kind c.args.kind c.of.ensures (λ (k : ℕ). first_below k c.args.v) c.in-Some.is c.in-Comma.is

pub returns-in_default-kind : goal.returns-in_default-kind
unfolding first_below
returns-in_default-kind c =
    let no = not_in_arm c.args.kind c.of.ensures c.in-Some.is in
    let w = c.in_default-kind in
    simp (no Binary w.not-Binary, no Ternary w.not-Ternary, no Assignment w.not-Assignment, no Bracket w.not-Bracket, no Dot w.not-Dot, no PostInc w.not-PostInc, no PostDec w.not-PostDec, no Comma w.not-Comma)
