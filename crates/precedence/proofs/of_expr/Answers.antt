-- `precedence::of_expr` meets its contract: each kind by its number. Assumes nothing.
use mathlib.Core.Path.{◌≡◌, ◌∙◌}
use Prim.Native.Nat.{ℕ}
use Rattle.std.proofs.Common.{rules, inl, inr}
use Rattle.records.specs.declared.kind.Kind.{Kind}
use Rattle.records.specs.Kind.{number}
use Rattle.records.specs.declared.kind.Kind.TheVariants.{Unary, Binary, Ternary, Assignment, Bracket, FunCall, Dot, PostInc, PostDec, Comma}
use Rattle.records.proofs.Numbers.{by_kind, not_in_arm, no_kind}
use Rattle.precedence.specs.Precedence.{precedence_of}
use Rattle.precedence.proofs.of_expr.Goals as goal

pub returns-in_default : goal.returns-in_default
unfolding precedence_of
returns-in_default c =
    let no = no_kind c.args.kind c.of.ensures c.in_default.is in
    simp (no Unary, no Binary, no Ternary, no Assignment, no Bracket, no FunCall, no Dot, no PostInc, no PostDec, no Comma)

pub returns-then-eq : goal.returns-then-eq
unfolding precedence_of
returns-then-eq c =
    let e : c.in-Some.kind ≡ Binary = search rules in
    c.of_binary_op.ensures.0 ∙ by_kind c.args.kind c.of.ensures (λ (k : ℕ). precedence_of k c.args.v) c.in-Some.is e

pub returns-in-Unary : goal.returns-in-Unary
unfolding precedence_of
returns-in-Unary c = by_kind c.args.kind c.of.ensures (λ (k : ℕ). precedence_of k c.args.v) c.in-Some.is c.in-Unary.is

pub returns-in-Ternary : goal.returns-in-Ternary
unfolding precedence_of
returns-in-Ternary c = by_kind c.args.kind c.of.ensures (λ (k : ℕ). precedence_of k c.args.v) c.in-Some.is c.in-Ternary.is

pub returns-in-Assignment : goal.returns-in-Assignment
unfolding precedence_of
returns-in-Assignment c = by_kind c.args.kind c.of.ensures (λ (k : ℕ). precedence_of k c.args.v) c.in-Some.is c.in-Assignment.is

pub returns-in-Comma : goal.returns-in-Comma
unfolding precedence_of
returns-in-Comma c = by_kind c.args.kind c.of.ensures (λ (k : ℕ). precedence_of k c.args.v) c.in-Some.is c.in-Comma.is

pub returns-in-Bracket : goal.returns-in-Bracket
unfolding precedence_of
returns-in-Bracket c =
    let f = λ (k : ℕ). precedence_of k c.args.v in
    let arm : (x : Kind) → c.in-Some.kind ≡ x → f (number x) ≡ f c.args.kind = λ x. by_kind c.args.kind c.of.ensures f c.in-Some.is in
    elim c.in-Bracket.is [
      | inl e ↦ arm Bracket e
      | inr r ↦
          elim r [
            | inl e ↦ arm FunCall e
            | inr r ↦ elim r [ inl e ↦ arm Dot e | inr r ↦ elim r [ inl e ↦ arm PostInc e | inr e ↦ arm PostDec e ] ]
          ]
    ]

pub returns-in_default-kind : goal.returns-in_default-kind
unfolding precedence_of
returns-in_default-kind c =
    let no = not_in_arm c.args.kind c.of.ensures c.in-Some.is in
    let binary : c.in-Some.kind ≡ Binary → ⊥ = search rules in
    let w = c.in_default-kind in
    simp (no Unary w.not-Unary, no Binary binary, no Ternary w.not-Ternary, no Assignment w.not-Assignment, no Bracket w.not-Bracket, no FunCall w.not-FunCall, no Dot w.not-Dot, no PostInc w.not-PostInc, no PostDec w.not-PostDec, no Comma w.not-Comma)
