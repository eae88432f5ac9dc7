-- `Source::enter` meets its contract: a record is of a kind where its number is the kind's. Assumes nothing.
use mathlib.Core.Path.{◌≡◌, sym, ap, ◌∙◌}
use Rattle.std.proofs.Common.{rules}
use Rattle.std.specs.Prelude.{None, Some}
use Rattle.records.specs.declared.Record.{Record}
use Rattle.records.proofs.Numbers.{in_arm, of_number}
use Rattle.leaves.proofs.Source.enter.Goals as goal

pub returns-in_default : goal.returns-in_default
returns-in_default c =
    λ q.
    let h : None ≡ Some c.args.kind = sym c.in_default.is ∙ c.kind.ensures ∙ of_number c.args.kind _ (ap (λ (r : Record). r.kind) c.record_at-r.ensures ∙ q) in
    absurd cc

pub returns-then-eq : goal.returns-then-eq
returns-then-eq c =
    let same : c.in-Some.found ≡ c.args.kind = search rules in
    (c.record_at-r.ensures, in_arm _ c.kind.ensures c.in-Some.is same, c.past.ensures)

pub returns : goal.returns
returns c =
    let other : c.in-Some.found ≡ c.args.kind → ⊥ = search rules in
    λ q.
    let h : Some c.in-Some.found ≡ Some c.args.kind = sym c.in-Some.is ∙ c.kind.ensures ∙ of_number c.args.kind _ (ap (λ (r : Record). r.kind) c.record_at-r.ensures ∙ q) in
    other cc
