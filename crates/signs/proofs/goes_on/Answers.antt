-- `signs::goes_on` meets its contract: by the tests. Assumes nothing.
use mathlib.Core.Path.{◌≡◌, sym, ◌∙◌}
use borrow.Author.Tests.{ne_eqb}
use Rattle.std.proofs.Common.{rules, Some}
use Rattle.records.specs.declared.kind.Kind.TheVariants.{FunCall}
use Rattle.records.proofs.Numbers.{number_of, of_number}
use Rattle.signs.specs.Sign.{goes_on}
use Rattle.signs.proofs.goes_on.Goals as goal

pub returns-then-eq : goal.returns-then-eq
unfolding goes_on
returns-then-eq c =
    let is : c.kind.result ≡ Some FunCall = search rules in
    simp (c.if-eq.true, number_of c.args.r.kind FunCall (sym c.kind.ensures ∙ is))

pub returns-else-eq : goal.returns-else-eq
unfolding goes_on
returns-else-eq c =
    let not : c.kind.result ≡ Some FunCall → ⊥ = search rules in
    simp (ne_eqb c.args.r.kind 12 (λ e. not (c.kind.ensures ∙ of_number FunCall c.args.r.kind e)), ← c.first_below.ensures)
