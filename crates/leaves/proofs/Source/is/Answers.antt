-- `Source::is` meets its contract: a record is of a kind where its number is the kind's. Assumes nothing.
use mathlib.Core.Path.{◌≡◌, refl, sym, ◌∙◌}
use mathlib.Core.Bool.{Bool, true, false}
use Rattle.std.proofs.Common.{rules}
use lib.Dec.{eqb}
use borrow.Author.Tests.{eq-eqb}
use Rattle.records.specs.Kind.{number}
use Rattle.records.specs.Record.{record_at}
use Rattle.records.proofs.Numbers.{in_arm, not_in_arm, no_kind}
use Rattle.leaves.proofs.Source.is.Goals as goal

pub returns-in_default : goal.returns-in_default
returns-in_default c = sym (no_kind _ c.kind.ensures c.in_default.is c.args.kind)

pub returns : goal.returns
returns c = go c.eq.result refl
  where
    go : (b : Bool) → c.eq.result ≡ b → c.eq.result ≡ eqb (record_at c.args.self.now.tree.records.now c.args.i).kind (number c.args.kind)
    go true e = e ∙ sym (eq-eqb _ _ (in_arm _ c.kind.ensures c.in-Some.is (search rules)))
    go false e = e ∙ sym (not_in_arm _ c.kind.ensures c.in-Some.is c.args.kind (search rules))
