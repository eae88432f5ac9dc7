-- `leaves::dot_apart` meets its contract: by the tests. Assumes nothing.
use mathlib.Core.Path.{refl, sym, ◌∙◌}
use Rattle.text.specs.Joins.{is_int}
use Rattle.text.specs.Reading.{expr, from}
use borrow.Author.Tests.{not-true, not-false}
use Rattle.leaves.proofs.Apart.{off, unneeded, needed, int_at}
use Rattle.leaves.proofs.dot_apart.Goals as goal

pub returns-then-not-asked : goal.returns-then-not-asked
returns-then-not-asked c =
    let a = c.args in
    λ s f ns e. off s f (is_int (expr (from a.src.now.tree.records.now ns a.at)).tree) (sym e ∙ not-true a.asked c.if-not-asked.true-raw)

pub returns-then-is : goal.returns-then-is
returns-then-is c =
    let a = c.args in
    λ s f ns e. needed s f (is_int (expr (from a.src.now.tree.records.now ns a.at)).tree) (int_at a.src.now.tree.records.now a.at refl ns ∙ sym c.is.ensures ∙ c.if-is.true) (sym e ∙ not-false a.asked c.if-not-asked.false-raw) c.write_char.ensures

pub returns : goal.returns
returns c =
    let a = c.args in
    λ s f ns e. unneeded s f (is_int (expr (from a.src.now.tree.records.now ns a.at)).tree) (int_at a.src.now.tree.records.now a.at refl ns ∙ sym c.is.ensures ∙ c.if-is.false)
