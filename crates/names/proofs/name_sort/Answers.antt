-- `names::name_sort` meets its contract: each sort by the two tests. Assumes nothing.
use mathlib.Core.Path.{sym, ◌∙◌}
use Rattle.words.proofs.Sorts.{is_no_name, is_ordinary}
use Rattle.names.proofs.name_sort.Goals as goal

pub returns-then-name_form : goal.returns-then-name_form
returns-then-name_form c =
    sym
    (is_ordinary _ (sym c.name_form.ensures ∙ c.if-name_form.true) (sym c.is_reserved.ensures ∙ c.if-is_reserved.false))

pub returns-else-name_form : goal.returns-else-name_form
returns-else-name_form c = sym (is_no_name _ (sym c.name_form.ensures ∙ c.if-name_form.false))
