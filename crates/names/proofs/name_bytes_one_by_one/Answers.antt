-- `names::name_bytes_one_by_one` meets its contract: the iterator's test is that of the definition. Assumes nothing.
use Rattle.std.proofs.Common.{rules, tests, sym, ◌∙◌}
use Rattle.std.proofs.lemmas.Iterator.{YieldsList-from_slice}
use Rattle.std.proofs.lemmas.Iterator.Search.{all_from_yields_List}
use Rattle.words.specs.Form.{name_byte}
use Rattle.names.proofs.Flaws.{all_listed, no_flaw}
use Rattle.names.proofs.name_bytes_one_by_one.Goals as goal

pub returns : goal.returns
returns c =
    all_from_yields_List name_byte _ _ _ c.all.ensures.ran (YieldsList-from_slice c.args.s.now cc) (λ x b q k. search (rules, tests, no_flaw))
    ∙ sym (all_listed name_byte c.args.s.now)
