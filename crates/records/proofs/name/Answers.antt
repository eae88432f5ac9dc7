-- `records::name` meets its contract: the part that the record names. Assumes nothing.
use mathlib.Core.Path.{◌∙◌, ap}
use Rattle.records.specs.Record.{text_of}
use Rattle.records.proofs.name.Goals as goal

pub returns : goal.returns
returns c =
    let x = c.args in
    c.part_of.ensures ∙ ap (text_of x.names.now) c.record_at-r.ensures
