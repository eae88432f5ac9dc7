-- `records::part_of` meets its contract, by the law of what `get` gives. Assumes nothing.
use mathlib.Core.Path.{refl, ◌∙◌, ap}
use mathlib.Core.List.{List}
use Prim.Native.Nat.{ℕ}
use denote.Ref.{Bor}
use Rattle.records.proofs.Laws.{part_got}
use Rattle.records.proofs.part_of.Goals as goal

pub returns : goal.returns
returns c =
    let x = c.args in
    ap (λ (text : Bor (List ℕ)). text.now) c.unwrap_or.ensures ∙ part_got x.names.now x.a x.b _ c.get.result refl c.get.ensures.lookup
