-- `joined::children` meets its contract: by the shape of the record's kind and variant. Assumes nothing.
use mathlib.Core.Path.{◌∙◌, ap, sym}
use lib.ListN.{length}
use borrow.Author.Tests.{le-ltb, lt-ltb}
use Rattle.shapes.specs.Shape.{Shape, classes}
use Rattle.joined.specs.Stack.{child_count}
use Rattle.joined.proofs.children.Goals as goal

pub returns-then-last_variant-r : goal.returns-then-last_variant-r
unfolding child_count
returns-then-last_variant-r c = simp (← c.last_variant.ensures, lt-ltb _ _ c.if-last_variant-r.true)

pub returns : goal.returns
unfolding child_count
returns c =
    c.children_in.ensures
    ∙ ap (λ (s : Shape). length (classes c.args.r.count s.parts)) c.shape_of.ensures.says
    ∙ sym (simp (← c.last_variant.ensures, le-ltb _ _ c.if-last_variant-r.false))
