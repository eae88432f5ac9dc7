-- `shapes::last_variant` meets its contract: the kind's row says it. Assumes nothing.
use mathlib.Core.Path.{◌∙◌, ap}
use native.Mathlib.Omega.{arith}
use Rattle.shapes.specs.declared.Kind.{Kind}
use Rattle.shapes.proofs.Says.{last_said}
use Rattle.shapes.proofs.last_variant.Goals as goal

pub returns : goal.returns
returns c = ap (λ (k : Kind). k.last) c.kind_of.ensures ∙ last_said c.args.k (omega arith)
