-- `glsl::glsl_joined` meets its contract: its place is small. Assumes nothing.
use mir.Syntax.{w64}
use mathlib.Core.Path.{sym, ◌∙◌, ap, subst}
use Prim.Native.Nat.{◌<◌, ◌^◌}
use mir.Facts.{to_z-of_z}
use Rattle.glsl.specs.Joined.{Whether, joined_place, joined_bits}
use Rattle.glsl.proofs.Question.{question_small}
use Rattle.glsl.proofs.glsl_joined.Goals as goal

pub joined_bits-requires : goal.joined_bits-requires
joined_bits-requires c =
    subst (λ (o : Whether). joined_place o < 2 ^ 32) (sym c.joined.ensures.answered) (question_small c.args.records.now c.args.names.now)

pub returns : goal.returns
returns c = to_z-of_z {w = w64} (record { sfits = c.joined_bits.type_inv }) ∙ c.joined_bits.ensures ∙ ap joined_bits c.joined.ensures.answered
