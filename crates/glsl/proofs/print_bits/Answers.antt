-- `glsl::print_bits` meets its contract: no number of the answer has more than 32 bits. Assumes nothing.
use mir.Syntax.{w64}
use mathlib.Core.Path.{sym, ◌∙◌, ap, subst}
use Prim.Native.Nat.{◌<◌, ◌^◌}
use native.Mathlib.Omega.{arith}
use mir.Facts.{to_z-of_z}
use Rattle.glsl.specs.Printed.{Printed, printed_bits}
use Rattle.glsl.specs.Root.{value}
use Rattle.glsl.proofs.Accepted.{small}
use Rattle.glsl.proofs.print_bits.Goals as goal

pub printed_bits-requires : goal.printed_bits-requires
printed_bits-requires c =
    let a = c.args in
    subst (λ (o : Printed). value o < 2 ^ 32) (sym c.print_into.ensures.answered) (small a.root a.settings.now a.records.now a.names.now a.room.now (λ p. omega (arith, c.shared_slice_known-2-1.given p)))

pub returns : goal.returns
returns c = record {
  answered = to_z-of_z {w = w64} (record { sfits = c.printed_bits.type_inv }) ∙ c.printed_bits.ensures ∙ ap printed_bits c.print_into.ensures.answered;
  left = c.print_into.ensures.left;
}
