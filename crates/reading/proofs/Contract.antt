-- What is said of calls (Demand3, Spaces) is said of print_unit's and print_expr's contracts: what the toolchain makes of the contract that stands in crate glsl's source is `Promised`, of which a `Call` is made.
-- (That joined's contract is `Answers` is glsl's own law, proofs/Contracts.) Assumes nothing.
use mathlib.Core.Path.{◌≡◌}
use base.Logic as Logic
use contract.Lifetimes as Lifetimes
use contract.Monad as Monad
use contract.Notation as Notation
use seplogic.Ra.Ura as Ura
use prog.Memory as Memory
use prog.Routine as Routine
use Rattle.glsl.specs.contracts.print_unit as PrintUnit
use Rattle.glsl.specs.contracts.print_expr as PrintExpr
use Rattle.glsl.specs.Printed.{part_of, number_of, place_of}
use Rattle.glsl.proofs.Contracts as Contracts
use Rattle.draft.specs.declared.Root.TheVariants as Root
use Rattle.reading.specs.Call.{Promised}
use types.Logic.{Logic}

module _ {M : Type 1} {𝓤 : Ura.Ura M} (𝓛 : Logic 𝓤) (mem : Memory.Memory → Logic.SProp 𝓤) (run : Routine.Routine → Monad.Fun 𝓤) where
  open Notation.connectives 𝓤 use {⌜◌⌝, ⊤ₛ}

  pub unit_promised : (κs : Lifetimes.Lfts 4) (settings records names room settings' records' names' room' g r : _)
      → let c = PrintUnit.clauses 𝓛 mem run κs (settings, (records, (names, (room, tt)))) in (c.requires g ≡ ⊤ₛ) × (c.ensures g r (settings', (records', (names', (room', tt))))
      ≡ ⌜ Promised Root.Unit settings.now records.now names.now room.now (part_of r) (number_of r) (place_of r) ⌝)
  unit_promised = Contracts.print_unit 𝓛 mem run

  pub expr_promised : (κs : Lifetimes.Lfts 4) (settings records names room settings' records' names' room' g r : _)
      → let c = PrintExpr.clauses 𝓛 mem run κs (settings, (records, (names, (room, tt)))) in (c.requires g ≡ ⊤ₛ) × (c.ensures g r (settings', (records', (names', (room', tt))))
      ≡ ⌜ Promised Root.Expr settings.now records.now names.now room.now (part_of r) (number_of r) (place_of r) ⌝)
  expr_promised = Contracts.print_expr 𝓛 mem run
