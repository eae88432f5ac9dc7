-- The contracts of the public calls, as the source has them: each asks nothing of its caller, and what it promises is the proposition that the laws about it speak of: of its one outcome
-- (proofs/Unique), demand 3 and 02's #107 (crate reading); document 01's rows (proofs/Rows) are of the outcome and the text in it. By computation, so that a contract cannot be weakened alone. Assumes nothing.
use mathlib.Core.Path.{◌≡◌, refl}
use lib.IntN.{ℤ}
use base.Logic as Logic
use contract.Lifetimes as Lifetimes
use contract.Monad as Monad
use contract.Notation as Notation
use seplogic.Ra.Ura as Ura
use prog.Memory as Memory
use prog.Routine as Routine
use Rattle.text.specs.Whole.{unit_text, expr_text}
use Rattle.glsl.specs.Printed.{Printed, Prints, HandsOut, PrintsBits, unit_outcome, expr_outcome}
use Rattle.glsl.specs.Joined.{Whether, Answers, joined_outcome, joined_bits}
use Rattle.glsl.specs.contracts.print_unit_into as UnitInto
use Rattle.glsl.specs.contracts.print_expr_into as ExprInto
use Rattle.glsl.specs.contracts.print_unit as UnitPart
use Rattle.glsl.specs.contracts.print_expr as ExprPart
use Rattle.glsl.specs.contracts.glsl_print_unit as UnitBits
use Rattle.glsl.specs.contracts.glsl_print_expr as ExprBits
use Rattle.glsl.specs.contracts.joined as Question
use Rattle.glsl.specs.contracts.glsl_joined as QuestionBits
use types.Logic.{Logic}

module _ {M : Type 1} {𝓤 : Ura.Ura M} (𝓛 : Logic 𝓤) (mem : Memory.Memory → Logic.SProp 𝓤) (run : Routine.Routine → Monad.Fun 𝓤) where
  open Notation.connectives 𝓤 use {⌜◌⌝, ⊤ₛ}

  pub print_unit_into : (κs : Lifetimes.Lfts 4) (settings records names room settings' records' names' room' g : _) (r : Printed)
      → let c = UnitInto.clauses 𝓛 mem run κs (settings, (records, (names, (room, tt)))) in (c.requires g ≡ ⊤ₛ) × (c.ensures g r (settings', (records', (names', (room', tt))))
      ≡ ⌜ Prints (unit_outcome settings.now records.now names.now room.now) (unit_text settings.now records.now names.now) room.now room'.now r ⌝)
  print_unit_into κs settings records names room settings' records' names' room' g r = (refl, refl)

  pub print_expr_into : (κs : Lifetimes.Lfts 4) (settings records names room settings' records' names' room' g : _) (r : Printed)
      → let c = ExprInto.clauses 𝓛 mem run κs (settings, (records, (names, (room, tt)))) in (c.requires g ≡ ⊤ₛ) × (c.ensures g r (settings', (records', (names', (room', tt))))
      ≡ ⌜ Prints (expr_outcome settings.now records.now names.now room.now) (expr_text settings.now records.now names.now) room.now room'.now r ⌝)
  print_expr_into κs settings records names room settings' records' names' room' g r = (refl, refl)

  pub print_unit : (κs : Lifetimes.Lfts 4) (settings records names room settings' records' names' room' g : _) (r : _)
      → let c = UnitPart.clauses 𝓛 mem run κs (settings, (records, (names, (room, tt)))) in (c.requires g ≡ ⊤ₛ) × (c.ensures g r (settings', (records', (names', (room', tt))))
      ≡ ⌜ HandsOut (unit_outcome settings.now records.now names.now room.now) (unit_text settings.now records.now names.now) r ⌝)
  print_unit κs settings records names room settings' records' names' room' g r = (refl, refl)

  pub print_expr : (κs : Lifetimes.Lfts 4) (settings records names room settings' records' names' room' g : _) (r : _)
      → let c = ExprPart.clauses 𝓛 mem run κs (settings, (records, (names, (room, tt)))) in (c.requires g ≡ ⊤ₛ) × (c.ensures g r (settings', (records', (names', (room', tt))))
      ≡ ⌜ HandsOut (expr_outcome settings.now records.now names.now room.now) (expr_text settings.now records.now names.now) r ⌝)
  print_expr κs settings records names room settings' records' names' room' g r = (refl, refl)

  pub glsl_print_unit : (κs : Lifetimes.Lfts 4) (settings records names room settings' records' names' room' g : _) (r : ℤ)
      → let c = UnitBits.clauses 𝓛 mem run κs (settings, (records, (names, (room, tt)))) in (c.requires g ≡ ⊤ₛ) × (c.ensures g r (settings', (records', (names', (room', tt))))
      ≡ ⌜ PrintsBits (unit_outcome settings.now records.now names.now room.now) (unit_text settings.now records.now names.now) room.now room'.now r ⌝)
  glsl_print_unit κs settings records names room settings' records' names' room' g r = (refl, refl)

  pub glsl_print_expr : (κs : Lifetimes.Lfts 4) (settings records names room settings' records' names' room' g : _) (r : ℤ)
      → let c = ExprBits.clauses 𝓛 mem run κs (settings, (records, (names, (room, tt)))) in (c.requires g ≡ ⊤ₛ) × (c.ensures g r (settings', (records', (names', (room', tt))))
      ≡ ⌜ PrintsBits (expr_outcome settings.now records.now names.now room.now) (expr_text settings.now records.now names.now) room.now room'.now r ⌝)
  glsl_print_expr κs settings records names room settings' records' names' room' g r = (refl, refl)

  pub joined : (κs : Lifetimes.Lfts 2) (records names records' names' g : _) (r : Whether)
      → let c = Question.clauses 𝓛 mem run κs (records, (names, tt)) in (c.requires g ≡ ⊤ₛ) × (c.ensures g r (records', (names', tt))
      ≡ ⌜ Answers records.now names.now r ⌝)
  joined κs records names records' names' g r = (refl, refl)

  pub glsl_joined : (κs : Lifetimes.Lfts 2) (records names records' names' g : _) (r : ℤ)
      → let c = QuestionBits.clauses 𝓛 mem run κs (records, (names, tt)) in (c.requires g ≡ ⊤ₛ) × (c.ensures g r (records', (names', tt))
      ≡ ⌜ r ≡ joined_bits (joined_outcome records.now names.now) ⌝)
  glsl_joined κs records names records' names' g r = (refl, refl)
