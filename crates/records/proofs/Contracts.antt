-- The contract of `records::name`, as the source has it: it asks nothing of its caller, and what it promises is the proposition that the law of its one outcome speaks of. By
-- computation, so that it cannot be weakened alone. Assumes nothing.
use mathlib.Core.Path.{◌≡◌, refl, sym, ◌∙◌}
use mathlib.Core.List.{List}
use Prim.Native.Nat.{ℕ}
use base.Logic as Logic
use contract.Lifetimes as Lifetimes
use contract.Monad as Monad
use contract.Notation as Notation
use seplogic.Ra.Ura as Ura
use prog.Memory as Memory
use prog.Routine as Routine
use Rattle.records.specs.Record.{name_at}
use Rattle.records.specs.contracts.name as Name
use types.Logic.{Logic}

-- the records, the names, an index and the part that is handed out
abbrev pub Named : (records names : List ℕ) (i : ℕ) (part : List ℕ) → Type 0
Named records names i part = part ≡ name_at records names i

module _ {M : Type 1} {𝓤 : Ura.Ura M} (𝓛 : Logic 𝓤) (mem : Memory.Memory → Logic.SProp 𝓤) (run : Routine.Routine → Monad.Fun 𝓤) where
  open Notation.connectives 𝓤 use {⌜◌⌝, ⊤ₛ}

  pub name : (κs : Lifetimes.Lfts 2) (records names i g r e : _)
      → let c = Name.clauses 𝓛 mem run κs (records, (names, (i, tt))) in (c.requires g ≡ ⊤ₛ) × (c.ensures g r e ≡ ⌜ Named records.now names.now i r.now ⌝)
  name κs records names i g r e = (refl, refl)

pub name_unique : (records names : List ℕ) (i : ℕ) {part₁ part₂ : List ℕ} → Named records names i part₁ → Named records names i part₂ → part₁ ≡ part₂
name_unique records names i p q = p ∙ sym q
