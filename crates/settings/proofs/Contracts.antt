-- The contracts of the public functions of the settings, as the source has them: each asks nothing of its caller, and what it promises is the proposition that the laws about it speak of.
-- By computation, so that a contract cannot be weakened alone. Of that proposition there is one outcome: any two that it allows are equal. Assumes nothing.
use mathlib.Core.Path.{◌≡◌, refl, sym, ◌∙◌}
use mathlib.Core.List.{List}
use Prim.Native.Nat.{ℕ}
use Rattle.std.specs.Prelude.{Option}
use base.Logic as Logic
use contract.Lifetimes as Lifetimes
use contract.Monad as Monad
use contract.Notation as Notation
use seplogic.Ra.Ura as Ura
use prog.Memory as Memory
use prog.Routine as Routine
use Rattle.settings.specs.declared.Settings.{Settings}
use Rattle.settings.specs.declared.FormattingState.{FormattingState}
use Rattle.settings.specs.Settings.{settings_of, TIGHT, OPEN, EXPORT}
use Rattle.settings.specs.Answer.{Reads}
use Rattle.settings.specs.State.{fresh}
use Rattle.settings.specs.Bytes.{settings_bytes}
use Rattle.settings.specs.contracts.Settings.read as Read
use Rattle.settings.specs.contracts.Settings.tight as Tight
use Rattle.settings.specs.contracts.Settings.open as Open
use Rattle.settings.specs.contracts.Settings.export as Export
use Rattle.settings.specs.contracts.Settings.to_bytes as ToBytes
use Rattle.settings.specs.contracts.Settings.fresh_state as FreshState
use types.Logic.{Logic}

module _ {M : Type 1} {𝓤 : Ura.Ura M} (𝓛 : Logic 𝓤) (mem : Memory.Memory → Logic.SProp 𝓤) (run : Routine.Routine → Monad.Fun 𝓤) where
  open Notation.connectives 𝓤 use {⌜◌⌝, ⊤ₛ}

  pub read : (κs : Lifetimes.Lfts 1) (a : _) (g : _) (r : Option Settings) (e : _)
      → let c = Read.clauses 𝓛 mem run κs a in (c.requires g ≡ ⊤ₛ) × (c.ensures g r e ≡ ⌜ Reads a.0.now r ⌝)
  read κs a g r e = (refl, refl)

  pub tight : (κs : Lifetimes.Lfts 0) (a : _) (g : _) (r : Settings) (e : _) → let c = Tight.clauses 𝓛 mem run κs a in (c.requires g ≡ ⊤ₛ) × (c.ensures g r e ≡ ⌜ r ≡ settings_of TIGHT ⌝)
  tight κs a g r e = (refl, refl)

  pub «open» : (κs : Lifetimes.Lfts 0) (a : _) (g : _) (r : Settings) (e : _) → let c = Open.clauses 𝓛 mem run κs a in (c.requires g ≡ ⊤ₛ) × (c.ensures g r e ≡ ⌜ r ≡ settings_of OPEN ⌝)
  «open» κs a g r e = (refl, refl)

  pub «export» : (κs : Lifetimes.Lfts 0) (a : _) (g : _) (r : Settings) (e : _) → let c = Export.clauses 𝓛 mem run κs a in (c.requires g ≡ ⊤ₛ) × (c.ensures g r e ≡ ⌜ r ≡ settings_of EXPORT ⌝)
  «export» κs a g r e = (refl, refl)

  pub to_bytes : (κs : Lifetimes.Lfts 0) (a : _) (g : _) (r : _) (e : _) → let c = ToBytes.clauses 𝓛 mem run κs a in (c.requires g ≡ ⊤ₛ) × (c.ensures g r e ≡ ⌜ r ≡ settings_bytes a.0 ⌝)
  to_bytes κs a g r e = (refl, refl)

  pub fresh_state : (κs : Lifetimes.Lfts 0) (a : _) (g : _) (r : FormattingState) (e : _) → let c = FreshState.clauses 𝓛 mem run κs a in (c.requires g ≡ ⊤ₛ) × (c.ensures g r e ≡ ⌜ r ≡ fresh ⌝)
  fresh_state κs a g r e = (refl, refl)

pub read_unique : {bytes : List ℕ} {r s : Option Settings} → Reads bytes r → Reads bytes s → r ≡ s
read_unique p q = p.answered ∙ sym q.answered

-- of tight, open, export, to_bytes and fresh_state, whose promises are equations
pub one_value : {A : Type 0} {x y z : A} → x ≡ z → y ≡ z → x ≡ y
one_value e f = e ∙ sym f
