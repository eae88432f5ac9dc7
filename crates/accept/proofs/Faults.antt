-- A record's fault is the first that is found in a list: what holds of each of them holds of it, and there is none exactly where none is found.
-- Assumes nothing.
use mathlib.Core.Path.{◌≡◌, refl}
use mathlib.Core.Bool.{Bool, true, false, cond}
use mathlib.Core.List.{List, [], ◌∷◌}
use mathlib.Core.Option.{Option, none, some}
use Prim.Native.Nat.{ℕ}
use native.Mathlib.Omega.{arith}
use Rattle.records.specs.declared.Record.{Record}
use Rattle.shapes.specs.Class.{Class}
use Rattle.accept.specs.declared.Refusal.{Refusal}
use Rattle.accept.specs.Check.{Fault, first_found, faults, fault_of}

abbrev pub Every : (Fault → Type 0) → List Fault → Type 0
Every P [] = Unit {0}
Every P (f ∷ fs) = P f × Every P fs

-- what holds of every refusal in the list holds of the first that is found
module _ (P : Refusal → Type 0) where
  abbrev pub Found : Option Refusal → Type 0
  Found none = Unit {0}
  Found (some x) = P x

  found_here : (b : Bool) (x : Refusal) (o : Option Refusal) → P x → Found o → Found (cond b (some x) o)
  found_here true x o p h = p
  found_here false x o p h = h

  pub found : (fs : List Fault) → Every (λ f. P f.refusal) fs → Found (first_found fs)
  found [] h = tt
  found (f ∷ fs) h = found_here f.found f.refusal (first_found fs) h.0 (found fs h.1)

-- none is found exactly where no test holds
none_here : (b : Bool) (x : Refusal) (o : Option Refusal) → cond b (some x) o ≡ none → (b ≡ false) × (o ≡ none)
none_here true x o e = let z : ◌≡◌ {A = ℕ} 0 1 = cc in absurd (omega arith)
none_here false x o e = (refl, e)

pub none_found : (fs : List Fault) → first_found fs ≡ none → Every (λ f. f.found ≡ false) fs
none_found [] e = tt
none_found (f ∷ fs) e = let h = none_here f.found f.refusal (first_found fs) e in (h.0, none_found fs h.1)

pub found_none : (fs : List Fault) → Every (λ f. f.found ≡ false) fs → first_found fs ≡ none
found_none [] h = refl
found_none (f ∷ fs) h = rw h.0 (found_none fs h.1)

-- a record's faults
module _ (names : List ℕ) (left : ℕ) (c : Class) (r : Record) where
  pub fault_is : fault_of names left c r ≡ first_found (faults names left c r)
  unfolding fault_of
  fault_is = refl

  pub no_test_holds : fault_of names left c r ≡ none → Every (λ f. f.found ≡ false) (faults names left c r)
  unfolding fault_of
  no_test_holds e = none_found (faults names left c r) e
