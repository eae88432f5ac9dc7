-- Parts that are there or not, and texts. Assumes nothing.
use mathlib.Core.Bool.{Bool, true, false}
use mathlib.Core.List.{List}
use mathlib.Core.Option.{Option, none, some}
use Prim.Native.Nat.{◌+◌, ◌≤◌}
use native.Mathlib.Omega.{arith}
use Rattle.words.specs.Form.{longest_name}
use Rattle.text.specs.Command.{Command}
use Rattle.text.specs.Tree.{Identifier, ArraySpecifier, Qualification}
use Rattle.text.specs.Text.{show_declared, show_array_spec, show_qualification, show_identifier, optional}
use Rattle.text.specs.Reading as Reading
use Rattle.formed.specs.Formed.{Name, IfThere, FormedDimensions, FormedQualification}
use Rattle.bounded.proofs.Weight.{weighs}
use Rattle.bounded.proofs.Texts.{name_short}
use Rattle.bounded.proofs.Fits.{sums}
use Rattle.bounded.proofs.Plan.{Light, Part, part, parts, reading, Holds, array, qualifier}
use Rattle.bounded.proofs.Plan.Plan.{give, ◌and◌}

pub weighs_name : (s : Option Identifier) → IfThere Name s → weighs (optional show_identifier s) ≤ longest_name
unfolding optional weighs
weighs_name none h = omega arith
weighs_name (some s) h = omega (arith, name_short)

pub weighs_declared : (s : Option Identifier) → IfThere Name s → weighs (show_declared s) ≤ longest_name + 1
unfolding weighs
weighs_declared none h = omega arith
weighs_declared (some s) h = omega (arith, name_short)

module _ {collapse : Bool} where
  pub array_light : (b : Bool) → Light collapse FormedDimensions show_array_spec 0 (Reading.array_if b)
  unfolding show_array_spec weighs reading Holds
  array_light true = array.fits
  array_light false = parts (give ArraySpecifier.no_dimensions) (λ h. omega arith)

  abbrev pub array_if : Bool → Part collapse ArraySpecifier
  array_if b = part (array_light b)

  pub qualification_light : (b : Bool) → Light collapse FormedQualification show_qualification 0 (Reading.qualification_if b)
  unfolding FormedQualification show_qualification weighs reading Holds
  qualification_light true = parts (give Qualification.qualified and qualifier) (λ x a h. simp sums (omega (arith, a.weight h)))
  qualification_light false = parts (give Qualification.unqualified) (λ h. omega arith)

  abbrev pub qualification_if : Bool → Part collapse Qualification
  qualification_if b = part (qualification_light b)

  -- what is written where it is there may be as much more as the part says
  module _ {A : Type 0} (p : Part collapse A) (show : Option A → List Command) (at_none : weighs (show none) ≤ 0)
      (at_some : (x : A) → weighs (show (some x)) ≤ weighs (p.show x) + p.more) where
    pub maybe_light : (b : Bool) → Light collapse (IfThere p.Formed) show 0 (Reading.maybe b p.reader)
    unfolding reading Holds
    maybe_light true = parts (give some and p) (λ x a h. omega (arith, a.weight h, at_some x.tree))
    maybe_light false = parts (give none) (λ h. omega arith)

    abbrev pub maybe : Bool → Part collapse (Option A)
    maybe b = part (maybe_light b)
