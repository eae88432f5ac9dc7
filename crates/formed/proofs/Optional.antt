-- Plans of parts that are there or not, as text's Reading has them, and what their trees are. Assumes nothing.
use mathlib.Core.Bool.{Bool, true, false}
use mathlib.Core.Option.{Option, none, some}
use Rattle.shapes.specs.Class.{Class}
use Rattle.text.specs.Tree.{ArraySpecifier, Qualification}
use Rattle.formed.specs.Formed.{IfThere, FormedArray, FormedDimensions, FormedQualification}
use Rattle.formed.proofs.As.{Sort, Formed}
use Rattle.formed.proofs.Plan.{Plan, Holds}
use Rattle.formed.proofs.Plan.Plan.{give, one, ◌and◌}

abbrev pub maybe : Bool → (c : Class) → Plan (Option (Sort c))
maybe true c = give some and one c
maybe false c = give none

pub maybe_holds : (b : Bool) (c : Class) {P : Option (Sort c) → Type 0} → ((x : Option (Sort c)) → IfThere (Formed c) x → P x) → Holds (maybe b c) P
unfolding Holds
maybe_holds true c h = λ x p. h (some x) p
maybe_holds false c h = h none tt

abbrev pub array_if : Bool → Plan ArraySpecifier
array_if true = one Class.array
array_if false = give ArraySpecifier.no_dimensions

-- an array that is there is dimensions
dimensions : (x : ArraySpecifier) → FormedArray x → FormedDimensions x
unfolding FormedArray FormedDimensions
dimensions ArraySpecifier.no_dimensions p = absurd p
dimensions (ArraySpecifier.dimensions d ds) p = p

pub array_if_holds : (b : Bool) {P : ArraySpecifier → Type 0} → ((x : ArraySpecifier) → FormedDimensions x → P x) → Holds (array_if b) P
unfolding Holds FormedDimensions
array_if_holds true h = λ x p. h x (dimensions x p)
array_if_holds false h = h ArraySpecifier.no_dimensions tt

abbrev pub qualification_if : Bool → Plan Qualification
qualification_if true = give Qualification.qualified and one Class.qualifier
qualification_if false = give Qualification.unqualified

pub qualification_if_holds : (b : Bool) {P : Qualification → Type 0} → ((x : Qualification) → FormedQualification x → P x) → Holds (qualification_if b) P
unfolding Holds FormedQualification
qualification_if_holds true h = λ x p. h (Qualification.qualified x) p
qualification_if_holds false h = h Qualification.unqualified tt
