-- A record without a fault: what it holds is what its shape says, and its kind and variant are what a class takes. Assumes nothing.
use mathlib.Core.Path.{◌≡◌}
use mathlib.Core.Bool.{Bool, true}
use mathlib.Core.List.{List}
use mathlib.Core.Option.{none}
use Prim.Native.Nat.{ℕ, ◌≤◌}
use Rattle.records.specs.declared.Record.{Record}
use Rattle.records.specs.Record.{text_of}
use Rattle.shapes.specs.Class.{Class, allowed, takes_kind, takes_variant}
use Rattle.shapes.specs.Shape.{Fields, fields_in, last_variant, shape_of}
use Rattle.accept.specs.Check.{fault_of}
use Rattle.accepted.specs.Fits.{CountFits, FieldsFit}
use Rattle.accepted.proofs.Fits.{fits}
use Rattle.formed.specs.Formed.{Name, Declared, Float, Bits}

-- a text that has its form
abbrev pub Text : Fields → List ℕ → Type 0
Text Fields.empty s = Unit
Text Fields.integer s = Unit
Text Fields.name s = Name s
Text Fields.declared s = Declared s
Text Fields.float s = Float s

-- its fields, where it stands in a place that declares names or does not. That a field is no larger than its bits does not come from the check: the records are bytes.
pub record Filled (names : List ℕ) (declares : Bool) (r : Record) : Type 0 where
  pub variant : r.variant ≤ last_variant r.kind
  pub count : CountFits (shape_of r.kind r.variant).count r.count
  pub text : Text (fields_in declares (shape_of r.kind r.variant).fields) (text_of names r)
  pub bits : Bits r.a

-- where class c asks for it
pub record Faultless (names : List ℕ) (c : Class) (r : Record) : Type 0 where
  pub kind : takes_kind (allowed c) r.kind ≡ true
  pub variant : takes_variant (allowed c) r.variant ≡ true
  pub filled : Filled names (allowed c).declares r

text : (names : List ℕ) (x : Fields) (r : Record) → FieldsFit names x r → Text x (text_of names r)
text names Fields.empty r h = tt
text names Fields.integer r h = tt
text names Fields.name r h = h.1
text names Fields.declared r h = h.1
text names Fields.float r h = h.1

pub faultless : (names : List ℕ) (left : ℕ) (c : Class) (r : Record) → Bits r.a → fault_of names left c r ≡ none → Faultless names c r
faultless names left c r bits e =
    let s = fits names left c r e in
    record {
      kind = s.kind_taken;
      variant = s.variant_taken;
      filled = record {
        variant = s.variant_listed;
        count = s.count_fits;
        text = text names (fields_in (allowed c).declares (shape_of r.kind r.variant).fields) r s.fields_fit;
        bits = bits;
      };
    }
