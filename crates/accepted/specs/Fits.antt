-- What an accepted record is where it stands: the tests of the record check as facts (01, "Tree records", and the refusals 5 to 11 of "Calls"; 02, #105: 15).
-- Assumes nothing.
use Rattle.std.specs.Prelude.{◌≡◌, true, List, ℕ, ◌+◌, ◌<◌, ◌≤◌, length, Ok}
use Rattle.words.specs.declared.NameSort.TheVariants.{Ordinary}
use Rattle.words.specs.Form.{name_form, name_sort, float_form}
use Rattle.records.specs.declared.Record.{Record}
use Rattle.records.specs.Record.{record_count, record_at, text_of}
use Rattle.shapes.specs.Class.{Class, allowed, takes_kind, takes_variant}
use Rattle.shapes.specs.Shape.{Fields, Count, fields_in, last_variant, shape_of}
use Rattle.accept.specs.Check.{deepest, node}

-- what the count is
abbrev pub CountFits : Count → ℕ → Type 0
CountFits Count.unused n = n ≡ 0
CountFits Count.any n = Unit {0}
CountFits Count.positive n = 0 < n

-- what a and b hold: a text lies within the names, in its form
abbrev pub FieldsFit : List ℕ → Fields → Record → Type 0
FieldsFit names Fields.empty r = (r.a ≡ 0) × (r.b ≡ 0)
FieldsFit names Fields.integer r = r.b ≡ 0
FieldsFit names Fields.name r = (r.a + r.b ≤ length names) × (name_form (text_of names r) ≡ true)
FieldsFit names Fields.declared r = (r.a + r.b ≤ length names) × (name_sort (text_of names r) ≡ Ordinary)
FieldsFit names Fields.float r = (r.a + r.b ≤ length names) × (float_form (text_of names r) ≡ true)

-- a record where class c is asked for and so many levels are left, from this one on
pub record Fits (names : List ℕ) (left : ℕ) (c : Class) (r : Record) : Type 0 where
  pub kind_taken : takes_kind (allowed c) r.kind ≡ true
  pub levels : 0 < left
  pub variant_taken : takes_variant (allowed c) r.variant ≡ true
  pub variant_listed : r.variant ≤ last_variant r.kind
  pub count_fits : CountFits (shape_of r.kind r.variant).count r.count
  pub fields_fit : FieldsFit names (fields_in (allowed c).declares (shape_of r.kind r.variant).fields) r

-- the tree whose root is record j is accepted where some class is asked for and so many levels are left
pub record Rooted (records names : List ℕ) (j : ℕ) : Type 0 where
  pub left : ℕ
  pub shallow : left ≤ deepest
  pub class : Class
  -- the record behind the tree
  pub next : ℕ
  pub accepted : node records names left class j ≡ Ok next
  pub fits : Fits names left class (record_at records j)
  pub own : j < next
  pub within : next ≤ record_count records
