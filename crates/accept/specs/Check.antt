-- The record check: which refusal, and where (01, "Calls"): sizes first; then the first faulty record in preorder decides, by the first of its faults in
-- 01's order, with 02's 15 directly behind 11; then what is left over. (1 and 13 are the calls'.) Assumes nothing.
use Rattle.std.specs.Prelude.{Bool, false, not, ◌&&◌, ◌||◌, cond, List, [], ◌∷◌, ℕ, zero, suc, ◌+◌, ◌*◌, ◌%◌, eqb, ltb, leb, length, replicate, Ok, Err}
use Rattle.std.proofs.Math.Option.{Option, none, some}
use Rattle.words.specs.Form.{name_form, float_form, reserved}
use Rattle.records.specs.declared.Record.{Record}
use Rattle.records.specs.Record.{record_size, record_count, record_at, text_of}
use Rattle.shapes.specs.Class.{Class, allowed, takes_kind, takes_variant}
use Rattle.shapes.specs.Shape.{Fields, Count, Shape, fields_in, last_variant, shape_of, classes}
use Rattle.accept.specs.declared.Refusal.{Refusal}
use Rattle.accept.specs.declared.Refusal.TheVariants as Why
use Rattle.accept.specs.Checked.{Checked, refused}

-- limits
abbrev pub most_records : ℕ
most_records = 4096

abbrev pub most_name_bytes : ℕ
most_name_bytes = 32768

-- the root is at depth 1
abbrev pub deepest : ℕ
deepest = 200

-- 8: a count of 0 where n≥1
abbrev pub count_missing : Count → ℕ → Bool
count_missing Count.unused n = false
count_missing Count.any n = false
count_missing Count.positive n = eqb n 0

-- 9: a field that is not used and not 0
abbrev pub count_set : Count → ℕ → Bool
count_set Count.unused n = not (eqb n 0)
count_set Count.any n = false
count_set Count.positive n = false

abbrev pub field_set : Fields → ℕ → ℕ → Bool
field_set Fields.empty a b = not (eqb a 0) || not (eqb b 0)
field_set Fields.integer a b = not (eqb b 0)
field_set Fields.name a b = false
field_set Fields.declared a b = false
field_set Fields.float a b = false

-- 10: T ends beyond the names
abbrev pub text_beyond : List ℕ → Fields → ℕ → ℕ → Bool
text_beyond names Fields.empty a b = false
text_beyond names Fields.integer a b = false
text_beyond names Fields.name a b = ltb (length names) (a + b)
text_beyond names Fields.declared a b = ltb (length names) (a + b)
text_beyond names Fields.float a b = ltb (length names) (a + b)

-- 11: T is not in its form
abbrev pub text_misformed : Fields → List ℕ → Bool
text_misformed Fields.empty s = false
text_misformed Fields.integer s = false
text_misformed Fields.name s = not (name_form s)
text_misformed Fields.declared s = not (name_form s)
text_misformed Fields.float s = not (float_form s)

-- 15: a reserved name is declared (02, #105)
abbrev pub reserved_declared : Fields → List ℕ → Bool
reserved_declared Fields.empty s = false
reserved_declared Fields.integer s = false
reserved_declared Fields.name s = false
reserved_declared Fields.declared s = reserved s
reserved_declared Fields.float s = false

-- a fault, where its test holds
pub record Fault : Type 0 where
  pub found : Bool
  pub refusal : Refusal

abbrev pub fault : Bool → Refusal → Fault
fault b x = record { found = b; refusal = x }

-- the first of the faults that are found
abbrev pub first_found : List Fault → Option Refusal
first_found [] = none
first_found (f ∷ fs) = cond f.found (some f.refusal) (first_found fs)

-- the faults of a text
abbrev pub text_faults : Fields → List ℕ → List Fault
text_faults f s = fault (text_misformed f s) Why.TextMisformed ∷ fault (reserved_declared f s) Why.ReservedDeclared ∷ []

-- the first of them, in a place that declares names or does not
abbrev pub text_fault : Bool → Fields → List ℕ → Option Refusal
text_fault declares f s = first_found (text_faults (fields_in declares f) s)

-- the faults of what a record holds, where it must have this shape, in a place that declares names or does not
abbrev pub content_faults : List ℕ → Bool → Shape → Record → List Fault
content_faults names declares shape r =
    fault (count_missing shape.count r.count) Why.CountMissing
    ∷ fault (count_set shape.count r.count || field_set shape.fields r.a r.b) Why.UnusedSet
    ∷ fault (text_beyond names shape.fields r.a r.b) Why.TextBeyond
    ∷ text_faults (fields_in declares shape.fields) (text_of names r)

-- the faults of a record where class c is asked for and so many levels are left, this one included
abbrev pub faults : List ℕ → ℕ → Class → Record → List Fault
faults names left c r =
    fault (not (takes_kind (allowed c) r.kind)) Why.KindNotAllowed
    ∷ fault (eqb left 0) Why.TooDeep
    ∷ fault (not (takes_variant (allowed c) r.variant && leb r.variant (last_variant r.kind))) Why.VariantOutOfRange
    ∷ content_faults names (allowed c).declares (shape_of r.kind r.variant) r

unfoldable pub fault_of : List ℕ → ℕ → Class → Record → Option Refusal
fault_of names left c r = first_found (faults names left c r)

-- record i by its first fault: the record behind it, or the refusal
abbrev pub judged : ℕ → Option Refusal → Checked
judged i none = Ok (i + 1)
judged i (some x) = refused x i

-- one walk behind the other, until one refuses
abbrev pub bind : Checked → (ℕ → Checked) → Checked
bind (Ok m) f = f m
bind (Err r) f = Err r

-- a tree for each class, one behind the other
abbrev pub each : (Class → ℕ → Checked) → List Class → ℕ → Checked
each f [] i = Ok i
each f (c ∷ cs) i = bind (f c i) (each f cs)

-- the classes of a record's children
abbrev pub children_of : Record → List Class
children_of r = classes r.count (shape_of r.kind r.variant).parts

-- none, not whole, or too many
abbrev pub records_out_of_size : List ℕ → Bool
records_out_of_size records = eqb (length records) 0 || not (eqb (length records % record_size) 0) || ltb (record_size * most_records) (length records)

module _ (records names : List ℕ) where
  -- record i by itself. A walk comes to i from i - 1, so where none stands i is the record count (accepted, specs/Placed).
  unfoldable pub alone : ℕ → Class → ℕ → Checked
  alone left c i = cond (ltb i (record_count records)) (judged i (fault_of names left c (record_at records i))) (refused Why.RecordMissing i)

  -- the tree whose root is record i, where so many levels are left: where none is left, its root is refused
  unfoldable pub node : ℕ → Class → ℕ → Checked
  node zero c i = alone 0 c i
  node (suc left) c i = bind (alone (suc left) c i) (each (node left) (children_of (record_at records i)))

  -- n trees of class c, one behind the other: what the code's loop does
  abbrev pub nodes : ℕ → Class → ℕ → ℕ → Checked
  nodes left c n i = each (node left) (replicate n c) i

  -- the tree is all of the records
  abbrev pub nothing_behind : ℕ → Checked
  nothing_behind m = cond (eqb m (record_count records)) (Ok m) (refused Why.RecordsLeftOver m)

  -- the whole, for a root of class c
  unfoldable pub check : Class → Checked
  check c =
      cond (records_out_of_size records) (refused Why.RecordsOutOfSize 0)
      (cond (ltb most_name_bytes (length names)) (refused Why.NamesOutOfSize 0)
      (bind (node deepest c 0) nothing_behind))
