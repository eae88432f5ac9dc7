-- A record has no fault exactly if it fits where it stands. Assumes nothing.
use mathlib.Core.Path.{◌≡◌, refl, ◌∙◌, ap}
use mathlib.Core.Bool.{Bool, true, false, not, cond, and-eq-true_iff as both}
use mathlib.Core.List.{List}
use mathlib.Core.Option.{none}
use mathlib.Mathlib.Data.Bool.Basic.{or-eq-false-eq-eq-false-and-eq-false as neither}
use Prim.Native.Nat.{ℕ, ◌+◌, ◌≤◌}
use native.Mathlib.Omega.{arith}
use lib.Dec.{eqb, leb}
use lib.ListN.{length}
use borrow.Author.Tests.{eqb-true, eqb-false, eq-eqb, ne_eqb, ltb-false, le-ltb, leb-true, le-leb, not-false}
use Rattle.words.specs.Form.{name_form, float_form}
use Rattle.words.specs.declared.NameSort.TheVariants.{Ordinary}
use Rattle.words.proofs.Sorts.{is_ordinary, told}
use Rattle.records.specs.declared.Record.{Record}
use Rattle.records.specs.Record.{text_of}
use Rattle.shapes.specs.Class.{Class, allowed, takes_kind, takes_variant}
use Rattle.shapes.specs.Shape.{Fields, Count, fields_in, last_variant, shape_of}
use Rattle.accept.specs.Check.{faults, fault_of, count_missing, count_set, field_set, text_beyond, text_misformed, reserved_declared}
use Rattle.accepted.specs.Fits.{CountFits, FieldsFit, Fits}
use Rattle.accept.proofs.Faults.{fault_is, found_none, no_test_holds}

-- the tests of the count and of the fields, by what the shape says of them
count_is : (x : Count) (n : ℕ) → count_missing x n ≡ false → count_set x n ≡ false → CountFits x n
count_is Count.unused n p q = eqb-true n 0 (not-false _ q)
count_is Count.any n p q = tt
count_is Count.positive n p q = let d = eqb-false n 0 p in omega arith

module _ (names : List ℕ) (r : Record) where
  -- a text, by the form that it must have
  abbrev Passes : Fields → Type 0
  Passes f = (text_misformed f (text_of names r) ≡ false) × (reserved_declared f (text_of names r) ≡ false)

  name_is : (b : Bool) → r.a + r.b ≤ length names → Passes (cond b Fields.declared Fields.name) → FieldsFit names (cond b Fields.declared Fields.name) r
  name_is true w t = (w, is_ordinary (text_of names r) (not-false (name_form (text_of names r)) t.0) t.1)
  name_is false w t = (w, not-false (name_form (text_of names r)) t.0)

  name_passes : (b : Bool) → FieldsFit names (cond b Fields.declared Fields.name) r → (r.a + r.b ≤ length names) × Passes (cond b Fields.declared Fields.name)
  name_passes true h = let t = told (text_of names r) Ordinary h.1 in (h.0, (ap not t.0, t.1))
  name_passes false h = (h.0, (ap not h.1, refl))

fields_are : (names : List ℕ) (declares : Bool) (x : Fields) (r : Record) → field_set x r.a r.b ≡ false → text_beyond names x r.a r.b ≡ false
    → Passes names r (fields_in declares x) → FieldsFit names (fields_in declares x) r
fields_are names declares Fields.empty r p q t =
    let h = (neither (not (eqb r.a 0)) (not (eqb r.b 0))).0 p in
    (eqb-true r.a 0 (not-false _ h.0), eqb-true r.b 0 (not-false _ h.1))
fields_are names declares Fields.integer r p q t = eqb-true r.b 0 (not-false _ p)
fields_are names declares Fields.name r p q t = name_is names r declares (ltb-false (length names) (r.a + r.b) q) t
fields_are names declares Fields.declared r p q t = name_is names r true (ltb-false (length names) (r.a + r.b) q) t
fields_are names declares Fields.float r p q t = (ltb-false (length names) (r.a + r.b) q, not-false (float_form (text_of names r)) t.0)

-- and the other way round
count_passes : (x : Count) (n : ℕ) → CountFits x n → (count_missing x n ≡ false) × (count_set x n ≡ false)
count_passes Count.unused n h = (refl, ap not (eq-eqb n 0 h))
count_passes Count.any n h = (refl, refl)
count_passes Count.positive n h = (ne_eqb n 0 (λ e. omega arith), refl)

fields_pass : (names : List ℕ) (declares : Bool) (x : Fields) (r : Record) → FieldsFit names (fields_in declares x) r
    → (field_set x r.a r.b ≡ false) × (text_beyond names x r.a r.b ≡ false) × Passes names r (fields_in declares x)
fields_pass names declares Fields.empty r h = (rw (eq-eqb r.a 0 h.0, eq-eqb r.b 0 h.1) refl, refl, (refl, refl))
fields_pass names declares Fields.integer r h = (ap not (eq-eqb r.b 0 h), refl, (refl, refl))
fields_pass names declares Fields.name r h = let t = name_passes names r declares h in (refl, le-ltb (length names) (r.a + r.b) t.0, t.1)
fields_pass names declares Fields.declared r h = let t = name_passes names r true h in (refl, le-ltb (length names) (r.a + r.b) t.0, t.1)
fields_pass names declares Fields.float r h = (refl, le-ltb (length names) (r.a + r.b) h.0, (ap not h.1, refl))

module _ (names : List ℕ) (left : ℕ) (c : Class) (r : Record) where
  pub fits : fault_of names left c r ≡ none → Fits names left c r
  fits e =
      let tests = no_test_holds names left c r e in
      let shape = shape_of r.kind r.variant in
      let variant = (both (takes_variant (allowed c) r.variant) (leb r.variant (last_variant r.kind))).0 (not-false _ tests.1.1.0) in
      let unused = (neither (count_set shape.count r.count) (field_set shape.fields r.a r.b)).0 tests.1.1.1.1.0 in
      let some_left = eqb-false left 0 tests.1.0 in
      record {
        kind_taken = not-false (takes_kind (allowed c) r.kind) tests.0;
        levels = omega arith;
        variant_taken = variant.0;
        variant_listed = leb-true r.variant (last_variant r.kind) variant.1;
        count_fits = count_is shape.count r.count tests.1.1.1.0 unused.0;
        fields_fit = fields_are names (allowed c).declares shape.fields r unused.1 tests.1.1.1.1.1.0 (tests.1.1.1.1.1.1.0, tests.1.1.1.1.1.1.1.0);
      }

  pub no_fault : Fits names left c r → fault_of names left c r ≡ none
  no_fault s =
      let shape = shape_of r.kind r.variant in
      let listed = le-leb r.variant (last_variant r.kind) s.variant_listed in
      let variant = (both (takes_variant (allowed c) r.variant) (leb r.variant (last_variant r.kind))).1 (s.variant_taken, listed) in
      let count = count_passes shape.count r.count s.count_fits in
      let fields = fields_pass names (allowed c).declares shape.fields r s.fields_fit in
      let unused = (neither (count_set shape.count r.count) (field_set shape.fields r.a r.b)).1 (count.1, fields.0) in
      let some_left = ne_eqb left 0 (λ e. let h = s.levels in omega arith) in
      fault_is names left c r
      ∙ found_none (faults names left c r) (ap not s.kind_taken, (some_left, (ap not variant, (count.0, (unused, (fields.1, (fields.2.0, (fields.2.1, tt))))))))
