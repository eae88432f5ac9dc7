-- Types, arrays, fields and qualifiers (01, kinds 20 to 31). Assumes nothing.
use mathlib.Core.Bool.{Bool, true, false}
use mathlib.Core.List.{List}
use mathlib.Core.Option.{Option, none, some}
use Prim.Native.Nat.{ℕ, ◌<◌, ◌≤◌}
use native.Mathlib.Omega.{arith}
use borrow.Author.Tests.{lt-ltb, ne_eqb}
use Rattle.records.proofs.Laws.{split}
use Rattle.records.specs.Record.{part}
use Rattle.words.specs.Keyword.{type_keywords}
use Rattle.shapes.specs.Shape.{rows, last_variant}
use Rattle.shapes.specs.Class.Class.{expr, type, base, array, dimension, field, identifier, parameter_identifier, qualifier, spec, precision, layout_id, full_type}
use Rattle.text.specs.Tree.{Identifier, TypeSpecifier, TypeSpecifiers, TypeSpecifierNonArray, ArraySpecifier, ArraySpecifierDimension, StructFieldSpecifier, StructFieldSpecifiers, ArrayedIdentifier, ArrayedIdentifiers, TypeQualifier, TypeQualifierSpec, LayoutQualifier, LayoutQualifierSpec, FullySpecifiedType}
use Rattle.text.specs.Reading.{storage_of}
use Rattle.formed.specs.Formed.{KeywordNumber, Declared, IfThere, FormedType, FormedTypes, FormedBase, FormedDimensions, FormedField, FormedFields, FormedIdentifiers, FormedSpecs, FormedIds, FormedFullType}
use Rattle.formed.proofs.Plan.{Items, items, Row, ◌so◌, reads}
use Rattle.formed.proofs.Plan.Plan.{give, one, several, some as SomeOf, ◌and◌}
use Rattle.formed.proofs.Optional.{array_if, array_if_holds, qualification_if, qualification_if_holds}
use Rattle.text.proofs.Span.{Span, ◌then◌, at}
use Rattle.formed.proofs.Span.{between}
use Rattle.formed.proofs.Kind.{Kind, Variant, by_variant}
use Rattle.formed.proofs.Opened.{opened}

-- lists
unfoldable types : Items type TypeSpecifiers
unfolding opened
types = items TypeSpecifiers.no_types TypeSpecifiers.types FormedTypes tt (λ x p y q. (p, q))

unfoldable pub fields : Items field StructFieldSpecifiers
unfolding opened
fields = items StructFieldSpecifiers.no_fields StructFieldSpecifiers.fields FormedFields tt (λ x p y q. (p, q))

unfoldable dimensions : Items dimension ArraySpecifier
unfolding opened
dimensions = items ArraySpecifier.no_dimensions ArraySpecifier.dimensions FormedDimensions tt (λ x p y q. (p, q))

unfoldable identifiers : Items identifier ArrayedIdentifiers
unfolding opened
identifiers = items ArrayedIdentifiers.no_identifiers ArrayedIdentifiers.identifiers FormedIdentifiers tt (λ x p y q. (p, q))

unfoldable specs : Items spec TypeQualifier
unfolding opened
specs = items TypeQualifier.no_specs TypeQualifier.specs FormedSpecs tt (λ x p y q. (p, q))

unfoldable ids : Items layout_id LayoutQualifier
unfolding opened
ids = items LayoutQualifier.no_ids LayoutQualifier.ids FormedIds tt (λ x p y q. (p, q))

-- what several variants share
type_row : Bool → Row FormedType
unfolding opened
type_row b = give TypeSpecifier.type and one base and array_if b so λ x p. array_if_holds b (λ y q. (p, q))

struct_row : (n : ℕ) (s : Option Identifier) → IfThere Declared s → Row FormedBase
unfolding opened fields
struct_row n s h = give (TypeSpecifierNonArray.Struct s) and several n fields so λ x p. (h, p)

field_row : (n : ℕ) → 0 < n → Bool → Row FormedField
unfolding opened identifiers
field_row n h b =
    give StructFieldSpecifier.field and qualification_if b and one type and SomeOf n h identifiers
    so qualification_if_holds b (λ x p y q z r u s. (p, q, (r, s)))

identifier_row : {P : ArrayedIdentifier → Type 0} (s : Identifier)
    → ((ds : ArraySpecifier) → FormedDimensions ds → P (ArrayedIdentifier.arrayed s ds)) → Bool → Row P
unfolding opened
identifier_row s h b = give (ArrayedIdentifier.arrayed s) and array_if b so array_if_holds b h

full_type_row : Bool → Row FormedFullType
unfolding opened
full_type_row b = give FullySpecifiedType.full_type and qualification_if b and one type so qualification_if_holds b (λ x p y q. (p, q))

-- the last variant is the last keyword
keyword : (v : ℕ) → v ≤ last_variant 21 → KeywordNumber v
unfolding rows last_variant type_keywords
keyword v h = omega arith

module _ (rs ns : List ℕ) where
  pub type_kind : Kind rs ns type 20
  unfolding opened type_row Span
  type_kind = by_variant rs ns type 20 ((λ n a b f. reads rs ns (type_row false)) then (λ n a b f. reads rs ns (type_row true)) then tt)

  pub base_kinds : Span (Kind rs ns base) 21 3
  unfolding opened struct_row fields Span
  base_kinds =
      (λ v t n a b f. reads rs ns (give (TypeSpecifierNonArray.Keyword v) so keyword v f.variant))
      then (λ v t n a b f. reads rs ns (give (TypeSpecifierNonArray.TypeName (part ns a b)) so f.text))
      then by_variant rs ns base 23 (
      (λ n a b f. reads rs ns (struct_row n none tt))
      then (λ n a b f. reads rs ns (struct_row n (some (part ns a b)) f.text))
      then tt)
      then tt

  pub array_kind : Kind rs ns array 24
  unfolding opened dimensions
  array_kind v t n a b f = reads rs ns (SomeOf n f.count dimensions so λ x p y q. (p, q))

  pub dimension_kind : Kind rs ns dimension 25
  unfolding opened Span
  dimension_kind = by_variant rs ns dimension 25 (
      (λ n a b f. reads rs ns (give ArraySpecifierDimension.Unsized so tt))
      then (λ n a b f. reads rs ns (give ArraySpecifierDimension.ExplicitlySized and one expr so λ x p. p))
      then tt)

  pub field_kind : Kind rs ns field 26
  unfolding opened field_row identifiers Span
  field_kind = by_variant rs ns field 26 (
      (λ n a b f. reads rs ns (field_row n f.count false))
      then (λ n a b f. reads rs ns (field_row n f.count true))
      then tt)

  pub identifier_kind : Kind rs ns identifier 27
  unfolding opened identifier_row Span
  identifier_kind = by_variant rs ns identifier 27 (
      (λ n a b f. reads rs ns (identifier_row (part ns a b) (λ ds q. (f.text, q)) false))
      then (λ n a b f. reads rs ns (identifier_row (part ns a b) (λ ds q. (f.text, q)) true))
      then tt)

  pub parameter_identifier_kind : Kind rs ns parameter_identifier 27
  unfolding opened identifier_row Span
  parameter_identifier_kind = by_variant rs ns parameter_identifier 27 (
      (λ n a b f. reads rs ns (identifier_row (part ns a b) (λ ds q. (f.text, q)) false))
      then (λ n a b f. reads rs ns (identifier_row (part ns a b) (λ ds q. (f.text, q)) true))
      then tt)

  pub qualifier_kind : Kind rs ns qualifier 28
  unfolding opened specs
  qualifier_kind v t n a b f = reads rs ns (SomeOf n f.count specs so λ x p y q. (p, q))

  pub layout_id_kind : Kind rs ns layout_id 30
  unfolding opened Span
  layout_id_kind = by_variant rs ns layout_id 30 (
      (λ n a b f. reads rs ns (give (LayoutQualifierSpec.Ident (part ns a b)) so f.text))
      then (λ n a b f. reads rs ns (give (LayoutQualifierSpec.IdentIs (part ns a b)) and one expr so λ x p. (f.text, p)))
      then (λ n a b f. reads rs ns (give LayoutQualifierSpec.Shared so tt))
      then tt)

  pub full_type_kind : Kind rs ns full_type 31
  unfolding opened full_type_row Span
  full_type_kind = by_variant rs ns full_type 31 ((λ n a b f. reads rs ns (full_type_row false)) then (λ n a b f. reads rs ns (full_type_row true)) then tt)

  -- the parts of a qualifier: storage, and the others behind it
  storage : (v : ℕ) → v < 17 → Variant rs ns spec 29 v
  unfolding opened
  storage v h n a b f =
      simp (lt-ltb v 17 h, ne_eqb v 17 (λ e. omega arith), ne_eqb v 18 (λ e. omega arith)) (reads rs ns (give (TypeQualifierSpec.Storage (storage_of v)) so tt))

  -- subroutine, layout; precisions, interpolations, invariant, precise have no children
  others : Span (Variant rs ns spec 29) 17 10
  unfolding opened types ids Span
  others =
      (λ n a b f. reads rs ns (give TypeQualifierSpec.Subroutine and several n types so λ x p. p))
      then (λ n a b f. reads rs ns (give TypeQualifierSpec.Layout and SomeOf n f.count ids so λ x p y q. (p, q)))
      then (λ n a b f. reads rs ns (give _ so tt))
      then (λ n a b f. reads rs ns (give _ so tt))
      then (λ n a b f. reads rs ns (give _ so tt))
      then (λ n a b f. reads rs ns (give _ so tt))
      then (λ n a b f. reads rs ns (give _ so tt))
      then (λ n a b f. reads rs ns (give _ so tt))
      then (λ n a b f. reads rs ns (give _ so tt))
      then (λ n a b f. reads rs ns (give _ so tt))
      then tt

  precisions : Span (Variant rs ns precision 29) 19 3
  unfolding opened Span
  precisions = (λ n a b f. reads rs ns (give _ so tt)) then (λ n a b f. reads rs ns (give _ so tt)) then (λ n a b f. reads rs ns (give _ so tt)) then tt

  pub spec_kind : Kind rs ns spec 29
  unfolding opened
  spec_kind v t n a b f = split v 17 (λ h. storage v h n a b f) (λ h. at (Variant rs ns spec 29) 17 10 others v h (omega (arith, f.variant)) n a b f)

  pub precision_kind : Kind rs ns precision 29
  unfolding opened
  precision_kind v t = let h = between 19 21 v t in at (Variant rs ns precision 29) 19 3 precisions v h.0 (omega (arith, h.1))
