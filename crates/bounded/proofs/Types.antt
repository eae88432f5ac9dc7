-- Types, arrays, fields and qualifiers (01, kinds 20 to 31). Assumes nothing.
use mathlib.Core.Bool.{Bool, true, false, cond}
use mathlib.Core.List.{List}
use mathlib.Core.Option.{none, some}
use Prim.Native.Nat.{ℕ, ◌-◌}
use native.Mathlib.Omega.{arith}
use lib.Dec.{eqb, ltb}
use Rattle.records.specs.declared.Record.{Record}
use Rattle.records.specs.Record.{text_of}
use Rattle.text.specs.Tree.{TypeSpecifier, TypeSpecifiers, TypeSpecifierNonArray, ArraySpecifier, ArraySpecifierDimension, StructFieldSpecifier, StructFieldSpecifiers, ArrayedIdentifier, ArrayedIdentifiers, TypeQualifier, TypeQualifierSpec, LayoutQualifier, LayoutQualifierSpec, FullySpecifiedType}
use Rattle.text.specs.Text.{without_types, show_type_specifier, show_type_specifiers, show_type_specifier_non_array, show_array_spec, show_dimension, show_struct_field, show_struct_fields, show_arrayed_identifier, show_arrayed_identifiers, show_type_qualifier, show_type_qualifier_spec, show_layout_ids, show_layout_qualifier_spec, show_fully_specified_type}
use Rattle.text.specs.Reading.{storage_of, precision_of, interpolation_of, type_of, base_of, array_of, dimension_of, field_of, identifier_of, qualifier_of, spec_of, layout_id_of, full_type_of}
use Rattle.formed.specs.Formed.{FormedType, FormedTypes, FormedBase, FormedDimensions, FormedDimension, FormedField, FormedFields, FormedIdentifier, FormedSomeIdentifiers, FormedIdentifiers, FormedQualifier, FormedSpecs, FormedSpec, FormedLayout, FormedIds, FormedId, FormedFullType}
use Rattle.formed.proofs.Declared.{if_declared}
use Rattle.bounded.proofs.Weight.{weighs}
use Rattle.bounded.proofs.Texts.{name_short}
use Rattle.bounded.proofs.Fits.{between, own_line, weighs_unless, sums}
use Rattle.bounded.proofs.Plan.{Light, Part, parts, row, kind, variant, list, reading, Holds, expr, type, base, dimension, field, identifier, spec, layout_id}
use Rattle.bounded.proofs.Plan.Plan.{give, one, ◌and◌}
use Rattle.bounded.proofs.Optional.{weighs_name, array_if, qualification_if}

-- a list that must have an item is a list
identifiers_formed : (is : ArrayedIdentifiers) → FormedSomeIdentifiers is → FormedIdentifiers is
unfolding FormedIdentifiers
identifiers_formed ArrayedIdentifiers.no_identifiers h = absurd h
identifiers_formed (ArrayedIdentifiers.identifiers i is) h = h

specs_formed : (qs : TypeQualifier) → FormedQualifier qs → FormedSpecs qs
unfolding FormedSpecs
specs_formed TypeQualifier.no_specs h = absurd h
specs_formed (TypeQualifier.specs q qs) h = h

ids_formed : (is : LayoutQualifier) → FormedLayout is → FormedIds is
unfolding FormedIds
ids_formed LayoutQualifier.no_ids h = absurd h
ids_formed (LayoutQualifier.ids i is) h = h

-- lists
module _ {collapse : Bool} where
  unfoldable types : ℕ → Part collapse TypeSpecifiers
  unfolding FormedTypes show_type_specifiers weighs
  types =
      list type TypeSpecifiers.no_types TypeSpecifiers.types FormedTypes show_type_specifiers (λ f h. omega arith)
      (λ x a y b f h. simp sums (omega (arith, a.weight, (b false).weight h.1)))

  unfoldable pub fields : ℕ → Part collapse StructFieldSpecifiers
  unfolding FormedFields show_struct_fields weighs
  fields =
      list field StructFieldSpecifiers.no_fields StructFieldSpecifiers.fields FormedFields (λ fs f. show_struct_fields fs) (λ f h. omega arith)
      (λ x a y b f h. simp sums (omega (arith, a.weight, (b f).weight h.1)))

  unfoldable dimensions : ℕ → Part collapse ArraySpecifier
  unfolding FormedDimensions show_array_spec weighs
  dimensions =
      list dimension ArraySpecifier.no_dimensions ArraySpecifier.dimensions FormedDimensions (λ ds f. show_array_spec ds) (λ f h. omega arith)
      (λ x a y b f h. simp sums (omega (arith, a.weight, (b f).weight h.1)))

  unfoldable identifiers : ℕ → Part collapse ArrayedIdentifiers
  unfolding FormedIdentifiers show_arrayed_identifiers weighs
  identifiers =
      list identifier ArrayedIdentifiers.no_identifiers ArrayedIdentifiers.identifiers FormedIdentifiers show_arrayed_identifiers (λ f h. omega arith)
      (λ x a y b f h. simp sums (omega (arith, a.weight, (b false).weight h.1)))

  unfoldable specs : ℕ → Part collapse TypeQualifier
  unfolding FormedSpecs show_type_qualifier weighs
  specs =
      list spec TypeQualifier.no_specs TypeQualifier.specs FormedSpecs show_type_qualifier (λ f h. omega arith)
      (λ x a y b f h. simp sums (omega (arith, a.weight, (b false).weight h.1)))

  unfoldable ids : ℕ → Part collapse LayoutQualifier
  unfolding FormedIds show_layout_ids weighs
  ids =
      list layout_id LayoutQualifier.no_ids LayoutQualifier.ids FormedIds show_layout_ids (λ f h. omega arith)
      (λ x a y b f h. simp sums (omega (arith, a.weight, (b false).weight h.1)))

module _ (collapse : Bool) (ns : List ℕ) (r : Record) where
  pub types_fit : Light collapse FormedType show_type_specifier between (type_of ns r)
  unfolding type_of FormedType show_type_specifier weighs reading Holds
  types_fit =
      kind r 20 (row (give TypeSpecifier.type and base and array_if (eqb r.variant 1)) (λ x a y b h. simp sums (omega (arith, a.weight, b.weight))))
      (parts (give TypeSpecifier.no_type) (λ h. absurd h))

  pub bases_fit : Light collapse FormedBase show_type_specifier_non_array 0 (base_of ns r)
  unfolding base_of fields FormedBase show_type_specifier_non_array weighs reading Holds
  bases_fit =
      kind r 21 (row (give (TypeSpecifierNonArray.Keyword r.variant)) (λ h. omega arith))
      (kind r 22 (row (give (TypeSpecifierNonArray.TypeName (text_of ns r))) (λ h. omega (arith, name_short)))
      (kind r 23 (row (give (TypeSpecifierNonArray.Struct (cond (eqb r.variant 1) (some (text_of ns r)) none)) and fields r.count)
      (λ x a h. simp sums (omega (arith, a.weight h.1, weighs_name (cond (eqb r.variant 1) (some (text_of ns r)) none) (if_declared (cond (eqb r.variant 1) (some (text_of ns r)) none) h.0)))))
      (parts (give TypeSpecifierNonArray.no_base) (λ h. absurd h))))

  pub arrays_fit : Light collapse FormedDimensions show_array_spec 0 (array_of ns r)
  unfolding array_of dimensions FormedDimensions show_array_spec weighs reading Holds
  arrays_fit =
      kind r 24 (row (one (dimensions r.count)) (λ x a h. omega (arith, a.weight h)))
      (parts (give ArraySpecifier.no_dimensions) (λ h. omega arith))

  pub dimensions_fit : Light collapse FormedDimension show_dimension 0 (dimension_of ns r)
  unfolding dimension_of FormedDimension show_dimension weighs reading Holds
  dimensions_fit =
      kind r 25 (variant (eqb r.variant 0) (row (give ArraySpecifierDimension.Unsized) (λ h. omega arith))
      (row (give ArraySpecifierDimension.ExplicitlySized and expr) (λ x a h. simp sums (omega (arith, a.weight h)))))
      (parts (give ArraySpecifierDimension.no_dimension) (λ h. absurd h))

  pub fields_fit : Light collapse FormedField show_struct_field own_line (field_of ns r)
  unfolding field_of identifiers FormedField show_struct_field weighs reading Holds
  fields_fit =
      kind r 26 (row (give StructFieldSpecifier.field and qualification_if (eqb r.variant 1) and type and identifiers r.count)
      (λ x a y b z c h. simp sums (omega (arith, a.weight h.0, b.weight h.1, c.weight (identifiers_formed z.tree h.2)))))
      (parts (give StructFieldSpecifier.no_field) (λ h. absurd h))

  pub identifiers_fit : Light collapse FormedIdentifier show_arrayed_identifier between (identifier_of ns r)
  unfolding identifier_of FormedIdentifier show_arrayed_identifier weighs reading Holds
  identifiers_fit =
      kind r 27 (row (give (ArrayedIdentifier.arrayed (text_of ns r)) and array_if (eqb r.variant 1)) (λ x a h. omega (arith, a.weight h.1, name_short)))
      (parts (give ArrayedIdentifier.no_identifier) (λ h. absurd h))

  pub qualifiers_fit : Light collapse FormedQualifier (λ q. show_type_qualifier q true) between (qualifier_of ns r)
  unfolding qualifier_of specs FormedQualifier show_type_qualifier weighs reading Holds
  qualifiers_fit =
      kind r 28 (row (one (specs r.count)) (λ x a h. omega (arith, a.weight (specs_formed x.tree h))))
      (parts (give TypeQualifier.no_specs) (λ h. absurd h))

  pub specs_fit : Light collapse FormedSpec show_type_qualifier_spec between (spec_of ns r)
  unfolding spec_of types ids FormedSpec show_type_qualifier_spec weighs reading Holds
  specs_fit =
      kind r 29 (variant (ltb r.variant 17) (row (give (TypeQualifierSpec.Storage (storage_of r.variant))) (λ h. omega arith))
      (variant (eqb r.variant 17) (row (give TypeQualifierSpec.Subroutine and types r.count)
      (λ x a h. omega (arith, a.weight h, weighs_unless (without_types x.tree) (show_type_specifiers x.tree true))))
      (variant (eqb r.variant 18) (row (give TypeQualifierSpec.Layout and ids r.count)
      (λ x a h. simp sums (omega (arith, a.weight (ids_formed x.tree h)))))
      (variant (ltb r.variant 22) (row (give (TypeQualifierSpec.Precision (precision_of (r.variant - 19)))) (λ h. omega arith))
      (variant (ltb r.variant 25) (row (give (TypeQualifierSpec.Interpolation (interpolation_of (r.variant - 22)))) (λ h. omega arith))
      (variant (eqb r.variant 25) (row (give TypeQualifierSpec.Invariant) (λ h. omega arith)) (row (give TypeQualifierSpec.Precise) (λ h. omega arith))))))))
      (parts (give TypeQualifierSpec.no_spec) (λ h. absurd h))

  pub layout_ids_fit : Light collapse FormedId show_layout_qualifier_spec between (layout_id_of ns r)
  unfolding layout_id_of FormedId show_layout_qualifier_spec weighs reading Holds
  layout_ids_fit =
      kind r 30 (variant (eqb r.variant 0) (row (give (LayoutQualifierSpec.Ident (text_of ns r))) (λ h. omega (arith, name_short)))
      (variant (eqb r.variant 1) (row (give (LayoutQualifierSpec.IdentIs (text_of ns r)) and expr) (λ x a h. omega (arith, a.weight, name_short)))
      (row (give LayoutQualifierSpec.Shared) (λ h. omega arith))))
      (parts (give LayoutQualifierSpec.no_id) (λ h. absurd h))

  pub full_types_fit : Light collapse FormedFullType show_fully_specified_type 0 (full_type_of ns r)
  unfolding full_type_of FormedFullType show_fully_specified_type weighs reading Holds
  full_types_fit =
      kind r 31 (row (give FullySpecifiedType.full_type and qualification_if (eqb r.variant 1) and type)
      (λ x a y b h. simp sums (omega (arith, a.weight, b.weight))))
      (parts (give FullySpecifiedType.no_full_type) (λ h. absurd h))
