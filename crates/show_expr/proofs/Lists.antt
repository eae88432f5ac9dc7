-- The lists that the printers loop over: how each is read and shown. Assumes nothing.
use mathlib.Core.Path.{◌≡◌, refl}
use mathlib.Core.Bool.{Bool, false}
use mathlib.Core.List.{[], ◌∷◌, ◌++◌}
use Rattle.text.specs.Command.{write_struct_field_separator}
use Rattle.text.specs.Command.Command.{flush_line}
use Rattle.text.specs.Tree.{Expr, Exprs, TypeSpecifier, TypeSpecifiers, ArraySpecifier, ArraySpecifierDimension, StructFieldSpecifier, StructFieldSpecifiers, ArrayedIdentifier, ArrayedIdentifiers, TypeQualifier, TypeQualifierSpec, LayoutQualifier, LayoutQualifierSpec}
use Rattle.text.specs.Text.{separator, space_between, show_struct_fields, show_struct_field, show_arrayed_identifiers, show_arrayed_identifier, show_array_spec, show_dimension, show_type_qualifier, show_type_qualifier_spec, show_type_specifiers, show_type_specifier, show_layout_ids, show_layout_qualifier_spec, show_exprs, show_expr}
use Rattle.text.specs.Reading.{expr, type, dimension, field, identifier, spec, layout_id}
use Rattle.leaves.proofs.Shown.{Listed}

pub fields_none : (f : Bool) → show_struct_fields StructFieldSpecifiers.no_fields ≡ []
unfolding show_struct_fields
fields_none f = refl

pub fields_some : (f : Bool) (x : StructFieldSpecifier) (xs : StructFieldSpecifiers) → show_struct_fields (StructFieldSpecifiers.fields x xs) ≡ (flush_line ∷ show_struct_field x ++ write_struct_field_separator) ++ show_struct_fields xs
unfolding show_struct_fields
fields_some f x xs = refl

abbrev pub fields : Listed StructFieldSpecifier StructFieldSpecifiers
fields = record {
  q = field;
  end = StructFieldSpecifiers.no_fields;
  more = StructFieldSpecifiers.fields;
  item = λ f x. flush_line ∷ show_struct_field x ++ write_struct_field_separator;
  list = λ f xs. show_struct_fields xs;
  none = fields_none;
  some = fields_some;
}

pub identifiers_none : (f : Bool) → show_arrayed_identifiers ArrayedIdentifiers.no_identifiers f ≡ []
unfolding show_arrayed_identifiers
identifiers_none f = refl

pub identifiers_some : (f : Bool) (x : ArrayedIdentifier) (xs : ArrayedIdentifiers) → show_arrayed_identifiers (ArrayedIdentifiers.identifiers x xs) f ≡ (separator f ++ show_arrayed_identifier x) ++ show_arrayed_identifiers xs false
unfolding show_arrayed_identifiers
identifiers_some f x xs = refl

abbrev pub identifiers : Listed ArrayedIdentifier ArrayedIdentifiers
identifiers = record {
  q = identifier;
  end = ArrayedIdentifiers.no_identifiers;
  more = ArrayedIdentifiers.identifiers;
  item = λ f x. separator f ++ show_arrayed_identifier x;
  list = λ f xs. show_arrayed_identifiers xs f;
  none = identifiers_none;
  some = identifiers_some;
}

pub dimensions_none : (f : Bool) → show_array_spec ArraySpecifier.no_dimensions ≡ []
unfolding show_array_spec
dimensions_none f = refl

pub dimensions_some : (f : Bool) (x : ArraySpecifierDimension) (xs : ArraySpecifier) → show_array_spec (ArraySpecifier.dimensions x xs) ≡ (show_dimension x) ++ show_array_spec xs
unfolding show_array_spec
dimensions_some f x xs = refl

abbrev pub dimensions : Listed ArraySpecifierDimension ArraySpecifier
dimensions = record {
  q = dimension;
  end = ArraySpecifier.no_dimensions;
  more = ArraySpecifier.dimensions;
  item = λ f x. show_dimension x;
  list = λ f xs. show_array_spec xs;
  none = dimensions_none;
  some = dimensions_some;
}

pub specs_none : (f : Bool) → show_type_qualifier TypeQualifier.no_specs f ≡ []
unfolding show_type_qualifier
specs_none f = refl

pub specs_some : (f : Bool) (x : TypeQualifierSpec) (xs : TypeQualifier) → show_type_qualifier (TypeQualifier.specs x xs) f ≡ (space_between f ++ show_type_qualifier_spec x) ++ show_type_qualifier xs false
unfolding show_type_qualifier
specs_some f x xs = refl

abbrev pub specs : Listed TypeQualifierSpec TypeQualifier
specs = record {
  q = spec;
  end = TypeQualifier.no_specs;
  more = TypeQualifier.specs;
  item = λ f x. space_between f ++ show_type_qualifier_spec x;
  list = λ f xs. show_type_qualifier xs f;
  none = specs_none;
  some = specs_some;
}

pub types_none : (f : Bool) → show_type_specifiers TypeSpecifiers.no_types f ≡ []
unfolding show_type_specifiers
types_none f = refl

pub types_some : (f : Bool) (x : TypeSpecifier) (xs : TypeSpecifiers) → show_type_specifiers (TypeSpecifiers.types x xs) f ≡ (separator f ++ show_type_specifier x) ++ show_type_specifiers xs false
unfolding show_type_specifiers
types_some f x xs = refl

abbrev pub types : Listed TypeSpecifier TypeSpecifiers
types = record {
  q = type;
  end = TypeSpecifiers.no_types;
  more = TypeSpecifiers.types;
  item = λ f x. separator f ++ show_type_specifier x;
  list = λ f xs. show_type_specifiers xs f;
  none = types_none;
  some = types_some;
}

pub ids_none : (f : Bool) → show_layout_ids LayoutQualifier.no_ids f ≡ []
unfolding show_layout_ids
ids_none f = refl

pub ids_some : (f : Bool) (x : LayoutQualifierSpec) (xs : LayoutQualifier) → show_layout_ids (LayoutQualifier.ids x xs) f ≡ (separator f ++ show_layout_qualifier_spec x) ++ show_layout_ids xs false
unfolding show_layout_ids
ids_some f x xs = refl

abbrev pub ids : Listed LayoutQualifierSpec LayoutQualifier
ids = record {
  q = layout_id;
  end = LayoutQualifier.no_ids;
  more = LayoutQualifier.ids;
  item = λ f x. separator f ++ show_layout_qualifier_spec x;
  list = λ f xs. show_layout_ids xs f;
  none = ids_none;
  some = ids_some;
}

pub arguments_none : (f : Bool) → show_exprs Exprs.no_exprs f ≡ []
unfolding show_exprs
arguments_none f = refl

pub arguments_some : (f : Bool) (x : Expr) (xs : Exprs) → show_exprs (Exprs.exprs x xs) f ≡ (separator f ++ show_expr x) ++ show_exprs xs false
unfolding show_exprs
arguments_some f x xs = refl

abbrev pub arguments : Listed Expr Exprs
arguments = record {
  q = expr;
  end = Exprs.no_exprs;
  more = Exprs.exprs;
  item = λ f x. separator f ++ show_expr x;
  list = λ f xs. show_exprs xs f;
  none = arguments_none;
  some = arguments_some;
}
