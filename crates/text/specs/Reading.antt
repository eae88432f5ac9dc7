-- How records in preorder are read as trees: document 01's table (01, "Tree records"), as a table. Every reading is total: a record that is not of an
-- expected kind is read as the `no-..` of the sort that is expected, which has no records. Assumes nothing.
use Rattle.std.specs.Prelude.{Bool, true, false, cond, List, [], ◌∷◌, ℕ, zero, suc, ◌+◌, ◌-◌, get_or, drop, eqb, ltb}
use Rattle.std.proofs.Math.Option.{Option, none, some}
use Rattle.words.specs.Word.{StorageQualifier, PrecisionQualifier, InterpolationQualifier}
use Rattle.words.specs.Word.StorageQualifier.{const, inout, «in», out, centroid, patch, sample, uniform, buffer, shared, coherent, volatile, restrict, readonly, writeonly, attribute, varying}
use Rattle.records.specs.declared.Record.{Record}
use Rattle.records.specs.Record.{record_at, record_count, text_of, bit0, bit1, bit2}
use Rattle.text.specs.Tree.{Identifier, UnaryOp, BinaryOp, AssignmentOp, Expr, Exprs, FunIdentifier, TypeSpecifier, TypeSpecifiers, TypeSpecifierNonArray, ArraySpecifier, ArraySpecifierDimension, StructFieldSpecifier, StructFieldSpecifiers, ArrayedIdentifier, ArrayedIdentifiers, Qualification, TypeQualifier, TypeQualifierSpec, LayoutQualifier, LayoutQualifierSpec, FullySpecifiedType, FunctionParameterDeclaration, FunctionPrototype, Initializer, Initializers, SingleDeclaration, SingleDeclarationNoType, InitDeclaratorList, Block, Declaration, Condition, ForInitStatement, JumpStatement, Statement, Statements, ExternalDeclaration, TranslationUnit}

-- a tree, and how many records were read for it
pub record Read (A : Type 0) : Type 0 where
  pub tree : A
  pub size : ℕ

-- what a record is, with those behind it, as each sort of tree
pub record Item : Type 0 where
  pub kind : ℕ
  pub expr : Read Expr
  pub type : Read TypeSpecifier
  pub base : Read TypeSpecifierNonArray
  pub array : Read ArraySpecifier
  pub dimension : Read ArraySpecifierDimension
  pub field : Read StructFieldSpecifier
  pub identifier : Read ArrayedIdentifier
  pub qualifier : Read TypeQualifier
  pub spec : Read TypeQualifierSpec
  pub layout_id : Read LayoutQualifierSpec
  pub full_type : Read FullySpecifiedType
  pub prototype : Read FunctionPrototype
  pub parameter : Read FunctionParameterDeclaration
  pub declarators : Read InitDeclaratorList
  pub single : Read SingleDeclaration
  pub declarator : Read SingleDeclarationNoType
  pub initializer : Read Initializer
  pub block : Read Block
  pub declaration : Read Declaration
  pub compound : Read Statements
  pub statement : Read Statement
  pub condition : Read Condition
  pub for_init : Read ForInitStatement
  pub external : Read ExternalDeclaration
  pub unit : Read TranslationUnit

abbrev pub nothing : {A : Type 0} → A → Read A
nothing a = record { tree = a; size = 0 }

-- A reading of the records from a place on: they are given as what they are, nearest first.
abbrev pub Reader : Type 0 → Type 0
Reader A = List Item → Read A

-- what stands first, as one sort; where no record is left, the `no-..` of that sort
unfoldable pub first : {A : Type 0} → (Item → Read A) → A → Reader A
first sort a [] = nothing a
first sort a (x ∷ L) = sort x

-- its kind, 0 where no record is left
unfoldable pub first_kind : List Item → ℕ
first_kind [] = 0
first_kind (x ∷ L) = x.kind

-- `give t`: the tree t, for which no record is read. `give f and p and q ..`: the tree f x y .. of the parts x, y, .. that p, q, .. read, one behind
-- the other.
abbrev pub give : {A : Type 0} → A → Reader A
give a L = nothing a

-- the same records as another tree
abbrev pub made : {A B : Type 0} → (A → B) → Read A → Read B
made f x = record { tree = f x.tree; size = x.size }

abbrev pub applied : {A B : Type 0} → Read (A → B) → Read A → Read B
applied f x = record { tree = f.tree x.tree; size = f.size + x.size }

abbrev pub behind : {A B : Type 0} → Read (A → B) → Reader A → Reader B
behind f p L = applied f (p (drop f.size L))

infixl 20 ◌and◌
abbrev pub ◌and◌ : {A B : Type 0} → Reader (A → B) → Reader A → Reader B
◌and◌ f p L = behind (f L) p L

-- n parts, from the first to the last
unfoldable pub several : {A B : Type 0} → ℕ → Reader A → B → (A → B → B) → Reader B
several zero p end more = give end
several (suc n) p end more = give more and p and several n p end more

-- a part that is there or not
abbrev pub maybe : {A : Type 0} → Bool → Reader A → Reader (Option A)
maybe true p = give some and p
maybe false p = give none

-- the readings of one sort, by kind or by variant
pub record Row (A : Type 0) : Type 0 where
  pub number : ℕ
  pub reading : Reader A

abbrev pub at : {A : Type 0} → ℕ → Reader A → Row A
at k p = record { number = k; reading = p }

-- one record more
abbrev pub counted : {A : Type 0} → Read A → Read A
counted x = record { tree = x.tree; size = 1 + x.size }

-- a record of this kind and its parts; a record of this kind as another sort
abbrev pub kind : {A : Type 0} → ℕ → Reader A → Row A
kind k p = record { number = k; reading = λ L. counted (p L) }

abbrev pub as_sort : {A B : Type 0} → ℕ → (A → B) → Reader A → Row B
as_sort k f p = record { number = k; reading = λ L. made f (p L) }

-- a record of another kind is none of the sort
abbrev pub by_kind : {A : Type 0} → ℕ → A → List (Row A) → Reader A
by_kind k a [] = give a
by_kind k a (r ∷ rs) = cond (eqb k r.number) r.reading (by_kind k a rs)

abbrev pub by_variant : {A : Type 0} → ℕ → List (Row A) → Reader A → Reader A
by_variant v [] last = last
by_variant v (r ∷ rs) last = cond (eqb v r.number) r.reading (by_variant v rs last)

-- the parts: what stands first, as each sort (and `..Of`, below, is the reading of a record as that sort)
abbrev pub expr : Reader Expr
expr = first (λ x. x.expr) Expr.no_expr

abbrev pub type : Reader TypeSpecifier
type = first (λ x. x.type) TypeSpecifier.no_type

abbrev pub base : Reader TypeSpecifierNonArray
base = first (λ x. x.base) TypeSpecifierNonArray.no_base

abbrev pub array : Reader ArraySpecifier
array = first (λ x. x.array) ArraySpecifier.no_dimensions

abbrev pub dimension : Reader ArraySpecifierDimension
dimension = first (λ x. x.dimension) ArraySpecifierDimension.no_dimension

abbrev pub field : Reader StructFieldSpecifier
field = first (λ x. x.field) StructFieldSpecifier.no_field

abbrev pub identifier : Reader ArrayedIdentifier
identifier = first (λ x. x.identifier) ArrayedIdentifier.no_identifier

abbrev pub qualifier : Reader TypeQualifier
qualifier = first (λ x. x.qualifier) TypeQualifier.no_specs

abbrev pub spec : Reader TypeQualifierSpec
spec = first (λ x. x.spec) TypeQualifierSpec.no_spec

abbrev pub layout_id : Reader LayoutQualifierSpec
layout_id = first (λ x. x.layout_id) LayoutQualifierSpec.no_id

abbrev pub full_type : Reader FullySpecifiedType
full_type = first (λ x. x.full_type) FullySpecifiedType.no_full_type

abbrev pub prototype : Reader FunctionPrototype
prototype = first (λ x. x.prototype) FunctionPrototype.no_prototype

abbrev pub parameter : Reader FunctionParameterDeclaration
parameter = first (λ x. x.parameter) FunctionParameterDeclaration.no_parameter

abbrev pub declarators : Reader InitDeclaratorList
declarators = first (λ x. x.declarators) InitDeclaratorList.no_declarators

abbrev pub single : Reader SingleDeclaration
single = first (λ x. x.single) SingleDeclaration.no_single

abbrev pub declarator : Reader SingleDeclarationNoType
declarator = first (λ x. x.declarator) SingleDeclarationNoType.no_declarator

abbrev pub initializer : Reader Initializer
initializer = first (λ x. x.initializer) Initializer.no_initializer

abbrev pub block : Reader Block
block = first (λ x. x.block) Block.no_block

abbrev pub declaration : Reader Declaration
declaration = first (λ x. x.declaration) Declaration.no_declaration

abbrev pub compound : Reader Statements
compound = first (λ x. x.compound) Statements.no_statements

abbrev pub statement : Reader Statement
statement = first (λ x. x.statement) Statement.no_statement

abbrev pub condition : Reader Condition
condition = first (λ x. x.condition) Condition.no_condition

abbrev pub for_init : Reader ForInitStatement
for_init = first (λ x. x.for_init) ForInitStatement.no_for_init

abbrev pub external : Reader ExternalDeclaration
external = first (λ x. x.external) ExternalDeclaration.no_external

abbrev pub unit : Reader TranslationUnit
unit = first (λ x. x.unit) []

-- a type or an expression
abbrev pub callee : Reader FunIdentifier
callee L = cond (eqb (first_kind L) 20) (give FunIdentifier.OfType and type) (give FunIdentifier.OfExpr and expr) L

-- dimensions that are there or not, and likewise a qualifier
abbrev pub array_if : Bool → Reader ArraySpecifier
array_if true = array
array_if false = give ArraySpecifier.no_dimensions

abbrev pub qualification_if : Bool → Reader Qualification
qualification_if true = give Qualification.qualified and qualifier
qualification_if false = give Qualification.unqualified

-- variants. One that is out of range is refused (7), so what it is read as never matters: in these tables it is the last.
unfoldable pub unary_op_of : ℕ → UnaryOp
unary_op_of v = get_or (UnaryOp.Inc ∷ UnaryOp.Dec ∷ UnaryOp.Add ∷ UnaryOp.Minus ∷ UnaryOp.Not ∷ []) v UnaryOp.Complement

unfoldable pub binary_op_of : ℕ → BinaryOp
binary_op_of v = get_or (BinaryOp.Or ∷ BinaryOp.Xor ∷ BinaryOp.And ∷ BinaryOp.BitOr ∷ BinaryOp.BitXor ∷ BinaryOp.BitAnd ∷ BinaryOp.Equal ∷ BinaryOp.NonEqual ∷ BinaryOp.Lt ∷ BinaryOp.Gt ∷ BinaryOp.Lte ∷ BinaryOp.Gte ∷ BinaryOp.LShift ∷ BinaryOp.RShift ∷ BinaryOp.Add ∷ BinaryOp.Sub ∷ BinaryOp.Mult ∷ BinaryOp.Div ∷ []) v BinaryOp.Mod

unfoldable pub assignment_op : ℕ → AssignmentOp
assignment_op v = get_or (AssignmentOp.Equal ∷ AssignmentOp.Mult ∷ AssignmentOp.Div ∷ AssignmentOp.Mod ∷ AssignmentOp.Add ∷ AssignmentOp.Sub ∷ AssignmentOp.LShift ∷ AssignmentOp.RShift ∷ AssignmentOp.And ∷ AssignmentOp.Xor ∷ []) v AssignmentOp.Or

unfoldable pub storage_of : ℕ → StorageQualifier
storage_of v = get_or (const ∷ inout ∷ «in» ∷ out ∷ centroid ∷ patch ∷ sample ∷ uniform ∷ buffer ∷ shared ∷ coherent ∷ volatile ∷ restrict ∷ readonly ∷ writeonly ∷ attribute ∷ []) v varying

abbrev pub precision_of : ℕ → PrecisionQualifier
precision_of v = get_or (PrecisionQualifier.highp ∷ PrecisionQualifier.mediump ∷ []) v PrecisionQualifier.lowp

abbrev pub interpolation_of : ℕ → InterpolationQualifier
interpolation_of v = get_or (InterpolationQualifier.smooth ∷ InterpolationQualifier.flat ∷ []) v InterpolationQualifier.noperspective

-- n statements
abbrev pub statements : ℕ → Reader Statements
statements n = several n statement Statements.no_statements Statements.statements

-- a jump, by its variant
abbrev pub jump_statement : (v : ℕ) → Reader JumpStatement
jump_statement v =
    by_variant v (at 0 (give JumpStatement.Continue) ∷ at 1 (give JumpStatement.Break) ∷ at 2 (give JumpStatement.Discard) ∷ at 3 (give (JumpStatement.Return none)) ∷ [])
    (give (λ e. JumpStatement.Return (some e)) and expr)

module _ (names : List ℕ) (r : Record) where
  abbrev v : ℕ
  v = r.variant

  abbrev n : ℕ
  n = r.count

  abbrev T : Identifier
  T = text_of names r

  unfoldable pub expr_of : Reader Expr
  expr_of = by_kind r.kind Expr.no_expr (
      kind 1 (give (Expr.Variable T))
      ∷ kind 2 (give (Expr.IntConst r.a))
      ∷ kind 3 (give (Expr.UIntConst r.a))
      ∷ kind 4 (give (Expr.BoolConst (eqb v 1)))
      ∷ kind 5 (give (Expr.FloatConst T))
      ∷ kind 6 (give (Expr.DoubleConst T))
      ∷ kind 7 (give (Expr.Unary (unary_op_of v)) and expr)
      ∷ kind 8 (give (Expr.Binary (binary_op_of v)) and expr and expr)
      ∷ kind 9 (give Expr.Ternary and expr and expr and expr)
      ∷ kind 10 (give (Expr.Assignment (assignment_op v)) and expr and expr)
      ∷ kind 11 (give Expr.Bracket and expr and expr)
      ∷ kind 12 (give Expr.FunCall and callee and several n expr Exprs.no_exprs Exprs.exprs)
      ∷ kind 13 (give (Expr.Dot T) and expr)
      ∷ kind 14 (give Expr.PostInc and expr)
      ∷ kind 15 (give Expr.PostDec and expr)
      ∷ kind 16 (give Expr.Comma and expr and expr)
      ∷ [])

  unfoldable pub type_of : Reader TypeSpecifier
  type_of = by_kind r.kind TypeSpecifier.no_type (kind 20 (give TypeSpecifier.type and base and array_if (eqb v 1)) ∷ [])

  unfoldable pub base_of : Reader TypeSpecifierNonArray
  base_of = by_kind r.kind TypeSpecifierNonArray.no_base (
      kind 21 (give (TypeSpecifierNonArray.Keyword v))
      ∷ kind 22 (give (TypeSpecifierNonArray.TypeName T))
      ∷ kind 23 (give (TypeSpecifierNonArray.Struct (cond (eqb v 1) (some T) none)) and several n field StructFieldSpecifiers.no_fields StructFieldSpecifiers.fields)
      ∷ [])

  unfoldable pub array_of : Reader ArraySpecifier
  array_of = by_kind r.kind ArraySpecifier.no_dimensions (kind 24 (several n dimension ArraySpecifier.no_dimensions ArraySpecifier.dimensions) ∷ [])

  unfoldable pub dimension_of : Reader ArraySpecifierDimension
  dimension_of = by_kind r.kind ArraySpecifierDimension.no_dimension (kind 25 (by_variant v (at 0 (give ArraySpecifierDimension.Unsized) ∷ []) (give ArraySpecifierDimension.ExplicitlySized and expr)) ∷ [])

  unfoldable pub field_of : Reader StructFieldSpecifier
  field_of = by_kind r.kind StructFieldSpecifier.no_field (
      kind 26 (give StructFieldSpecifier.field and qualification_if (eqb v 1) and type and several n identifier ArrayedIdentifiers.no_identifiers ArrayedIdentifiers.identifiers)
      ∷ [])

  unfoldable pub identifier_of : Reader ArrayedIdentifier
  identifier_of = by_kind r.kind ArrayedIdentifier.no_identifier (kind 27 (give (ArrayedIdentifier.arrayed T) and array_if (eqb v 1)) ∷ [])

  unfoldable pub qualifier_of : Reader TypeQualifier
  qualifier_of = by_kind r.kind TypeQualifier.no_specs (kind 28 (several n spec TypeQualifier.no_specs TypeQualifier.specs) ∷ [])

  unfoldable pub spec_of : Reader TypeQualifierSpec
  spec_of = by_kind r.kind TypeQualifierSpec.no_spec (
      kind 29
      (cond (ltb v 17) (give (TypeQualifierSpec.Storage (storage_of v)))
      (cond (eqb v 17) (give TypeQualifierSpec.Subroutine and several n type TypeSpecifiers.no_types TypeSpecifiers.types)
      (cond (eqb v 18) (give TypeQualifierSpec.Layout and several n layout_id LayoutQualifier.no_ids LayoutQualifier.ids)
      (cond (ltb v 22) (give (TypeQualifierSpec.Precision (precision_of (v - 19))))
      (cond (ltb v 25) (give (TypeQualifierSpec.Interpolation (interpolation_of (v - 22))))
      (cond (eqb v 25) (give TypeQualifierSpec.Invariant) (give TypeQualifierSpec.Precise)))))))
      ∷ [])

  unfoldable pub layout_id_of : Reader LayoutQualifierSpec
  layout_id_of = by_kind r.kind LayoutQualifierSpec.no_id (
      kind 30 (by_variant v (at 0 (give (LayoutQualifierSpec.Ident T)) ∷ at 1 (give (LayoutQualifierSpec.IdentIs T) and expr) ∷ []) (give LayoutQualifierSpec.Shared))
      ∷ [])

  unfoldable pub full_type_of : Reader FullySpecifiedType
  full_type_of = by_kind r.kind FullySpecifiedType.no_full_type (kind 31 (give FullySpecifiedType.full_type and qualification_if (eqb v 1) and type) ∷ [])

  unfoldable pub prototype_of : Reader FunctionPrototype
  prototype_of = by_kind r.kind FunctionPrototype.no_prototype (kind 40 (give (FunctionPrototype.prototype T) and full_type and several n parameter [] ◌∷◌) ∷ [])

  unfoldable pub parameter_of : Reader FunctionParameterDeclaration
  parameter_of = by_kind r.kind FunctionParameterDeclaration.no_parameter (
      kind 41
      (cond (bit0 v)
      (give FunctionParameterDeclaration.Named and qualification_if (bit1 v) and type and identifier)
      (give FunctionParameterDeclaration.Unnamed and qualification_if (bit1 v) and type))
      ∷ [])

  unfoldable pub declarators_of : Reader InitDeclaratorList
  declarators_of = by_kind r.kind InitDeclaratorList.no_declarators (kind 42 (give InitDeclaratorList.declarators and single and several n declarator [] ◌∷◌) ∷ [])

  unfoldable pub single_of : Reader SingleDeclaration
  single_of = by_kind r.kind SingleDeclaration.no_single (
      kind 43 (give SingleDeclaration.single and full_type and give (cond (bit0 v) (some T) none) and array_if (bit1 v) and maybe (bit2 v) initializer)
      ∷ [])

  unfoldable pub declarator_of : Reader SingleDeclarationNoType
  declarator_of = by_kind r.kind SingleDeclarationNoType.no_declarator (kind 44 (give SingleDeclarationNoType.declarator and identifier and maybe (eqb v 1) initializer) ∷ [])

  unfoldable pub initializer_of : Reader Initializer
  initializer_of = by_kind r.kind Initializer.no_initializer (
      kind 45 (by_variant v (at 0 (give Initializer.Simple and expr) ∷ []) (give Initializer.ListOf and several n initializer Initializers.no_initializers Initializers.initializers))
      ∷ [])

  unfoldable pub block_of : Reader Block
  block_of = by_kind r.kind Block.no_block (
      kind 46 (give (Block.block T) and qualifier and several n field StructFieldSpecifiers.no_fields StructFieldSpecifiers.fields and maybe (eqb v 1) identifier)
      ∷ [])

  unfoldable pub declaration_of : Reader Declaration
  declaration_of = by_kind r.kind Declaration.no_declaration (
      kind 47
      (by_variant v
      (at 0 (give Declaration.OfPrototype and prototype)
      ∷ at 1 (give Declaration.OfDeclarators and declarators)
      ∷ at 2 (give Declaration.Precision and spec and type)
      ∷ at 3 (give Declaration.OfBlock and block)
      ∷ at 4 (give (Declaration.Invariant T))
      ∷ [])
      (give Declaration.TypeOnly and qualifier))
      ∷ [])

  unfoldable pub compound_of : Reader Statements
  compound_of = by_kind r.kind Statements.no_statements (kind 60 (statements n) ∷ [])

  unfoldable pub statement_of : Reader Statement
  statement_of = by_kind r.kind Statement.no_statement (
      as_sort 47 Statement.OfDeclaration declaration_of
      ∷ as_sort 60 Statement.Compound compound_of
      ∷ kind 61 (give Statement.Expression and maybe (eqb v 1) expr)
      ∷ kind 62 (by_variant v (at 0 (give Statement.If and expr and statement) ∷ []) (give Statement.IfElse and expr and statement and statement))
      ∷ kind 63 (give Statement.Switch and expr and statements n)
      ∷ kind 64 (by_variant v (at 0 (give Statement.Default) ∷ []) (give Statement.Case and expr))
      ∷ kind 65 (give Statement.While and condition and statement)
      ∷ kind 66 (give Statement.DoWhile and statement and expr)
      ∷ kind 67 (give Statement.For and for_init and maybe (bit0 v) condition and maybe (bit1 v) expr and statement)
      ∷ kind 68 (give Statement.OfJump and jump_statement v)
      ∷ [])

  unfoldable pub condition_of : Reader Condition
  condition_of = by_kind r.kind Condition.no_condition (
      kind 69 (by_variant v (at 0 (give Condition.OfExpr and expr) ∷ []) (give (Condition.Assignment T) and full_type and initializer))
      ∷ [])

  unfoldable pub for_init_of : Reader ForInitStatement
  for_init_of = by_kind r.kind ForInitStatement.no_for_init (
      kind 70 (by_variant v (at 0 (give (ForInitStatement.Expression none)) ∷ at 1 (give (λ e. ForInitStatement.Expression (some e)) and expr) ∷ []) (give ForInitStatement.OfDeclaration and declaration))
      ∷ [])

  unfoldable pub external_of : Reader ExternalDeclaration
  external_of = by_kind r.kind ExternalDeclaration.no_external (
      as_sort 47 ExternalDeclaration.OfDeclaration declaration_of
      ∷ kind 81 (give ExternalDeclaration.FunctionDefinition and prototype and compound)
      ∷ [])

  unfoldable pub unit_of : Reader TranslationUnit
  unit_of = by_kind r.kind [] (kind 80 (several n external [] ◌∷◌) ∷ [])

-- what a record is, before the records L
unfoldable pub item_of : List ℕ → Record → List Item → Item
item_of names r L = record {
  kind = r.kind;
  expr = expr_of names r L;
  type = type_of names r L;
  base = base_of names r L;
  array = array_of names r L;
  dimension = dimension_of names r L;
  field = field_of names r L;
  identifier = identifier_of names r L;
  qualifier = qualifier_of names r L;
  spec = spec_of names r L;
  layout_id = layout_id_of names r L;
  full_type = full_type_of names r L;
  prototype = prototype_of names r L;
  parameter = parameter_of names r L;
  declarators = declarators_of names r L;
  single = single_of names r L;
  declarator = declarator_of names r L;
  initializer = initializer_of names r L;
  block = block_of names r L;
  declaration = declaration_of names r L;
  compound = compound_of names r L;
  statement = statement_of names r L;
  condition = condition_of names r L;
  for_init = for_init_of names r L;
  external = external_of names r L;
  unit = unit_of names r L;
}

abbrev pub onto : List ℕ → Record → List Item → List Item
onto names r L = item_of names r L ∷ L

-- n records, from record i on
unfoldable pub items : ℕ → List ℕ → List ℕ → ℕ → List Item
items zero records names i = []
items (suc n) records names i = onto names (record_at records i) (items n records names (i + 1))

-- record i and those behind it
unfoldable pub from : List ℕ → List ℕ → ℕ → List Item
from records names i = items (record_count records - i) records names i
