-- Formed trees: no `no-..` stands where something is expected, every text has its form, every number its range, and a list that must have an item has
-- one (01, "Tree records"). Depth and size are bounded by the record check and not here. Assumes nothing.
use Rattle.std.specs.Prelude.{◌≡◌, true, List, [], ◌∷◌, ℕ, ◌^◌, ◌<◌, length}
use Rattle.std.proofs.Math.Option.{Option, none, some}
use Rattle.words.specs.Keyword.{type_keywords}
use Rattle.words.specs.declared.NameSort.TheVariants.{Ordinary}
use Rattle.words.specs.Form.{name_form, name_sort, float_form}
use Rattle.text.specs.Tree.{Expr, Exprs, FunIdentifier, TypeSpecifier, TypeSpecifiers, TypeSpecifierNonArray, ArraySpecifier, ArraySpecifierDimension, StructFieldSpecifier, StructFieldSpecifiers, ArrayedIdentifier, ArrayedIdentifiers, Qualification, TypeQualifier, TypeQualifierSpec, LayoutQualifier, LayoutQualifierSpec, FullySpecifiedType, FunctionParameterDeclaration, FunctionPrototype, Initializer, Initializers, SingleDeclaration, SingleDeclarationNoType, InitDeclaratorList, Block, Declaration, Condition, ForInitStatement, JumpStatement, Statement, Statements, ExternalDeclaration, TranslationUnit}

-- texts and numbers (01, "Tree records")
abbrev pub Name : List ℕ → Type 0
Name s = name_form s ≡ true

-- what a function, a struct or a parameter is called: none of the names that GLSL keeps (02, #105)
abbrev pub Declared : List ℕ → Type 0
Declared s = name_sort s ≡ Ordinary

abbrev pub Float : List ℕ → Type 0
Float s = float_form s ≡ true

-- 32 bits
abbrev pub Bits : ℕ → Type 0
Bits n = n < 2 ^ 32

-- one of the type keywords
abbrev pub KeywordNumber : ℕ → Type 0
KeywordNumber v = v < length type_keywords

-- each item of a list, and what may be absent
unfoldable pub Each : {A : Type 0} → (A → Type 0) → List A → Type 0
Each P [] = Unit
Each P (x ∷ xs) = P x × Each P xs

abbrev pub IfThere : {A : Type 0} → (A → Type 0) → Option A → Type 0
IfThere P none = Unit
IfThere P (some x) = P x

-- Expressions, types, arrays, fields and qualifiers. Where a list must have an item, the first is asked for by itself (FormedArray, FormedSomeIdentifiers,
-- FormedQualifier, FormedLayout, FormedSomeInitializers), and the list behind it may be empty.
unfoldable mutual
  pub FormedExpr : Expr → Type 0
  FormedExpr Expr.no_expr = ⊥
  FormedExpr (Expr.Variable s) = Name s
  FormedExpr (Expr.IntConst n) = Bits n
  FormedExpr (Expr.UIntConst n) = Bits n
  FormedExpr (Expr.BoolConst b) = Unit
  FormedExpr (Expr.FloatConst s) = Float s
  FormedExpr (Expr.DoubleConst s) = Float s
  FormedExpr (Expr.Unary op x) = FormedExpr x
  FormedExpr (Expr.Binary op x y) = FormedExpr x × FormedExpr y
  FormedExpr (Expr.Ternary x y z) = FormedExpr x × FormedExpr y × FormedExpr z
  FormedExpr (Expr.Assignment op x y) = FormedExpr x × FormedExpr y
  FormedExpr (Expr.Bracket x y) = FormedExpr x × FormedExpr y
  FormedExpr (Expr.FunCall f xs) = FormedCallee f × FormedExprs xs
  FormedExpr (Expr.Dot s x) = Name s × FormedExpr x
  FormedExpr (Expr.PostInc x) = FormedExpr x
  FormedExpr (Expr.PostDec x) = FormedExpr x
  FormedExpr (Expr.Comma x y) = FormedExpr x × FormedExpr y

  pub FormedExprs : Exprs → Type 0
  FormedExprs Exprs.no_exprs = Unit
  FormedExprs (Exprs.exprs x xs) = FormedExpr x × FormedExprs xs

  pub FormedCallee : FunIdentifier → Type 0
  FormedCallee (FunIdentifier.OfType t) = FormedType t
  FormedCallee (FunIdentifier.OfExpr x) = FormedExpr x

  pub FormedType : TypeSpecifier → Type 0
  FormedType TypeSpecifier.no_type = ⊥
  FormedType (TypeSpecifier.type t ds) = FormedBase t × FormedDimensions ds

  pub FormedTypes : TypeSpecifiers → Type 0
  FormedTypes TypeSpecifiers.no_types = Unit
  FormedTypes (TypeSpecifiers.types t ts) = FormedType t × FormedTypes ts

  pub FormedBase : TypeSpecifierNonArray → Type 0
  FormedBase TypeSpecifierNonArray.no_base = ⊥
  FormedBase (TypeSpecifierNonArray.Keyword v) = KeywordNumber v
  FormedBase (TypeSpecifierNonArray.TypeName s) = Name s
  FormedBase (TypeSpecifierNonArray.Struct s fs) = IfThere Declared s × FormedFields fs

  -- an array that is there; dimensions that may be absent
  pub FormedArray : ArraySpecifier → Type 0
  FormedArray ArraySpecifier.no_dimensions = ⊥
  FormedArray (ArraySpecifier.dimensions d ds) = FormedDimension d × FormedDimensions ds

  pub FormedDimensions : ArraySpecifier → Type 0
  FormedDimensions ArraySpecifier.no_dimensions = Unit
  FormedDimensions (ArraySpecifier.dimensions d ds) = FormedDimension d × FormedDimensions ds

  pub FormedDimension : ArraySpecifierDimension → Type 0
  FormedDimension ArraySpecifierDimension.no_dimension = ⊥
  FormedDimension ArraySpecifierDimension.Unsized = Unit
  FormedDimension (ArraySpecifierDimension.ExplicitlySized x) = FormedExpr x

  pub FormedField : StructFieldSpecifier → Type 0
  FormedField StructFieldSpecifier.no_field = ⊥
  FormedField (StructFieldSpecifier.field q t is) = FormedQualification q × FormedType t × FormedSomeIdentifiers is

  pub FormedFields : StructFieldSpecifiers → Type 0
  FormedFields StructFieldSpecifiers.no_fields = Unit
  FormedFields (StructFieldSpecifiers.fields f fs) = FormedField f × FormedFields fs

  pub FormedIdentifier : ArrayedIdentifier → Type 0
  FormedIdentifier ArrayedIdentifier.no_identifier = ⊥
  FormedIdentifier (ArrayedIdentifier.arrayed s ds) = Name s × FormedDimensions ds

  pub FormedParameterIdentifier : ArrayedIdentifier → Type 0
  FormedParameterIdentifier ArrayedIdentifier.no_identifier = ⊥
  FormedParameterIdentifier (ArrayedIdentifier.arrayed s ds) = Declared s × FormedDimensions ds

  pub FormedSomeIdentifiers : ArrayedIdentifiers → Type 0
  FormedSomeIdentifiers ArrayedIdentifiers.no_identifiers = ⊥
  FormedSomeIdentifiers (ArrayedIdentifiers.identifiers i is) = FormedIdentifier i × FormedIdentifiers is

  pub FormedIdentifiers : ArrayedIdentifiers → Type 0
  FormedIdentifiers ArrayedIdentifiers.no_identifiers = Unit
  FormedIdentifiers (ArrayedIdentifiers.identifiers i is) = FormedIdentifier i × FormedIdentifiers is

  pub FormedQualification : Qualification → Type 0
  FormedQualification Qualification.unqualified = Unit
  FormedQualification (Qualification.qualified q) = FormedQualifier q

  pub FormedQualifier : TypeQualifier → Type 0
  FormedQualifier TypeQualifier.no_specs = ⊥
  FormedQualifier (TypeQualifier.specs q qs) = FormedSpec q × FormedSpecs qs

  pub FormedSpecs : TypeQualifier → Type 0
  FormedSpecs TypeQualifier.no_specs = Unit
  FormedSpecs (TypeQualifier.specs q qs) = FormedSpec q × FormedSpecs qs

  pub FormedSpec : TypeQualifierSpec → Type 0
  FormedSpec TypeQualifierSpec.no_spec = ⊥
  FormedSpec (TypeQualifierSpec.Storage q) = Unit
  FormedSpec (TypeQualifierSpec.Subroutine ts) = FormedTypes ts
  FormedSpec (TypeQualifierSpec.Layout is) = FormedLayout is
  FormedSpec (TypeQualifierSpec.Precision p) = Unit
  FormedSpec (TypeQualifierSpec.Interpolation i) = Unit
  FormedSpec TypeQualifierSpec.Invariant = Unit
  FormedSpec TypeQualifierSpec.Precise = Unit

  pub FormedLayout : LayoutQualifier → Type 0
  FormedLayout LayoutQualifier.no_ids = ⊥
  FormedLayout (LayoutQualifier.ids i is) = FormedId i × FormedIds is

  pub FormedIds : LayoutQualifier → Type 0
  FormedIds LayoutQualifier.no_ids = Unit
  FormedIds (LayoutQualifier.ids i is) = FormedId i × FormedIds is

  pub FormedId : LayoutQualifierSpec → Type 0
  FormedId LayoutQualifierSpec.no_id = ⊥
  FormedId (LayoutQualifierSpec.Ident s) = Name s
  FormedId (LayoutQualifierSpec.IdentIs s x) = Name s × FormedExpr x
  FormedId LayoutQualifierSpec.Shared = Unit

-- declarations

unfoldable pub FormedFullType : FullySpecifiedType → Type 0
FormedFullType FullySpecifiedType.no_full_type = ⊥
FormedFullType (FullySpecifiedType.full_type q t) = FormedQualification q × FormedType t

unfoldable pub FormedParameter : FunctionParameterDeclaration → Type 0
FormedParameter FunctionParameterDeclaration.no_parameter = ⊥
FormedParameter (FunctionParameterDeclaration.Unnamed q t) = FormedQualification q × FormedType t
FormedParameter (FunctionParameterDeclaration.Named q t i) = FormedQualification q × FormedType t × FormedParameterIdentifier i

unfoldable pub FormedPrototype : FunctionPrototype → Type 0
FormedPrototype FunctionPrototype.no_prototype = ⊥
FormedPrototype (FunctionPrototype.prototype s t ps) = Declared s × FormedFullType t × Each FormedParameter ps

unfoldable mutual
  pub FormedInitializer : Initializer → Type 0
  FormedInitializer Initializer.no_initializer = ⊥
  FormedInitializer (Initializer.Simple x) = FormedExpr x
  FormedInitializer (Initializer.ListOf is) = FormedSomeInitializers is

  pub FormedSomeInitializers : Initializers → Type 0
  FormedSomeInitializers Initializers.no_initializers = ⊥
  FormedSomeInitializers (Initializers.initializers i is) = FormedInitializer i × FormedInitializers is

  pub FormedInitializers : Initializers → Type 0
  FormedInitializers Initializers.no_initializers = Unit
  FormedInitializers (Initializers.initializers i is) = FormedInitializer i × FormedInitializers is

unfoldable pub FormedSingle : SingleDeclaration → Type 0
FormedSingle SingleDeclaration.no_single = ⊥
FormedSingle (SingleDeclaration.single t s ds i) = FormedFullType t × IfThere Name s × FormedDimensions ds × IfThere FormedInitializer i

unfoldable pub FormedDeclarator : SingleDeclarationNoType → Type 0
FormedDeclarator SingleDeclarationNoType.no_declarator = ⊥
FormedDeclarator (SingleDeclarationNoType.declarator x i) = FormedIdentifier x × IfThere FormedInitializer i

unfoldable pub FormedDeclarators : InitDeclaratorList → Type 0
FormedDeclarators InitDeclaratorList.no_declarators = ⊥
FormedDeclarators (InitDeclaratorList.declarators d ds) = FormedSingle d × Each FormedDeclarator ds

unfoldable pub FormedBlock : Block → Type 0
FormedBlock Block.no_block = ⊥
FormedBlock (Block.block s q fs i) = Name s × FormedQualifier q × FormedFields fs × IfThere FormedIdentifier i

-- the spec of a precision declaration (01, kind 47: "29 of variant 19..21, else 7")
unfoldable pub FormedPrecision : TypeQualifierSpec → Type 0
FormedPrecision TypeQualifierSpec.no_spec = ⊥
FormedPrecision (TypeQualifierSpec.Storage q) = ⊥
FormedPrecision (TypeQualifierSpec.Subroutine ts) = ⊥
FormedPrecision (TypeQualifierSpec.Layout is) = ⊥
FormedPrecision (TypeQualifierSpec.Precision p) = Unit
FormedPrecision (TypeQualifierSpec.Interpolation i) = ⊥
FormedPrecision TypeQualifierSpec.Invariant = ⊥
FormedPrecision TypeQualifierSpec.Precise = ⊥

unfoldable pub FormedDeclaration : Declaration → Type 0
FormedDeclaration Declaration.no_declaration = ⊥
FormedDeclaration (Declaration.OfPrototype p) = FormedPrototype p
FormedDeclaration (Declaration.OfDeclarators ds) = FormedDeclarators ds
FormedDeclaration (Declaration.Precision p t) = FormedPrecision p × FormedType t
FormedDeclaration (Declaration.OfBlock b) = FormedBlock b
FormedDeclaration (Declaration.Invariant s) = Name s
FormedDeclaration (Declaration.TypeOnly q) = FormedQualifier q

-- statements

unfoldable pub FormedCondition : Condition → Type 0
FormedCondition Condition.no_condition = ⊥
FormedCondition (Condition.OfExpr x) = FormedExpr x
FormedCondition (Condition.Assignment s t i) = Name s × FormedFullType t × FormedInitializer i

unfoldable pub FormedForInit : ForInitStatement → Type 0
FormedForInit ForInitStatement.no_for_init = ⊥
FormedForInit (ForInitStatement.Expression x) = IfThere FormedExpr x
FormedForInit (ForInitStatement.OfDeclaration d) = FormedDeclaration d

unfoldable pub FormedJump : JumpStatement → Type 0
FormedJump JumpStatement.Continue = Unit
FormedJump JumpStatement.Break = Unit
FormedJump JumpStatement.Discard = Unit
FormedJump (JumpStatement.Return x) = IfThere FormedExpr x

unfoldable mutual
  pub FormedStatement : Statement → Type 0
  FormedStatement Statement.no_statement = ⊥
  FormedStatement (Statement.OfDeclaration d) = FormedDeclaration d
  FormedStatement (Statement.Compound ss) = FormedStatements ss
  FormedStatement (Statement.Expression x) = IfThere FormedExpr x
  FormedStatement (Statement.If x s) = FormedExpr x × FormedStatement s
  FormedStatement (Statement.IfElse x s t) = FormedExpr x × FormedStatement s × FormedStatement t
  FormedStatement (Statement.Switch x ss) = FormedExpr x × FormedStatements ss
  FormedStatement Statement.Default = Unit
  FormedStatement (Statement.Case x) = FormedExpr x
  FormedStatement (Statement.While c s) = FormedCondition c × FormedStatement s
  FormedStatement (Statement.DoWhile s x) = FormedStatement s × FormedExpr x
  FormedStatement (Statement.For i c x s) = FormedForInit i × IfThere FormedCondition c × IfThere FormedExpr x × FormedStatement s
  FormedStatement (Statement.OfJump j) = FormedJump j

  pub FormedStatements : Statements → Type 0
  FormedStatements Statements.no_statements = Unit
  FormedStatements (Statements.statements s ss) = FormedStatement s × FormedStatements ss

-- the unit

unfoldable pub FormedExternal : ExternalDeclaration → Type 0
FormedExternal ExternalDeclaration.no_external = ⊥
FormedExternal (ExternalDeclaration.OfDeclaration d) = FormedDeclaration d
FormedExternal (ExternalDeclaration.FunctionDefinition p ss) = FormedPrototype p × FormedStatements ss

abbrev pub FormedUnit : TranslationUnit → Type 0
FormedUnit es = Each FormedExternal es
