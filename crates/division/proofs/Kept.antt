-- Where tokens would be read as one, the settings put a space (02, #103 and #106), in every part of an expression or a unit: what the division of its text into tokens asks for (proofs/Divided,
-- Units), and what follows from it (proofs/Told). Assumes nothing.
use mathlib.Core.Path.{◌≡◌, refl}
use mathlib.Core.Bool.{Bool, true, false, ◌&&◌}
use mathlib.Core.List.{List}
use mathlib.Core.Option.{Option, none, some}
use Prim.Native.Nat.{ℕ}
use Rattle.settings.specs.declared.Settings.{Settings}
use Rattle.text.specs.Asked.{Flag, flag}
use Rattle.text.specs.Asked.Flag.{spaces_around_binary_ops, spaces_where_needed, needed_operator_spaces}
use Rattle.text.specs.Tree.{Identifier, Expr, Exprs, FunIdentifier, TypeSpecifier, TypeSpecifiers, TypeSpecifierNonArray, ArraySpecifier, ArraySpecifierDimension, StructFieldSpecifier, StructFieldSpecifiers, ArrayedIdentifier, ArrayedIdentifiers, Qualification, TypeQualifier, TypeQualifierSpec, LayoutQualifier, LayoutQualifierSpec, FullySpecifiedType, FunctionParameterDeclaration, FunctionPrototype, Initializer, Initializers, SingleDeclaration, SingleDeclarationNoType, InitDeclaratorList, Block, Declaration, Condition, ForInitStatement, JumpStatement, Statement, Statements, ExternalDeclaration, TranslationUnit}
use Rattle.text.specs.Tree.Expr.{no_expr, Variable, IntConst, UIntConst, BoolConst, FloatConst, DoubleConst, Unary, Binary, Ternary, Assignment, Bracket, FunCall, Dot, PostInc, PostDec, Comma}
use Rattle.text.specs.Tree.Exprs.{no_exprs, exprs}
use Rattle.text.specs.Tree.FunIdentifier.{OfType, OfExpr}
use Rattle.text.specs.Tree.TypeSpecifier.{no_type, type}
use Rattle.text.specs.Tree.TypeSpecifierNonArray.{no_base, Keyword, TypeName, Struct}
use Rattle.text.specs.Tree.ArraySpecifier.{no_dimensions, dimensions}
use Rattle.text.specs.Tree.ArraySpecifierDimension.{no_dimension, Unsized, ExplicitlySized}
use Rattle.text.specs.Joins.{joins_under, joins_right, is_int}
use Rattle.formed.specs.Formed.{Each, IfThere}
use Rattle.lexis.specs.Glsl.{any}

-- a number that is not an IntConst
unfoldable pub is_other : Expr → Bool
is_other no_expr = false
is_other (Variable n) = false
is_other (IntConst n) = false
is_other (UIntConst n) = true
is_other (BoolConst b) = false
is_other (FloatConst t) = true
is_other (DoubleConst t) = true
is_other (Unary op e) = false
is_other (Binary op l r) = false
is_other (Ternary c s e) = false
is_other (Assignment op v e) = false
is_other (Bracket e a) = false
is_other (FunCall f es) = false
is_other (Dot i e) = false
is_other (PostInc e) = false
is_other (PostDec e) = false
is_other (Comma a b) = false

-- any name passes, if it is there
pub any_name : (n : Option Identifier) → IfThere (λ i. any i ≡ true) n
any_name none = tt
any_name (some i) = refl

-- where a space is needed, the settings ask for it
abbrev pub Asked : Settings → (needed : Bool) → Flag → Type 0
Asked s needed f = needed ≡ true → flag s f ≡ true

-- every part included: a space stands where tokens would be read as one (behind a binary operator it may be an operator space), in a wide language no dot stands behind another number than an
-- IntConst, and names pass a test. Of what is no tree nothing is asked: formed trees have none of it.
module _ (wide : Bool) (passes : List ℕ → Bool) (s : Settings) where
  abbrev pub Passes : Identifier → Type 0
  Passes i = passes i ≡ true

  unfoldable mutual
    pub Kept : Expr → Type 0
    Kept no_expr = Unit
    Kept (Variable n) = Passes n
    Kept (IntConst n) = Unit
    Kept (UIntConst n) = Unit
    Kept (BoolConst b) = Unit
    Kept (FloatConst t) = Unit
    Kept (DoubleConst t) = Unit
    Kept (Unary op e) = Asked s (joins_under op e) spaces_where_needed × Kept e
    Kept (Binary op l r) = (flag s spaces_around_binary_ops ≡ false → Asked s (joins_right op r) needed_operator_spaces) × Kept l × Kept r
    Kept (Ternary c a b) = Kept c × Kept a × Kept b
    Kept (Assignment op v e) = Kept v × Kept e
    Kept (Bracket e a) = Kept e × Kept a
    Kept (FunCall f es) = KeptCallee f × KeptArguments es
    Kept (Dot i e) = Asked s (is_int e) spaces_where_needed × (wide && is_other e ≡ false) × Passes i × Kept e
    Kept (PostInc e) = Kept e
    Kept (PostDec e) = Kept e
    Kept (Comma a b) = Kept a × Kept b

    pub KeptCallee : FunIdentifier → Type 0
    KeptCallee (OfType t) = KeptType t
    KeptCallee (OfExpr e) = Kept e

    pub KeptArguments : Exprs → Type 0
    KeptArguments no_exprs = Unit
    KeptArguments (exprs e es) = Kept e × KeptArguments es

    pub KeptType : TypeSpecifier → Type 0
    KeptType no_type = Unit
    KeptType (type b ds) = KeptBase b × KeptArray ds

    pub KeptBase : TypeSpecifierNonArray → Type 0
    KeptBase no_base = Unit
    KeptBase (Keyword v) = Unit
    KeptBase (TypeName n) = Passes n
    KeptBase (Struct n fs) = IfThere Passes n × KeptFields fs

    pub KeptTypes : TypeSpecifiers → Type 0
    KeptTypes TypeSpecifiers.no_types = Unit
    KeptTypes (TypeSpecifiers.types t ts) = KeptType t × KeptTypes ts

    pub KeptFields : StructFieldSpecifiers → Type 0
    KeptFields StructFieldSpecifiers.no_fields = Unit
    KeptFields (StructFieldSpecifiers.fields f fs) = KeptField f × KeptFields fs

    pub KeptField : StructFieldSpecifier → Type 0
    KeptField StructFieldSpecifier.no_field = Unit
    KeptField (StructFieldSpecifier.field q t is) = KeptQualification q × KeptType t × KeptIdentifiers is

    pub KeptIdentifiers : ArrayedIdentifiers → Type 0
    KeptIdentifiers ArrayedIdentifiers.no_identifiers = Unit
    KeptIdentifiers (ArrayedIdentifiers.identifiers i is) = KeptIdentifier i × KeptIdentifiers is

    pub KeptIdentifier : ArrayedIdentifier → Type 0
    KeptIdentifier ArrayedIdentifier.no_identifier = Unit
    KeptIdentifier (ArrayedIdentifier.arrayed i ds) = Passes i × KeptArray ds

    pub KeptQualification : Qualification → Type 0
    KeptQualification Qualification.unqualified = Unit
    KeptQualification (Qualification.qualified q) = KeptQualifier q

    pub KeptQualifier : TypeQualifier → Type 0
    KeptQualifier TypeQualifier.no_specs = Unit
    KeptQualifier (TypeQualifier.specs q qs) = KeptSpec q × KeptQualifier qs

    pub KeptSpec : TypeQualifierSpec → Type 0
    KeptSpec TypeQualifierSpec.no_spec = Unit
    KeptSpec (TypeQualifierSpec.Storage q) = Unit
    KeptSpec (TypeQualifierSpec.Subroutine ts) = KeptTypes ts
    KeptSpec (TypeQualifierSpec.Layout is) = KeptIds is
    KeptSpec (TypeQualifierSpec.Precision p) = Unit
    KeptSpec (TypeQualifierSpec.Interpolation i) = Unit
    KeptSpec TypeQualifierSpec.Invariant = Unit
    KeptSpec TypeQualifierSpec.Precise = Unit

    pub KeptIds : LayoutQualifier → Type 0
    KeptIds LayoutQualifier.no_ids = Unit
    KeptIds (LayoutQualifier.ids i is) = KeptId i × KeptIds is

    pub KeptId : LayoutQualifierSpec → Type 0
    KeptId LayoutQualifierSpec.no_id = Unit
    KeptId (LayoutQualifierSpec.Ident i) = Passes i
    KeptId (LayoutQualifierSpec.IdentIs i e) = Passes i × Kept e
    KeptId LayoutQualifierSpec.Shared = Unit

    pub KeptArray : ArraySpecifier → Type 0
    KeptArray no_dimensions = Unit
    KeptArray (dimensions d ds) = KeptDimension d × KeptArray ds

    pub KeptDimension : ArraySpecifierDimension → Type 0
    KeptDimension no_dimension = Unit
    KeptDimension Unsized = Unit
    KeptDimension (ExplicitlySized e) = Kept e

  -- declarations, statements and the unit

  unfoldable pub KeptFull : FullySpecifiedType → Type 0
  KeptFull FullySpecifiedType.no_full_type = Unit
  KeptFull (FullySpecifiedType.full_type q t) = KeptQualification q × KeptType t

  unfoldable pub KeptParameter : FunctionParameterDeclaration → Type 0
  KeptParameter FunctionParameterDeclaration.no_parameter = Unit
  KeptParameter (FunctionParameterDeclaration.Unnamed q t) = KeptQualification q × KeptType t
  KeptParameter (FunctionParameterDeclaration.Named q t i) = KeptQualification q × KeptType t × KeptIdentifier i

  unfoldable pub KeptPrototype : FunctionPrototype → Type 0
  KeptPrototype FunctionPrototype.no_prototype = Unit
  KeptPrototype (FunctionPrototype.prototype i t ps) = Passes i × KeptFull t × Each KeptParameter ps

  unfoldable mutual
    pub KeptInitializer : Initializer → Type 0
    KeptInitializer Initializer.no_initializer = Unit
    KeptInitializer (Initializer.Simple e) = Kept e
    KeptInitializer (Initializer.ListOf is) = KeptInitializers is

    pub KeptInitializers : Initializers → Type 0
    KeptInitializers Initializers.no_initializers = Unit
    KeptInitializers (Initializers.initializers i is) = KeptInitializer i × KeptInitializers is

  unfoldable pub KeptSingle : SingleDeclaration → Type 0
  KeptSingle SingleDeclaration.no_single = Unit
  KeptSingle (SingleDeclaration.single t n ds i) = KeptFull t × IfThere Passes n × KeptArray ds × IfThere KeptInitializer i

  unfoldable pub KeptDeclarator : SingleDeclarationNoType → Type 0
  KeptDeclarator SingleDeclarationNoType.no_declarator = Unit
  KeptDeclarator (SingleDeclarationNoType.declarator x i) = KeptIdentifier x × IfThere KeptInitializer i

  unfoldable pub KeptDeclarators : InitDeclaratorList → Type 0
  KeptDeclarators InitDeclaratorList.no_declarators = Unit
  KeptDeclarators (InitDeclaratorList.declarators d ds) = KeptSingle d × Each KeptDeclarator ds

  unfoldable pub KeptBlock : Block → Type 0
  KeptBlock Block.no_block = Unit
  KeptBlock (Block.block i q fs n) = Passes i × KeptQualifier q × KeptFields fs × IfThere (KeptIdentifier) n

  unfoldable pub KeptDeclaration : Declaration → Type 0
  KeptDeclaration Declaration.no_declaration = Unit
  KeptDeclaration (Declaration.OfPrototype p) = KeptPrototype p
  KeptDeclaration (Declaration.OfDeclarators l) = KeptDeclarators l
  KeptDeclaration (Declaration.Precision q t) = KeptSpec q × KeptType t
  KeptDeclaration (Declaration.OfBlock b) = KeptBlock b
  KeptDeclaration (Declaration.Invariant i) = Passes i
  KeptDeclaration (Declaration.TypeOnly q) = KeptQualifier q

  unfoldable pub KeptCondition : Condition → Type 0
  KeptCondition Condition.no_condition = Unit
  KeptCondition (Condition.OfExpr e) = Kept e
  KeptCondition (Condition.Assignment i t e) = Passes i × KeptFull t × KeptInitializer e

  unfoldable pub KeptForInit : ForInitStatement → Type 0
  KeptForInit ForInitStatement.no_for_init = Unit
  KeptForInit (ForInitStatement.Expression e) = IfThere Kept e
  KeptForInit (ForInitStatement.OfDeclaration d) = KeptDeclaration d

  unfoldable pub KeptJump : JumpStatement → Type 0
  KeptJump JumpStatement.Continue = Unit
  KeptJump JumpStatement.Break = Unit
  KeptJump JumpStatement.Discard = Unit
  KeptJump (JumpStatement.Return e) = IfThere Kept e

  unfoldable mutual
    pub KeptStatement : Statement → Type 0
    KeptStatement Statement.no_statement = Unit
    KeptStatement (Statement.OfDeclaration d) = KeptDeclaration d
    KeptStatement (Statement.Compound ss) = KeptStatements ss
    KeptStatement (Statement.Expression e) = IfThere Kept e
    KeptStatement (Statement.If e a) = Kept e × KeptStatement a
    KeptStatement (Statement.IfElse e a b) = Kept e × KeptStatement a × KeptStatement b
    KeptStatement (Statement.Switch e ss) = Kept e × KeptStatements ss
    KeptStatement Statement.Default = Unit
    KeptStatement (Statement.Case e) = Kept e
    KeptStatement (Statement.While c a) = KeptCondition c × KeptStatement a
    KeptStatement (Statement.DoWhile a e) = KeptStatement a × Kept e
    KeptStatement (Statement.For i c e a) = KeptForInit i × IfThere KeptCondition c × IfThere Kept e × KeptStatement a
    KeptStatement (Statement.OfJump j) = KeptJump j

    pub KeptStatements : Statements → Type 0
    KeptStatements Statements.no_statements = Unit
    KeptStatements (Statements.statements a ss) = KeptStatement a × KeptStatements ss

  unfoldable pub KeptExternal : ExternalDeclaration → Type 0
  KeptExternal ExternalDeclaration.no_external = Unit
  KeptExternal (ExternalDeclaration.OfDeclaration d) = KeptDeclaration d
  KeptExternal (ExternalDeclaration.FunctionDefinition p ss) = KeptPrototype p × KeptStatements ss

  abbrev pub KeptUnit : TranslationUnit → Type 0
  KeptUnit es = Each KeptExternal es
