-- The trees, with the names of 001 (ast.rs). `Of..` stands where 001's own word is taken; what the record itself holds comes before its children (but `single` keeps
-- 001's order). Each sort that a record is read as has a value `no-..` for records that are not what is expected there (a unit: []); of a list it is the empty one, too.
-- Assumes nothing.
use Rattle.std.specs.Prelude.{Bool, List, ℕ}
use Rattle.std.proofs.Math.Option.{Option}
use Rattle.words.specs.Word.{StorageQualifier, PrecisionQualifier, InterpolationQualifier}

-- the bytes of a name
abbrev pub Identifier : Type 0
Identifier = List ℕ

-- operators, in the order of 000 show_unary_op, show_binary_op and show_assignment_op
pub data UnaryOp : Type 0 where
  Inc Dec Add Minus Not Complement : UnaryOp

pub data BinaryOp : Type 0 where
  Or Xor And BitOr BitXor BitAnd Equal NonEqual Lt Gt Lte Gte LShift RShift Add Sub Mult Div Mod : BinaryOp

pub data AssignmentOp : Type 0 where
  Equal Mult Div Mod Add Sub LShift RShift And Xor Or : AssignmentOp

-- expressions, types, arrays, fields and qualifiers hold each other. A Vec of 001 is a data type of its own here, with the plural of its name or the
-- name of the struct that holds it alone.
mutual
  pub data Expr : Type 0 where
    no_expr : Expr
    Variable : Identifier → Expr
    -- its 32 bits, two's complement
    IntConst : ℕ → Expr
    UIntConst : ℕ → Expr
    BoolConst : Bool → Expr
    -- their texts
    FloatConst DoubleConst : List ℕ → Expr
    Unary : UnaryOp → Expr → Expr
    Binary : BinaryOp → Expr → Expr → Expr
    Ternary : Expr → Expr → Expr → Expr
    -- the operator, the target, the value
    Assignment : AssignmentOp → Expr → Expr → Expr
    Bracket : Expr → Expr → Expr
    FunCall : FunIdentifier → Exprs → Expr
    Dot : Identifier → Expr → Expr
    PostInc PostDec : Expr → Expr
    Comma : Expr → Expr → Expr

  pub data Exprs : Type 0 where
    no_exprs : Exprs
    exprs : Expr → Exprs → Exprs

  pub data FunIdentifier : Type 0 where
    OfType : TypeSpecifier → FunIdentifier
    OfExpr : Expr → FunIdentifier

  -- a type and its dimensions, if any
  pub data TypeSpecifier : Type 0 where
    no_type : TypeSpecifier
    type : TypeSpecifierNonArray → ArraySpecifier → TypeSpecifier

  pub data TypeSpecifiers : Type 0 where
    no_types : TypeSpecifiers
    types : TypeSpecifier → TypeSpecifiers → TypeSpecifiers

  pub data TypeSpecifierNonArray : Type 0 where
    no_base : TypeSpecifierNonArray
    -- one of the type keywords, by its number
    Keyword : ℕ → TypeSpecifierNonArray
    TypeName : Identifier → TypeSpecifierNonArray
    Struct : Option Identifier → StructFieldSpecifiers → TypeSpecifierNonArray

  -- the dimensions of an array; none is also 001's absent ArraySpecifier (an array of none is refused, 01, refusal 8)
  pub data ArraySpecifier : Type 0 where
    no_dimensions : ArraySpecifier
    dimensions : ArraySpecifierDimension → ArraySpecifier → ArraySpecifier

  pub data ArraySpecifierDimension : Type 0 where
    no_dimension : ArraySpecifierDimension
    Unsized : ArraySpecifierDimension
    ExplicitlySized : Expr → ArraySpecifierDimension

  pub data StructFieldSpecifier : Type 0 where
    no_field : StructFieldSpecifier
    field : Qualification → TypeSpecifier → ArrayedIdentifiers → StructFieldSpecifier

  pub data StructFieldSpecifiers : Type 0 where
    no_fields : StructFieldSpecifiers
    fields : StructFieldSpecifier → StructFieldSpecifiers → StructFieldSpecifiers

  pub data ArrayedIdentifier : Type 0 where
    no_identifier : ArrayedIdentifier
    arrayed : Identifier → ArraySpecifier → ArrayedIdentifier

  pub data ArrayedIdentifiers : Type 0 where
    no_identifiers : ArrayedIdentifiers
    identifiers : ArrayedIdentifier → ArrayedIdentifiers → ArrayedIdentifiers

  -- 001's Option<TypeQualifier>
  pub data Qualification : Type 0 where
    unqualified : Qualification
    qualified : TypeQualifier → Qualification

  -- the parts of a qualifier
  pub data TypeQualifier : Type 0 where
    no_specs : TypeQualifier
    specs : TypeQualifierSpec → TypeQualifier → TypeQualifier

  -- 001 has Subroutine under Storage
  pub data TypeQualifierSpec : Type 0 where
    no_spec : TypeQualifierSpec
    Storage : StorageQualifier → TypeQualifierSpec
    Subroutine : TypeSpecifiers → TypeQualifierSpec
    Layout : LayoutQualifier → TypeQualifierSpec
    Precision : PrecisionQualifier → TypeQualifierSpec
    Interpolation : InterpolationQualifier → TypeQualifierSpec
    Invariant Precise : TypeQualifierSpec

  -- the ids of a layout
  pub data LayoutQualifier : Type 0 where
    no_ids : LayoutQualifier
    ids : LayoutQualifierSpec → LayoutQualifier → LayoutQualifier

  -- 001's Identifier(i, None) and Identifier(i, Some(e))
  pub data LayoutQualifierSpec : Type 0 where
    no_id : LayoutQualifierSpec
    Ident : Identifier → LayoutQualifierSpec
    IdentIs : Identifier → Expr → LayoutQualifierSpec
    Shared : LayoutQualifierSpec

-- declarations

pub data FullySpecifiedType : Type 0 where
  no_full_type : FullySpecifiedType
  full_type : Qualification → TypeSpecifier → FullySpecifiedType

pub data FunctionParameterDeclaration : Type 0 where
  no_parameter : FunctionParameterDeclaration
  Unnamed : Qualification → TypeSpecifier → FunctionParameterDeclaration
  Named : Qualification → TypeSpecifier → ArrayedIdentifier → FunctionParameterDeclaration

pub data FunctionPrototype : Type 0 where
  no_prototype : FunctionPrototype
  -- its name, its type, its parameters
  prototype : Identifier → FullySpecifiedType → List FunctionParameterDeclaration → FunctionPrototype

mutual
  pub data Initializer : Type 0 where
    no_initializer : Initializer
    Simple : Expr → Initializer
    ListOf : Initializers → Initializer

  pub data Initializers : Type 0 where
    no_initializers : Initializers
    initializers : Initializer → Initializers → Initializers

-- the first declarator of a list
pub data SingleDeclaration : Type 0 where
  no_single : SingleDeclaration
  single : FullySpecifiedType → Option Identifier → ArraySpecifier → Option Initializer → SingleDeclaration

-- one behind the first
pub data SingleDeclarationNoType : Type 0 where
  no_declarator : SingleDeclarationNoType
  declarator : ArrayedIdentifier → Option Initializer → SingleDeclarationNoType

pub data InitDeclaratorList : Type 0 where
  no_declarators : InitDeclaratorList
  -- its head, its tail
  declarators : SingleDeclaration → List SingleDeclarationNoType → InitDeclaratorList

pub data Block : Type 0 where
  no_block : Block
  -- its name, its qualifier, its fields, its identifier
  block : Identifier → TypeQualifier → StructFieldSpecifiers → Option ArrayedIdentifier → Block

pub data Declaration : Type 0 where
  no_declaration : Declaration
  OfPrototype : FunctionPrototype → Declaration
  OfDeclarators : InitDeclaratorList → Declaration
  -- 001 has a PrecisionQualifier here; document 01 has a record of kind 29, of which the record check admits only those
  Precision : TypeQualifierSpec → TypeSpecifier → Declaration
  OfBlock : Block → Declaration
  Invariant : Identifier → Declaration
  TypeOnly : TypeQualifier → Declaration

-- statements

pub data Condition : Type 0 where
  no_condition : Condition
  OfExpr : Expr → Condition
  -- the name, its type, its initializer
  Assignment : Identifier → FullySpecifiedType → Initializer → Condition

pub data ForInitStatement : Type 0 where
  no_for_init : ForInitStatement
  Expression : Option Expr → ForInitStatement
  OfDeclaration : Declaration → ForInitStatement

pub data JumpStatement : Type 0 where
  Continue Break Discard : JumpStatement
  Return : Option Expr → JumpStatement

-- 001's Selection is If and IfElse here, its CaseLabel is Default and Case, its Iteration is While, DoWhile and For
mutual
  pub data Statement : Type 0 where
    no_statement : Statement
    OfDeclaration : Declaration → Statement
    Compound : Statements → Statement
    Expression : Option Expr → Statement
    If : Expr → Statement → Statement
    IfElse : Expr → Statement → Statement → Statement
    Switch : Expr → Statements → Statement
    Default : Statement
    Case : Expr → Statement
    While : Condition → Statement → Statement
    DoWhile : Statement → Expr → Statement
    For : ForInitStatement → Option Condition → Option Expr → Statement → Statement
    OfJump : JumpStatement → Statement

  -- the statements of a compound statement, or of a switch
  pub data Statements : Type 0 where
    no_statements : Statements
    statements : Statement → Statements → Statements

-- the unit

pub data ExternalDeclaration : Type 0 where
  no_external : ExternalDeclaration
  OfDeclaration : Declaration → ExternalDeclaration
  -- its prototype, and the statements of its body
  FunctionDefinition : FunctionPrototype → Statements → ExternalDeclaration

abbrev pub TranslationUnit : Type 0
TranslationUnit = List ExternalDeclaration
