-- The kinds of records by their numbers (01, "Tree records"). Assumes nothing.
use Rattle.std.specs.Prelude.{Option, List, [], ◌∷◌, ℕ, eqb, find}
use Rattle.records.specs.declared.kind.Kind.{Kind}
use Rattle.records.specs.declared.kind.Kind.TheVariants.{Variable, IntConst, UIntConst, BoolConst, FloatConst, DoubleConst, Unary, Binary, Ternary, Assignment, Bracket, FunCall, Dot, PostInc, PostDec, Comma, TypeSpecifier, TypeKeyword, TypeName, Struct, ArraySpecifier, ArraySpecifierDimension, StructFieldSpecifier, ArrayedIdentifier, TypeQualifier, TypeQualifierSpec, LayoutQualifierSpec, FullySpecifiedType, FunctionPrototype, FunctionParameterDeclaration, InitDeclaratorList, SingleDeclaration, SingleDeclarationNoType, Initializer, Block, Declaration, Compound, ExprStatement, Selection, Switch, CaseLabel, While, DoWhile, For, Jump, Condition, ForInit, TranslationUnit, FunctionDefinition}

abbrev pub number : Kind → ℕ
number Variable = 1
number IntConst = 2
number UIntConst = 3
number BoolConst = 4
number FloatConst = 5
number DoubleConst = 6
number Unary = 7
number Binary = 8
number Ternary = 9
number Assignment = 10
number Bracket = 11
number FunCall = 12
number Dot = 13
number PostInc = 14
number PostDec = 15
number Comma = 16
number TypeSpecifier = 20
number TypeKeyword = 21
number TypeName = 22
number Struct = 23
number ArraySpecifier = 24
number ArraySpecifierDimension = 25
number StructFieldSpecifier = 26
number ArrayedIdentifier = 27
number TypeQualifier = 28
number TypeQualifierSpec = 29
number LayoutQualifierSpec = 30
number FullySpecifiedType = 31
number FunctionPrototype = 40
number FunctionParameterDeclaration = 41
number InitDeclaratorList = 42
number SingleDeclaration = 43
number SingleDeclarationNoType = 44
number Initializer = 45
number Block = 46
number Declaration = 47
number Compound = 60
number ExprStatement = 61
number Selection = 62
number Switch = 63
number CaseLabel = 64
number While = 65
number DoWhile = 66
number For = 67
number Jump = 68
number Condition = 69
number ForInit = 70
number TranslationUnit = 80
number FunctionDefinition = 81

abbrev pub kinds : List Kind
kinds = Variable ∷ IntConst ∷ UIntConst ∷ BoolConst ∷ FloatConst ∷ DoubleConst ∷ Unary ∷ Binary ∷ Ternary ∷ Assignment ∷ Bracket ∷ FunCall ∷ Dot ∷ PostInc ∷ PostDec ∷ Comma ∷ TypeSpecifier ∷ TypeKeyword ∷ TypeName ∷ Struct ∷ ArraySpecifier ∷ ArraySpecifierDimension ∷ StructFieldSpecifier ∷ ArrayedIdentifier ∷ TypeQualifier ∷ TypeQualifierSpec ∷ LayoutQualifierSpec ∷ FullySpecifiedType ∷ FunctionPrototype ∷ FunctionParameterDeclaration ∷ InitDeclaratorList ∷ SingleDeclaration ∷ SingleDeclarationNoType ∷ Initializer ∷ Block ∷ Declaration ∷ Compound ∷ ExprStatement ∷ Selection ∷ Switch ∷ CaseLabel ∷ While ∷ DoWhile ∷ For ∷ Jump ∷ Condition ∷ ForInit ∷ TranslationUnit ∷ FunctionDefinition ∷ []

-- the kind that has this number, if one has
unfoldable pub kind_of : ℕ → Option Kind
kind_of n = find (λ k. eqb (number k) n) kinds
