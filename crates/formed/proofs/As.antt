-- What it means that the records from i to m read as what a class asks for: the tree is formed, and it takes exactly those records. Assumes nothing.
use mathlib.Core.Path.{◌≡◌}
use mathlib.Core.List.{List, [], ◌∷◌}
use Prim.Native.Nat.{ℕ, ◌+◌}
use Rattle.shapes.specs.Class.{Class}
use Rattle.text.specs.Tree.{Expr, FunIdentifier, TypeSpecifier, TypeSpecifierNonArray, ArraySpecifier, ArraySpecifierDimension, StructFieldSpecifier, ArrayedIdentifier, TypeQualifier, TypeQualifierSpec, LayoutQualifierSpec, FullySpecifiedType, FunctionParameterDeclaration, FunctionPrototype, Initializer, SingleDeclaration, SingleDeclarationNoType, InitDeclaratorList, Block, Declaration, Condition, ForInitStatement, Statement, Statements, ExternalDeclaration, TranslationUnit}
use Rattle.text.specs.Reading.{Read, Reader, made, from, expr, callee, type, base, array, dimension, field, identifier, qualifier, spec, layout_id, full_type, prototype, parameter, declarators, single, declarator, initializer, block, declaration, compound, statement, condition, for_init, external, unit}
use Rattle.formed.specs.Formed.{FormedExpr, FormedCallee, FormedType, FormedBase, FormedArray, FormedDimension, FormedField, FormedIdentifier, FormedParameterIdentifier, FormedQualifier, FormedSpec, FormedPrecision, FormedId, FormedFullType, FormedPrototype, FormedParameter, FormedDeclarators, FormedSingle, FormedDeclarator, FormedInitializer, FormedBlock, FormedDeclaration, FormedStatements, FormedStatement, FormedCondition, FormedForInit, FormedExternal, FormedUnit}

-- the sort of tree that a class asks for
abbrev pub Sort : Class → Type 0
Sort Class.expr = Expr
Sort Class.callee = FunIdentifier
Sort Class.type = TypeSpecifier
Sort Class.base = TypeSpecifierNonArray
Sort Class.array = ArraySpecifier
Sort Class.dimension = ArraySpecifierDimension
Sort Class.field = StructFieldSpecifier
Sort Class.identifier = ArrayedIdentifier
Sort Class.parameter_identifier = ArrayedIdentifier
Sort Class.qualifier = TypeQualifier
Sort Class.spec = TypeQualifierSpec
Sort Class.precision = TypeQualifierSpec
Sort Class.layout_id = LayoutQualifierSpec
Sort Class.full_type = FullySpecifiedType
Sort Class.prototype = FunctionPrototype
Sort Class.parameter = FunctionParameterDeclaration
Sort Class.declarators = InitDeclaratorList
Sort Class.single = SingleDeclaration
Sort Class.declarator = SingleDeclarationNoType
Sort Class.initializer = Initializer
Sort Class.block = Block
Sort Class.declaration = Declaration
Sort Class.compound = Statements
Sort Class.statement = Statement
Sort Class.condition = Condition
Sort Class.for_init = ForInitStatement
Sort Class.external = ExternalDeclaration
Sort Class.unit = TranslationUnit

-- the reading of that sort
abbrev pub reader : (c : Class) → Reader (Sort c)
reader Class.expr = expr
reader Class.callee = callee
reader Class.type = type
reader Class.base = base
reader Class.array = array
reader Class.dimension = dimension
reader Class.field = field
reader Class.identifier = identifier
reader Class.parameter_identifier = identifier
reader Class.qualifier = qualifier
reader Class.spec = spec
reader Class.precision = spec
reader Class.layout_id = layout_id
reader Class.full_type = full_type
reader Class.prototype = prototype
reader Class.parameter = parameter
reader Class.declarators = declarators
reader Class.single = single
reader Class.declarator = declarator
reader Class.initializer = initializer
reader Class.block = block
reader Class.declaration = declaration
reader Class.compound = compound
reader Class.statement = statement
reader Class.condition = condition
reader Class.for_init = for_init
reader Class.external = external
reader Class.unit = unit

-- formed, as that sort
abbrev pub Formed : (c : Class) → Sort c → Type 0
Formed Class.expr = FormedExpr
Formed Class.callee = FormedCallee
Formed Class.type = FormedType
Formed Class.base = FormedBase
Formed Class.array = FormedArray
Formed Class.dimension = FormedDimension
Formed Class.field = FormedField
Formed Class.identifier = FormedIdentifier
Formed Class.parameter_identifier = FormedParameterIdentifier
Formed Class.qualifier = FormedQualifier
Formed Class.spec = FormedSpec
Formed Class.precision = FormedPrecision
Formed Class.layout_id = FormedId
Formed Class.full_type = FormedFullType
Formed Class.prototype = FormedPrototype
Formed Class.parameter = FormedParameter
Formed Class.declarators = FormedDeclarators
Formed Class.single = FormedSingle
Formed Class.declarator = FormedDeclarator
Formed Class.initializer = FormedInitializer
Formed Class.block = FormedBlock
Formed Class.declaration = FormedDeclaration
Formed Class.compound = FormedStatements
Formed Class.statement = FormedStatement
Formed Class.condition = FormedCondition
Formed Class.for_init = FormedForInit
Formed Class.external = FormedExternal
Formed Class.unit = FormedUnit

-- a reading of the records from i on that is what P says and ends before record m
pub record Reads {A : Type 0} (P : A → Type 0) (x : Read A) (i m : ℕ) : Type 0 where
  pub formed : P x.tree
  pub ends : i + x.size ≡ m

-- such a reading as another sort, and the same reading, told in another way
pub as_sort : {A B : Type 0} {P : A → Type 0} {Q : B → Type 0} {x : Read A} {i m : ℕ} (f : A → B)
    → ((a : A) → P a → Q (f a)) → Reads P x i m → Reads Q (made f x) i m
as_sort f h r = record { formed = h _ r.formed; ends = r.ends }

pub told : {A : Type 0} {P Q : A → Type 0} {x : Read A} {i m : ℕ} → ((a : A) → P a → Q a) → Reads P x i m → Reads Q x i m
told h r = as_sort (λ a. a) h r

module _ (records names : List ℕ) where
  -- the records from i to m are what class c asks for
  abbrev pub As : Class → ℕ → ℕ → Type 0
  As c i m = Reads (Formed c) (reader c (from records names i)) i m

  -- they are what some classes ask for, one behind the other
  unfoldable pub Parts : List Class → ℕ → ℕ → Type 0
  Parts [] i m = i ≡ m
  Parts (c ∷ cs) i m = (k : ℕ) × As c i k × Parts cs k m
