-- Which expressions are the same (demand 3): trees hold the bytes of names and float texts, so that offsets play no part. A callee's name counts the same recorded as a
-- type name without dimensions or as a Variable (01 lets it be either, and its text is the same); with dimensions it is read as a type (01), also where chapter 9 has a
-- postfix_expression alone, as in `(f)[1]()`: no sound expression has such a text. Expressions that are the same have one text under all settings (proofs/Alike). Assumes nothing.
use Rattle.std.specs.Prelude.{◌≡◌}
use Rattle.text.specs.Tree.{Expr, Exprs, FunIdentifier, TypeSpecifier, TypeSpecifierNonArray, ArraySpecifier, ArraySpecifierDimension}
use Rattle.text.specs.Tree.Expr.{no_expr, Variable, IntConst, UIntConst, BoolConst, FloatConst, DoubleConst, Unary, Binary, Ternary, Assignment, Bracket, FunCall, Dot, PostInc, PostDec, Comma}
use Rattle.text.specs.Tree.Exprs.{no_exprs, exprs}
use Rattle.text.specs.Tree.FunIdentifier.{OfType, OfExpr}
use Rattle.text.specs.Tree.TypeSpecifier.{no_type, type}
use Rattle.text.specs.Tree.TypeSpecifierNonArray.{no_base, Keyword, TypeName, Struct}
use Rattle.text.specs.Tree.ArraySpecifier.{no_dimensions, dimensions}
use Rattle.text.specs.Tree.ArraySpecifierDimension.{no_dimension, Unsized, ExplicitlySized}

-- a type as a callee: a type name without dimensions is a Variable
unfoldable pub type_callee : TypeSpecifierNonArray → ArraySpecifier → FunIdentifier
type_callee no_base ds = OfType (type no_base ds)
type_callee (Keyword v) ds = OfType (type (Keyword v) ds)
type_callee (TypeName n) no_dimensions = OfExpr (Variable n)
type_callee (TypeName n) (dimensions d ds) = OfType (type (TypeName n) (dimensions d ds))
type_callee (Struct n fs) ds = OfType (type (Struct n fs) ds)

-- an expression as a callee, with the dimensions ds behind it: where it is a name with indices, these are dimensions too, and it is a type
unfoldable pub indexed_callee : (whole : Expr) → Expr → ArraySpecifier → FunIdentifier
indexed_callee w no_expr ds = OfExpr w
indexed_callee w (Variable n) ds = type_callee (TypeName n) ds
indexed_callee w (IntConst n) ds = OfExpr w
indexed_callee w (UIntConst n) ds = OfExpr w
indexed_callee w (BoolConst b) ds = OfExpr w
indexed_callee w (FloatConst t) ds = OfExpr w
indexed_callee w (DoubleConst t) ds = OfExpr w
indexed_callee w (Unary op e) ds = OfExpr w
indexed_callee w (Binary op l r) ds = OfExpr w
indexed_callee w (Ternary c s e) ds = OfExpr w
indexed_callee w (Assignment op v e) ds = OfExpr w
indexed_callee w (Bracket e a) ds = indexed_callee w e (dimensions (ExplicitlySized a) ds)
indexed_callee w (FunCall f es) ds = OfExpr w
indexed_callee w (Dot i e) ds = OfExpr w
indexed_callee w (PostInc e) ds = OfExpr w
indexed_callee w (PostDec e) ds = OfExpr w
indexed_callee w (Comma a b) ds = OfExpr w

-- an expression with each callee's name in the one form
unfoldable mutual
  pub as_read : Expr → Expr
  as_read no_expr = no_expr
  as_read (Variable n) = Variable n
  as_read (IntConst n) = IntConst n
  as_read (UIntConst n) = UIntConst n
  as_read (BoolConst b) = BoolConst b
  as_read (FloatConst t) = FloatConst t
  as_read (DoubleConst t) = DoubleConst t
  as_read (Unary op e) = Unary op (as_read e)
  as_read (Binary op l r) = Binary op (as_read l) (as_read r)
  as_read (Ternary c s e) = Ternary (as_read c) (as_read s) (as_read e)
  as_read (Assignment op v e) = Assignment op (as_read v) (as_read e)
  as_read (Bracket e a) = Bracket (as_read e) (as_read a)
  as_read (FunCall f es) = FunCall (callee_as_read f) (exprs_as_read es)
  as_read (Dot i e) = Dot i (as_read e)
  as_read (PostInc e) = PostInc (as_read e)
  as_read (PostDec e) = PostDec (as_read e)
  as_read (Comma a b) = Comma (as_read a) (as_read b)

  pub exprs_as_read : Exprs → Exprs
  exprs_as_read no_exprs = no_exprs
  exprs_as_read (exprs e es) = exprs (as_read e) (exprs_as_read es)

  pub callee_as_read : FunIdentifier → FunIdentifier
  callee_as_read (OfType t) = type_as_read t
  callee_as_read (OfExpr e) = indexed_callee (as_read e) (as_read e) no_dimensions

  pub type_as_read : TypeSpecifier → FunIdentifier
  type_as_read no_type = OfType no_type
  type_as_read (type b ds) = type_callee b (array_as_read ds)

  pub array_as_read : ArraySpecifier → ArraySpecifier
  array_as_read no_dimensions = no_dimensions
  array_as_read (dimensions d ds) = dimensions (dimension_as_read d) (array_as_read ds)

  pub dimension_as_read : ArraySpecifierDimension → ArraySpecifierDimension
  dimension_as_read no_dimension = no_dimension
  dimension_as_read Unsized = Unsized
  dimension_as_read (ExplicitlySized e) = ExplicitlySized (as_read e)

abbrev pub Same : Expr → Expr → Type 0
Same a b = as_read a ≡ as_read b
