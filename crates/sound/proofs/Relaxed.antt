-- What is sound with all of 01's conditions is sound where spaces are kept too (02, #106): byte 21 only takes conditions away. Assumes nothing.
use mathlib.Core.Bool.{Bool, false}
use mathlib.Core.List.{List}
use Prim.Native.Nat.{ℕ}
use Rattle.text.specs.Tree.{UnaryOp, Expr, Exprs, FunIdentifier, TypeSpecifier, ArraySpecifier, ArraySpecifierDimension}
use Rattle.text.specs.Tree.Expr.{no_expr, Variable, IntConst, UIntConst, BoolConst, FloatConst, DoubleConst, Unary, Binary, Ternary, Assignment, Bracket, FunCall, Dot, PostInc, PostDec, Comma}
use Rattle.text.specs.Tree.Exprs.{no_exprs, exprs}
use Rattle.text.specs.Tree.FunIdentifier.{OfType, OfExpr}
use Rattle.text.specs.Tree.TypeSpecifier.{no_type, type}
use Rattle.text.specs.Tree.TypeSpecifierNonArray.{no_base, Keyword, TypeName, Struct}
use Rattle.text.specs.Tree.ArraySpecifier.{no_dimensions, dimensions}
use Rattle.text.specs.Tree.ArraySpecifierDimension.{no_dimension, Unsized, ExplicitlySized}
use Rattle.sound.specs.Sound.{Mixed, Numeric, Sound, SoundCallee, SoundArguments, SoundType, SoundArray, SoundDimension}

mixed_before : {kept : Bool} {op : UnaryOp} {e : Expr} → Mixed kept op e → Mixed false op e
mixed_before Mixed.minus_over_dec = Mixed.minus_over_dec
mixed_before Mixed.plus_over_inc = Mixed.plus_over_inc

numeric_before : {kept : Bool} {e : Expr} → Numeric kept e → Numeric false e
numeric_before Numeric.int = Numeric.int
numeric_before Numeric.uint = Numeric.uint
numeric_before Numeric.float = Numeric.float
numeric_before Numeric.double = Numeric.double

module _ (listed : List ℕ → Bool) (kept : Bool) where
  mutual
    unfolding Sound SoundCallee SoundArguments SoundType SoundArray SoundDimension

    pub relaxed : (e : Expr) → Sound listed false e → Sound listed kept e
    relaxed no_expr t = t
    relaxed (Variable n) t = t
    relaxed (IntConst n) t = t
    relaxed (UIntConst n) t = t
    relaxed (BoolConst b) t = t
    relaxed (FloatConst x) t = t
    relaxed (DoubleConst x) t = t
    relaxed (Unary op e) t = (λ m. t.0 (mixed_before m), relaxed e t.1)
    relaxed (Binary op l r) t = (relaxed l t.0, relaxed r t.1)
    relaxed (Ternary c a b) t = (relaxed c t.0, relaxed a t.1, relaxed b t.2)
    relaxed (Assignment op v e) t = (t.0, relaxed v t.1, relaxed e t.2)
    relaxed (Bracket e a) t = (relaxed e t.0, relaxed a t.1)
    relaxed (FunCall f es) t = (callee_relaxed f t.0, arguments_relaxed es t.1)
    relaxed (Dot i e) t = (λ n. t.0 (numeric_before n), t.1, relaxed e t.2)
    relaxed (PostInc e) t = relaxed e t
    relaxed (PostDec e) t = relaxed e t
    relaxed (Comma a b) t = (relaxed a t.0, relaxed b t.1)

    callee_relaxed : (f : FunIdentifier) → SoundCallee listed false f → SoundCallee listed kept f
    callee_relaxed (OfType t) h = type_relaxed t h
    callee_relaxed (OfExpr e) h = h

    arguments_relaxed : (es : Exprs) → SoundArguments listed false es → SoundArguments listed kept es
    arguments_relaxed no_exprs t = t
    arguments_relaxed (exprs e es) t = (t.0, relaxed e t.1, arguments_relaxed es t.2)

    type_relaxed : (t : TypeSpecifier) → SoundType listed false t → SoundType listed kept t
    type_relaxed no_type h = h
    type_relaxed (type no_base ds) h = absurd h.0
    type_relaxed (type (Keyword v) ds) h = (h.0, array_relaxed ds h.1)
    type_relaxed (type (TypeName n) ds) h = (h.0, array_relaxed ds h.1)
    type_relaxed (type (Struct n fs) ds) h = absurd h.0

    array_relaxed : (ds : ArraySpecifier) → SoundArray listed false ds → SoundArray listed kept ds
    array_relaxed no_dimensions h = h
    array_relaxed (dimensions d ds) h = (dimension_relaxed d h.0, array_relaxed ds h.1)

    dimension_relaxed : (d : ArraySpecifierDimension) → SoundDimension listed false d → SoundDimension listed kept d
    dimension_relaxed no_dimension h = h
    dimension_relaxed Unsized h = h
    dimension_relaxed (ExplicitlySized e) h = (h.0, relaxed e h.1)
