-- A callee's name is the same recorded as an expression or as a type, and lists are the same where their items are. Assumes nothing.
use mathlib.Core.Path.{◌≡◌, refl, sym, ◌∙◌, ap}
use mathlib.Core.Option.{some, none-ne-some}
use Rattle.text.specs.Tree.{Expr, Exprs, ArraySpecifier, ArraySpecifierDimension}
use Rattle.text.specs.Tree.Expr.{Variable, Bracket}
use Rattle.text.specs.Tree.Exprs.{no_exprs, exprs}
use Rattle.text.specs.Tree.FunIdentifier.{OfExpr}
use Rattle.text.specs.Tree.ArraySpecifier.{no_dimensions, dimensions}
use Rattle.text.specs.Tree.ArraySpecifierDimension.{no_dimension, Unsized, ExplicitlySized}
use Rattle.grammar.specs.Last.{last_expr, last_dimension}
use Rattle.grammar.specs.Same.{as_read, exprs_as_read, callee_as_read, type_as_read, array_as_read, dimension_as_read, type_callee, indexed_callee}
use Rattle.grammar.proofs.Settled.{Head, named, keyword, head_base, typed, indexed, as_expr}

-- one item more

pub and_expr_as_read : (es : Exprs) (e : Expr) → exprs_as_read (last_expr es e) ≡ last_expr (exprs_as_read es) (as_read e)
unfolding exprs_as_read last_expr
and_expr_as_read no_exprs e = refl
and_expr_as_read (exprs x xs) e = ap (λ (l : Exprs). exprs (as_read x) l) (and_expr_as_read xs e)

pub and_dimension_as_read : (ds : ArraySpecifier) (d : ArraySpecifierDimension) → array_as_read (last_dimension ds d) ≡ last_dimension (array_as_read ds) (dimension_as_read d)
unfolding array_as_read last_dimension
and_dimension_as_read no_dimensions d = refl
and_dimension_as_read (dimensions c cs) d = ap (λ (l : ArraySpecifier). dimensions (dimension_as_read c) l) (and_dimension_as_read cs d)

-- a type as a callee
pub type_taken : (h : Head) (ds : ArraySpecifier) → callee_as_read (type_callee (head_base h) ds) ≡ type_callee (head_base h) (array_as_read ds)
unfolding callee_as_read type_as_read array_as_read as_read type_callee indexed_callee head_base
type_taken (named n) no_dimensions = refl
type_taken (named n) (dimensions d ds) = refl
type_taken (keyword v) ds = refl

-- an expression that is one with indices, as a callee: these are dimensions
indexed_taken : (whole a b : Expr) (ds : ArraySpecifier) → indexed a ds ≡ some b
    → indexed_callee whole (as_read b) no_dimensions ≡ indexed_callee whole (as_read a) (array_as_read ds)
unfolding indexed as_read indexed_callee array_as_read dimension_as_read
indexed_taken whole a b no_dimensions q = let r : a ≡ b = cc in rw r
indexed_taken whole a b (dimensions no_dimension ds) q = absurd (none-ne-some b q)
indexed_taken whole a b (dimensions Unsized ds) q = absurd (none-ne-some b q)
indexed_taken whole a b (dimensions (ExplicitlySized e) ds) q = indexed_taken whole (Bracket a e) b ds q

-- so that it does not matter which of the two a callee is recorded as
pub typed_taken : (h : Head) (ds : ArraySpecifier) (b : Expr) → as_expr (typed h ds) ≡ some b → callee_as_read (OfExpr b) ≡ callee_as_read (type_callee (head_base h) ds)
unfolding as_expr callee_as_read as_read indexed_callee head_base
typed_taken (named n) ds b q = indexed_taken (as_read b) (Variable n) b ds q ∙ sym (type_taken (named n) ds)
typed_taken (keyword v) ds b q = absurd (none-ne-some b q)
