-- One dimension more behind what an index or a call may follow. Assumes nothing.
use mathlib.Core.Path.{◌≡◌, refl}
use mathlib.Core.Option.{some, none-ne-some}
use Rattle.text.specs.Tree.{Expr, ArraySpecifier}
use Rattle.text.specs.Tree.Expr.{Variable, Bracket}
use Rattle.text.specs.Tree.ArraySpecifier.{no_dimensions, dimensions}
use Rattle.text.specs.Tree.ArraySpecifierDimension.{no_dimension, Unsized, ExplicitlySized}
use Rattle.grammar.specs.Last.{last_dimension}
use Rattle.grammar.proofs.Settled.{Head, named, keyword, typed, indexed, as_expr}

-- an expression in brackets is an index
indexed_sized : (a b e : Expr) (ds : ArraySpecifier) → indexed a ds ≡ some b → indexed a (last_dimension ds (ExplicitlySized e)) ≡ some (Bracket b e)
unfolding indexed last_dimension
indexed_sized a b e no_dimensions q = let r : a ≡ b = cc in rw r
indexed_sized a b e (dimensions no_dimension ds) q = absurd (none-ne-some b q)
indexed_sized a b e (dimensions Unsized ds) q = absurd (none-ne-some b q)
indexed_sized a b e (dimensions (ExplicitlySized d) ds) q = indexed_sized (Bracket a d) b e ds q

-- and none is read otherwise
sized_indexed : (a b e : Expr) (ds : ArraySpecifier) → indexed a (last_dimension ds (ExplicitlySized e)) ≡ some b → (c : Expr) × (indexed a ds ≡ some c) × (b ≡ Bracket c e)
unfolding indexed last_dimension
sized_indexed a b e no_dimensions q = (a, refl, (cc))
sized_indexed a b e (dimensions no_dimension ds) q = absurd (none-ne-some b q)
sized_indexed a b e (dimensions Unsized ds) q = absurd (none-ne-some b q)
sized_indexed a b e (dimensions (ExplicitlySized d) ds) q = sized_indexed (Bracket a d) b e ds q

-- empty brackets are no index
unsized_indexed : (a b : Expr) (ds : ArraySpecifier) → indexed a (last_dimension ds Unsized) ≡ some b → ⊥
unfolding indexed last_dimension
unsized_indexed a b no_dimensions q = none-ne-some b q
unsized_indexed a b (dimensions no_dimension ds) q = none-ne-some b q
unsized_indexed a b (dimensions Unsized ds) q = none-ne-some b q
unsized_indexed a b (dimensions (ExplicitlySized d) ds) q = unsized_indexed (Bracket a d) b ds q

-- the same of an operand

pub typed_sized : (h : Head) (ds : ArraySpecifier) (a e : Expr) → as_expr (typed h ds) ≡ some a → as_expr (typed h (last_dimension ds (ExplicitlySized e))) ≡ some (Bracket a e)
unfolding as_expr
typed_sized (named n) ds a e q = indexed_sized (Variable n) a e ds q
typed_sized (keyword v) ds a e q = absurd (none-ne-some a q)

pub sized_typed : (h : Head) (ds : ArraySpecifier) (a e : Expr) → as_expr (typed h (last_dimension ds (ExplicitlySized e))) ≡ some a
    → (b : Expr) × (as_expr (typed h ds) ≡ some b) × (a ≡ Bracket b e)
unfolding as_expr
sized_typed (named n) ds a e q = sized_indexed (Variable n) a e ds q
sized_typed (keyword v) ds a e q = absurd (none-ne-some a q)

pub unsized_typed : (h : Head) (ds : ArraySpecifier) (a : Expr) → as_expr (typed h (last_dimension ds Unsized)) ≡ some a → ⊥
unfolding as_expr
unsized_typed (named n) ds a q = unsized_indexed (Variable n) a ds q
unsized_typed (keyword v) ds a q = none-ne-some a q
