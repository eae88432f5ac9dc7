-- Lists of trees one behind the other. The text has a list's first item first, chapter 9 adds each item behind those before it. Assumes nothing.
use mathlib.Core.Path.{◌≡◌, refl, ap}
use Rattle.text.specs.Tree.{Expr, Exprs, ArraySpecifier, ArraySpecifierDimension}
use Rattle.text.specs.Tree.Exprs.{no_exprs, exprs}
use Rattle.text.specs.Tree.ArraySpecifier.{no_dimensions, dimensions}
use Rattle.grammar.specs.Last.{last_expr, last_dimension}

unfoldable pub and_exprs : Exprs → Exprs → Exprs
and_exprs no_exprs es = es
and_exprs (exprs x xs) es = exprs x (and_exprs xs es)

pub and_no_exprs : (xs : Exprs) → and_exprs xs no_exprs ≡ xs
unfolding and_exprs
and_no_exprs no_exprs = refl
and_no_exprs (exprs x xs) = ap (λ (l : Exprs). exprs x l) (and_no_exprs xs)

pub and_first_expr : (xs : Exprs) (e : Expr) (es : Exprs) → and_exprs (last_expr xs e) es ≡ and_exprs xs (exprs e es)
unfolding and_exprs last_expr
and_first_expr no_exprs e es = refl
and_first_expr (exprs x xs) e es = ap (λ (l : Exprs). exprs x l) (and_first_expr xs e es)

unfoldable pub and_dimensions : ArraySpecifier → ArraySpecifier → ArraySpecifier
and_dimensions no_dimensions ds = ds
and_dimensions (dimensions c cs) ds = dimensions c (and_dimensions cs ds)

pub and_no_dimensions : (cs : ArraySpecifier) → and_dimensions cs no_dimensions ≡ cs
unfolding and_dimensions
and_no_dimensions no_dimensions = refl
and_no_dimensions (dimensions c cs) = ap (λ (l : ArraySpecifier). dimensions c l) (and_no_dimensions cs)

pub and_first_dimension : (cs : ArraySpecifier) (d : ArraySpecifierDimension) (ds : ArraySpecifier) → and_dimensions (last_dimension cs d) ds ≡ and_dimensions cs (dimensions d ds)
unfolding and_dimensions last_dimension
and_first_dimension no_dimensions d ds = refl
and_first_dimension (dimensions c cs) d ds = ap (λ (l : ArraySpecifier). dimensions c l) (and_first_dimension cs d ds)
