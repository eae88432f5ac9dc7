-- A list of the definition's trees with one item more, the last: chapter 9 builds its lists from the left. Assumes nothing.
use Rattle.text.specs.Tree.{Expr, Exprs, ArraySpecifier, ArraySpecifierDimension}

unfoldable pub last_expr : Exprs → Expr → Exprs
last_expr Exprs.no_exprs e = Exprs.exprs e Exprs.no_exprs
last_expr (Exprs.exprs x xs) e = Exprs.exprs x (last_expr xs e)

unfoldable pub last_dimension : ArraySpecifier → ArraySpecifierDimension → ArraySpecifier
last_dimension ArraySpecifier.no_dimensions d = ArraySpecifier.dimensions d ArraySpecifier.no_dimensions
last_dimension (ArraySpecifier.dimensions c cs) d = ArraySpecifier.dimensions c (last_dimension cs d)
