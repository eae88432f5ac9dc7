-- Expressions (01, kinds 1 to 16). Assumes nothing.
use mathlib.Core.List.{List}
use Prim.Native.Nat.{ℕ}
use lib.Dec.{eqb}
use Rattle.records.specs.Record.{part}
use Rattle.shapes.specs.Class.Class.{expr, callee}
use Rattle.text.specs.Tree.{Expr, Exprs}
use Rattle.text.specs.Reading.{unary_op_of, binary_op_of, assignment_op}
use Rattle.formed.specs.Formed.{FormedExprs}
use Rattle.formed.proofs.Plan.{Items, items, ◌so◌, reads}
use Rattle.formed.proofs.Plan.Plan.{give, one, several, ◌and◌}
use Rattle.text.proofs.Span.{Span, ◌then◌}
use Rattle.formed.proofs.Kind.{Kind}
use Rattle.formed.proofs.Opened.{opened}

unfoldable arguments : Items expr Exprs
unfolding opened
arguments = items Exprs.no_exprs Exprs.exprs FormedExprs tt (λ x p y q. (p, q))

module _ (rs ns : List ℕ) where
  pub exprs : Span (Kind rs ns expr) 1 16
  unfolding opened arguments Span
  exprs =
      (λ v t n a b f. reads rs ns (give (Expr.Variable (part ns a b)) so f.text))
      then (λ v t n a b f. reads rs ns (give (Expr.IntConst a) so f.bits))
      then (λ v t n a b f. reads rs ns (give (Expr.UIntConst a) so f.bits))
      then (λ v t n a b f. reads rs ns (give (Expr.BoolConst (eqb v 1)) so tt))
      then (λ v t n a b f. reads rs ns (give (Expr.FloatConst (part ns a b)) so f.text))
      then (λ v t n a b f. reads rs ns (give (Expr.DoubleConst (part ns a b)) so f.text))
      then (λ v t n a b f. reads rs ns (give (Expr.Unary (unary_op_of v)) and one expr so λ x p. p))
      then (λ v t n a b f. reads rs ns (give (Expr.Binary (binary_op_of v)) and one expr and one expr so λ x p y q. (p, q)))
      then (λ v t n a b f. reads rs ns (give Expr.Ternary and one expr and one expr and one expr so λ x p y q z r. (p, q, r)))
      then (λ v t n a b f. reads rs ns (give (Expr.Assignment (assignment_op v)) and one expr and one expr so λ x p y q. (p, q)))
      then (λ v t n a b f. reads rs ns (give Expr.Bracket and one expr and one expr so λ x p y q. (p, q)))
      then (λ v t n a b f. reads rs ns (give Expr.FunCall and one callee and several n arguments so λ x p y q. (p, q)))
      then (λ v t n a b f. reads rs ns (give (Expr.Dot (part ns a b)) and one expr so λ x p. (f.text, p)))
      then (λ v t n a b f. reads rs ns (give Expr.PostInc and one expr so λ x p. p))
      then (λ v t n a b f. reads rs ns (give Expr.PostDec and one expr so λ x p. p))
      then (λ v t n a b f. reads rs ns (give Expr.Comma and one expr and one expr so λ x p y q. (p, q)))
      then tt
