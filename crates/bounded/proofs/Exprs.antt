-- Expressions (01, kinds 1 to 16). Assumes nothing.
use mathlib.Core.Bool.{Bool, true, false, cond}
use mathlib.Core.List.{List, ◌∷◌}
use Prim.Native.Nat.{ℕ, ◌≤◌}
use native.Mathlib.Omega.{arith}
use lib.Dec.{eqb}
use Rattle.records.specs.declared.Record.{Record}
use Rattle.records.specs.Record.{text_of}
use Rattle.decimal.specs.Decimal.{negative, magnitude}
use Rattle.decimal.proofs.Laws.{at_most_10}
use Rattle.decimal.proofs.Sign.{magnitude_digits}
use Rattle.words.specs.Symbol.{Symbol}
use Rattle.text.specs.Token.{Token}
use Rattle.text.specs.Command.{symbol}
use Rattle.text.specs.Tree.{Expr, Exprs, FunIdentifier}
use Rattle.text.specs.Text.{a_token, show_int, show_expr, show_exprs, show_function_identifier}
use Rattle.text.specs.Reading.{first_kind, expr_of, unary_op_of, binary_op_of, assignment_op}
use Rattle.formed.specs.Formed.{FormedExpr, FormedExprs, FormedCallee}
use Rattle.bounded.proofs.Weight.{weighs}
use Rattle.bounded.proofs.Texts.{name_short, float_short}
use Rattle.bounded.proofs.Fits.{between, sums}
use Rattle.bounded.proofs.Plan.{Light, light, Part, part, parts, row, kind, either, list, reading, Holds, expr, type}
use Rattle.bounded.proofs.Plan.Plan.{give, ◌and◌}

weighs_int : (n : ℕ) → weighs (show_int n) ≤ 13
unfolding weighs
weighs_int n = go (negative n)
  where
    go : (b : Bool) → weighs (cond b (symbol Symbol.dash ∷ a_token (Token.int (magnitude n))) (a_token (Token.int (magnitude n)))) ≤ 13
    go true = omega (arith, magnitude_digits n)
    go false = omega (arith, magnitude_digits n)

module _ {collapse : Bool} where
  unfoldable arguments : ℕ → Part collapse Exprs
  unfolding FormedExprs show_exprs weighs
  arguments =
      list expr Exprs.no_exprs Exprs.exprs FormedExprs show_exprs (λ f h. omega arith)
      (λ x a y b f h. simp sums (omega (arith, a.weight, (b false).weight h.1)))

  unfoldable callee : Part collapse FunIdentifier
  unfolding FormedCallee show_function_identifier weighs reading Holds
  callee = part (light (λ L all. (either {Formed = FormedCallee} {show = show_function_identifier} {more = 0} (eqb (first_kind L) 20)
      (parts (give FunIdentifier.OfType and type) (λ x a h. omega (arith, a.weight h)))
      (parts (give FunIdentifier.OfExpr and expr) (λ x a h. omega (arith, a.weight h)))).light L all))

module _ (collapse : Bool) (ns : List ℕ) (r : Record) where
  pub exprs_fit : Light collapse FormedExpr show_expr between (expr_of ns r)
  unfolding expr_of arguments callee show_expr FormedExpr weighs reading Holds
  exprs_fit =
      kind r 1 (row (give (Expr.Variable (text_of ns r))) (λ h. omega (arith, name_short)))
      (kind r 2 (row (give (Expr.IntConst r.a)) (λ h. omega (arith, weighs_int r.a)))
      (kind r 3 (row (give (Expr.UIntConst r.a)) (λ h. omega (arith, at_most_10 r.a h)))
      (kind r 4 (row (give (Expr.BoolConst (eqb r.variant 1))) (λ h. omega arith))
      (kind r 5 (row (give (Expr.FloatConst (text_of ns r))) (λ h. omega (arith, float_short)))
      (kind r 6 (row (give (Expr.DoubleConst (text_of ns r))) (λ h. omega (arith, float_short)))
      (kind r 7 (row (give (Expr.Unary (unary_op_of r.variant)) and expr) (λ x a h. simp sums (omega (arith, a.weight))))
      (kind r 8 (row (give (Expr.Binary (binary_op_of r.variant)) and expr and expr) (λ x a y b h. simp sums (omega (arith, a.weight, b.weight))))
      (kind r 9 (row (give Expr.Ternary and expr and expr and expr) (λ x a y b z c h. simp sums (omega (arith, a.weight, b.weight, c.weight))))
      (kind r 10 (row (give (Expr.Assignment (assignment_op r.variant)) and expr and expr) (λ x a y b h. simp sums (omega (arith, a.weight, b.weight))))
      (kind r 11 (row (give Expr.Bracket and expr and expr) (λ x a y b h. simp sums (omega (arith, a.weight, b.weight))))
      (kind r 12 (row (give Expr.FunCall and callee and arguments r.count) (λ x a y b h. simp sums (omega (arith, a.weight, b.weight))))
      (kind r 13 (row (give (Expr.Dot (text_of ns r)) and expr) (λ x a h. simp sums (omega (arith, a.weight, name_short))))
      (kind r 14 (row (give Expr.PostInc and expr) (λ x a h. simp sums (omega (arith, a.weight))))
      (kind r 15 (row (give Expr.PostDec and expr) (λ x a h. simp sums (omega (arith, a.weight))))
      (kind r 16 (row (give Expr.Comma and expr and expr) (λ x a y b h. simp sums (omega (arith, a.weight, b.weight))))
      (parts (give Expr.no_expr) (λ h. absurd h)))))))))))))))))
