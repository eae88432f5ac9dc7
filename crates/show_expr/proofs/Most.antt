-- What an operand may bind at most and be bare: the tests of 000 show_expr as one number. Assumes nothing.
use mathlib.Core.Path.{◌≡◌, refl, ap, ◌∙◌}
use mathlib.Core.Bool.{true, cond}
use mathlib.Core.List.{List, [], ◌++◌, append-nil}
use Prim.Native.Nat.{ℕ, ◌-◌, ◌≤◌}
use native.Mathlib.Omega.{arith}
use lib.Dec.{leb, ltb}
use borrow.Author.Tests.{lt-ltb, le-ltb, le-leb, lt-leb}
use Rattle.words.specs.Symbol.{Symbol}
use Rattle.records.proofs.Laws.{split}
use Rattle.text.specs.Command.{Command}
use Rattle.text.specs.Tree.{BinaryOp, Expr}
use Rattle.text.specs.Operator.{precedence, binary_precedence, binary_op}
use Rattle.text.specs.Text.{a_symbol, bare_if, show_expr}
use Rattle.signs.proofs.Step.{up_to}

-- an operand
abbrev pub operand : ℕ → Expr → List Command
operand most e = bare_if (leb (precedence e) most) (show_expr e)

weakest_op : (op : BinaryOp) → binary_precedence op ≤ 17
unfolding binary_op
weakest_op BinaryOp.Or = omega arith
weakest_op BinaryOp.Xor = omega arith
weakest_op BinaryOp.And = omega arith
weakest_op BinaryOp.BitOr = omega arith
weakest_op BinaryOp.BitXor = omega arith
weakest_op BinaryOp.BitAnd = omega arith
weakest_op BinaryOp.Equal = omega arith
weakest_op BinaryOp.NonEqual = omega arith
weakest_op BinaryOp.Lt = omega arith
weakest_op BinaryOp.Gt = omega arith
weakest_op BinaryOp.Lte = omega arith
weakest_op BinaryOp.Gte = omega arith
weakest_op BinaryOp.LShift = omega arith
weakest_op BinaryOp.RShift = omega arith
weakest_op BinaryOp.Add = omega arith
weakest_op BinaryOp.Sub = omega arith
weakest_op BinaryOp.Mult = omega arith
weakest_op BinaryOp.Div = omega arith
weakest_op BinaryOp.Mod = omega arith

weakest : (e : Expr) → precedence e ≤ 17
unfolding precedence
weakest Expr.no_expr = omega arith
weakest (Expr.Variable i) = omega arith
weakest (Expr.IntConst n) = omega arith
weakest (Expr.UIntConst n) = omega arith
weakest (Expr.BoolConst b) = omega arith
weakest (Expr.FloatConst t) = omega arith
weakest (Expr.DoubleConst t) = omega arith
weakest (Expr.Unary op e) = omega arith
weakest (Expr.Binary op l r) = weakest_op op
weakest (Expr.Ternary c s e) = omega arith
weakest (Expr.Assignment op v e) = omega arith
weakest (Expr.Bracket e a) = omega arith
weakest (Expr.FunCall f es) = omega arith
weakest (Expr.Dot i e) = omega arith
weakest (Expr.PostInc e) = omega arith
weakest (Expr.PostDec e) = omega arith
weakest (Expr.Comma a b) = omega arith

-- nothing binds more weakly than a comma
pub any_bare : (e : Expr) → leb (precedence e) 17 ≡ true
any_bare e = le-leb (precedence e) 17 (weakest e)

-- below q is at most q - 1
pub below : (n q : ℕ) → 1 ≤ q → leb n (q - 1) ≡ ltb n q
below n q h = up_to n (q - 1) ∙ ap (ltb n) (omega arith)

-- brackets, asked for by what is not bare
pub bracketed : (e : Expr) (most q : ℕ) → precedence e ≡ q
    → cond (ltb most q) (a_symbol Symbol.left_paren) [] ++ show_expr e ++ cond (ltb most q) (a_symbol Symbol.right_paren) [] ≡ operand most e
bracketed e most q h = split most q
    (λ k. rw (lt-ltb most q k, h, lt-leb q most k) refl)
    (λ k. rw (le-ltb most q k, h, le-leb q most k) (append-nil (show_expr e)))
