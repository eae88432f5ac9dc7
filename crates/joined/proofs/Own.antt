-- What the walk has of an expression, from its tree: its sign and its precedence (text, specs/Joins and Operator), and what it is by itself, by which it is told where it stands in parentheses
-- under a plus or minus, and whether a dot behind it joins. Assumes nothing.
use mathlib.Core.Path.{◌≡◌, refl, sym, ◌∙◌, ap}
use mathlib.Core.Bool.{Bool, true, false, ◌&&◌, cond, not}
use Prim.Native.Nat.{ℕ}
use Prim.Native.Char.{code}
use Rattle.std.specs.Prelude.{Some}
use native.Mathlib.Omega.{arith}
use lib.Dec.{eqb, leb}
use Rattle.words.specs.Form.{same, one_of}
use Rattle.words.specs.Symbol.{symbol_text}
use Rattle.text.specs.Tree.{UnaryOp, Expr}
use Rattle.text.specs.Operator.{precedence, unary_precedence, unary_symbol, doubled, doubles, bare_operand}
use Rattle.text.specs.Joins.{sign, sign_if, is_int}
use Rattle.signs.specs.Sign.{byte_of}
use Rattle.signs.specs.declared.Sign.{Sign}
use Rattle.signs.specs.declared.Sign.TheVariants.{Plus, Minus}
use Rattle.signs.proofs.Step.{up_to}
use Rattle.formed.proofs.Signs.{plus, minus}
use Rattle.joined.specs.declared.ByItself.{ByItself}
use Rattle.joined.specs.declared.ByItself.TheVariants.{Operator, IntConst, Other}
use Rattle.joined.specs.Stack.{Head, own_byte, bare_sign, under_sign}

unfoldable pub unary_own : UnaryOp → ℕ
unary_own UnaryOp.Inc = 0
unary_own UnaryOp.Dec = 0
unary_own UnaryOp.Add = plus
unary_own UnaryOp.Minus = minus
unary_own UnaryOp.Not = 0
unary_own UnaryOp.Complement = 0

unfoldable pub own : Expr → ℕ
own Expr.no_expr = 0
own (Expr.Variable i) = 0
own (Expr.IntConst n) = code "."
own (Expr.UIntConst n) = 0
own (Expr.BoolConst b) = 0
own (Expr.FloatConst t) = 0
own (Expr.DoubleConst t) = 0
own (Expr.Unary op e) = unary_own op
own (Expr.Binary op l r) = 0
own (Expr.Ternary c s e) = 0
own (Expr.Assignment op v e) = 0
own (Expr.Bracket e a) = 0
own (Expr.FunCall f es) = 0
own (Expr.Dot i e) = 0
own (Expr.PostInc e) = 0
own (Expr.PostDec e) = 0
own (Expr.Comma a b) = 0

abbrev pub head : Expr → Head
head e = record { sign = sign e; precedence = precedence e; own = own e }

-- each of six
by_op : (P : UnaryOp → Type 0) → P UnaryOp.Inc → P UnaryOp.Dec → P UnaryOp.Add → P UnaryOp.Minus → P UnaryOp.Not → P UnaryOp.Complement → (op : UnaryOp) → P op
by_op P a b c d e f UnaryOp.Inc = a
by_op P a b c d e f UnaryOp.Dec = b
by_op P a b c d e f UnaryOp.Add = c
by_op P a b c d e f UnaryOp.Minus = d
by_op P a b c d e f UnaryOp.Not = e
by_op P a b c d e f UnaryOp.Complement = f

not_int : (op : UnaryOp) → eqb (unary_own op) (code ".") ≡ false
unfolding unary_own
not_int = by_op (λ op. eqb (unary_own op) (code ".") ≡ false) refl refl refl refl refl refl

-- it is an IntConst exactly if it has a point
pub own_int : (e : Expr) → eqb (own e) (code ".") ≡ is_int e
unfolding own is_int
own_int Expr.no_expr = refl
own_int (Expr.Variable i) = refl
own_int (Expr.IntConst n) = refl
own_int (Expr.UIntConst n) = refl
own_int (Expr.BoolConst b) = refl
own_int (Expr.FloatConst t) = refl
own_int (Expr.DoubleConst t) = refl
own_int (Expr.Unary op e) = not_int op
own_int (Expr.Binary op l r) = refl
own_int (Expr.Ternary c s e) = refl
own_int (Expr.Assignment op v e) = refl
own_int (Expr.Bracket e a) = refl
own_int (Expr.FunCall f es) = refl
own_int (Expr.Dot i e) = refl
own_int (Expr.PostInc e) = refl
own_int (Expr.PostDec e) = refl
own_int (Expr.Comma a b) = refl

-- an operator over an expression doubles it if that is the same sign by itself
module _ (op : UnaryOp) (s : ℕ) (h : (o : UnaryOp) → doubled op o ≡ eqb (unary_own o) s) (zero : eqb 0 s ≡ false) (dot : eqb (code ".") s ≡ false) where
  doubles_own : (e : Expr) → doubles op e ≡ eqb (own e) s
  unfolding doubles own
  doubles_own Expr.no_expr = sym zero
  doubles_own (Expr.Variable i) = sym zero
  doubles_own (Expr.IntConst n) = sym dot
  doubles_own (Expr.UIntConst n) = sym zero
  doubles_own (Expr.BoolConst b) = sym zero
  doubles_own (Expr.FloatConst t) = sym zero
  doubles_own (Expr.DoubleConst t) = sym zero
  doubles_own (Expr.Unary o e) = h o
  doubles_own (Expr.Binary o l r) = sym zero
  doubles_own (Expr.Ternary c s e) = sym zero
  doubles_own (Expr.Assignment o v e) = sym zero
  doubles_own (Expr.Bracket e a) = sym zero
  doubles_own (Expr.FunCall f es) = sym zero
  doubles_own (Expr.Dot i e) = sym zero
  doubles_own (Expr.PostInc e) = sym zero
  doubles_own (Expr.PostDec e) = sym zero
  doubles_own (Expr.Comma a b) = sym zero

  -- the sign of the operand of a unary plus or minus
  under_is : (e : Expr) → under_sign (head e) s ≡ sign_if (bare_operand op e) (sign e)
  unfolding under_sign bare_sign
  under_is e =
      sym (go (leb (precedence e) unary_precedence) (doubles op e) ∙ ap (λ (d : Bool). cond d 0 (cond (leb (precedence e) unary_precedence) (sign e) 0)) (doubles_own e) ∙ ap (λ (b : Bool). cond (eqb (own e) s) 0 (cond b (sign e) 0)) (up_to (precedence e) unary_precedence))
    where
      go : (b d : Bool) → cond (b && not d) (sign e) 0 ≡ cond d 0 (cond b (sign e) 0)
      go true true = refl
      go true false = refl
      go false true = refl
      go false false = refl

pub under_plus : (e : Expr) → under_sign (head e) plus ≡ sign_if (bare_operand UnaryOp.Add e) (sign e)
unfolding doubled one_of same symbol_text unary_symbol unary_own
under_plus = under_is UnaryOp.Add plus (by_op (λ o. doubled UnaryOp.Add o ≡ eqb (unary_own o) plus) refl refl refl refl refl refl) refl refl

pub under_minus : (e : Expr) → under_sign (head e) minus ≡ sign_if (bare_operand UnaryOp.Minus e) (sign e)
unfolding doubled one_of same symbol_text unary_symbol unary_own
under_minus = under_is UnaryOp.Minus minus (by_op (λ o. doubled UnaryOp.Minus o ≡ eqb (unary_own o) minus) refl refl refl refl refl refl) refl refl

-- the byte of a sign is that operator's alone, and a point an IntConst's
pub is_operator : (o : ByItself) (s : Sign) → own_byte o ≡ byte_of (Some s) → o ≡ Operator s
is_operator (Operator Plus) Plus e = refl
is_operator (Operator Plus) Minus e = absurd (omega arith)
is_operator (Operator Minus) Plus e = absurd (omega arith)
is_operator (Operator Minus) Minus e = refl
is_operator IntConst Plus e = absurd (omega arith)
is_operator IntConst Minus e = absurd (omega arith)
is_operator Other Plus e = absurd (omega arith)
is_operator Other Minus e = absurd (omega arith)

pub is_point : (o : ByItself) → own_byte o ≡ code "." → o ≡ IntConst
is_point (Operator Plus) e = absurd (omega arith)
is_point (Operator Minus) e = absurd (omega arith)
is_point IntConst e = refl
is_point Other e = absurd (omega arith)
