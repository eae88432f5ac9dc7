-- Which places are joined (02, #103), the one rule of the joined question (specs/Joined) and of needed spaces (02, #106): a plus or minus, binary or unary, before a bare operand that
-- begins with the same sign; a dot behind an IntConst. That a formed expression begins with its `sign`, under all settings, is a law (crates/formed/proofs/Signs), and so is that this is
-- 02's sentence about the TIGHT text (crates/joined/proofs/Sentence). Assumes nothing.
use Rattle.std.specs.Prelude.{Bool, true, false, cond, [], ◌∷◌, ◌++◌, ℕ, leb, ltb}
use Prim.Native.Char.{code}
use Rattle.words.specs.Bytes.{bytes}
use Rattle.words.specs.Symbol.{Symbol, symbol_text}
use Rattle.decimal.specs.Decimal.{negative}
use Rattle.text.specs.Operator.{postfix_precedence, ternary_precedence, assignment_precedence, comma_precedence, binary_precedence, binary_symbol, precedence, unary_symbol, reads_as_one, bare_operand, bare_right}
use Rattle.text.specs.Tree.{UnaryOp, BinaryOp, Expr, FunIdentifier}

-- a sign is its byte, and 0 is none

unfoldable pub unary_sign : UnaryOp → ℕ
unary_sign UnaryOp.Inc = code "+"
unary_sign UnaryOp.Dec = code "-"
unary_sign UnaryOp.Add = code "+"
unary_sign UnaryOp.Minus = code "-"
unary_sign UnaryOp.Not = 0
unary_sign UnaryOp.Complement = 0

-- an operand in parentheses begins with none
abbrev pub sign_if : (bare : Bool) → ℕ → ℕ
sign_if bare s = cond bare s 0

-- what the text of an expression begins with: its own sign, or that of its first operand, which is bare where show_expr has it so
unfoldable mutual
  pub sign : Expr → ℕ
  sign Expr.no_expr = 0
  sign (Expr.Variable i) = 0
  sign (Expr.IntConst n) = cond (negative n) (code "-") 0
  sign (Expr.UIntConst n) = 0
  sign (Expr.BoolConst b) = 0
  sign (Expr.FloatConst t) = 0
  sign (Expr.DoubleConst t) = 0
  sign (Expr.Unary op e) = unary_sign op
  sign (Expr.Binary op l r) = sign_if (leb (precedence l) (binary_precedence op)) (sign l)
  sign (Expr.Ternary c s e) = sign_if (ltb (precedence c) ternary_precedence) (sign c)
  sign (Expr.Assignment op v e) = sign_if (ltb (precedence v) assignment_precedence) (sign v)
  sign (Expr.Bracket e a) = sign_if (leb (precedence e) postfix_precedence) (sign e)
  sign (Expr.FunCall f es) = sign_callee f
  sign (Expr.Dot i e) = sign_if (leb (precedence e) postfix_precedence) (sign e)
  sign (Expr.PostInc e) = sign_if (ltb (precedence e) postfix_precedence) (sign e)
  sign (Expr.PostDec e) = sign_if (ltb (precedence e) postfix_precedence) (sign e)
  sign (Expr.Comma a b) = sign_if (leb (precedence a) comma_precedence) (sign a)

  -- a callee is always bare, and a type begins with no sign
  pub sign_callee : FunIdentifier → ℕ
  sign_callee (FunIdentifier.OfType t) = 0
  sign_callee (FunIdentifier.OfExpr e) = sign e

-- an operator before an operand: a plus or minus and the same sign would read as ++ or --
unfoldable pub joins : Symbol → (bare : Bool) → Expr → Bool
joins op bare e = reads_as_one (bytes (symbol_text op) ++ (sign_if bare (sign e) ∷ []))

-- a unary operator and its operand, a binary one and its right operand
abbrev pub joins_under : UnaryOp → Expr → Bool
joins_under op e = joins (unary_symbol op) (bare_operand op e) e

abbrev pub joins_right : BinaryOp → Expr → Bool
joins_right op r = joins (binary_symbol op) (bare_right op r) r

-- an IntConst: a dot right behind it would be read as part of the number
unfoldable pub is_int : Expr → Bool
is_int Expr.no_expr = false
is_int (Expr.Variable i) = false
is_int (Expr.IntConst n) = true
is_int (Expr.UIntConst n) = false
is_int (Expr.BoolConst b) = false
is_int (Expr.FloatConst t) = false
is_int (Expr.DoubleConst t) = false
is_int (Expr.Unary op e) = false
is_int (Expr.Binary op l r) = false
is_int (Expr.Ternary c s e) = false
is_int (Expr.Assignment op v e) = false
is_int (Expr.Bracket e a) = false
is_int (Expr.FunCall f es) = false
is_int (Expr.Dot i e) = false
is_int (Expr.PostInc e) = false
is_int (Expr.PostDec e) = false
is_int (Expr.Comma a b) = false
