-- Operators (000 HasPrecedence and show_expr): the symbol of each, how strongly it binds, and when a unary operator's operand and a binary one's right operand stand without parentheses.
-- Assumes nothing.
use Rattle.std.specs.Prelude.{Bool, false, not, ◌&&◌, List, [], ◌∷◌, ◌++◌, ℕ, leb, ltb}
use Rattle.words.specs.Bytes.{bytes}
use Rattle.words.specs.Symbol.{Symbol, symbol_text}
use Rattle.words.specs.Form.{one_of}
use Rattle.text.specs.Tree.{UnaryOp, BinaryOp, AssignmentOp, Expr}

-- 000 HasPrecedence: the smaller the number, the stronger it binds
abbrev pub atomic_precedence : ℕ
atomic_precedence = 0

abbrev pub postfix_precedence : ℕ
postfix_precedence = 2

abbrev pub unary_precedence : ℕ
unary_precedence = 3

abbrev pub ternary_precedence : ℕ
ternary_precedence = 15

abbrev pub assignment_precedence : ℕ
assignment_precedence = 16

abbrev pub comma_precedence : ℕ
comma_precedence = 17

-- each binary operator, in the order of show_binary_op: its symbol, and how strongly it binds
unfoldable pub binary_op : BinaryOp → Symbol × ℕ
binary_op BinaryOp.Or = (Symbol.or_op, 14)
binary_op BinaryOp.Xor = (Symbol.xor_op, 13)
binary_op BinaryOp.And = (Symbol.and_op, 12)
binary_op BinaryOp.BitOr = (Symbol.vertical_bar, 11)
binary_op BinaryOp.BitXor = (Symbol.caret, 10)
binary_op BinaryOp.BitAnd = (Symbol.ampersand, 9)
binary_op BinaryOp.Equal = (Symbol.eq_op, 8)
binary_op BinaryOp.NonEqual = (Symbol.ne_op, 8)
binary_op BinaryOp.Lt = (Symbol.left_angle, 7)
binary_op BinaryOp.Gt = (Symbol.right_angle, 7)
binary_op BinaryOp.Lte = (Symbol.le_op, 7)
binary_op BinaryOp.Gte = (Symbol.ge_op, 7)
binary_op BinaryOp.LShift = (Symbol.left_op, 6)
binary_op BinaryOp.RShift = (Symbol.right_op, 6)
binary_op BinaryOp.Add = (Symbol.plus, 5)
binary_op BinaryOp.Sub = (Symbol.dash, 5)
binary_op BinaryOp.Mult = (Symbol.star, 4)
binary_op BinaryOp.Div = (Symbol.slash, 4)
binary_op BinaryOp.Mod = (Symbol.percent, 4)

abbrev pub binary_symbol : BinaryOp → Symbol
binary_symbol op = (binary_op op).0

abbrev pub binary_precedence : BinaryOp → ℕ
binary_precedence op = (binary_op op).1

unfoldable pub precedence : Expr → ℕ
precedence Expr.no_expr = atomic_precedence
precedence (Expr.Variable i) = atomic_precedence
precedence (Expr.IntConst n) = atomic_precedence
precedence (Expr.UIntConst n) = atomic_precedence
precedence (Expr.BoolConst b) = atomic_precedence
precedence (Expr.FloatConst t) = atomic_precedence
precedence (Expr.DoubleConst t) = atomic_precedence
precedence (Expr.Unary op e) = unary_precedence
precedence (Expr.Binary op l r) = binary_precedence op
precedence (Expr.Ternary c s e) = ternary_precedence
precedence (Expr.Assignment op v e) = assignment_precedence
precedence (Expr.Bracket e a) = postfix_precedence
precedence (Expr.FunCall f es) = postfix_precedence
precedence (Expr.Dot i e) = postfix_precedence
precedence (Expr.PostInc e) = postfix_precedence
precedence (Expr.PostDec e) = postfix_precedence
precedence (Expr.Comma a b) = comma_precedence

-- show_unary_op, show_assignment_op

unfoldable pub unary_symbol : UnaryOp → Symbol
unary_symbol UnaryOp.Inc = Symbol.inc_op
unary_symbol UnaryOp.Dec = Symbol.dec_op
unary_symbol UnaryOp.Add = Symbol.plus
unary_symbol UnaryOp.Minus = Symbol.dash
unary_symbol UnaryOp.Not = Symbol.bang
unary_symbol UnaryOp.Complement = Symbol.tilde

unfoldable pub assignment_symbol : AssignmentOp → Symbol
assignment_symbol AssignmentOp.Equal = Symbol.equal
assignment_symbol AssignmentOp.Mult = Symbol.mul_assign
assignment_symbol AssignmentOp.Div = Symbol.div_assign
assignment_symbol AssignmentOp.Mod = Symbol.mod_assign
assignment_symbol AssignmentOp.Add = Symbol.add_assign
assignment_symbol AssignmentOp.Sub = Symbol.sub_assign
assignment_symbol AssignmentOp.LShift = Symbol.left_assign
assignment_symbol AssignmentOp.RShift = Symbol.right_assign
assignment_symbol AssignmentOp.And = Symbol.and_assign
assignment_symbol AssignmentOp.Xor = Symbol.xor_assign
assignment_symbol AssignmentOp.Or = Symbol.or_assign

-- two signs that would read as one symbol
abbrev pub reads_as_one : List ℕ → Bool
reads_as_one w = one_of ("++" ∷ "--" ∷ []) w

-- in show_expr: plus over plus and minus over minus
unfoldable pub doubled : UnaryOp → UnaryOp → Bool
doubled op o = reads_as_one (bytes (symbol_text (unary_symbol op)) ++ bytes (symbol_text (unary_symbol o)))

-- an operator over an expression: only a Unary has one that it can double
unfoldable pub doubles : UnaryOp → Expr → Bool
doubles op Expr.no_expr = false
doubles op (Expr.Variable i) = false
doubles op (Expr.IntConst n) = false
doubles op (Expr.UIntConst n) = false
doubles op (Expr.BoolConst b) = false
doubles op (Expr.FloatConst t) = false
doubles op (Expr.DoubleConst t) = false
doubles op (Expr.Unary o e) = doubled op o
doubles op (Expr.Binary o l r) = false
doubles op (Expr.Ternary c s e) = false
doubles op (Expr.Assignment o v e) = false
doubles op (Expr.Bracket e a) = false
doubles op (Expr.FunCall f es) = false
doubles op (Expr.Dot i e) = false
doubles op (Expr.PostInc e) = false
doubles op (Expr.PostDec e) = false
doubles op (Expr.Comma a b) = false

-- in show_expr: when these operands stand without parentheses
abbrev pub bare_operand : UnaryOp → Expr → Bool
bare_operand op e = leb (precedence e) unary_precedence && not (doubles op e)

abbrev pub bare_right : BinaryOp → Expr → Bool
bare_right op r = ltb (precedence r) (binary_precedence op)
