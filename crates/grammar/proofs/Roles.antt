-- What a symbol does in an expression: where an operand is wanted, and behind one. Assumes nothing.
use mathlib.Core.Path.{◌≡◌, refl}
use Rattle.words.specs.Symbol.{Symbol}
use Rattle.text.specs.Tree.{UnaryOp, BinaryOp, AssignmentOp}
use Rattle.text.specs.Operator.{unary_symbol, binary_symbol, assignment_symbol, binary_op}
use Rattle.grammar.proofs.Settled.{PostfixOp, postfix_symbol}

-- what a symbol does where an operand is wanted
pub data Start : Type 0 where
  unary : UnaryOp → Start
  open_paren close_paren close_bracket nothing : Start

-- what it does behind an operand
pub data Role : Type 0 where
  binary : BinaryOp → Role
  assignment : AssignmentOp → Role
  postfix : PostfixOp → Role
  question colon comma open_paren close_paren open_bracket close_bracket dot nothing : Role

unfoldable pub start : Symbol → Start
start Symbol.inc_op = Start.unary UnaryOp.Inc
start Symbol.dec_op = Start.unary UnaryOp.Dec
start Symbol.plus = Start.unary UnaryOp.Add
start Symbol.dash = Start.unary UnaryOp.Minus
start Symbol.bang = Start.unary UnaryOp.Not
start Symbol.tilde = Start.unary UnaryOp.Complement
start Symbol.left_paren = Start.open_paren
start Symbol.right_paren = Start.close_paren
start Symbol.right_bracket = Start.close_bracket
start Symbol.left_bracket = Start.nothing
start Symbol.left_brace = Start.nothing
start Symbol.right_brace = Start.nothing
start Symbol.dot = Start.nothing
start Symbol.comma = Start.nothing
start Symbol.colon = Start.nothing
start Symbol.semicolon = Start.nothing
start Symbol.question = Start.nothing
start Symbol.or_op = Start.nothing
start Symbol.xor_op = Start.nothing
start Symbol.and_op = Start.nothing
start Symbol.vertical_bar = Start.nothing
start Symbol.caret = Start.nothing
start Symbol.ampersand = Start.nothing
start Symbol.eq_op = Start.nothing
start Symbol.ne_op = Start.nothing
start Symbol.left_angle = Start.nothing
start Symbol.right_angle = Start.nothing
start Symbol.le_op = Start.nothing
start Symbol.ge_op = Start.nothing
start Symbol.left_op = Start.nothing
start Symbol.right_op = Start.nothing
start Symbol.star = Start.nothing
start Symbol.slash = Start.nothing
start Symbol.percent = Start.nothing
start Symbol.equal = Start.nothing
start Symbol.mul_assign = Start.nothing
start Symbol.div_assign = Start.nothing
start Symbol.mod_assign = Start.nothing
start Symbol.add_assign = Start.nothing
start Symbol.sub_assign = Start.nothing
start Symbol.left_assign = Start.nothing
start Symbol.right_assign = Start.nothing
start Symbol.and_assign = Start.nothing
start Symbol.xor_assign = Start.nothing
start Symbol.or_assign = Start.nothing

unfoldable pub role : Symbol → Role
role Symbol.left_paren = Role.open_paren
role Symbol.right_paren = Role.close_paren
role Symbol.left_bracket = Role.open_bracket
role Symbol.right_bracket = Role.close_bracket
role Symbol.left_brace = Role.nothing
role Symbol.right_brace = Role.nothing
role Symbol.dot = Role.dot
role Symbol.comma = Role.comma
role Symbol.colon = Role.colon
role Symbol.semicolon = Role.nothing
role Symbol.question = Role.question
role Symbol.inc_op = Role.postfix PostfixOp.inc
role Symbol.dec_op = Role.postfix PostfixOp.dec
role Symbol.plus = Role.binary BinaryOp.Add
role Symbol.dash = Role.binary BinaryOp.Sub
role Symbol.bang = Role.nothing
role Symbol.tilde = Role.nothing
role Symbol.or_op = Role.binary BinaryOp.Or
role Symbol.xor_op = Role.binary BinaryOp.Xor
role Symbol.and_op = Role.binary BinaryOp.And
role Symbol.vertical_bar = Role.binary BinaryOp.BitOr
role Symbol.caret = Role.binary BinaryOp.BitXor
role Symbol.ampersand = Role.binary BinaryOp.BitAnd
role Symbol.eq_op = Role.binary BinaryOp.Equal
role Symbol.ne_op = Role.binary BinaryOp.NonEqual
role Symbol.left_angle = Role.binary BinaryOp.Lt
role Symbol.right_angle = Role.binary BinaryOp.Gt
role Symbol.le_op = Role.binary BinaryOp.Lte
role Symbol.ge_op = Role.binary BinaryOp.Gte
role Symbol.left_op = Role.binary BinaryOp.LShift
role Symbol.right_op = Role.binary BinaryOp.RShift
role Symbol.star = Role.binary BinaryOp.Mult
role Symbol.slash = Role.binary BinaryOp.Div
role Symbol.percent = Role.binary BinaryOp.Mod
role Symbol.equal = Role.assignment AssignmentOp.Equal
role Symbol.mul_assign = Role.assignment AssignmentOp.Mult
role Symbol.div_assign = Role.assignment AssignmentOp.Div
role Symbol.mod_assign = Role.assignment AssignmentOp.Mod
role Symbol.add_assign = Role.assignment AssignmentOp.Add
role Symbol.sub_assign = Role.assignment AssignmentOp.Sub
role Symbol.left_assign = Role.assignment AssignmentOp.LShift
role Symbol.right_assign = Role.assignment AssignmentOp.RShift
role Symbol.and_assign = Role.assignment AssignmentOp.And
role Symbol.xor_assign = Role.assignment AssignmentOp.Xor
role Symbol.or_assign = Role.assignment AssignmentOp.Or

-- an operator's symbol has that operator's role
pub unary_starts : (u : UnaryOp) → start (unary_symbol u) ≡ Start.unary u
unfolding start unary_symbol
unary_starts UnaryOp.Inc = refl
unary_starts UnaryOp.Dec = refl
unary_starts UnaryOp.Add = refl
unary_starts UnaryOp.Minus = refl
unary_starts UnaryOp.Not = refl
unary_starts UnaryOp.Complement = refl

pub postfix_role : (p : PostfixOp) → role (postfix_symbol p) ≡ Role.postfix p
unfolding role postfix_symbol
postfix_role PostfixOp.inc = refl
postfix_role PostfixOp.dec = refl

pub binary_role : (o : BinaryOp) → role (binary_symbol o) ≡ Role.binary o
unfolding role binary_op
binary_role BinaryOp.Or = refl
binary_role BinaryOp.Xor = refl
binary_role BinaryOp.And = refl
binary_role BinaryOp.BitOr = refl
binary_role BinaryOp.BitXor = refl
binary_role BinaryOp.BitAnd = refl
binary_role BinaryOp.Equal = refl
binary_role BinaryOp.NonEqual = refl
binary_role BinaryOp.Lt = refl
binary_role BinaryOp.Gt = refl
binary_role BinaryOp.Lte = refl
binary_role BinaryOp.Gte = refl
binary_role BinaryOp.LShift = refl
binary_role BinaryOp.RShift = refl
binary_role BinaryOp.Add = refl
binary_role BinaryOp.Sub = refl
binary_role BinaryOp.Mult = refl
binary_role BinaryOp.Div = refl
binary_role BinaryOp.Mod = refl

pub assignment_role : (o : AssignmentOp) → role (assignment_symbol o) ≡ Role.assignment o
unfolding role assignment_symbol
assignment_role AssignmentOp.Equal = refl
assignment_role AssignmentOp.Mult = refl
assignment_role AssignmentOp.Div = refl
assignment_role AssignmentOp.Mod = refl
assignment_role AssignmentOp.Add = refl
assignment_role AssignmentOp.Sub = refl
assignment_role AssignmentOp.LShift = refl
assignment_role AssignmentOp.RShift = refl
assignment_role AssignmentOp.And = refl
assignment_role AssignmentOp.Xor = refl
assignment_role AssignmentOp.Or = refl

-- and a role belongs to one symbol
abbrev pub StartOf : Symbol → Start → Type 0
StartOf y (Start.unary u) = y ≡ unary_symbol u
StartOf y Start.open_paren = y ≡ Symbol.left_paren
StartOf y Start.close_paren = y ≡ Symbol.right_paren
StartOf y Start.close_bracket = y ≡ Symbol.right_bracket
StartOf y Start.nothing = Unit

pub start_of : (y : Symbol) → StartOf y (start y)
unfolding start unary_symbol
start_of Symbol.left_paren = refl
start_of Symbol.right_paren = refl
start_of Symbol.left_bracket = tt
start_of Symbol.right_bracket = refl
start_of Symbol.left_brace = tt
start_of Symbol.right_brace = tt
start_of Symbol.dot = tt
start_of Symbol.comma = tt
start_of Symbol.colon = tt
start_of Symbol.semicolon = tt
start_of Symbol.question = tt
start_of Symbol.inc_op = refl
start_of Symbol.dec_op = refl
start_of Symbol.plus = refl
start_of Symbol.dash = refl
start_of Symbol.bang = refl
start_of Symbol.tilde = refl
start_of Symbol.or_op = tt
start_of Symbol.xor_op = tt
start_of Symbol.and_op = tt
start_of Symbol.vertical_bar = tt
start_of Symbol.caret = tt
start_of Symbol.ampersand = tt
start_of Symbol.eq_op = tt
start_of Symbol.ne_op = tt
start_of Symbol.left_angle = tt
start_of Symbol.right_angle = tt
start_of Symbol.le_op = tt
start_of Symbol.ge_op = tt
start_of Symbol.left_op = tt
start_of Symbol.right_op = tt
start_of Symbol.star = tt
start_of Symbol.slash = tt
start_of Symbol.percent = tt
start_of Symbol.equal = tt
start_of Symbol.mul_assign = tt
start_of Symbol.div_assign = tt
start_of Symbol.mod_assign = tt
start_of Symbol.add_assign = tt
start_of Symbol.sub_assign = tt
start_of Symbol.left_assign = tt
start_of Symbol.right_assign = tt
start_of Symbol.and_assign = tt
start_of Symbol.xor_assign = tt
start_of Symbol.or_assign = tt

abbrev pub RoleOf : Symbol → Role → Type 0
RoleOf y (Role.binary o) = y ≡ binary_symbol o
RoleOf y (Role.assignment o) = y ≡ assignment_symbol o
RoleOf y (Role.postfix p) = y ≡ postfix_symbol p
RoleOf y Role.question = y ≡ Symbol.question
RoleOf y Role.colon = y ≡ Symbol.colon
RoleOf y Role.comma = y ≡ Symbol.comma
RoleOf y Role.open_paren = y ≡ Symbol.left_paren
RoleOf y Role.close_paren = y ≡ Symbol.right_paren
RoleOf y Role.open_bracket = y ≡ Symbol.left_bracket
RoleOf y Role.close_bracket = y ≡ Symbol.right_bracket
RoleOf y Role.dot = y ≡ Symbol.dot
RoleOf y Role.nothing = Unit

pub role_of : (y : Symbol) → RoleOf y (role y)
unfolding role binary_op assignment_symbol postfix_symbol
role_of Symbol.left_paren = refl
role_of Symbol.right_paren = refl
role_of Symbol.left_bracket = refl
role_of Symbol.right_bracket = refl
role_of Symbol.left_brace = tt
role_of Symbol.right_brace = tt
role_of Symbol.dot = refl
role_of Symbol.comma = refl
role_of Symbol.colon = refl
role_of Symbol.semicolon = tt
role_of Symbol.question = refl
role_of Symbol.inc_op = refl
role_of Symbol.dec_op = refl
role_of Symbol.plus = refl
role_of Symbol.dash = refl
role_of Symbol.bang = tt
role_of Symbol.tilde = tt
role_of Symbol.or_op = refl
role_of Symbol.xor_op = refl
role_of Symbol.and_op = refl
role_of Symbol.vertical_bar = refl
role_of Symbol.caret = refl
role_of Symbol.ampersand = refl
role_of Symbol.eq_op = refl
role_of Symbol.ne_op = refl
role_of Symbol.left_angle = refl
role_of Symbol.right_angle = refl
role_of Symbol.le_op = refl
role_of Symbol.ge_op = refl
role_of Symbol.left_op = refl
role_of Symbol.right_op = refl
role_of Symbol.star = refl
role_of Symbol.slash = refl
role_of Symbol.percent = refl
role_of Symbol.equal = refl
role_of Symbol.mul_assign = refl
role_of Symbol.div_assign = refl
role_of Symbol.mod_assign = refl
role_of Symbol.add_assign = refl
role_of Symbol.sub_assign = refl
role_of Symbol.left_assign = refl
role_of Symbol.right_assign = refl
role_of Symbol.and_assign = refl
role_of Symbol.xor_assign = refl
role_of Symbol.or_assign = refl
