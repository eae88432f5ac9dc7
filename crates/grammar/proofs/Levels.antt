-- Chapter 9's expressions by their strength (4.60 §5.1), and its productions once for all operators of a sort. Assumes nothing.
use Prim.Native.Nat.{ℕ, zero, suc, ◌+◌, ◌-◌, ◌≤◌}
use native.Mathlib.Omega.{arith}
use native.Mathlib.Nat.{add-zero, add-suc}
use mathlib.Core.Path.{◌≡◌}
use mathlib.Core.List.{List, [], ◌∷◌, ◌++◌}
use lib.ListN.{get_or}
use Rattle.text.specs.Token.{Token}
use Rattle.text.specs.Token.Token.{symbol}
use Rattle.text.specs.Tree.{UnaryOp, BinaryOp, AssignmentOp, Expr}
use Rattle.text.specs.Tree.Expr.{Unary, Binary, Assignment}
use Rattle.text.specs.Operator.{unary_symbol, binary_symbol, assignment_symbol, binary_op}
use Rattle.grammar.specs.Strength.{under}
use Rattle.grammar.specs.Chapter9.{Nonterminal, Derives}
use Rattle.grammar.specs.Chapter9.Nonterminal.{primary_expression, postfix_expression, unary_expression, multiplicative_expression, additive_expression, shift_expression, relational_expression, equality_expression, and_expression, exclusive_or_expression, inclusive_or_expression, logical_and_expression, logical_xor_expression, logical_or_expression, conditional_expression, assignment_expression, expression}
use Rattle.grammar.specs.Chapter9.Value.{expr}
use Rattle.grammar.specs.Chapter9.Derives.{postfix-primary, postfix-inc, postfix-dec, unary-postfix, multiplicative-unary, additive-multiplicative, shift-additive, relational-shift, equality-relational, and-equality, exclusive_or-and, inclusive_or-exclusive_or, logical_and-inclusive_or, logical_xor-logical_and, logical_or-logical_xor, conditional-logical_or, assignment-conditional, expression-assignment, logical_or-or_op, logical_xor-xor_op, logical_and-and_op, inclusive_or-vertical_bar, exclusive_or-caret, and-ampersand, equality-eq_op, equality-ne_op, relational-left_angle, relational-right_angle, relational-le_op, relational-ge_op, shift-left_op, shift-right_op, additive-plus, additive-dash, multiplicative-star, multiplicative-slash, multiplicative-percent, unary-inc, unary-dec, unary-operator, unary_operator-plus, unary_operator-dash, unary_operator-bang, unary_operator-tilde, assignment-operator, assignment_operator-equal, assignment_operator-mul_assign, assignment_operator-div_assign, assignment_operator-mod_assign, assignment_operator-add_assign, assignment_operator-sub_assign, assignment_operator-left_assign, assignment_operator-right_assign, assignment_operator-and_assign, assignment_operator-xor_assign, assignment_operator-or_assign}
use Rattle.grammar.proofs.Settled.{PostfixOp, inc, dec, postfix_symbol, posted}

-- by strength, from 0: primary_expression is also the level of what is atomic in HasPrecedence's table. From 17 on, it is expression
abbrev levels : List Nonterminal
levels = primary_expression ∷ primary_expression ∷ postfix_expression ∷ unary_expression ∷ multiplicative_expression ∷ additive_expression ∷ shift_expression
    ∷ relational_expression ∷ equality_expression ∷ and_expression ∷ exclusive_or_expression ∷ inclusive_or_expression
    ∷ logical_and_expression ∷ logical_xor_expression ∷ logical_or_expression ∷ conditional_expression ∷ assignment_expression ∷ []

unfoldable pub level : ℕ → Nonterminal
level n = get_or levels n expression

-- what is derived is passed on to the next weaker nonterminal
weaker : {ts : List Token} {a : Expr} (n : ℕ) → Derives (level n) ts (expr a) → Derives (level (suc n)) ts (expr a)
unfolding level
weaker zero d = d
weaker (suc zero) d = postfix-primary d
weaker (suc (suc zero)) d = unary-postfix d
weaker (suc (suc (suc zero))) d = multiplicative-unary d
weaker (suc (suc (suc (suc zero)))) d = additive-multiplicative d
weaker (suc (suc (suc (suc (suc zero))))) d = shift-additive d
weaker (suc (suc (suc (suc (suc (suc zero)))))) d = relational-shift d
weaker (suc (suc (suc (suc (suc (suc (suc zero))))))) d = equality-relational d
weaker (suc (suc (suc (suc (suc (suc (suc (suc zero)))))))) d = and-equality d
weaker (suc (suc (suc (suc (suc (suc (suc (suc (suc zero))))))))) d = exclusive_or-and d
weaker (suc (suc (suc (suc (suc (suc (suc (suc (suc (suc zero)))))))))) d = inclusive_or-exclusive_or d
weaker (suc (suc (suc (suc (suc (suc (suc (suc (suc (suc (suc zero))))))))))) d = logical_and-inclusive_or d
weaker (suc (suc (suc (suc (suc (suc (suc (suc (suc (suc (suc (suc zero)))))))))))) d = logical_xor-logical_and d
weaker (suc (suc (suc (suc (suc (suc (suc (suc (suc (suc (suc (suc (suc zero))))))))))))) d = logical_or-logical_xor d
weaker (suc (suc (suc (suc (suc (suc (suc (suc (suc (suc (suc (suc (suc (suc zero)))))))))))))) d = conditional-logical_or d
weaker (suc (suc (suc (suc (suc (suc (suc (suc (suc (suc (suc (suc (suc (suc (suc zero))))))))))))))) d = assignment-conditional d
weaker (suc (suc (suc (suc (suc (suc (suc (suc (suc (suc (suc (suc (suc (suc (suc (suc zero)))))))))))))))) d = expression-assignment d
weaker (suc (suc (suc (suc (suc (suc (suc (suc (suc (suc (suc (suc (suc (suc (suc (suc (suc k))))))))))))))))) d = d

weaker_by : {ts : List Token} {a : Expr} (k n : ℕ) → Derives (level n) ts (expr a) → Derives (level (n + k)) ts (expr a)
weaker_by zero n d = rw add-zero d
weaker_by (suc k) n d = rw add-suc (weaker (n + k) (weaker_by k n d))

pub weakened : {ts : List Token} {a : Expr} (m n : ℕ) → m ≤ n → Derives (level m) ts (expr a) → Derives (level n) ts (expr a)
weakened m n h d = let q : m + (n - m) ≡ n = omega arith in rw q at (weaker_by (n - m) m d)

pub postfixed : {ts : List Token} {a : Expr} (p : PostfixOp) → Derives postfix_expression ts (expr a)
    → Derives postfix_expression (ts ++ (symbol (postfix_symbol p) ∷ [])) (expr (posted p a))
unfolding postfix_symbol posted
postfixed inc d = postfix-inc d
postfixed dec d = postfix-dec d

pub prefixed : {ts : List Token} {a : Expr} (o : UnaryOp) → Derives unary_expression ts (expr a) → Derives unary_expression (symbol (unary_symbol o) ∷ ts) (expr (Unary o a))
unfolding unary_symbol
prefixed UnaryOp.Inc d = unary-inc d
prefixed UnaryOp.Dec d = unary-dec d
prefixed UnaryOp.Add d = unary-operator unary_operator-plus d
prefixed UnaryOp.Minus d = unary-operator unary_operator-dash d
prefixed UnaryOp.Not d = unary-operator unary_operator-bang d
prefixed UnaryOp.Complement d = unary-operator unary_operator-tilde d

pub binary : {ts us : List Token} {a b : Expr} (o : BinaryOp) → Derives (level (suc (under o))) ts (expr a) → Derives (level (under o)) us (expr b)
    → Derives (level (suc (under o))) (ts ++ (symbol (binary_symbol o) ∷ us)) (expr (Binary o a b))
unfolding level under binary_op
binary BinaryOp.Or d e = logical_or-or_op d e
binary BinaryOp.Xor d e = logical_xor-xor_op d e
binary BinaryOp.And d e = logical_and-and_op d e
binary BinaryOp.BitOr d e = inclusive_or-vertical_bar d e
binary BinaryOp.BitXor d e = exclusive_or-caret d e
binary BinaryOp.BitAnd d e = and-ampersand d e
binary BinaryOp.Equal d e = equality-eq_op d e
binary BinaryOp.NonEqual d e = equality-ne_op d e
binary BinaryOp.Lt d e = relational-left_angle d e
binary BinaryOp.Gt d e = relational-right_angle d e
binary BinaryOp.Lte d e = relational-le_op d e
binary BinaryOp.Gte d e = relational-ge_op d e
binary BinaryOp.LShift d e = shift-left_op d e
binary BinaryOp.RShift d e = shift-right_op d e
binary BinaryOp.Add d e = additive-plus d e
binary BinaryOp.Sub d e = additive-dash d e
binary BinaryOp.Mult d e = multiplicative-star d e
binary BinaryOp.Div d e = multiplicative-slash d e
binary BinaryOp.Mod d e = multiplicative-percent d e

pub assigned : {ts us : List Token} {a b : Expr} (o : AssignmentOp) → Derives unary_expression ts (expr a) → Derives assignment_expression us (expr b)
    → Derives assignment_expression (ts ++ (symbol (assignment_symbol o) ∷ us)) (expr (Assignment o a b))
unfolding assignment_symbol
assigned AssignmentOp.Equal d e = assignment-operator d assignment_operator-equal e
assigned AssignmentOp.Mult d e = assignment-operator d assignment_operator-mul_assign e
assigned AssignmentOp.Div d e = assignment-operator d assignment_operator-div_assign e
assigned AssignmentOp.Mod d e = assignment-operator d assignment_operator-mod_assign e
assigned AssignmentOp.Add d e = assignment-operator d assignment_operator-add_assign e
assigned AssignmentOp.Sub d e = assignment-operator d assignment_operator-sub_assign e
assigned AssignmentOp.LShift d e = assignment-operator d assignment_operator-left_assign e
assigned AssignmentOp.RShift d e = assignment-operator d assignment_operator-right_assign e
assigned AssignmentOp.And d e = assignment-operator d assignment_operator-and_assign e
assigned AssignmentOp.Xor d e = assignment-operator d assignment_operator-xor_assign e
assigned AssignmentOp.Or d e = assignment-operator d assignment_operator-or_assign e
