-- How strongly an expression binds, told by its record (000 HasPrecedence). The kinds: Unary, Binary, Ternary, Assignment, Bracket, FunCall, Dot, PostInc, PostDec, Comma. That
-- it is the tree's precedence is shown in proofs/Tree. Assumes nothing.
use Rattle.std.specs.Prelude.{cond, ℕ, eqb}
use Rattle.text.specs.Operator.{atomic_precedence, postfix_precedence, unary_precedence, binary_precedence, ternary_precedence, assignment_precedence, comma_precedence}
use Rattle.text.specs.Reading.{binary_op_of}

unfoldable pub precedence_of : (kind variant : ℕ) → ℕ
precedence_of k v =
    cond (eqb k 7) unary_precedence
    (cond (eqb k 8) (binary_precedence (binary_op_of v))
    (cond (eqb k 9) ternary_precedence
    (cond (eqb k 10) assignment_precedence
    (cond (eqb k 11) postfix_precedence
    (cond (eqb k 12) postfix_precedence
    (cond (eqb k 13) postfix_precedence
    (cond (eqb k 14) postfix_precedence
    (cond (eqb k 15) postfix_precedence
    (cond (eqb k 16) comma_precedence atomic_precedence)))))))))
