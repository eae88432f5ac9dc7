-- The most that the operand of a unary operator may bind and be bare, told by the operand's record: plus over plus and minus over minus are bracketed
-- (000 show_expr, Unary). Assumes nothing.
use Rattle.std.specs.Prelude.{◌&&◌, ◌||◌, cond, ℕ, eqb}
use Rattle.records.specs.declared.Record.{Record}
use Rattle.text.specs.Operator.{postfix_precedence, unary_precedence}

-- the operator's variant, the operand's record
unfoldable pub most_under : (variant : ℕ) → Record → ℕ
most_under v r = cond ((eqb v 2 || eqb v 3) && eqb r.kind 7 && eqb r.variant v) postfix_precedence unary_precedence
