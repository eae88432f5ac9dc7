-- The sign that the text of an expression begins with, from its records: it is the record's own, or that of the record behind it. That it is the tree's (text, specs/Joins, `sign`) is shown in
-- proofs/Step; that an operator joins its operand exactly as `joins_with` has it, in proofs/Operators. Assumes nothing.
use Rattle.std.specs.Prelude.{Option, Some, None, Bool, not, ◌&&◌, ◌||◌, cond, ℕ, ◌+◌, eqb, ltb}
use Prim.Native.Char.{code}
use Rattle.decimal.specs.Decimal.{negative}
use Rattle.records.specs.declared.Record.{Record}
use Rattle.text.specs.Operator.{postfix_precedence, binary_precedence, ternary_precedence, assignment_precedence, comma_precedence}
use Rattle.text.specs.Reading.{binary_op_of}
use Rattle.signs.specs.declared.Sign.{Sign}
use Rattle.signs.specs.declared.Sign.TheVariants.{Plus, Minus}

-- the first operand of a record is bare if it binds below this (01, "Rules of the text"); 0 where the record has none, and for a callee, which is always bare. The kinds:
-- Binary, Ternary, Assignment, Bracket, Dot, PostInc, PostDec, Comma.
unfoldable pub first_below : (kind variant : ℕ) → ℕ
first_below k v =
    cond (eqb k 8) (binary_precedence (binary_op_of v) + 1)
    (cond (eqb k 9) ternary_precedence
    (cond (eqb k 10) assignment_precedence
    (cond (eqb k 11) (postfix_precedence + 1)
    (cond (eqb k 13) (postfix_precedence + 1)
    (cond (eqb k 14) postfix_precedence
    (cond (eqb k 15) postfix_precedence
    (cond (eqb k 16) (comma_precedence + 1) 0)))))))

-- a sign is its byte, and 0 is none
abbrev pub byte_of : Option Sign → ℕ
byte_of (Some Plus) = code "+"
byte_of (Some Minus) = code "-"
byte_of None = 0

unfoldable pub unary_sign_of : (variant : ℕ) → ℕ
unary_sign_of v = cond (eqb v 0) (code "+") (cond (eqb v 1) (code "-") (cond (eqb v 2) (code "+") (cond (eqb v 3) (code "-") 0)))

unfoldable pub int_sign : ℕ → ℕ
int_sign a = cond (negative a) (code "-") 0

-- of an IntConst and of a Unary; no other record has a sign by itself
unfoldable pub own_sign : Record → ℕ
own_sign r = cond (eqb r.kind 2) (int_sign r.a) (cond (eqb r.kind 7) (unary_sign_of r.variant) 0)

-- the text of a record begins with that of what stands behind it: with a callee's, or with that of a first operand which is bare by its precedence
unfoldable pub goes_on : Record → (next : ℕ) → Bool
goes_on r p = eqb r.kind 12 || ltb p (first_below r.kind r.variant)

-- so it begins with the sign of what stands behind it, or with its own
abbrev pub sign_before : Record → (precedence sign : ℕ) → ℕ
sign_before r p s = cond (goes_on r p) s (own_sign r)

-- the sign that an operator is, by the variants of plus and minus; 0 for all others, ++ and -- too
unfoldable pub plus_or_minus : (variant plus minus : ℕ) → ℕ
plus_or_minus v plus minus = cond (eqb v plus) (code "+") (cond (eqb v minus) (code "-") 0)

-- of a Unary's operator, and of a Binary's
abbrev pub of_unary : (variant : ℕ) → ℕ
of_unary v = plus_or_minus v 2 3

abbrev pub of_binary : (variant : ℕ) → ℕ
of_binary v = plus_or_minus v 14 15

-- an operator that is this sign, or none, before an operand that begins with one
unfoldable pub joins_with : (op sign : ℕ) → Bool
joins_with op s = not (eqb op 0) && eqb op s

-- a right operand of + and - is bare below it (01, "Rules of the text")
abbrev pub additive : ℕ
additive = 5
