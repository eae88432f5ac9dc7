-- 02, #103 in its own words, in which "text begins" is about the bytes of the TIGHT text; what is bare, what the right operand is and where places are looked for are the text's own
-- definitions. That the answer to the joined question is this for every accepted expression is shown in proofs/Sentence; nothing else is made of it, the rule is text's (specs/Joins).
-- Assumes nothing.
use Rattle.std.specs.Prelude.{Bool, ◌&&◌, ◌||◌, List, [], ◌∷◌, ℕ, eqb, get_or}
use Prim.Native.Char.{code}
use Rattle.words.specs.Bytes.{bytes}
use Rattle.words.specs.Form.{same}
use Rattle.words.specs.Symbol.{Symbol, symbol_text}
use Rattle.settings.specs.Settings.{settings_of, TIGHT}
use Rattle.settings.specs.State.{fresh}
use Rattle.records.specs.declared.Record.{Record}
use Rattle.text.specs.Pen.{text}
use Rattle.text.specs.Tree.{Expr}
use Rattle.text.specs.Operator.{unary_symbol, binary_symbol, bare_operand, bare_right}
use Rattle.text.specs.Joins.{is_int}
use Rattle.text.specs.Text.{show_expr}
use Rattle.text.specs.Reading.{Item, expr, unary_op_of, binary_op_of}
use Rattle.text.specs.Joined.{right_operand}

-- the byte that the text of an expression begins with in TIGHT, 0 where it is empty
abbrev pub begins : Expr → ℕ
begins e = get_or (text (settings_of TIGHT) (show_expr e) fresh) 0 0

-- an operator is this sign, and the text of its operand begins with the same
abbrev pub both_are : Symbol → (sign : ℕ) → Expr → Bool
both_are op s e = same (s ∷ []) (bytes (symbol_text op)) && eqb s (begins e)

-- ".. plus or minus has a bare operand .. whose text begins with the same sign"
abbrev pub same_sign : Symbol → (bare : Bool) → Expr → Bool
same_sign op bare e = bare && (both_are op (code "+") e || both_are op (code "-") e)

-- "a binary or a unary .. (for binary, the right one) .., or a Dot stands directly over an IntConst"
abbrev pub in_words : Record → List Item → Bool
in_words r L =
    eqb r.kind 7 && same_sign (unary_symbol (unary_op_of r.variant)) (bare_operand (unary_op_of r.variant) (expr L).tree) (expr L).tree
    || eqb r.kind 8 && same_sign (binary_symbol (binary_op_of r.variant)) (bare_right (binary_op_of r.variant) (right_operand L).tree) (right_operand L).tree
    || eqb r.kind 13 && is_int (expr L).tree
