-- The joined question (01, "Calls", as 02, #103 mends it): yes exactly when, in TIGHT, a binary or a unary plus or minus has a bare operand (for binary, the right one) whose text begins with
-- the same sign, or a Dot stands directly over an IntConst. What a text begins with is told by the tree (specs/Joins). Assumes nothing.
use Rattle.std.specs.Prelude.{Bool, false, ◌&&◌, ◌||◌, List, ℕ, zero, suc, ◌+◌, eqb}
use Rattle.records.specs.declared.Record.{Record}
use Rattle.records.specs.Record.{record_count, record_at}
use Rattle.text.specs.Joins.{joins_under, joins_right, is_int}
use Rattle.text.specs.Reading.{Item, Reader, give, ◌and◌, expr, from, unary_op_of, binary_op_of}
use Rattle.text.specs.Tree.{Expr}

-- the second of two expressions, one behind the other
abbrev pub right_operand : Reader Expr
right_operand = give (λ l r. r) and expr and expr

-- a record, before the records L: a Unary that joins its operand, a Binary that joins its right one, a Dot over an IntConst
abbrev pub joins_here : Record → List Item → Bool
joins_here r L =
    eqb r.kind 7 && joins_under (unary_op_of r.variant) (expr L).tree
    || eqb r.kind 8 && joins_right (binary_op_of r.variant) (right_operand L).tree
    || eqb r.kind 13 && is_int (expr L).tree

-- one of n records is such a place, from record i on: wherever it stands, in a dimension or a struct's field too
unfoldable pub somewhere : (here : Record → List Item → Bool) → ℕ → (records names : List ℕ) → ℕ → Bool
somewhere here zero records names i = false
somewhere here (suc n) records names i = here (record_at records i) (from records names (i + 1)) || somewhere here n records names (i + 1)

-- the answer, from the bytes of records and names: all records of an accepted expression belong to it
unfoldable pub joined_answer : (records names : List ℕ) → Bool
joined_answer records names = somewhere joins_here (record_count records) records names 0
