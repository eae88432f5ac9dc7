-- What the walk of the joined question does with the records, from the last to the first. That its answer is the definition's (text, specs/Joined) for
-- accepted records is shown in proofs/Answer. Assumes nothing.
use Rattle.std.specs.Prelude.{Some, Bool, false, ◌||◌, cond, List, [], ◌∷◌, ℕ, zero, suc, ◌+◌, eqb, ltb, length, get_or, drop}
use Prim.Native.Char.{code}
use Rattle.records.specs.declared.Record.{Record}
use Rattle.records.specs.Record.{record_count, record_at}
use Rattle.shapes.specs.Shape.{last_variant}
use Rattle.accept.specs.Check.{children_of, most_records}
use Rattle.text.specs.Operator.{unary_precedence}
use Rattle.precedence.specs.Precedence.{precedence_of}
use Rattle.signs.specs.Sign.{byte_of, sign_before, of_unary, of_binary, joins_with, additive}
use Rattle.joined.specs.declared.Head as Code
use Rattle.joined.specs.declared.ByItself.{ByItself}
use Rattle.joined.specs.declared.ByItself.TheVariants.{Operator, IntConst, Other}

-- how the text of an expression begins, how strongly it binds, and what it is by itself, in numbers: a sign is its byte, an IntConst a point, and all else 0
pub record Head : Type 0 where
  pub sign : ℕ
  pub precedence : ℕ
  pub own : ℕ

abbrev pub own_byte : ByItself → ℕ
own_byte (Operator s) = byte_of (Some s)
own_byte IntConst = code "."
own_byte Other = 0

-- the code's, in these numbers
abbrev pub seen : Code.Head → Head
seen h = record { sign = byte_of h.sign; precedence = h.precedence; own = own_byte h.own }

-- an operand in parentheses begins with none
unfoldable pub bare_sign : Head → (below : ℕ) → ℕ
bare_sign h below = cond (ltb h.precedence below) h.sign 0

-- the first operand stands right behind the record
unfoldable pub sign_of : Record → (next : Head) → ℕ
sign_of r next = sign_before r next.precedence next.sign

-- what a record is by itself: a unary plus (variant 2) or minus (3) is its sign, an IntConst a point, and all others are 0
unfoldable pub own_of : (kind variant : ℕ) → ℕ
own_of k v = cond (eqb k 2) (code ".") (cond (eqb k 7) (of_unary v) 0)

unfoldable pub head_of : Record → (next : Head) → Head
head_of r next = record { sign = sign_of r next; precedence = precedence_of r.kind r.variant; own = own_of r.kind r.variant }

-- the sign that an operand begins with under a unary plus or minus: plus over plus and minus over minus are in parentheses
unfoldable pub under_sign : Head → (op : ℕ) → ℕ
under_sign h op = cond (eqb h.own op) 0 (bare_sign h (unary_precedence + 1))

-- a Unary over the record behind it, a Binary (plus is variant 14, minus 15) by its right operand's byte, a Dot over the record behind it
unfoldable pub joins_at : Record → (next : Head) → (right : ℕ) → Bool
joins_at r next right =
    cond (eqb r.kind 7) (joins_with (own_of r.kind r.variant) (under_sign next (own_of r.kind r.variant)))
    (cond (eqb r.kind 8) (joins_with (of_binary r.variant) right)
    (cond (eqb r.kind 13) (eqb next.own (code ".")) false))

-- none where the variant is beyond the last, which the check refuses: then the table has no row
unfoldable pub child_count : Record → ℕ
child_count r = cond (ltb (last_variant r.kind) r.variant) 0 (length (children_of r))

-- the state before a record
pub record State : Type 0 where
  -- the head of the record behind it
  pub head : Head
  -- for each tree behind it, nearest first, the sign that it would begin with as the right operand of a + or -; trees that are children of one tree are taken off for it
  pub stack : List ℕ
  -- was there a place that is joined?
  pub found : Bool

abbrev pub no_head : Head
no_head = record { sign = 0; precedence = 0; own = 0 }

abbrev pub start : State
start = record { head = no_head; stack = []; found = false }

abbrev pub step : Record → State → State
step r s = record {
  head = head_of r s.head;
  stack = bare_sign (head_of r s.head) additive ∷ drop (child_count r) s.stack;
  found = joins_at r s.head (get_or s.stack 1 0) || s.found;
}

-- n records from record i on
unfoldable pub walk : List ℕ → ℕ → ℕ → State
walk records zero i = start
walk records (suc n) i = step (record_at records i) (walk records n (i + 1))

-- no beyond the most records that are accepted: the code's stack has no room for more
unfoldable pub any_joined : List ℕ → Bool
any_joined records = cond (ltb most_records (record_count records)) false (walk records (record_count records) 0).found
