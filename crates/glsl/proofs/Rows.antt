-- The rows of document 01, those marked P and its two other units, those of the joined question as 02, #103 mends it, in TIGHT and in OPEN, those of needed spaces (02, #106), of the new type words (02, #102) and of
-- reserved names (02, #105), of the calls themselves: one table, one theorem, by computation from the bytes of settings, records and names. Assumes nothing.
use Rattle.std.specs.Prelude.{Ok, Err}
use Prim.Native.Nat.{ℕ, ◌-◌}
use Prim.Native.Char.{code}
use mathlib.Core.Path.{◌≡◌, refl}
use mathlib.Core.Bool.{Bool, cond}
use mathlib.Core.List.{List, [], ◌∷◌, ◌++◌, map}
use mathlib.Core.Option.{Option, none, some}
use lib.Dec.{eqb}
use lib.ListN.{length, replicate}
use Rattle.records.proofs.Made.{rec, plain, many}
use Rattle.accept.specs.declared.Refusal.TheVariants.{RoomTooSmall, ReservedDeclared}
use Rattle.accept.specs.Checked.{refused}
use Rattle.accepted.proofs.Case.{computing as checking}
use Rattle.settings.specs.Settings.{TIGHT}
use Rattle.text.specs.Case.{Case}
use Rattle.text.proofs.Rows.{rows_of_01, rows_of_103, rows_of_106, rows_of_102, rows_of_105}
use Rattle.text.proofs.Computing.{computing}
use Rattle.draft.specs.declared.Root.{Root}
use Rattle.draft.specs.declared.Root.TheVariants.{Unit, Expr}
use Rattle.glsl.specs.Root.{root_text, print_outcome}
use Rattle.glsl.specs.Printed.{Printed, fitted, outcome, room_after, front}
use Rattle.glsl.specs.Joined.{Whether, whether_joined, joined_outcome}

-- text's table has the rows, with their texts as they are quoted
abbrev pub rows : List Case
rows = rows_of_01 ++ rows_of_103 ++ rows_of_106 ++ rows_of_102 ++ rows_of_105

-- a print over some room: its answer, every byte of the room, and the part that is handed back
pub record Print : Type 0 where
  pub answer : Printed
  pub room : List ℕ
  pub part : List ℕ

-- what is said of a case: a print over any room, over one that is as long as the text, over one that is a byte too short (if the text has a byte); and the joined question
pub record Calls : Type 0 where
  pub any : Print
  pub exact : Print
  pub short : Print
  pub joined : Option Whether

abbrev root : Case → Root
root c = cond c.is_unit Unit Expr

abbrev print : Case → List ℕ → Print
print c room =
    let o = print_outcome (root c) c.settings c.records c.names room in
    let t = root_text (root c) c.settings c.records c.names in
    record { answer = o; room = room_after o t room; part = front o t }

-- a room of n bytes
abbrev blank : ℕ → List ℕ
blank n = replicate n 0

-- what the calls promise
abbrev pub promised : List ℕ → Case → Calls
promised room c = record {
  any = print c room;
  exact = print c (blank (length c.outcome.text));
  short = print c (blank (length c.outcome.text - 1));
  joined = cond c.is_unit none (some (joined_outcome c.records c.names));
}

-- what the row says
abbrev said : Option Bool → Option Whether
said none = none
said (some b) = some (Ok b)

abbrev pub claimed : List ℕ → Case → Calls
claimed room c =
    let t = c.outcome.text in
    let o = fitted t room in
    let whole : Print = record { answer = Ok (length t); room = t; part = t } in
    record {
      any = record { answer = o; room = room_after o t room; part = front o t };
      exact = whole;
      short = cond (eqb (length t) 0) whole (record { answer = refused RoomTooSmall (length t); room = blank (length t - 1); part = [] });
      joined = said c.outcome.joined;
    }

pub match : (room : List ℕ) → map (promised room) rows ≡ map (claimed room) rows
unfolding computing checking fitted outcome whether_joined
match room = refl

-- 14 expressions and 3 units of 01, 17 expressions for #103, each in TIGHT and in OPEN; 15 expressions and a unit for #106, each in EXPORT and in OPEN with byte 21 at 1, and the unit
-- twice more; 5 expressions and a unit for #102, an expression and a unit for #105, each in TIGHT and in OPEN
pub all_there : length rows ≡ 118
all_there = refl

-- 02, #105: the prototype `void gl_x();` and the call `struct gl_x {}()` are refused, by all three calls, whatever the room
abbrev reserved_function : List ℕ
reserved_function = many 80 1 ++ plain 47 0 ++ rec 40 0 0 0 4 ++ plain 31 0 ++ plain 20 0 ++ plain 21 0

abbrev gl_x : List ℕ
gl_x = code "g" ∷ code "l" ∷ code "_" ∷ code "x" ∷ []

abbrev reserved_struct : List ℕ
reserved_struct = many 12 0 ++ plain 20 0 ++ rec 23 1 0 0 4

pub reserved_refused : (room : List ℕ)
    → (print_outcome Unit TIGHT reserved_function gl_x room ≡ refused ReservedDeclared 2)
    × (print_outcome Expr TIGHT reserved_struct gl_x room ≡ refused ReservedDeclared 2)
    × (joined_outcome reserved_struct gl_x ≡ Err (record { refusal = ReservedDeclared; place = 2 }))
unfolding computing checking outcome whether_joined
reserved_refused room = (refl, refl, refl)
