-- The one outcome of a print (01, "Calls"): its answer, every byte of the room, and the part that is handed back, from the settings that were read, the
-- check of the records and the text; then those of a unit and of an expression. Assumes nothing.
use Rattle.std.specs.Prelude.{◌≡◌, cond, List, [], ◌++◌, ℕ, leb, ℤ, pos, length, drop, Option, None, Some, Result, Ok, Err}
use Rattle.std.specs.Borrow.{MutBor}
use Rattle.settings.specs.declared.Settings.{Settings}
use Rattle.settings.specs.Settings.{read_settings}
use Rattle.accept.specs.declared.Refusal.TheVariants as Why
use Rattle.accept.specs.declared.Refused.{Refused}
use Rattle.accept.specs.Checked.{Checked, refused}
use Rattle.accept.specs.Refusal.{number}
use Rattle.accept.specs.Check.{check}
use Rattle.shapes.specs.Class.{Class}
use Rattle.text.specs.Whole.{unit_text, expr_text}
use Rattle.checks.specs.Answer.{refusal_answer}

-- the answer of a print: the length of its text, or the refusal with its place
abbrev pub Printed : Type 0
Printed = Result ℕ Refused

-- a text for a room: its length, or refusal 13 with the length that it needs
unfoldable pub fitted : (text room : List ℕ) → Printed
fitted text room = cond (leb (length text) (length room)) (Ok (length text)) (refused Why.RoomTooSmall (length text))

-- the refusals in 01's order: settings (1), records and names (2 to 12, and 02's 15 behind 11), room (13)
unfoldable pub outcome : Option Settings → Checked → (text room : List ℕ) → Printed
outcome None c text room = refused Why.SettingsOutOfRange 0
outcome (Some s) (Err r) text room = Err r
outcome (Some s) (Ok m) text room = fitted text room

-- the room behind it: the text and, untouched, what was behind it; or as it was
abbrev pub room_after : Printed → (text room : List ℕ) → List ℕ
room_after (Ok n) text room = text ++ drop n room
room_after (Err r) text room = room

-- the written front, empty where nothing was written
abbrev pub front : Printed → (text : List ℕ) → List ℕ
front (Ok n) text = text
front (Err r) text = []

-- the documents' number and place; 0 is no refusal, which has no place
abbrev pub refusal_number : Printed → ℕ
refusal_number (Ok n) = 0
refusal_number (Err r) = number r.refusal

abbrev pub refusal_place : Printed → ℕ
refusal_place (Ok n) = 0
refusal_place (Err r) = r.place

-- the 64 bits of the C function
unfoldable pub printed_bits : Printed → ℤ
printed_bits (Ok n) = pos n
printed_bits (Err r) = refusal_answer r.refusal r.place

-- what print_unit_into and print_expr_into promise: the answer, the documents' number and place of it, and every byte of the room
pub record Prints (o : Printed) (text room room' : List ℕ) (r : Printed) : Type 0 where
  pub answered : r ≡ o
  pub numbered : refusal_number r ≡ refusal_number o
  pub placed : refusal_place r ≡ refusal_place o
  pub left : room' ≡ room_after o text room

-- print_unit and print_expr: the part that is handed back, empty on a refusal, and the documents' number and place
pub record HandsBack (o : Printed) (text part : List ℕ) (no place : ℕ) : Type 0 where
  pub handed : part ≡ front o text
  pub numbered : no ≡ refusal_number o
  pub placed : place ≡ refusal_place o

-- what their answer says of it
abbrev pub part_of : Result (MutBor (List ℕ)) Refused → List ℕ
part_of (Ok part) = part.now
part_of (Err r) = []

abbrev pub number_of : Result (MutBor (List ℕ)) Refused → ℕ
number_of (Ok part) = 0
number_of (Err r) = number r.refusal

abbrev pub place_of : Result (MutBor (List ℕ)) Refused → ℕ
place_of (Ok part) = 0
place_of (Err r) = r.place

abbrev pub HandsOut : Printed → (text : List ℕ) → Result (MutBor (List ℕ)) Refused → Type 0
HandsOut o text r = HandsBack o text (part_of r) (number_of r) (place_of r)

-- glsl_print_unit and glsl_print_expr: the 64 bits, and every byte of the room
pub record PrintsBits (o : Printed) (text room room' : List ℕ) (r : ℤ) : Type 0 where
  pub answered : r ≡ printed_bits o
  pub left : room' ≡ room_after o text room

-- of a unit (root 80); of an expression (root 1 to 16)
abbrev pub unit_outcome : (settings records names room : List ℕ) → Printed
unit_outcome settings records names room = outcome (read_settings settings) (check records names Class.unit) (unit_text settings records names) room

abbrev pub expr_outcome : (settings records names room : List ℕ) → Printed
expr_outcome settings records names room = outcome (read_settings settings) (check records names Class.expr) (expr_text settings records names) room
