-- What putting a text into a room promises: the text's length and whether it fits; then the text and, untouched, what was behind it, or the room as it was.
-- Assumes nothing.
use Rattle.std.specs.Prelude.{◌≡◌, Result, Ok, Err, List, ◌++◌, ℕ, ◌<◌, ◌≤◌, length, drop}
use Rattle.draft.specs.declared.TooLong.{TooLong}

unfoldable pub Puts : (text room room' : List ℕ) → Result ℕ TooLong → Type 0
Puts text room room' (Ok n) = (n ≡ length text) × (n ≤ length room) × (room' ≡ text ++ drop n room)
Puts text room room' (Err e) = (e.length ≡ length text) × (length room < e.length) × (room' ≡ room)
