-- A sheet: a room and the pen on it, and what it is to lay bytes on it. Assumes nothing.
use Rattle.std.specs.Prelude.{List, [], ◌∷◌, ℕ, ◌+◌, ◌-◌, ◌^◌, min, length}
use Rattle.room.specs.Room.{laid}
use Rattle.settings.specs.declared.FormattingState.{FormattingState}
use Rattle.pen.specs.declared.Pen.{Pen}

pub record Sheet : Type 0 where
  pub room : List ℕ
  pub pen : Pen

-- where a number stops: the place at the last of 32 bits, the level at the last of 16. (No accepted tree meets them: crates/bounded.)
abbrev pub last_place : ℕ
last_place = 2 ^ 32 - 1

abbrev pub last_level : ℕ
last_level = 2 ^ 16 - 1

-- n bytes on
abbrev pub forward : ℕ → Pen → Pen
forward n p = record { at = min (p.at + n) last_place; next = p.next; state = p.state }

-- with another state
abbrev pub leave : FormattingState → Pen → Pen
leave x p = record { at = p.at; next = p.next; state = x }

-- Bytes are written all or not at all, and count in any case. No bytes leave all as it is, whatever the place.
unfoldable pub lay : List ℕ → Sheet → Sheet
lay [] x = x
lay (b ∷ bs) x = record { room = laid x.room x.pen.at (b ∷ bs); pen = forward (length (b ∷ bs)) x.pen }
