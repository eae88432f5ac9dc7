-- Bytes that are written all or not at all. Assumes nothing.
use Rattle.std.specs.Prelude.{cond, List, ℕ, ◌+◌, length, leb}
use Rattle.std.proofs.lemmas.List.Edits.{sets}

-- the room after a write of the bytes bs from `at` on: they stand there if all of them fit, else the room stays as it is
unfoldable pub laid : (room : List ℕ) (at : ℕ) (bs : List ℕ) → List ℕ
laid room at bs = cond (leb (at + length bs) (length room)) (sets room at bs) room
