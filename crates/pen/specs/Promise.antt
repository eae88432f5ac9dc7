-- What the writers promise: the room and the pen before, the room and the pen behind. They are records, so that promises chain with their middles
-- left out (proofs/Chain.antt). Assumes nothing.
use Rattle.std.specs.Prelude.{◌≡◌, List, ℕ}
use Rattle.settings.specs.declared.Settings.{Settings}
use Rattle.settings.specs.declared.Whitespace.{Whitespace}
use Rattle.text.specs.Command.{Command}
use Rattle.pen.specs.declared.Pen.{Pen}
use Rattle.pen.specs.Sheet.{Sheet, lay}
use Rattle.pen.specs.Run.{whiten, run}

abbrev pub sheet : List ℕ → Pen → Sheet
sheet room p = record { room = room; pen = p }

-- the bytes were laid: a leaf writer
pub record Wrote (bs : List ℕ) (room : List ℕ) (p : Pen) (room' : List ℕ) (p' : Pen) : Type 0 where
  pub wrote : lay bs (sheet room p) ≡ sheet room' p'

-- what a Whitespace asks for was done
pub record Whitened (w : Whitespace) (room : List ℕ) (p : Pen) (room' : List ℕ) (p' : Pen) : Type 0 where
  pub whitened : whiten w (sheet room p) ≡ sheet room' p'

-- the commands were run: a method, and every printer
pub record Ran (s : Settings) (cs : List Command) (room : List ℕ) (p : Pen) (room' : List ℕ) (p' : Pen) : Type 0 where
  pub ran : run s cs (sheet room p) ≡ sheet room' p'

-- the commands were run and nothing was written, whatever the room: a method that takes none
pub record Turned (s : Settings) (cs : List Command) (p p' : Pen) : Type 0 where
  pub ran : (room : List ℕ) → run s cs (sheet room p) ≡ sheet room p'
