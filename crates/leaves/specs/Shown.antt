-- What a printer promises: it ran its commands, and the record to be read next is so many records on. Assumes nothing.
use Rattle.std.specs.Prelude.{◌≡◌, cond, List, ℕ, ◌+◌, ltb, Option, None, Some}
use Rattle.records.specs.declared.Record.{Record}
use Rattle.records.specs.Record.{record_count, record_at}
use Rattle.settings.specs.declared.Settings.{Settings}
use Rattle.text.specs.Command.{Command}
use Rattle.text.specs.Reading.{Reader, from}
use Rattle.pen.specs.declared.Pen.{Pen}
use Rattle.pen.specs.Promise.{Ran}
use Rattle.leaves.specs.declared.Source.{Source}

-- the pen before another record
abbrev pub before : ℕ → Pen → Pen
before i p = record { at = p.at; next = i; state = p.state }

-- the pen behind the record that it stands before, if one stands there
abbrev pub past : (records : List ℕ) → Pen → Pen
past records p = before (cond (ltb p.next (record_count records)) (p.next + 1) p.next) p

-- the record that the pen stands before, if its kind is the number k, and the pen behind it
abbrev pub Enters : (records : List ℕ) → Pen → (k : ℕ) → Option (Record × Pen) → Type 0
Enters records p k None = (record_at records p.next).kind ≡ k → ⊥
Enters records p k (Some (r, q)) = (r ≡ record_at records p.next) × (r.kind ≡ k) × (q ≡ past records p)

-- whatever records they stand before, the two pens are as the commands say; n records were read
pub record Shown (s : Settings) (cs : List Command) (n : ℕ) (room : List ℕ) (p : Pen) (room' : List ℕ) (p' : Pen) : Type 0 where
  pub ran : Ran s cs room (before 0 p) room' (before 0 p')
  pub next : p'.next ≡ p.next + n

-- what is read from the pen's record on was shown
abbrev pub Shows : {A : Type 0} → (A → List Command) → Reader A → Settings → (records names room : List ℕ) → Pen → (room' : List ℕ) → Pen → Type 0
Shows show q s records names room p room' p' =
    Shown s (show (q (from records names p.next)).tree) (q (from records names p.next)).size room p room' p'

-- the same of a source: what its tree has at the pen's record was shown under its settings
abbrev pub ShowsOf : {A : Type 0} → (A → List Command) → Reader A → Source → (room : List ℕ) → Pen → (room' : List ℕ) → Pen → Type 0
ShowsOf show q src room p room' p' = Shows show q src.settings src.tree.records.now src.tree.names.now room p room' p'
