-- What a vector says: the text of the definition is the Rust module's (two of its words mended, 02, #102; with byte 21 at 1 that of the oracle's second printer), the tree read at
-- record 0 takes all records, and the joined question has the oracle's answer. Assumes nothing.
use Rattle.std.specs.Prelude.{◌≡◌, Bool, true, false, cond, List, [], ◌∷◌, ℕ, ◌+◌, ◌-◌, ◌*◌, ltb}
use Rattle.std.proofs.Math.Option.{Option, none, some}
use Prim.Native.Char.{code}
use Prim.Native.String.{String}
use Rattle.words.specs.Bytes.{bytes}
use Rattle.records.specs.Record.{record_count}
use Rattle.text.specs.Reading as Reading
use Rattle.text.specs.Case.{Case, defined}

-- the bytes of a text of pairs of hexadecimal digits
abbrev digit : ℕ → ℕ
digit c = cond (ltb c (code "a")) (c - code "0") (c - code "a" + 10)

abbrev pairs : List ℕ → List ℕ
pairs [] = []
pairs (c ∷ []) = []
pairs (c ∷ (d ∷ s)) = (16 * digit c + digit d) ∷ pairs s

unfoldable pub hex : String → List ℕ
hex s = pairs (bytes s)

abbrev case : Bool → Option Bool → String → String → String → String → Case
case u j s r n t = record { is_unit = u; settings = hex s; records = hex r; names = bytes n; outcome = record { text = bytes t; joined = j } }

-- settings and records in hex, names, text
abbrev pub unit : String → String → String → String → Case
unit = case true none

abbrev pub expr : String → String → String → String → Case
expr = case false (some false)

abbrev pub joined_expr : String → String → String → String → Case
joined_expr = case false (some true)

abbrev pub size_read : Case → ℕ
size_read c = cond c.is_unit (Reading.unit (Reading.from c.records c.names 0)).size (Reading.expr (Reading.from c.records c.names 0)).size

pub record Vector (c : Case) : Type 0 where
  pub outcome : defined c ≡ c.outcome
  pub size : size_read c ≡ record_count c.records
