-- Whether a text needs a space to be split into its tokens (02, #106, #107): at a joined place (text, specs/Joined), unless it is behind a binary operator and a space stands there already. Assumes nothing.
use Rattle.std.specs.Prelude.{Bool, not, ◌&&◌, List, ℕ, eqb}
use Rattle.records.specs.declared.Record.{Record}
use Rattle.records.specs.Record.{record_count}
use Rattle.settings.specs.declared.Settings.{Settings}
use Rattle.text.specs.Reading.{Item}
use Rattle.text.specs.Joined.{joins_here, somewhere}

-- a joined record, before the records L; kind 8 is Binary
abbrev pub needs_here : Settings → Record → List Item → Bool
needs_here s r L = joins_here r L && not (eqb r.kind 8 && s.spaces_around_binary_ops)

-- somewhere in what records and names hold
unfoldable pub needs_space : Settings → (records names : List ℕ) → Bool
needs_space s records names = somewhere (needs_here s) (record_count records) records names 0
