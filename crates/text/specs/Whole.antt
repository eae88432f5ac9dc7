-- The text of a unit and of an expression, from the bytes of settings, records and names (01, "Calls"), and the tokens in it (02, #107). Assumes nothing.
use Rattle.std.specs.Prelude.{Bool, List, ℕ}
use Rattle.settings.specs.Settings.{settings_of}
use Rattle.settings.specs.State.{fresh}
use Rattle.text.specs.Token.{Token}
use Rattle.text.specs.Command.{Command}
use Rattle.text.specs.Pen.{text}
use Rattle.text.specs.Text.{show_expr, show_translation_unit}
use Rattle.text.specs.Reading.{expr, unit, from}
use Rattle.text.specs.Visible.{tokens_of}

-- what is done to print what records and names hold; of the settings only the collapse choice decides what that is
abbrev pub unit_commands : (collapse : Bool) (records names : List ℕ) → List Command
unit_commands collapse records names = show_translation_unit collapse (unit (from records names 0)).tree

abbrev pub expr_commands : (records names : List ℕ) → List Command
expr_commands records names = show_expr (expr (from records names 0)).tree

-- settings out of range are refused before they are asked (01, refusal 1)
unfoldable pub unit_text : (settings records names : List ℕ) → List ℕ
unit_text settings records names =
    let s = settings_of settings
    in text s (unit_commands s.collapse_single_item_compound_statements records names) fresh

unfoldable pub expr_text : (settings records names : List ℕ) → List ℕ
expr_text settings records names = text (settings_of settings) (expr_commands records names) fresh

-- the tokens that are written; a negative IntConst is two
abbrev pub unit_tokens : (collapse : Bool) (records names : List ℕ) → List Token
unit_tokens collapse records names = tokens_of (unit_commands collapse records names)

abbrev pub expr_tokens : (records names : List ℕ) → List Token
expr_tokens records names = tokens_of (expr_commands records names)
