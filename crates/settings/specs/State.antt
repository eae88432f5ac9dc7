-- A fresh state (01, "Rules of the text"; 000 `From<&FormattingSettings> for FormattingState`). Assumes nothing.
use Rattle.std.specs.Prelude.{false}
use Rattle.settings.specs.declared.FormattingState.{FormattingState}

-- level 0, no pending line, not at a function body
abbrev pub fresh : FormattingState
fresh = record { indentation_level = 0; new_line_pending = false; in_function_definition_statement = false }
