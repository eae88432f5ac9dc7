-- The pen: what each command writes under the settings, and the state that it leaves (01, "Rules of the text"; 000 FormattingState). Assumes nothing.
use Rattle.std.specs.Prelude.{Bool, true, false, ◌&&◌, cond, List, [], ◌∷◌, ◌++◌, ℕ, ◌+◌, ◌*◌, ◌-◌, replicate}
use Prim.Native.Char.{code}
use Rattle.words.specs.Bytes.{bytes}
use Rattle.settings.specs.declared.Settings.{Settings}
use Rattle.settings.specs.declared.FormattingState.{FormattingState}
use Rattle.settings.specs.declared.IndentStyle.{IndentStyle}
use Rattle.settings.specs.declared.IndentStyle.TheVariants as Indent
use Rattle.settings.specs.declared.Whitespace.{Whitespace}
use Rattle.settings.specs.declared.Whitespace.TheVariants as White
use Rattle.text.specs.Token.{spell}
use Rattle.text.specs.Asked.{flag, gap}
use Rattle.text.specs.Command.{Command}
use Rattle.text.specs.Command.Command.{token, space, space_if, space_at_body_if, newline_if, whitespace, write_indent, write_line, flush_line, flush_space, consume_newline, indent, dedent, enter_function_definition_statement, consume_function_definition_statement}

-- a state with one thing changed
abbrev pub pend : Bool → FormattingState → FormattingState
pend p x = record { indentation_level = x.indentation_level; new_line_pending = p; in_function_definition_statement = x.in_function_definition_statement }

abbrev pub at_level : ℕ → FormattingState → FormattingState
at_level n x = record { indentation_level = n; new_line_pending = x.new_line_pending; in_function_definition_statement = x.in_function_definition_statement }

abbrev pub at_body : Bool → FormattingState → FormattingState
at_body b x = record { indentation_level = x.indentation_level; new_line_pending = x.new_line_pending; in_function_definition_statement = b }

-- 000 IndentStyle::write: count * levels characters
abbrev pub indentation : IndentStyle → (count levels : ℕ) → List ℕ
indentation Indent.None count levels = []
indentation Indent.Tabs count levels = replicate (count * levels) (code "\t")
indentation Indent.Spaces count levels = replicate (count * levels) (code " ")

unfoldable pub indent_of : Settings → FormattingState → List ℕ
indent_of s x = indentation s.indent_style s.count x.indentation_level

-- 000 FormattingState::write_line
unfoldable pub line_of : Settings → FormattingState → List ℕ
line_of s x = bytes "\n" ++ indent_of s x

-- 000 Whitespace::write: a space is written, a newline becomes pending
abbrev pub whitespace_text : Whitespace → List ℕ
whitespace_text White.None = []
whitespace_text White.Space = bytes " "
whitespace_text White.Newline = []

abbrev pub whitespace_state : Whitespace → FormattingState → FormattingState
whitespace_state White.None x = x
whitespace_state White.Space x = x
whitespace_state White.Newline x = pend true x

-- the bytes that a command writes
unfoldable pub written : Settings → Command → FormattingState → List ℕ
written s (token t) x = spell t
written s space x = bytes " "
written s (space_if f) x = cond (flag s f) (bytes " ") []
written s (space_at_body_if f) x = cond (flag s f && x.in_function_definition_statement) (bytes " ") []
written s (newline_if f) x = []
written s (whitespace g) x = whitespace_text (gap s g)
written s write_indent x = indent_of s x
written s write_line x = line_of s x
written s flush_line x = cond x.new_line_pending (line_of s x) []
written s flush_space x = cond x.new_line_pending (bytes " ") []
written s consume_newline x = []
written s indent x = []
written s dedent x = []
written s enter_function_definition_statement x = []
written s consume_function_definition_statement x = []

-- the state behind it (a printer leaves the levels that it enters, so that no level is to fall below 0)
unfoldable pub after : Settings → Command → FormattingState → FormattingState
after s (token t) x = x
after s space x = x
after s (space_if f) x = x
after s (space_at_body_if f) x = x
after s (newline_if f) x = cond (flag s f) (pend true x) x
after s (whitespace g) x = whitespace_state (gap s g) x
after s write_indent x = x
after s write_line x = x
after s flush_line x = pend false x
after s flush_space x = pend false x
after s consume_newline x = pend false x
after s indent x = at_level (x.indentation_level + 1) x
after s dedent x = at_level (x.indentation_level - 1) x
after s enter_function_definition_statement x = at_body true x
after s consume_function_definition_statement x = at_body false x

-- the bytes of a list of commands: what is pending at the end is never written
unfoldable pub text : Settings → List Command → FormattingState → List ℕ
text s [] x = []
text s (c ∷ cs) x = written s c x ++ text s cs (after s c x)

unfoldable pub after_all : Settings → List Command → FormattingState → FormattingState
after_all s [] x = x
after_all s (c ∷ cs) x = after_all s cs (after s c x)
