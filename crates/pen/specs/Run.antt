-- What each command of the definition does to a sheet, and a list of them: the definition's bytes and state (text, Pen.antt), as far as the room and the
-- numbers go. That this is the definition's text is proved in proofs/Written.antt. Assumes nothing.
use Rattle.std.specs.Prelude.{Bool, true, false, ◌&&◌, cond, List, [], ◌∷◌, ◌+◌, ◌-◌, min}
use Rattle.words.specs.Bytes.{bytes}
use Rattle.settings.specs.declared.Settings.{Settings}
use Rattle.settings.specs.declared.FormattingState.{FormattingState}
use Rattle.settings.specs.declared.Whitespace.{Whitespace}
use Rattle.settings.specs.declared.Whitespace.TheVariants as White
use Rattle.text.specs.Token.{spell}
use Rattle.text.specs.Asked.{flag, gap}
use Rattle.text.specs.Command.{Command}
use Rattle.text.specs.Command.Command.{token, space, space_if, space_at_body_if, newline_if, whitespace, write_indent, write_line, flush_line, flush_space, consume_newline, indent, dedent, enter_function_definition_statement, consume_function_definition_statement}
use Rattle.text.specs.Pen.{pend, at_level, at_body, indent_of}
use Rattle.pen.specs.Sheet.{Sheet, last_level, leave, lay}

abbrev pub state_of : Sheet → FormattingState
state_of x = x.pen.state

-- the room stays, the state changes
abbrev pub turned : FormattingState → Sheet → Sheet
turned st x = record { room = x.room; pen = leave st x.pen }

-- one level more, as far as 16 bits go, and one less
abbrev pub deeper : FormattingState → FormattingState
deeper st = at_level (min (st.indentation_level + 1) last_level) st

abbrev pub shallower : FormattingState → FormattingState
shallower st = at_level (st.indentation_level - 1) st

-- a newline becomes pending, where it is asked for
abbrev pub asked : Bool → FormattingState → FormattingState
asked required st = cond required (pend true st) st

unfoldable pub space_where : Bool → Sheet → Sheet
space_where on x = lay (cond on (bytes " ") []) x

-- a newline, then the indent
unfoldable pub line : Settings → Sheet → Sheet
line s x = lay (indent_of s (state_of x)) (lay (bytes "\n") x)

unfoldable pub whiten : Whitespace → Sheet → Sheet
whiten White.None x = x
whiten White.Space x = lay (bytes " ") x
whiten White.Newline x = turned (pend true (state_of x)) x

unfoldable pub step : Settings → Command → Sheet → Sheet
step s (token t) x = lay (spell t) x
step s space x = lay (bytes " ") x
step s (space_if f) x = space_where (flag s f) x
step s (space_at_body_if f) x = space_where (flag s f && (state_of x).in_function_definition_statement) x
step s (newline_if f) x = turned (asked (flag s f) (state_of x)) x
step s (whitespace g) x = whiten (gap s g) x
step s write_indent x = lay (indent_of s (state_of x)) x
step s write_line x = line s x
step s flush_line x = cond (state_of x).new_line_pending (turned (pend false (state_of x)) (line s x)) x
step s flush_space x = cond (state_of x).new_line_pending (turned (pend false (state_of x)) (lay (bytes " ") x)) x
step s consume_newline x = turned (pend false (state_of x)) x
step s indent x = turned (deeper (state_of x)) x
step s dedent x = turned (shallower (state_of x)) x
step s enter_function_definition_statement x = turned (at_body true (state_of x)) x
step s consume_function_definition_statement x = turned (at_body false (state_of x)) x

unfoldable pub run : Settings → List Command → Sheet → Sheet
run s [] x = x
run s (c ∷ cs) x = run s cs (step s c x)
