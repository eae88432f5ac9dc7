-- No number stops on the way: commands whose text and levels stay within the pen's numbers. Assumes nothing.
use Rattle.std.specs.Prelude.{List, [], ◌∷◌, ℕ, ◌+◌, ◌≤◌, length}
use Rattle.settings.specs.declared.Settings.{Settings}
use Rattle.text.specs.Command.{Command}
use Rattle.text.specs.Command.Command.{token, space, space_if, space_at_body_if, newline_if, whitespace, write_indent, write_line, flush_line, flush_space, consume_newline, indent, dedent, enter_function_definition_statement, consume_function_definition_statement}
use Rattle.text.specs.Pen.{text}
use Rattle.pen.specs.declared.Pen.{Pen}
use Rattle.pen.specs.Sheet.{last_place, last_level}

-- how many levels a command enters, and a list of them
abbrev pub climb : Command → ℕ
climb (token t) = 0
climb space = 0
climb (space_if f) = 0
climb (space_at_body_if f) = 0
climb (newline_if f) = 0
climb (whitespace g) = 0
climb write_indent = 0
climb write_line = 0
climb flush_line = 0
climb flush_space = 0
climb consume_newline = 0
climb indent = 1
climb dedent = 0
climb enter_function_definition_statement = 0
climb consume_function_definition_statement = 0

unfoldable pub climbs : List Command → ℕ
climbs [] = 0
climbs (c ∷ cs) = climb c + climbs cs

-- the place behind the text, and the level if no level were left again
pub record Free (s : Settings) (cs : List Command) (p : Pen) : Type 0 where
  pub place : p.at + length (text s cs p.state) ≤ last_place
  pub levels : p.state.indentation_level + climbs cs ≤ last_level
