-- The tokens of a list of commands, and a text without its blanks (02, #107). Assumes nothing.
use Rattle.std.specs.Prelude.{Bool, ◌||◌, cond, List, [], ◌∷◌, ◌++◌, ℕ, eqb}
use Prim.Native.Char.{code}
use Rattle.text.specs.Token.{Token, spell}
use Rattle.text.specs.Command.{Command}
use Rattle.text.specs.Command.Command.{token, space, space_if, space_at_body_if, newline_if, whitespace, write_indent, write_line, flush_line, flush_space, consume_newline, indent, dedent, enter_function_definition_statement, consume_function_definition_statement}

abbrev pub token_of : Command → List Token
token_of (token t) = t ∷ []
token_of space = []
token_of (space_if f) = []
token_of (space_at_body_if f) = []
token_of (newline_if f) = []
token_of (whitespace g) = []
token_of write_indent = []
token_of write_line = []
token_of flush_line = []
token_of flush_space = []
token_of consume_newline = []
token_of indent = []
token_of dedent = []
token_of enter_function_definition_statement = []
token_of consume_function_definition_statement = []

unfoldable pub tokens_of : List Command → List Token
tokens_of [] = []
tokens_of (c ∷ cs) = token_of c ++ tokens_of cs

unfoldable pub spelled : List Token → List ℕ
spelled [] = []
spelled (t ∷ ts) = spell t ++ spelled ts

-- a space, a tab or a newline
abbrev pub blank : ℕ → Bool
blank b = eqb b (code " ") || eqb b (code "\t") || eqb b (code "\n")

unfoldable pub visible : List ℕ → List ℕ
visible [] = []
visible (b ∷ bs) = cond (blank b) (visible bs) (b ∷ visible bs)
