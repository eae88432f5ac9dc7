-- The parts of a ternary that the code shows by functions of their own: the condition with its mark, and what stands behind the mark. Assumes nothing.
use Rattle.std.specs.Prelude.{List, ◌++◌, leb, ltb}
use Rattle.words.specs.Symbol.{Symbol}
use Rattle.text.specs.Command.{Command, write_binary_op}
use Rattle.text.specs.Tree.{Expr}
use Rattle.text.specs.Operator.{precedence, ternary_precedence}
use Rattle.text.specs.Text.{bare_if, show_expr}
use Rattle.text.specs.Reading.{Reader, give, ◌and◌, expr}

pub data Choice : Type 0 where
  either : Expr → Expr → Choice

abbrev pub choice : Reader Choice
choice = give Choice.either and expr and expr

abbrev pub show_question : Expr → List Command
show_question c = bare_if (ltb (precedence c) ternary_precedence) (show_expr c) ++ write_binary_op Symbol.question

abbrev pub show_choice : Choice → List Command
show_choice (Choice.either s e) = show_expr s ++ write_binary_op Symbol.colon ++ bare_if (leb (precedence e) ternary_precedence) (show_expr e)
