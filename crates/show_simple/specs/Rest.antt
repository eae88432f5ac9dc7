-- 001's ForRestStatement: what stands between a for's start and its closing parenthesis. The definition's trees have its parts in the statement itself; 000 prints
-- them by a function of their own. Assumes nothing.
use Rattle.std.specs.Prelude.{List, ◌++◌, ℕ}
use Rattle.std.proofs.Math.Option.{Option}
use Rattle.records.specs.Record.{bit0, bit1}
use Rattle.text.specs.Command.{Command, write_for_statement_separator}
use Rattle.text.specs.Tree.{Expr, Condition}
use Rattle.text.specs.Text.{show_condition, show_expr, optional}
use Rattle.text.specs.Reading.{Reader, give, ◌and◌, maybe, expr, condition}

pub record ForRestStatement : Type 0 where
  pub condition : Option Condition
  pub post_expr : Option Expr

-- in a statement of this variant
abbrev pub for_rest : (v : ℕ) → Reader ForRestStatement
for_rest v = give (λ c e. record { condition = c; post_expr = e }) and maybe (bit0 v) condition and maybe (bit1 v) expr

abbrev pub show_for_rest_statement : ForRestStatement → List Command
show_for_rest_statement r = optional show_condition r.condition ++ write_for_statement_separator ++ optional show_expr r.post_expr
