-- 001's SelectionRestStatement: what stands behind the condition of an if. The definition's trees have its parts in the statement itself; 000 prints them by a
-- function of their own. Assumes nothing.
use Rattle.std.specs.Prelude.{Bool, List, [], ◌∷◌, ◌++◌, ℕ}
use Rattle.text.specs.Command.{Command, write_else}
use Rattle.text.specs.Command.Command.{consume_newline}
use Rattle.text.specs.Tree as Tree
use Rattle.text.specs.Text.{show_statement}
use Rattle.text.specs.Reading.{Reader, give, ◌and◌, at, by_variant, statement}

pub data SelectionRestStatement : Type 0 where
  Statement : Tree.Statement → SelectionRestStatement
  Else : Tree.Statement → Tree.Statement → SelectionRestStatement

-- in a statement of this variant
abbrev pub selection_rest : (v : ℕ) → Reader SelectionRestStatement
selection_rest v = by_variant v (at 0 (give SelectionRestStatement.Statement and statement) ∷ []) (give SelectionRestStatement.Else and statement and statement)

abbrev pub show_selection_rest_statement : (collapse : Bool) → SelectionRestStatement → List Command
show_selection_rest_statement collapse (SelectionRestStatement.Statement s) = show_statement collapse s
show_selection_rest_statement collapse (SelectionRestStatement.Else s t) = show_statement collapse s ++ write_else ++ (consume_newline ∷ show_statement collapse t)
