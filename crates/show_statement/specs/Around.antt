-- What stands around the statements of a compound statement, collapsed or in braces: `braced_or_collapsed` (crate text) in its two halves. Assumes nothing.
use Rattle.std.specs.Prelude.{Bool, true, false, List}
use Rattle.text.specs.Command.{Command, enter_compound_statement_block, exit_block, enter_collapsed_compound_statement, exit_collapsed_compound_statement}

abbrev pub before_statements : (collapsed : Bool) → List Command
before_statements true = enter_collapsed_compound_statement
before_statements false = enter_compound_statement_block

abbrev pub behind_statements : (collapsed : Bool) → List Command
behind_statements true = exit_collapsed_compound_statement
behind_statements false = exit_block
