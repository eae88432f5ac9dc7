-- `show_statement::statement::exit_statements` meets its contract: the flag says which commands they are. Assumes nothing.
use Rattle.show_statement.proofs.statement.exit_statements.Goals as goal

pub returns : goal.returns
returns c = rw c.if-collapsed.false c.exit_block.ensures
