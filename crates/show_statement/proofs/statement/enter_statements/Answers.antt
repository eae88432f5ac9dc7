-- `show_statement::statement::enter_statements` meets its contract: the flag says which commands they are. Assumes nothing.
use Rattle.show_statement.proofs.statement.enter_statements.Goals as goal

pub returns : goal.returns
returns c = rw c.if-collapsed.false c.enter_compound_statement_block.ensures
