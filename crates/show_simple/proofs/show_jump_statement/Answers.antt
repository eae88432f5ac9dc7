-- `show_simple::show_jump_statement` meets its contract. Assumes nothing.
use Rattle.show_simple.proofs.Simple.{jump, return_parts}
use Rattle.show_simple.proofs.show_jump_statement.Goals as goal

pub returns-then-v-lt4 : goal.returns-then-v-lt4
returns-then-v-lt4 c = jump c.args.src.now.tree.records.now c.args.src.now.tree.names.now c.args.v c.if-v-lt4.true (c.show_jump_word-word.ensures c.args.src.now.settings) c.write_statement_terminator.ensures

pub returns : goal.returns
returns c = return_parts c.args.src.now.tree.records.now c.args.src.now.tree.names.now c.args.v c.if-v-lt4.false (c.show_jump_word-word.ensures c.args.src.now.settings) c.write_char-spaced.ensures c.show_expr-shown.ensures c.write_statement_terminator-2.ensures
