-- `show_simple::show_case_label` meets its contract. Assumes nothing.
use Rattle.show_simple.proofs.Simple.{default_parts, case_parts}
use Rattle.show_simple.proofs.show_case_label.Goals as goal

pub returns-then-v-eq0 : goal.returns-then-v-eq0
returns-then-v-eq0 c = default_parts c.args.src.now.tree.records.now c.args.src.now.tree.names.now c.args.v c.if-v-eq0.true c.write_str-word.ensures c.enter_case_label.ensures

pub returns : goal.returns
returns c = case_parts c.args.src.now.tree.records.now c.args.src.now.tree.names.now c.args.v c.if-v-eq0.false c.write_str-word-2.ensures c.write_char-spaced.ensures c.show_expr-shown.ensures c.enter_case_label-2.ensures
