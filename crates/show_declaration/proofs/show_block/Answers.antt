-- `show_declaration::show_block` meets its contract. Assumes nothing.
use mathlib.Core.Path.{refl}
use Rattle.text.specs.Tree.{Block}
use Rattle.text.specs.Text.{show_block}
use Rattle.text.specs.Reading.{Item, item_of, block_of}
use Rattle.show_expr.proofs.Printers.{no_row}
use Rattle.show_declaration.proofs.Printers.{block_of_lem}
use Rattle.show_declaration.proofs.show_block.Goals as goal

pub returns-in_default : goal.returns-in_default
unfolding show_block item_of block_of
returns-in_default c = no_row c.args.src.now.tree.records.now c.args.src.now.tree.names.now (λ (i : Item). i.block) show_block 46 _ Block.no_block refl refl c.in_default.ensures refl

pub returns : goal.returns
returns c =
    block_of_lem c.args.src.now.tree.records.now c.args.src.now.tree.names.now c.in-Some.ensures.0
    c.in-Some.ensures.1
    c.in-Some.ensures.2
    c.qual-qualified.ensures
    c.write_char-spaced.ensures
    c.write_name-named.ensures
    c.enter_block-opened.ensures c.fields-filled.ensures
    c.exit_block-closed.ensures c.show_block_name.ensures
