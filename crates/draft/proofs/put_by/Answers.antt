-- `draft::put_by` meets its contract: drafted, and then, where it fits the room, copied from a draft that is long enough, or written again. Assumes nothing.
use native.Mathlib.Omega.{arith}
use Rattle.draft.specs.Root.{root_reader, root_show}
use Rattle.draft.proofs.Drafted.{not_put, copied, rewritten}
use Rattle.draft.proofs.put_by.Goals as goal

pub returns-then-room-length : goal.returns-then-room-length
returns-then-room-length c =
    let a = c.args in
    not_put (root_show a.root a.src.now.settings) (root_reader a.root) a.src.now.settings a.src.now.tree.records.now a.src.now.tree.names.now c.requires a.room.now c.start-pen.ensures c.show_root-drafted.ensures (omega (arith, c.if-room-length.true))

pub returns-then-draft-length : goal.returns-then-draft-length
returns-then-draft-length c =
    let a = c.args in
    rewritten (root_show a.root a.src.now.settings) (root_reader a.root) a.src.now.settings a.src.now.tree.records.now a.src.now.tree.names.now c.requires a.room.now c.start-pen.ensures c.show_root-drafted.ensures (omega (arith, c.if-room-length.false)) c.show_root.ensures

pub returns : goal.returns
returns c =
    let a = c.args in
    copied (root_show a.root a.src.now.settings) (root_reader a.root) a.src.now.settings a.src.now.tree.records.now a.src.now.tree.names.now c.requires a.room.now c.start-pen.ensures c.show_root-drafted.ensures (omega (arith, c.if-room-length.false)) (omega (arith, c.if-room-length.false)) c.copy_text.ensures
