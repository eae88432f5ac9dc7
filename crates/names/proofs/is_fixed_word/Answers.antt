-- `names::is_fixed_word` meets its contract: the word of its slot is the only one that s can be. Assumes nothing.
use mathlib.Core.Path.{sym, ◌∙◌, ap}
use mathlib.Core.List.{List}
use Prim.Native.Nat.{ℕ}
use native.Mathlib.Omega.{arith}
use Rattle.words.specs.Form as Form
use Rattle.words.specs.Keyword.{fixed_words}
use Rattle.words.proofs.Search.{same_is}
use Rattle.word_table.specs.Slot.{slots_of, row_in}
use Rattle.word_table.proofs.Rule.{none_short}
use Rattle.word_table.proofs.Slots.{slot_here, found}
use Rattle.names.proofs.is_fixed_word.Goals as goal

pub returns-then-s-lt2 : goal.returns-then-s-lt2
returns-then-s-lt2 c = sym (none_short _ c.if-s-lt2.true)

pub returns : goal.returns
returns c =
    let s = c.args.s.now in
    let at = c.slot_of.ensures in
    c.eq.ensures ∙ sym (same_is c.row.result.now s) ∙ ap (λ (u : List ℕ). Form.same u s) c.row.ensures
    ∙ found s _ c.if-s-lt2.false
    (c.from.ensures ∙ slot_here _ c.table.ensures _ (omega (arith, at)) ∙ ap (λ (h : ℕ). row_in (slots_of fixed_words) h 0) at)
