-- `lay_two` meets its contract. Assumes nothing.
use Rattle.room.proofs.Laid.{laid_fits}
use Rattle.room.proofs.Fit.{front_fits, back_fits, laid_two, laid_neither}
use mathlib.Core.Path.{sym, ◌∙◌}
use Rattle.room.proofs.lay_two.Goals as goal

pub copy-requires : goal.copy-requires
copy-requires c = front_fits _ _ _ _ (sym c.both_fit.ensures ∙ c.if-both_fit.true)

pub copy-requires-then-both_fit : goal.copy-requires-then-both_fit
copy-requires-then-both_fit c = back_fits _ _ _ _ _ (sym c.both_fit.ensures ∙ c.if-both_fit.true) c.copy.auto.room

pub returns-then-both_fit : goal.returns-then-both_fit
returns-then-both_fit c = laid_two _ _ c.args.front.now c.args.back.now (sym c.both_fit.ensures ∙ c.if-both_fit.true) (c.copy.ensures ∙ sym (laid_fits _ _ _ (front_fits _ _ _ _ (sym c.both_fit.ensures ∙ c.if-both_fit.true)))) c.copy-then-both_fit.ensures

pub returns-else-both_fit : goal.returns-else-both_fit
returns-else-both_fit c = laid_neither _ _ c.args.front.now c.args.back.now (sym c.both_fit.ensures ∙ c.if-both_fit.false)
