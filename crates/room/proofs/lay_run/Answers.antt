-- `lay_run` meets its contract. Assumes nothing.
use lib.ListN.{length-replicate}
use Rattle.room.proofs.Laid.{laid_fits, laid_out}
use borrow.Author.Tests.{leb-true, leb-false}
use mathlib.Core.Path.{sym, ◌∙◌}
use Rattle.room.proofs.lay_run.Goals as goal

pub fill-requires : goal.fill-requires
fill-requires c = leb-true _ _ (sym c.fits.ensures ∙ c.if-fits.true)

pub returns-then-fits : goal.returns-then-fits
returns-then-fits c = c.fill.ensures ∙ sym (laid_fits _ _ _ (rw (length-replicate c.args.n c.args.byte) (leb-true _ _ (sym c.fits.ensures ∙ c.if-fits.true))))

pub returns-else-fits : goal.returns-else-fits
returns-else-fits c = sym (laid_out _ _ _ (rw (length-replicate c.args.n c.args.byte) (leb-false _ _ (sym c.fits.ensures ∙ c.if-fits.false))))
