-- `lay_number` meets its contract. Assumes nothing.
use Rattle.room.proofs.Fit.{back_fits, laid_two, laid_neither}
use Rattle.decimal.specs.Decimal.{decimal}
use lib.Seq.{sets}
use Prim.Native.Nat.{ℕ, ◌+◌}
use mathlib.Core.Path.{sym, ap, ◌∙◌}
use Rattle.pen.proofs.tokens.lay_number.Goals as goal

pub copy-requires : goal.copy-requires
copy-requires c = back_fits _ _ _ _ _ (sym c.both_fit.ensures ∙ c.if-both_fit.true) c.put_digits.auto.room

pub returns-then-both_fit : goal.returns-then-both_fit
returns-then-both_fit c =
    laid_two _ _ (decimal c.args.n) c.args.back.now (rw c.width-digits.ensures.0 at (sym c.both_fit.ensures ∙ c.if-both_fit.true)) c.put_digits.ensures
    (c.copy.ensures ∙ ap (λ (n : ℕ). sets c.put_digits.new.room (c.args.at + n) c.args.back.now) c.width-digits.ensures.0)

pub returns-else-both_fit : goal.returns-else-both_fit
returns-else-both_fit c = laid_neither _ _ (decimal c.args.n) c.args.back.now (rw c.width-digits.ensures.0 at (sym c.both_fit.ensures ∙ c.if-both_fit.false))
