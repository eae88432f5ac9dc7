-- The digits fit, so they are laid behind the front.
use Rattle.std.proofs.Common.{◌+◌, ◌≤◌, length, ◌∙◌, arith, rules}
use Rattle.room.proofs.Laid.{laid_fits}
use Rattle.decimal.specs.Decimal.{decimal}
use Rattle.print.proofs.Told.{added}
use Rattle.print.proofs.Line.add_number.Goals as goal

pub returns-clause-text : goal.returns-clause-text
returns-clause-text c =
    let a = c.args in
    let l = a.self.now in
    let fits : l.length + length (decimal a.n) ≤ length l.bytes = search rules in
    added l.bytes l.length (decimal a.n) fits (c.put_digits.ensures ∙ laid_fits l.bytes l.length (decimal a.n) fits) (omega (arith, c.width.ensures.0))
