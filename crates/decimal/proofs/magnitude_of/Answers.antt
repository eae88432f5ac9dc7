-- `decimal::magnitude_of` meets its contract: the i32 stands for the bits, so its distance from 0 is theirs. Assumes nothing.
use mathlib.Core.Path.{◌∙◌, ap}
use lib.IntN.{nat_abs}
use mir.Facts.{to_z-of_z}
use mir.Syntax.{w32}
use Rattle.decimal.proofs.Sign.{magnitude_signed}
use Rattle.decimal.proofs.magnitude_of.Goals as goal

pub returns : goal.returns
returns c =
    let x = c.to_i32 in
    c.from.ensures ∙ c.unsigned_abs.ensures.value
    ∙ ap nat_abs (to_z-of_z {w = w32} {z = x.result} (record { sfits = x.type_inv }) ∙ x.ensures)
    ∙ magnitude_signed c.args.a c.ranges.a.fits
