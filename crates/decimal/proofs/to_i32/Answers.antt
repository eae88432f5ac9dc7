-- `decimal::to_i32` meets its contract: the library's reading of the bits is the definition's. Assumes nothing.
use mathlib.Core.Path.{◌∙◌}
use mir.Facts.{to_z-of_z}
use mir.Syntax.{w32}
use Rattle.decimal.proofs.Sign.{signed_is}
use Rattle.decimal.proofs.to_i32.Goals as goal

pub returns : goal.returns
returns c =
    let x = c.cast_signed in
    to_z-of_z {w = w32} {z = x.result} (record { sfits = x.type_inv }) ∙ x.ensures ∙ signed_is c.args.a c.ranges.a.fits
