-- `decimal::is_negative` meets its contract: the i32 stands for the bits, so its sign is theirs. Assumes nothing.
use mathlib.Core.Path.{◌∙◌, ap}
use mir.Facts.{to_z-of_z}
use mir.Syntax.{w32}
use Rattle.std.specs.Int as Int
use Rattle.decimal.proofs.Sign.{negative_signed}
use Rattle.decimal.proofs.is_negative.Goals as goal

pub returns : goal.returns
returns c =
    let x = c.to_i32 in
    c.is_negative.ensures
    ∙ ap Int.is_negative (to_z-of_z {w = w32} {z = x.result} (record { sfits = x.type_inv }) ∙ x.ensures)
    ∙ negative_signed c.args.a
