-- `records::Record::of` meets its contract: field by field. Assumes nothing.
use mathlib.Core.Path.{◌≡◌}
use native.Mathlib.Omega.{arith}
use Rattle.records.specs.Record.{record_in, u16_at, u32_at}
use Rattle.records.proofs.Record.of.Goals as goal

pub returns : goal.returns
unfolding record_in
returns c =
    let bs = c.args.bytes.now in
    let count : c.from_le_bytes.result ≡ u16_at bs 2 = omega (arith, c.from_le_bytes.ensures) in
    let a : c.from_le_bytes-2.result ≡ u32_at bs 4 = omega (arith, c.from_le_bytes-2.ensures) in
    let b : c.from_le_bytes-3.result ≡ u32_at bs 8 = omega (arith, c.from_le_bytes-3.ensures) in cc
