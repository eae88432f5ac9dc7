-- `words::float_form` meets its contract: by its length and its two parts. Assumes nothing.
use native.Mathlib.Omega.{arith}
use Rattle.std.proofs.lemmas.Bool.Decides.{nat_tests}
use Rattle.words.proofs.Floats.{float_parts}
use Rattle.words.proofs.float_form.Goals as goal

pub returns-then-is_whole_part : goal.returns-then-is_whole_part
returns-then-is_whole_part c =
    let e = float_parts c.args.s.now _ c.if-s-gt-LONGEST_FLOAT.false c.digits_in.ensures in
    grind (arith, nat_tests)

pub returns-else-is_whole_part : goal.returns-else-is_whole_part
returns-else-is_whole_part c =
    let e = float_parts c.args.s.now _ c.if-s-gt-LONGEST_FLOAT.false c.digits_in.ensures in
    grind (arith, nat_tests)
