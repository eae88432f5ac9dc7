-- `names::name_form` meets its contract: each answer by the tests that led to it. Assumes nothing.
use mathlib.Core.Path.{sym}
use native.Mathlib.Omega.{arith}
use Rattle.std.proofs.lemmas.Bool.Decides.{nat_tests}
use Rattle.words.proofs.Names.{name_empty, name_left}
use Rattle.names.proofs.name_form.Goals as goal

pub returns-in_default : goal.returns-in_default
returns-in_default c = sym (name_empty _ (omega arith))

pub returns-then-all_name_bytes : goal.returns-then-all_name_bytes
returns-then-all_name_bytes c = let e = name_left c.args.s.now c.in-len1-up.len_at_least in grind (arith, nat_tests)

pub returns-else-all_name_bytes : goal.returns-else-all_name_bytes
returns-else-all_name_bytes c = let e = name_left c.args.s.now c.in-len1-up.len_at_least in grind (arith, nat_tests)
