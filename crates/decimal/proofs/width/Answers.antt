-- `decimal::width` meets its contract. Assumes nothing.
use mathlib.Core.Path.{sym}
use native.Mathlib.Omega.{arith}
use Rattle.decimal.proofs.Laws.{length_small}
use Rattle.decimal.proofs.Powers.{length_between}
use Rattle.decimal.proofs.width.Goals as goal

pub returns-in-0-to-9 : goal.returns-in-0-to-9
returns-in-0-to-9 c = (sym (length_small _ (omega arith)), omega arith)

pub returns-in-10-to-99 : goal.returns-in-10-to-99
returns-in-10-to-99 c = (sym (length_between 1 _ (omega arith) (omega arith)), omega arith)
