-- `decimal::width_of_more` meets its contract: each arm has the numbers between two powers of ten. Assumes nothing.
use mathlib.Core.Path.{sym}
use native.Mathlib.Omega.{arith}
use Rattle.decimal.proofs.Powers.{length_between}
use Rattle.decimal.proofs.width_of_more.Goals as goal

pub returns-in-0-to-999 : goal.returns-in-0-to-999
returns-in-0-to-999 c = (sym (length_between 2 _ (omega arith) (omega arith)), omega arith)

pub returns-in-1000-to-9999 : goal.returns-in-1000-to-9999
returns-in-1000-to-9999 c = (sym (length_between 3 _ (omega arith) (omega arith)), omega arith)

pub returns-in-10000-to-99999 : goal.returns-in-10000-to-99999
returns-in-10000-to-99999 c = (sym (length_between 4 _ (omega arith) (omega arith)), omega arith)

pub returns-in-100000-to-999999 : goal.returns-in-100000-to-999999
returns-in-100000-to-999999 c = (sym (length_between 5 _ (omega arith) (omega arith)), omega arith)

pub returns-in-1000000-to-9999999 : goal.returns-in-1000000-to-9999999
returns-in-1000000-to-9999999 c = (sym (length_between 6 _ (omega arith) (omega arith)), omega arith)

pub returns-in-10000000-to-99999999 : goal.returns-in-10000000-to-99999999
returns-in-10000000-to-99999999 c = (sym (length_between 7 _ (omega arith) (omega arith)), omega arith)

pub returns-in-100000000-to-999999999 : goal.returns-in-100000000-to-999999999
returns-in-100000000-to-999999999 c = (sym (length_between 8 _ (omega arith) (omega arith)), omega arith)

pub returns-in-1000000000-to-9999999999 : goal.returns-in-1000000000-to-9999999999
returns-in-1000000000-to-9999999999 c = (sym (length_between 9 _ (omega arith) (omega arith)), omega arith)

pub returns-in-10000000000-to-99999999999 : goal.returns-in-10000000000-to-99999999999
returns-in-10000000000-to-99999999999 c = (sym (length_between 10 _ (omega arith) (omega arith)), omega arith)

pub returns-in-100000000000-to-999999999999 : goal.returns-in-100000000000-to-999999999999
returns-in-100000000000-to-999999999999 c = (sym (length_between 11 _ (omega arith) (omega arith)), omega arith)

pub returns-in-1000000000000-to-9999999999999 : goal.returns-in-1000000000000-to-9999999999999
returns-in-1000000000000-to-9999999999999 c = (sym (length_between 12 _ (omega arith) (omega arith)), omega arith)

pub returns-in-10000000000000-to-99999999999999 : goal.returns-in-10000000000000-to-99999999999999
returns-in-10000000000000-to-99999999999999 c = (sym (length_between 13 _ (omega arith) (omega arith)), omega arith)

pub returns-in-100000000000000-to-999999999999999 : goal.returns-in-100000000000000-to-999999999999999
returns-in-100000000000000-to-999999999999999 c = (sym (length_between 14 _ (omega arith) (omega arith)), omega arith)

pub returns-in-1000000000000000-to-9999999999999999 : goal.returns-in-1000000000000000-to-9999999999999999
returns-in-1000000000000000-to-9999999999999999 c = (sym (length_between 15 _ (omega arith) (omega arith)), omega arith)

pub returns-in-10000000000000000-to-99999999999999999 : goal.returns-in-10000000000000000-to-99999999999999999
returns-in-10000000000000000-to-99999999999999999 c = (sym (length_between 16 _ (omega arith) (omega arith)), omega arith)

pub returns-in-100000000000000000-to-999999999999999999 : goal.returns-in-100000000000000000-to-999999999999999999
returns-in-100000000000000000-to-999999999999999999 c = (sym (length_between 17 _ (omega arith) (omega arith)), omega arith)

pub returns-in-1000000000000000000-to-9999999999999999999 : goal.returns-in-1000000000000000000-to-9999999999999999999
returns-in-1000000000000000000-to-9999999999999999999 c = (sym (length_between 18 _ (omega arith) (omega arith)), omega arith)

pub returns-in-10000000000000000000-to-18446744073709551615 : goal.returns-in-10000000000000000000-to-18446744073709551615
returns-in-10000000000000000000-to-18446744073709551615 c = (sym (length_between 19 _ (omega arith) (omega arith)), omega arith)
