-- The answer of a C function, a number of 64 bits with a sign: what was asked for, or minus the sum of the refusal's number times 2^32 and its place
-- (01, "Calls"). Assumes nothing.
use Rattle.std.specs.Prelude.{ℕ, ◌+◌, ◌*◌, ◌^◌, ℤ, pos, neg_ℤ, Ok, Err}
use Rattle.accept.specs.declared.Refusal.{Refusal}
use Rattle.accept.specs.Checked.{Checked}
use Rattle.accept.specs.Refusal.{number}

unfoldable pub refusal_answer : Refusal → ℕ → ℤ
refusal_answer x p = neg_ℤ (pos (number x * 2 ^ 32 + p))

-- the record check's, for the oracle's harness: how many records there are
unfoldable pub answer : Checked → ℤ
answer (Ok m) = pos m
answer (Err r) = refusal_answer r.refusal r.place
