-- An answer of the record check: the record behind a tree, or a refusal and its place. Assumes nothing.
use Rattle.std.specs.Prelude.{ℕ, Result, Err}
use Rattle.accept.specs.declared.Refusal.{Refusal}
use Rattle.accept.specs.declared.Refused.{Refused}

abbrev pub Checked : Type 0
Checked = Result ℕ Refused

abbrev pub refused : Refusal → ℕ → Checked
refused x p = Err (record { refusal = x; place = p })
