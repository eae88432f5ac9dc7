-- What a sample has of an answer beside the refusal's number: of the joined question 1 for yes, 0 for no, or the refusal's place. Assumes nothing.
use Rattle.std.specs.Prelude.{ℕ, Bool, true, false, Result, Ok, Err}
use Rattle.accept.specs.declared.Refused.{Refused}
use Rattle.draft.specs.declared.Root.{Root}

abbrev pub joined_value : Result Bool Refused → ℕ
joined_value (Ok false) = 0
joined_value (Ok true) = 1
joined_value (Err r) = r.place

abbrev pub is_unit : Root → Bool
is_unit Root.Unit = true
is_unit Root.Expr = false
