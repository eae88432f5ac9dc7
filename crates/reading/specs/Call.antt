-- A call of print_unit or print_expr that succeeds, told by what its contract promises: what the theorems about printed texts speak of (Demand3, Spaces). That these promises are the contracts is a law
-- (proofs/Contract). Assumes nothing.
use Rattle.std.specs.Prelude.{◌≡◌, List, ℕ, ◌<◌, get_or}
use Rattle.draft.specs.declared.Root.{Root}
use Rattle.glsl.specs.Printed.{HandsBack}
use Rattle.glsl.specs.Root.{root_text, print_outcome}

-- what print_unit, or print_expr, promises of what it is lent, and hands back
abbrev pub Promised : Root → (settings records names room written : List ℕ) (number place : ℕ) → Type 0
Promised root settings records names room written number place = HandsBack (print_outcome root settings records names room) (root_text root settings records names) written number place

-- a call that succeeds: what is lent, and what it hands back
pub record Call (root : Root) : Type 0 where
  pub settings : List ℕ
  pub records : List ℕ
  pub names : List ℕ
  pub room : List ℕ
  pub written : List ℕ
  pub no : ℕ
  pub place : ℕ
  -- records are bytes
  pub lent : (p : ℕ) → get_or records p 0 < 256
  pub promised : Promised root settings records names room written no place
  -- no refusal (their numbers begin with 1)
  pub accepted : no ≡ 0

abbrev pub UnitCall : Type 0
UnitCall = Call Root.Unit

abbrev pub ExprCall : Type 0
ExprCall = Call Root.Expr
