-- A question about a text and its outcome, and what the definition answers: for worked rows here and for the oracle's answers (crates/vectors). Assumes
-- nothing.
use Rattle.std.specs.Prelude.{Bool, cond, List, ℕ}
use Rattle.std.proofs.Math.Option.{Option, none, some}
use Rattle.text.specs.Whole.{unit_text, expr_text}
use Rattle.text.specs.Joined.{joined_answer}

pub record Outcome : Type 0 where
  pub text : List ℕ
  -- the answer to the joined question, which is asked of expressions alone
  pub joined : Option Bool

-- what is asked, by what bytes, and the outcome that is claimed
pub record Case : Type 0 where
  pub is_unit : Bool
  pub settings : List ℕ
  pub records : List ℕ
  pub names : List ℕ
  pub outcome : Outcome

-- what the definition says of it
unfoldable pub defined : Case → Outcome
defined c = record {
  text = cond c.is_unit (unit_text c.settings c.records c.names) (expr_text c.settings c.records c.names);
  joined = cond c.is_unit none (some (joined_answer c.records c.names));
}
