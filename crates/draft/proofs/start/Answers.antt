-- `draft::start` meets its contract. Assumes nothing.
use mathlib.Core.Path.{ap}
use Rattle.settings.specs.declared.FormattingState.{FormattingState}
use Rattle.draft.proofs.start.Goals as goal

pub returns : goal.returns
returns c = ap (λ (x : FormattingState). record { at = 0; next = 0; state = x }) c.fresh_state.ensures
