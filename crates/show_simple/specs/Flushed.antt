-- 000's show_statement and show_external_declaration flush the line and then look what stands there: what the functions that they call write is what stands
-- behind the flush. Assumes nothing.
use Rattle.std.specs.Prelude.{List, drop}
use Rattle.text.specs.Command.{Command}

abbrev pub behind_flush : {A : Type 0} → (A → List Command) → A → List Command
behind_flush show x = drop 1 (show x)
