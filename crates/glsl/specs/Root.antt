-- For the contracts of the functions within, which take what is printed, a unit or an expression, as an argument: the class that it is checked as, its text and its
-- outcome, which for either is what the public calls cite (specs/Printed); and what an answer says. Assumes nothing.
use Rattle.std.specs.Prelude.{List, ℕ, Ok, Err}
use Rattle.shapes.specs.Class.{Class}
use Rattle.text.specs.Whole.{unit_text, expr_text}
use Rattle.settings.specs.Settings.{read_settings}
use Rattle.accept.specs.Check.{check}
use Rattle.draft.specs.declared.Root.{Root}
use Rattle.glsl.specs.Printed.{Printed, outcome}

abbrev pub root_class : Root → Class
root_class Root.Unit = Class.unit
root_class Root.Expr = Class.expr

abbrev pub root_text : Root → (settings records names : List ℕ) → List ℕ
root_text Root.Unit = unit_text
root_text Root.Expr = expr_text

abbrev pub print_outcome : Root → (settings records names room : List ℕ) → Printed
print_outcome root settings records names room = outcome (read_settings settings) (check records names (root_class root)) (root_text root settings records names) room

-- how long the written front of the room is
abbrev pub written_length : Printed → ℕ
written_length (Ok n) = n
written_length (Err r) = 0

-- the number that goes with it, a length or a place
abbrev pub value : Printed → ℕ
value (Ok n) = n
value (Err r) = r.place
