-- `glsl::print_unit_into` meets its contract: what is printed is a unit. (Written out, so that a wrong root is refused by name.) Assumes nothing.
use Rattle.glsl.proofs.print_unit_into.Goals as goal

pub returns : goal.returns
returns c = c.print_into.ensures
