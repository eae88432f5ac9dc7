-- `draft::show_root` meets its contract: by the case. Assumes nothing.
use Rattle.leaves.proofs.Shown.{shown_length}
use Rattle.draft.proofs.show_root.Goals as goal

pub returns-in-Unit : goal.returns-in-Unit
returns-in-Unit c = rw c.in-Unit.is c.show_translation_unit.ensures

pub shape_of-room-in-Unit : goal.shape_of-room-in-Unit
shape_of-room-in-Unit c = shown_length (returns-in-Unit c)

pub returns-in-Expr : goal.returns-in-Expr
returns-in-Expr c = rw c.in-Expr.is c.show_expr.ensures

pub shape_of-room-in-Expr : goal.shape_of-room-in-Expr
shape_of-room-in-Expr c = shown_length (returns-in-Expr c)
