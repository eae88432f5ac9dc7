use mathlib.Core.Bool.{true}
use lib.Dec.{eqb}
use Rattle.leaves.proofs.Shown.{Loop}
use Prim.Native.Nat.{◌+◌, ◌-◌, ◌*◌}
use Rattle.records.specs.Record.{record_count}
use Rattle.show_expr.proofs.Lists as Lists
use Rattle.show_expr.proofs.show.+printers.Given as goal

abbrev pub invariant-array-loop-k : goal.invariant-array-loop-k
invariant-array-loop-k l = Loop Lists.dimensions l.src.settings l.src.tree.records.now l.src.tree.names.now l._k-end true l.initial.room l.initial.at (l._k-end - l._k) true l.room l.at

abbrev pub invariant-exprs-loop-k : goal.invariant-exprs-loop-k
invariant-exprs-loop-k l = Loop Lists.arguments l.src.settings l.src.tree.records.now l.src.tree.names.now l.n true l.initial.room l.initial.at (l.n - l.k) (eqb l.k 0) l.room l.at

abbrev pub invariant-fields-loop-k : goal.invariant-fields-loop-k
invariant-fields-loop-k l = Loop Lists.fields l.src.settings l.src.tree.records.now l.src.tree.names.now l.n true l.initial.room l.initial.at (l.n - l._k) true l.room l.at

abbrev pub invariant-idents-loop-k : goal.invariant-idents-loop-k
invariant-idents-loop-k l = Loop Lists.identifiers l.src.settings l.src.tree.records.now l.src.tree.names.now l.n true l.initial.room l.initial.at (l.n - l.k) (eqb l.k 0) l.room l.at

abbrev pub invariant-layout-loop-k : goal.invariant-layout-loop-k
invariant-layout-loop-k l = Loop Lists.ids l.src.settings l.src.tree.records.now l.src.tree.names.now l.n true l.initial.room l.initial.at (l.n - l.k) (eqb l.k 0) l.room l.at

abbrev pub decreases-array : goal.decreases-array
decreases-array l = 8 * (record_count l.src.now.tree.records.now - l.pen.next) + 1

abbrev pub decreases-assign : goal.decreases-assign
decreases-assign l = 8 * (record_count l.src.now.tree.records.now - l.pen.next) + 3

abbrev pub decreases-bare : goal.decreases-bare
decreases-bare l = 8 * (record_count l.src.now.tree.records.now - l.pen.next) + 1

abbrev pub decreases-base : goal.decreases-base
decreases-base l = 8 * (record_count l.src.now.tree.records.now - l.pen.next) + 1

abbrev pub decreases-binary : goal.decreases-binary
decreases-binary l = 8 * (record_count l.src.now.tree.records.now - l.pen.next) + 3

abbrev pub decreases-call : goal.decreases-call
decreases-call l = 8 * (record_count l.src.now.tree.records.now - l.pen.next) + 4

abbrev pub decreases-callee : goal.decreases-callee
decreases-callee l = 8 * (record_count l.src.now.tree.records.now - l.pen.next) + 3

abbrev pub decreases-choice : goal.decreases-choice
decreases-choice l = 8 * (record_count l.src.now.tree.records.now - l.pen.next) + 3

abbrev pub decreases-comma : goal.decreases-comma
decreases-comma l = 8 * (record_count l.src.now.tree.records.now - l.pen.next) + 3

abbrev pub decreases-dim : goal.decreases-dim
decreases-dim l = 8 * (record_count l.src.now.tree.records.now - l.pen.next) + 1

abbrev pub decreases-dims : goal.decreases-dims
decreases-dims l = 8 * (record_count l.src.now.tree.records.now - l.pen.next) + 2

abbrev pub decreases-dot : goal.decreases-dot
decreases-dot l = 8 * (record_count l.src.now.tree.records.now - l.pen.next) + 3

abbrev pub decreases-expr : goal.decreases-expr
decreases-expr l = 8 * (record_count l.src.now.tree.records.now - l.pen.next) + 2

abbrev pub decreases-exprs : goal.decreases-exprs
decreases-exprs l = 8 * (record_count l.src.now.tree.records.now - l.pen.next) + 3

abbrev pub decreases-field : goal.decreases-field
decreases-field l = 8 * (record_count l.src.now.tree.records.now - l.pen.next) + 1

abbrev pub decreases-fields : goal.decreases-fields
decreases-fields l = 8 * (record_count l.src.now.tree.records.now - l.pen.next) + 2

abbrev pub decreases-id : goal.decreases-id
decreases-id l = 8 * (record_count l.src.now.tree.records.now - l.pen.next) + 1

abbrev pub decreases-ident : goal.decreases-ident
decreases-ident l = 8 * (record_count l.src.now.tree.records.now - l.pen.next) + 1

abbrev pub decreases-idents : goal.decreases-idents
decreases-idents l = 8 * (record_count l.src.now.tree.records.now - l.pen.next) + 2

abbrev pub decreases-index : goal.decreases-index
decreases-index l = 8 * (record_count l.src.now.tree.records.now - l.pen.next) + 3

abbrev pub decreases-layout : goal.decreases-layout
decreases-layout l = 8 * (record_count l.src.now.tree.records.now - l.pen.next) + 2

abbrev pub decreases-post : goal.decreases-post
decreases-post l = 8 * (record_count l.src.now.tree.records.now - l.pen.next) + 3

abbrev pub decreases-qual : goal.decreases-qual
decreases-qual l = 8 * (record_count l.src.now.tree.records.now - l.pen.next) + 1

abbrev pub decreases-qualif : goal.decreases-qualif
decreases-qualif l = 8 * (record_count l.src.now.tree.records.now - l.pen.next) + 2

abbrev pub decreases-question : goal.decreases-question
decreases-question l = 8 * (record_count l.src.now.tree.records.now - l.pen.next) + 3

abbrev pub decreases-spec : goal.decreases-spec
decreases-spec l = 8 * (record_count l.src.now.tree.records.now - l.pen.next) + 1

abbrev pub decreases-strukt : goal.decreases-strukt
decreases-strukt l = 8 * (record_count l.src.now.tree.records.now - l.pen.next) + 3

abbrev pub decreases-subr : goal.decreases-subr
decreases-subr l = 8 * (record_count l.src.now.tree.records.now - l.pen.next) + 2

abbrev pub decreases-ternary : goal.decreases-ternary
decreases-ternary l = 8 * (record_count l.src.now.tree.records.now - l.pen.next) + 4

abbrev pub decreases-ty : goal.decreases-ty
decreases-ty l = 8 * (record_count l.src.now.tree.records.now - l.pen.next) + 1

abbrev pub decreases-unary : goal.decreases-unary
decreases-unary l = 8 * (record_count l.src.now.tree.records.now - l.pen.next) + 3

abbrev pub invariant-qual-loop-k : goal.invariant-qual-loop-k
invariant-qual-loop-k l = Loop Lists.specs l.src.settings l.src.tree.records.now l.src.tree.names.now l.k-end true l.initial.room l.initial.at (l.k-end - l.k) (eqb l.k 0) l.room l.at

abbrev pub invariant-subr-loop-k : goal.invariant-subr-loop-k
invariant-subr-loop-k l = Loop Lists.types l.src.settings l.src.tree.records.now l.src.tree.names.now l.n true l.initial.room l.initial.at (l.n - l.k) (eqb l.k 0) l.room l.at
