use Prim.Native.Nat.{ℕ}
use native.Mathlib.Omega.{arith}
use mathlib.Core.Path.{◌≡◌, refl, sym, ap, ◌∙◌}
use mathlib.Core.Bool.{true, false}
use borrow.Author.Tests.{eqb-true, eq-eqb}
use Rattle.text.specs.Tree.{ArraySpecifier, Expr, Exprs, TypeSpecifierNonArray, ArraySpecifierDimension, StructFieldSpecifier, LayoutQualifierSpec, ArrayedIdentifier, TypeQualifier, TypeQualifierSpec, TypeSpecifier}
use Rattle.text.specs.Text.{show_array_spec, show_expr, show_type_specifier_non_array, show_dimension, show_struct_field, show_layout_qualifier_spec, show_arrayed_identifier, show_type_qualifier, show_type_qualifier_spec, show_qualification, show_type_specifier}
use Rattle.text.specs.Reading.{Item, several, item_of, array_of, dimension as dimension_part, give, ◌and◌, unary_op_of, binary_op_of, assignment_op, expr_of, expr as expr_part, callee as callee_part, base_of, base as base_part, dimension_of, field_of, layout_id_of, identifier_of, identifier as identifier_part, layout_id as id_part, qualifier_of, spec as spec_part, spec_of, type as type_part, type_of}
use Rattle.leaves.proofs.Shown.{start, step, step_alike, done, wrote, same_record, nothing_shown}
use mathlib.Core.List.{List}
use lib.Dec.{eqb}
use Rattle.records.specs.declared.kind.Kind.TheVariants.{Variable, IntConst, UIntConst, BoolConst, FloatConst, DoubleConst, Unary, Binary, Ternary, Assignment, Bracket, FunCall, Dot, PostInc, PostDec, Comma, TypeKeyword, TypeName, Struct}
use Rattle.records.proofs.Numbers.{in_arm}
use Rattle.leaves.proofs.Unlike.{no_number, not_this}
use Rattle.records.specs.Record.{text_of}
use Rattle.text.specs.Token.{Token, spell}
use Rattle.show_expr.proofs.Lists as Lists
use Rattle.show_expr.proofs.Printers as Printers
use Rattle.show_expr.proofs.At as At
use Rattle.show_expr.proofs.Parts as Parts
use Rattle.show_expr.proofs.show.+printers.Goals as goal

pub array-returns-in_default : goal.array-returns-in_default
unfolding show_array_spec item_of array_of
array-returns-in_default t c = Printers.no_row c.args.src.now.tree.records.now c.args.src.now.tree.names.now (λ (i : Item). i.array) show_array_spec 24 _ ArraySpecifier.no_dimensions refl refl c.in_default.ensures refl

pub array-loop-k-init : goal.array-loop-k-init
array-loop-k-init t c = start Lists.dimensions c.args.src.now.settings c.args.src.now.tree.records.now c.args.src.now.tree.names.now

pub array-dim-at-requires : goal.array-dim-at-requires
array-dim-at-requires t c = omega (arith, c.decreases, c.loop-k.invariant.ahead, (Printers.inside c.args.src.now.settings c.args.src.now.tree.records.now c.args.pen 24 c.in-Some.ensures.0 c.in-Some.ensures.1 (omega arith) c.in-Some.ensures.2).0, (Printers.inside c.args.src.now.settings c.args.src.now.tree.records.now c.args.pen 24 c.in-Some.ensures.0 c.in-Some.ensures.1 (omega arith) c.in-Some.ensures.2).1)

pub array-loop-k-preserved : goal.array-loop-k-preserved
array-loop-k-preserved t c = step_alike Lists.dimensions c.args.src.now.settings c.args.src.now.tree.records.now c.args.src.now.tree.names.now (λ f xs. refl) c.loop-k.invariant c.loop-k-test.true c.dim-at.ensures

pub array-returns : goal.array-returns
unfolding item_of array_of
array-returns t c = Printers.of_row c.args.src.now.tree.records.now c.args.src.now.tree.names.now c.in-Some.ensures.0 (λ (i : Item). i.array) _ show_array_spec 24 (several c.in-Some.r.count dimension_part ArraySpecifier.no_dimensions ArraySpecifier.dimensions) refl (omega arith) c.in-Some.ensures.1 c.in-Some.ensures.2 (done Lists.dimensions c.args.src.now.settings c.args.src.now.tree.records.now c.args.src.now.tree.names.now c.loop-k.invariant (omega (arith, c.loop-k-test.false)))

pub assign-expr-requires : goal.assign-expr-requires
assign-expr-requires t c = omega (arith, c.decreases, c.expr-target.ensures.next, (wrote c.show_assignment_op-op.ensures).next)

pub assign-returns : goal.assign-returns
assign-returns t c = Printers.assign_parts c.args.src.now.tree.records.now c.args.src.now.tree.names.now c.args.v c.expr-target.ensures c.show_assignment_op-op.ensures c.expr.ensures

pub bare-unary-requires : goal.bare-unary-requires
bare-unary-requires t c = omega (arith, c.decreases, (Printers.inside c.args.src.now.settings c.args.src.now.tree.records.now c.args.pen 7 c.record_at-r.ensures (in_arm _ c.kind.ensures c.in-Some.is c.in-Unary.is) (omega arith) c.past-inside.ensures).0, (Printers.inside c.args.src.now.settings c.args.src.now.tree.records.now c.args.pen 7 c.record_at-r.ensures (in_arm _ c.kind.ensures c.in-Some.is c.in-Unary.is) (omega arith) c.past-inside.ensures).1)

pub bare-binary-requires : goal.bare-binary-requires
bare-binary-requires t c = omega (arith, c.decreases, (Printers.inside c.args.src.now.settings c.args.src.now.tree.records.now c.args.pen 8 c.record_at-r.ensures (in_arm _ c.kind.ensures c.in-Some.is c.in-Binary.is) (omega arith) c.past-inside.ensures).0, (Printers.inside c.args.src.now.settings c.args.src.now.tree.records.now c.args.pen 8 c.record_at-r.ensures (in_arm _ c.kind.ensures c.in-Some.is c.in-Binary.is) (omega arith) c.past-inside.ensures).1)

pub bare-ternary-requires : goal.bare-ternary-requires
bare-ternary-requires t c = omega (arith, c.decreases, (Printers.inside c.args.src.now.settings c.args.src.now.tree.records.now c.args.pen 9 c.record_at-r.ensures (in_arm _ c.kind.ensures c.in-Some.is c.in-Ternary.is) (omega arith) c.past-inside.ensures).0, (Printers.inside c.args.src.now.settings c.args.src.now.tree.records.now c.args.pen 9 c.record_at-r.ensures (in_arm _ c.kind.ensures c.in-Some.is c.in-Ternary.is) (omega arith) c.past-inside.ensures).1)

pub bare-assign-requires : goal.bare-assign-requires
bare-assign-requires t c = omega (arith, c.decreases, (Printers.inside c.args.src.now.settings c.args.src.now.tree.records.now c.args.pen 10 c.record_at-r.ensures (in_arm _ c.kind.ensures c.in-Some.is c.in-Assignment.is) (omega arith) c.past-inside.ensures).0, (Printers.inside c.args.src.now.settings c.args.src.now.tree.records.now c.args.pen 10 c.record_at-r.ensures (in_arm _ c.kind.ensures c.in-Some.is c.in-Assignment.is) (omega arith) c.past-inside.ensures).1)

pub bare-index-requires : goal.bare-index-requires
bare-index-requires t c = omega (arith, c.decreases, (Printers.inside c.args.src.now.settings c.args.src.now.tree.records.now c.args.pen 11 c.record_at-r.ensures (in_arm _ c.kind.ensures c.in-Some.is c.in-Bracket.is) (omega arith) c.past-inside.ensures).0, (Printers.inside c.args.src.now.settings c.args.src.now.tree.records.now c.args.pen 11 c.record_at-r.ensures (in_arm _ c.kind.ensures c.in-Some.is c.in-Bracket.is) (omega arith) c.past-inside.ensures).1)

pub bare-call-requires : goal.bare-call-requires
bare-call-requires t c = omega (arith, c.decreases, (Printers.inside c.args.src.now.settings c.args.src.now.tree.records.now c.args.pen 12 c.record_at-r.ensures (in_arm _ c.kind.ensures c.in-Some.is c.in-FunCall.is) (omega arith) c.past-inside.ensures).0, (Printers.inside c.args.src.now.settings c.args.src.now.tree.records.now c.args.pen 12 c.record_at-r.ensures (in_arm _ c.kind.ensures c.in-Some.is c.in-FunCall.is) (omega arith) c.past-inside.ensures).1)

pub bare-dot-requires : goal.bare-dot-requires
bare-dot-requires t c = omega (arith, c.decreases, (Printers.inside c.args.src.now.settings c.args.src.now.tree.records.now c.args.pen 13 c.record_at-r.ensures (in_arm _ c.kind.ensures c.in-Some.is c.in-Dot.is) (omega arith) c.past-inside.ensures).0, (Printers.inside c.args.src.now.settings c.args.src.now.tree.records.now c.args.pen 13 c.record_at-r.ensures (in_arm _ c.kind.ensures c.in-Some.is c.in-Dot.is) (omega arith) c.past-inside.ensures).1)

pub bare-post-requires : goal.bare-post-requires
bare-post-requires t c = omega (arith, c.decreases, (Printers.inside c.args.src.now.settings c.args.src.now.tree.records.now c.args.pen 14 c.record_at-r.ensures (in_arm _ c.kind.ensures c.in-Some.is c.in-PostInc.is) (omega arith) c.past-inside.ensures).0, (Printers.inside c.args.src.now.settings c.args.src.now.tree.records.now c.args.pen 14 c.record_at-r.ensures (in_arm _ c.kind.ensures c.in-Some.is c.in-PostInc.is) (omega arith) c.past-inside.ensures).1)

pub bare-post-requires-in-PostDec : goal.bare-post-requires-in-PostDec
bare-post-requires-in-PostDec t c = omega (arith, c.decreases, (Printers.inside c.args.src.now.settings c.args.src.now.tree.records.now c.args.pen 15 c.record_at-r.ensures (in_arm _ c.kind.ensures c.in-Some.is c.in-PostDec.is) (omega arith) c.past-inside.ensures).0, (Printers.inside c.args.src.now.settings c.args.src.now.tree.records.now c.args.pen 15 c.record_at-r.ensures (in_arm _ c.kind.ensures c.in-Some.is c.in-PostDec.is) (omega arith) c.past-inside.ensures).1)

pub bare-comma-requires : goal.bare-comma-requires
bare-comma-requires t c = omega (arith, c.decreases, (Printers.inside c.args.src.now.settings c.args.src.now.tree.records.now c.args.pen 16 c.record_at-r.ensures (in_arm _ c.kind.ensures c.in-Some.is c.in-Comma.is) (omega arith) c.past-inside.ensures).0, (Printers.inside c.args.src.now.settings c.args.src.now.tree.records.now c.args.pen 16 c.record_at-r.ensures (in_arm _ c.kind.ensures c.in-Some.is c.in-Comma.is) (omega arith) c.past-inside.ensures).1)

pub bare-returns-in-Variable : goal.bare-returns-in-Variable
unfolding show_expr spell item_of expr_of
bare-returns-in-Variable t c = Printers.of_row c.args.src.now.tree.records.now c.args.src.now.tree.names.now c.record_at-r.ensures (λ (i : Item). i.expr) _ show_expr 1 (give (Expr.Variable (text_of c.args.src.now.tree.names.now c.record_at-r.result))) refl (omega arith) (in_arm _ c.kind.ensures c.in-Some.is c.in-Variable.is) c.past-inside.ensures (Printers.put (Token.name (text_of c.args.src.now.tree.names.now c.record_at-r.result)) refl c.write_name.ensures)

pub bare-returns-in-IntConst : goal.bare-returns-in-IntConst
unfolding show_expr item_of expr_of
bare-returns-in-IntConst t c = Printers.of_row c.args.src.now.tree.records.now c.args.src.now.tree.names.now c.record_at-r.ensures (λ (i : Item). i.expr) _ show_expr 2 (give (Expr.IntConst c.record_at-r.result.a)) refl (omega arith) (in_arm _ c.kind.ensures c.in-Some.is c.in-IntConst.is) c.past-inside.ensures (wrote (c.write_signed.ensures c.args.src.now.settings))

pub bare-returns-in-UIntConst : goal.bare-returns-in-UIntConst
unfolding show_expr item_of expr_of
bare-returns-in-UIntConst t c = Printers.of_row c.args.src.now.tree.records.now c.args.src.now.tree.names.now c.record_at-r.ensures (λ (i : Item). i.expr) _ show_expr 3 (give (Expr.UIntConst c.record_at-r.result.a)) refl (omega arith) (in_arm _ c.kind.ensures c.in-Some.is c.in-UIntConst.is) c.past-inside.ensures (Printers.put (Token.uint c.record_at-r.result.a) (ap (λ (n : ℕ). spell (Token.uint n)) c.from.ensures) c.write_uint.ensures)

pub bare-returns-in-BoolConst : goal.bare-returns-in-BoolConst
unfolding show_expr item_of expr_of
bare-returns-in-BoolConst t c = Printers.of_row c.args.src.now.tree.records.now c.args.src.now.tree.names.now c.record_at-r.ensures (λ (i : Item). i.expr) _ show_expr 4 (give (Expr.BoolConst (eqb c.record_at-r.result.variant 1))) refl (omega arith) (in_arm _ c.kind.ensures c.in-Some.is c.in-BoolConst.is) c.past-inside.ensures (wrote (c.show_bool.ensures c.args.src.now.settings))

pub bare-returns-in-FloatConst : goal.bare-returns-in-FloatConst
unfolding show_expr item_of expr_of
bare-returns-in-FloatConst t c = Printers.of_row c.args.src.now.tree.records.now c.args.src.now.tree.names.now c.record_at-r.ensures (λ (i : Item). i.expr) _ show_expr 5 (give (Expr.FloatConst (text_of c.args.src.now.tree.names.now c.record_at-r.result))) refl (omega arith) (in_arm _ c.kind.ensures c.in-Some.is c.in-FloatConst.is) c.past-inside.ensures (Printers.put (Token.float (text_of c.args.src.now.tree.names.now c.record_at-r.result)) (ap (λ (t : List ℕ). spell (Token.float t)) c.text_of.ensures) c.write_float.ensures)

pub bare-returns-in-DoubleConst : goal.bare-returns-in-DoubleConst
unfolding show_expr item_of expr_of
bare-returns-in-DoubleConst t c = Printers.of_row c.args.src.now.tree.records.now c.args.src.now.tree.names.now c.record_at-r.ensures (λ (i : Item). i.expr) _ show_expr 6 (give (Expr.DoubleConst (text_of c.args.src.now.tree.names.now c.record_at-r.result))) refl (omega arith) (in_arm _ c.kind.ensures c.in-Some.is c.in-DoubleConst.is) c.past-inside.ensures (Printers.put (Token.double (text_of c.args.src.now.tree.names.now c.record_at-r.result)) (ap (λ (t : List ℕ). spell (Token.double t)) c.text_of-in-DoubleConst.ensures) c.write_double.ensures)

pub bare-returns-in-Unary : goal.bare-returns-in-Unary
unfolding item_of expr_of
bare-returns-in-Unary t c = Printers.of_row c.args.src.now.tree.records.now c.args.src.now.tree.names.now c.record_at-r.ensures (λ (i : Item). i.expr) _ show_expr 7 (give (Expr.Unary (unary_op_of c.record_at-r.result.variant)) and expr_part) refl (omega arith) (in_arm _ c.kind.ensures c.in-Some.is c.in-Unary.is) c.past-inside.ensures c.unary.ensures

pub bare-returns-in-Binary : goal.bare-returns-in-Binary
unfolding item_of expr_of
bare-returns-in-Binary t c = Printers.of_row c.args.src.now.tree.records.now c.args.src.now.tree.names.now c.record_at-r.ensures (λ (i : Item). i.expr) _ show_expr 8 (give (Expr.Binary (binary_op_of c.record_at-r.result.variant)) and expr_part and expr_part) refl (omega arith) (in_arm _ c.kind.ensures c.in-Some.is c.in-Binary.is) c.past-inside.ensures c.binary.ensures

pub bare-returns-in-Ternary : goal.bare-returns-in-Ternary
unfolding item_of expr_of
bare-returns-in-Ternary t c = Printers.of_row c.args.src.now.tree.records.now c.args.src.now.tree.names.now c.record_at-r.ensures (λ (i : Item). i.expr) _ show_expr 9 (give Expr.Ternary and expr_part and expr_part and expr_part) refl (omega arith) (in_arm _ c.kind.ensures c.in-Some.is c.in-Ternary.is) c.past-inside.ensures c.ternary.ensures

pub bare-returns-in-Assignment : goal.bare-returns-in-Assignment
unfolding item_of expr_of
bare-returns-in-Assignment t c = Printers.of_row c.args.src.now.tree.records.now c.args.src.now.tree.names.now c.record_at-r.ensures (λ (i : Item). i.expr) _ show_expr 10 (give (Expr.Assignment (assignment_op c.record_at-r.result.variant)) and expr_part and expr_part) refl (omega arith) (in_arm _ c.kind.ensures c.in-Some.is c.in-Assignment.is) c.past-inside.ensures c.assign.ensures

pub bare-returns-in-Bracket : goal.bare-returns-in-Bracket
unfolding item_of expr_of
bare-returns-in-Bracket t c = Printers.of_row c.args.src.now.tree.records.now c.args.src.now.tree.names.now c.record_at-r.ensures (λ (i : Item). i.expr) _ show_expr 11 (give Expr.Bracket and expr_part and expr_part) refl (omega arith) (in_arm _ c.kind.ensures c.in-Some.is c.in-Bracket.is) c.past-inside.ensures c.index.ensures

pub bare-returns-in-FunCall : goal.bare-returns-in-FunCall
unfolding item_of expr_of
bare-returns-in-FunCall t c = Printers.of_row c.args.src.now.tree.records.now c.args.src.now.tree.names.now c.record_at-r.ensures (λ (i : Item). i.expr) _ show_expr 12 (give Expr.FunCall and callee_part and several c.record_at-r.result.count expr_part Exprs.no_exprs Exprs.exprs) refl (omega arith) (in_arm _ c.kind.ensures c.in-Some.is c.in-FunCall.is) c.past-inside.ensures c.call.ensures

pub bare-returns-in-Dot : goal.bare-returns-in-Dot
unfolding item_of expr_of
bare-returns-in-Dot t c = Printers.of_row c.args.src.now.tree.records.now c.args.src.now.tree.names.now c.record_at-r.ensures (λ (i : Item). i.expr) _ show_expr 13 (give (Expr.Dot (text_of c.args.src.now.tree.names.now c.record_at-r.result)) and expr_part) refl (omega arith) (in_arm _ c.kind.ensures c.in-Some.is c.in-Dot.is) c.past-inside.ensures c.dot.ensures

pub bare-returns-in-PostInc : goal.bare-returns-in-PostInc
unfolding item_of expr_of
bare-returns-in-PostInc t c = Printers.of_row c.args.src.now.tree.records.now c.args.src.now.tree.names.now c.record_at-r.ensures (λ (i : Item). i.expr) _ show_expr 14 (give Expr.PostInc and expr_part) refl (omega arith) (in_arm _ c.kind.ensures c.in-Some.is c.in-PostInc.is) c.past-inside.ensures c.post.ensures

pub bare-returns-in-PostDec : goal.bare-returns-in-PostDec
unfolding item_of expr_of
bare-returns-in-PostDec t c = Printers.of_row c.args.src.now.tree.records.now c.args.src.now.tree.names.now c.record_at-r.ensures (λ (i : Item). i.expr) _ show_expr 15 (give Expr.PostDec and expr_part) refl (omega arith) (in_arm _ c.kind.ensures c.in-Some.is c.in-PostDec.is) c.past-inside.ensures c.post-in-PostDec.ensures

pub bare-returns-in-Comma : goal.bare-returns-in-Comma
unfolding item_of expr_of
bare-returns-in-Comma t c = Printers.of_row c.args.src.now.tree.records.now c.args.src.now.tree.names.now c.record_at-r.ensures (λ (i : Item). i.expr) _ show_expr 16 (give Expr.Comma and expr_part and expr_part) refl (omega arith) (in_arm _ c.kind.ensures c.in-Some.is c.in-Comma.is) c.past-inside.ensures c.comma.ensures

pub bare-returns-in_default : goal.bare-returns-in_default
unfolding show_expr
bare-returns-in_default t c = Printers.none_there c.args.src.now.tree.records.now c.args.src.now.tree.names.now show_expr expr_part Expr.no_expr (At.no_expr_at c.args.src.now.tree.records.now c.args.src.now.tree.names.now _ c.record_at-r.ensures (let no = no_number _ c.kind.ensures c.in_default.is in ((((((((((((((((tt, no Variable), no IntConst), no UIntConst), no BoolConst), no FloatConst), no DoubleConst), no Unary), no Binary), no Ternary), no Assignment), no Bracket), no FunCall), no Dot), no PostInc), no PostDec), no Comma))) refl

pub bare-returns-in_default-kind : goal.bare-returns-in_default-kind
unfolding show_expr
bare-returns-in_default-kind t c = Printers.none_there c.args.src.now.tree.records.now c.args.src.now.tree.names.now show_expr expr_part Expr.no_expr (At.no_expr_at c.args.src.now.tree.records.now c.args.src.now.tree.names.now _ c.record_at-r.ensures (let no = not_this _ c.kind.ensures c.in-Some.is in let w = c.in_default-kind in ((((((((((((((((tt, no Variable w.not-Variable), no IntConst w.not-IntConst), no UIntConst w.not-UIntConst), no BoolConst w.not-BoolConst), no FloatConst w.not-FloatConst), no DoubleConst w.not-DoubleConst), no Unary w.not-Unary), no Binary w.not-Binary), no Ternary w.not-Ternary), no Assignment w.not-Assignment), no Bracket w.not-Bracket), no FunCall w.not-FunCall), no Dot w.not-Dot), no PostInc w.not-PostInc), no PostDec w.not-PostDec), no Comma w.not-Comma))) refl

pub base-strukt-requires : goal.base-strukt-requires
base-strukt-requires t c = omega (arith, c.decreases, (Printers.inside c.args.src.now.settings c.args.src.now.tree.records.now c.args.pen 23 c.record_at-r.ensures (in_arm _ c.kind.ensures c.in-Some.is c.in-Struct.is) (omega arith) c.past-inside.ensures).0, (Printers.inside c.args.src.now.settings c.args.src.now.tree.records.now c.args.pen 23 c.record_at-r.ensures (in_arm _ c.kind.ensures c.in-Some.is c.in-Struct.is) (omega arith) c.past-inside.ensures).1)

pub base-returns-in-TypeKeyword : goal.base-returns-in-TypeKeyword
unfolding show_type_specifier_non_array item_of base_of
base-returns-in-TypeKeyword t c = Printers.of_row c.args.src.now.tree.records.now c.args.src.now.tree.names.now c.record_at-r.ensures (λ (i : Item). i.base) _ show_type_specifier_non_array 21 (give (TypeSpecifierNonArray.Keyword c.record_at-r.result.variant)) refl (omega arith) (in_arm _ c.kind.ensures c.in-Some.is c.in-TypeKeyword.is) c.past-inside.ensures (wrote (c.show_keyword.ensures c.args.src.now.settings))

pub base-returns-in-TypeName : goal.base-returns-in-TypeName
unfolding show_type_specifier_non_array spell item_of base_of
base-returns-in-TypeName t c = Printers.of_row c.args.src.now.tree.records.now c.args.src.now.tree.names.now c.record_at-r.ensures (λ (i : Item). i.base) _ show_type_specifier_non_array 22 (give (TypeSpecifierNonArray.TypeName (text_of c.args.src.now.tree.names.now c.record_at-r.result))) refl (omega arith) (in_arm _ c.kind.ensures c.in-Some.is c.in-TypeName.is) c.past-inside.ensures (Printers.put (Token.name (text_of c.args.src.now.tree.names.now c.record_at-r.result)) refl c.write_name.ensures)

pub base-returns-in-Struct : goal.base-returns-in-Struct
unfolding item_of base_of
base-returns-in-Struct t c = Printers.of_row c.args.src.now.tree.records.now c.args.src.now.tree.names.now c.record_at-r.ensures (λ (i : Item). i.base) _ show_type_specifier_non_array 23 (Printers.struct_parts c.args.src.now.tree.names.now c.record_at-r.result) refl (omega arith) (in_arm _ c.kind.ensures c.in-Some.is c.in-Struct.is) c.past-inside.ensures c.strukt.ensures

pub base-returns-in_default : goal.base-returns-in_default
unfolding show_type_specifier_non_array
base-returns-in_default t c = Printers.none_there c.args.src.now.tree.records.now c.args.src.now.tree.names.now show_type_specifier_non_array base_part TypeSpecifierNonArray.no_base (At.no_base_at c.args.src.now.tree.records.now c.args.src.now.tree.names.now _ c.record_at-r.ensures (let no = no_number _ c.kind.ensures c.in_default.is in (((tt, no TypeKeyword), no TypeName), no Struct))) refl

pub base-returns-in_default-kind : goal.base-returns-in_default-kind
unfolding show_type_specifier_non_array
base-returns-in_default-kind t c = Printers.none_there c.args.src.now.tree.records.now c.args.src.now.tree.names.now show_type_specifier_non_array base_part TypeSpecifierNonArray.no_base (At.no_base_at c.args.src.now.tree.records.now c.args.src.now.tree.names.now _ c.record_at-r.ensures (let no = not_this _ c.kind.ensures c.in-Some.is in let w = c.in_default-kind in (((tt, no TypeKeyword w.not-TypeKeyword), no TypeName w.not-TypeName), no Struct w.not-Struct))) refl

pub binary-expr-requires : goal.binary-expr-requires
binary-expr-requires t c = omega (arith, c.decreases, c.expr-left.ensures.next, (wrote (c.show_binary_op-op.ensures c.args.src.now.tree.names.now)).next)

pub binary-returns : goal.binary-returns
binary-returns t c = Printers.binary_parts c.args.src.now.tree.records.now c.args.src.now.tree.names.now c.args.v c.of_binary_op-precedence.ensures c.expr-left.ensures c.show_binary_op-op.ensures c.expr.ensures

pub call-exprs-filled-requires : goal.call-exprs-filled-requires
call-exprs-filled-requires t c = omega (arith, c.decreases, c.callee-called.ensures.next, same_record c.args.src.now.settings c.write_char-opened.ensures)

pub call-returns : goal.call-returns
call-returns t c = Printers.call_parts c.args.src.now.tree.records.now c.args.src.now.tree.names.now c.args.n c.callee-called.ensures c.write_char-opened.ensures c.exprs-filled.ensures c.write_char.ensures

pub callee-returns-then-is : goal.callee-returns-then-is
callee-returns-then-is t c = Printers.called c.args.src.now.tree.records.now c.args.src.now.tree.names.now refl (eqb-true _ _ (sym c.is.ensures ∙ c.if-is.true)) c.ty.ensures

pub callee-returns : goal.callee-returns
callee-returns t c = Printers.called_by c.args.src.now.tree.records.now c.args.src.now.tree.names.now refl (λ q. let h : true ≡ false = sym (eq-eqb _ 20 q) ∙ sym c.is.ensures ∙ c.if-is.false in absurd cc) c.expr.ensures

pub choice-expr-requires : goal.choice-expr-requires
choice-expr-requires t c = omega (arith, c.decreases, c.expr-chosen.ensures.next, (wrote c.write_binary_op-otherwise.ensures).next)

pub choice-returns : goal.choice-returns
choice-returns t c = Printers.choice_parts c.args.src.now.tree.records.now c.args.src.now.tree.names.now c.expr-chosen.ensures c.write_binary_op-otherwise.ensures c.expr.ensures

pub comma-expr-requires : goal.comma-expr-requires
comma-expr-requires t c = omega (arith, c.decreases, c.expr-before.ensures.next, (wrote c.write_list_separator-separated.ensures).next)

pub comma-returns : goal.comma-returns
comma-returns t c = Printers.comma_parts c.args.src.now.tree.records.now c.args.src.now.tree.names.now c.expr-before.ensures c.write_list_separator-separated.ensures c.expr.ensures

pub dim-returns-in_default : goal.dim-returns-in_default
unfolding show_dimension item_of dimension_of
dim-returns-in_default t c = Printers.no_row c.args.src.now.tree.records.now c.args.src.now.tree.names.now (λ (i : Item). i.dimension) show_dimension 25 _ ArraySpecifierDimension.no_dimension refl refl c.in_default.ensures refl

pub dim-returns-then-r-eq0 : goal.dim-returns-then-r-eq0
dim-returns-then-r-eq0 t c = Printers.unsized c.args.src.now.tree.records.now c.args.src.now.tree.names.now c.in-Some.ensures.0 c.in-Some.ensures.1 c.if-r-eq0.true c.in-Some.ensures.2 c.write_char-opened.ensures c.write_char.ensures

pub dim-expr-sized-requires : goal.dim-expr-sized-requires
dim-expr-sized-requires t c = omega (arith, c.decreases, same_record c.args.src.now.settings c.write_char-opened.ensures, (Printers.inside c.args.src.now.settings c.args.src.now.tree.records.now c.args.pen 25 c.in-Some.ensures.0 c.in-Some.ensures.1 (omega arith) c.in-Some.ensures.2).0, (Printers.inside c.args.src.now.settings c.args.src.now.tree.records.now c.args.pen 25 c.in-Some.ensures.0 c.in-Some.ensures.1 (omega arith) c.in-Some.ensures.2).1)

pub dim-returns : goal.dim-returns
dim-returns t c = Printers.sized c.args.src.now.tree.records.now c.args.src.now.tree.names.now c.in-Some.ensures.0 c.in-Some.ensures.1 c.if-r-eq0.false c.in-Some.ensures.2 c.write_char-opened.ensures c.expr-sized.ensures c.write_char-2.ensures

pub dims-returns-then-on : goal.dims-returns-then-on
dims-returns-then-on t c = Printers.dims_on c.args.src.now.tree.records.now c.args.src.now.tree.names.now c.if-on.true c.array.ensures

pub dims-returns : goal.dims-returns
unfolding show_array_spec
dims-returns t c = rw c.if-on.false nothing_shown

pub dot-returns : goal.dot-returns
dot-returns t c = Printers.dot_parts c.args.src.now.tree.records.now c.args.src.now.tree.names.now c.args.r.a c.args.r.b c.expr-of.ensures c.write_dot-dotted.ensures c.write_name.ensures

pub expr-returns-then-not-stands : goal.expr-returns-then-not-stands
expr-returns-then-not-stands t c = Printers.none_left c.args.src.now.tree.records.now c.args.src.now.tree.names.now c.args.most c.stands.ensures c.if-not-stands.true-raw

pub expr-bare-shown-requires : goal.expr-bare-shown-requires
expr-bare-shown-requires t c = omega (arith, c.decreases, (wrote (c.open_if-opened.ensures c.args.src.now.settings)).next)

pub expr-returns : goal.expr-returns
expr-returns t c = Printers.in_brackets c.args.src.now.tree.records.now c.args.src.now.tree.names.now c.args.most c.kind_at-kind.ensures c.variant_at.ensures c.of_expr.ensures (c.open_if-opened.ensures c.args.src.now.settings) c.bare-shown.ensures (c.close_if.ensures c.args.src.now.settings)

pub exprs-loop-k-init : goal.exprs-loop-k-init
exprs-loop-k-init t c = start Lists.arguments c.args.src.now.settings c.args.src.now.tree.records.now c.args.src.now.tree.names.now

pub exprs-expr-at-requires : goal.exprs-expr-at-requires
exprs-expr-at-requires t c = omega (arith, c.decreases, c.loop-k.invariant.ahead, (wrote c.separate-at.ensures).next)

pub exprs-loop-k-preserved : goal.exprs-loop-k-preserved
exprs-loop-k-preserved t c = step Lists.arguments c.args.src.now.settings c.args.src.now.tree.records.now c.args.src.now.tree.names.now c.loop-k.invariant c.loop-k-test.true (Printers.item_behind c.args.src.now.tree.records.now c.args.src.now.tree.names.now show_expr expr_part c.separate-at.ensures (Parts.plain c.args.src.now.tree.records.now c.args.src.now.tree.names.now c.expr-at.ensures))

pub exprs-returns : goal.exprs-returns
exprs-returns t c = done Lists.arguments c.args.src.now.settings c.args.src.now.tree.records.now c.args.src.now.tree.names.now c.loop-k.invariant (omega (arith, c.loop-k-test.false))

pub field-returns-in_default : goal.field-returns-in_default
unfolding show_struct_field item_of field_of
field-returns-in_default t c = Printers.no_row c.args.src.now.tree.records.now c.args.src.now.tree.names.now (λ (i : Item). i.field) show_struct_field 26 _ StructFieldSpecifier.no_field refl refl c.in_default.ensures refl

pub field-qualif-qualified-requires : goal.field-qualif-qualified-requires
field-qualif-qualified-requires t c = omega (arith, c.decreases, (Printers.inside c.args.src.now.settings c.args.src.now.tree.records.now c.args.pen 26 c.in-Some.ensures.0 c.in-Some.ensures.1 (omega arith) c.in-Some.ensures.2).0, (Printers.inside c.args.src.now.settings c.args.src.now.tree.records.now c.args.pen 26 c.in-Some.ensures.0 c.in-Some.ensures.1 (omega arith) c.in-Some.ensures.2).1)

pub field-ty-typed-requires : goal.field-ty-typed-requires
field-ty-typed-requires t c = omega (arith, c.decreases, c.qualif-qualified.ensures.next, (Printers.inside c.args.src.now.settings c.args.src.now.tree.records.now c.args.pen 26 c.in-Some.ensures.0 c.in-Some.ensures.1 (omega arith) c.in-Some.ensures.2).0, (Printers.inside c.args.src.now.settings c.args.src.now.tree.records.now c.args.pen 26 c.in-Some.ensures.0 c.in-Some.ensures.1 (omega arith) c.in-Some.ensures.2).1)

pub field-idents-requires : goal.field-idents-requires
field-idents-requires t c = omega (arith, c.decreases, c.qualif-qualified.ensures.next, c.ty-typed.ensures.next, same_record c.args.src.now.settings c.write_char-spaced.ensures, (Printers.inside c.args.src.now.settings c.args.src.now.tree.records.now c.args.pen 26 c.in-Some.ensures.0 c.in-Some.ensures.1 (omega arith) c.in-Some.ensures.2).0, (Printers.inside c.args.src.now.settings c.args.src.now.tree.records.now c.args.pen 26 c.in-Some.ensures.0 c.in-Some.ensures.1 (omega arith) c.in-Some.ensures.2).1)

pub field-returns : goal.field-returns
field-returns t c = Printers.field_of_lem c.args.src.now.tree.records.now c.args.src.now.tree.names.now c.in-Some.ensures.0 c.in-Some.ensures.1 c.in-Some.ensures.2 c.qualif-qualified.ensures c.ty-typed.ensures c.write_char-spaced.ensures c.idents.ensures

pub fields-loop-k-init : goal.fields-loop-k-init
fields-loop-k-init t c = start Lists.fields c.args.src.now.settings c.args.src.now.tree.records.now c.args.src.now.tree.names.now

pub fields-field-at-requires : goal.fields-field-at-requires
fields-field-at-requires t c = omega (arith, c.decreases, c.loop-k.invariant.ahead, (wrote c.flush_line-at.ensures).next)

pub fields-loop-k-preserved : goal.fields-loop-k-preserved
fields-loop-k-preserved t c = step_alike Lists.fields c.args.src.now.settings c.args.src.now.tree.records.now c.args.src.now.tree.names.now (λ f xs. refl) c.loop-k.invariant c.loop-k-test.true (Printers.field_item c.args.src.now.tree.records.now c.args.src.now.tree.names.now c.flush_line-at.ensures c.field-at.ensures c.write_struct_field_separator-at.ensures)

pub fields-returns : goal.fields-returns
fields-returns t c = done Lists.fields c.args.src.now.settings c.args.src.now.tree.records.now c.args.src.now.tree.names.now c.loop-k.invariant (omega (arith, c.loop-k-test.false))

pub id-returns-in_default : goal.id-returns-in_default
unfolding show_layout_qualifier_spec item_of layout_id_of
id-returns-in_default t c = Printers.no_row c.args.src.now.tree.records.now c.args.src.now.tree.names.now (λ (i : Item). i.layout_id) show_layout_qualifier_spec 30 _ LayoutQualifierSpec.no_id refl refl c.in_default.ensures refl

pub id-returns-then-r-eq0 : goal.id-returns-then-r-eq0
id-returns-then-r-eq0 t c = Printers.id c.args.src.now.tree.records.now c.args.src.now.tree.names.now c.in-Some.ensures.0 c.in-Some.ensures.1 c.if-r-eq0.true c.in-Some.ensures.2 c.write_name.ensures

pub id-expr-requires : goal.id-expr-requires
id-expr-requires t c = omega (arith, c.decreases, same_record c.args.src.now.settings c.write_name-named.ensures, (wrote c.write_binary_op-is.ensures).next, (Printers.inside c.args.src.now.settings c.args.src.now.tree.records.now c.args.pen 30 c.in-Some.ensures.0 c.in-Some.ensures.1 (omega arith) c.in-Some.ensures.2).0, (Printers.inside c.args.src.now.settings c.args.src.now.tree.records.now c.args.pen 30 c.in-Some.ensures.0 c.in-Some.ensures.1 (omega arith) c.in-Some.ensures.2).1)

pub id-returns-then-r-eq1 : goal.id-returns-then-r-eq1
id-returns-then-r-eq1 t c = Printers.id_is c.args.src.now.tree.records.now c.args.src.now.tree.names.now c.in-Some.ensures.0 c.in-Some.ensures.1 c.if-r-eq1.true c.in-Some.ensures.2 c.write_name-named.ensures c.write_binary_op-is.ensures c.expr.ensures

pub id-returns : goal.id-returns
id-returns t c = Printers.shared c.args.src.now.tree.records.now c.args.src.now.tree.names.now c.in-Some.ensures.0 c.in-Some.ensures.1 c.if-r-eq0.false c.if-r-eq1.false c.in-Some.ensures.2 (c.show_qualifier_word.ensures c.args.src.now.settings)

pub ident-returns-in_default : goal.ident-returns-in_default
unfolding show_arrayed_identifier item_of identifier_of
ident-returns-in_default t c = Printers.no_row c.args.src.now.tree.records.now c.args.src.now.tree.names.now (λ (i : Item). i.identifier) show_arrayed_identifier 27 _ ArrayedIdentifier.no_identifier refl refl c.in_default.ensures refl

pub ident-dims-requires : goal.ident-dims-requires
ident-dims-requires t c = omega (arith, c.decreases, same_record c.args.src.now.settings c.write_name-named.ensures, (Printers.inside c.args.src.now.settings c.args.src.now.tree.records.now c.args.pen 27 c.in-Some.ensures.0 c.in-Some.ensures.1 (omega arith) c.in-Some.ensures.2).0, (Printers.inside c.args.src.now.settings c.args.src.now.tree.records.now c.args.pen 27 c.in-Some.ensures.0 c.in-Some.ensures.1 (omega arith) c.in-Some.ensures.2).1)

pub ident-returns : goal.ident-returns
ident-returns t c = Printers.ident c.args.src.now.tree.records.now c.args.src.now.tree.names.now c.in-Some.ensures.0 c.in-Some.ensures.1 c.in-Some.ensures.2 c.write_name-named.ensures c.dims.ensures

pub idents-loop-k-init : goal.idents-loop-k-init
idents-loop-k-init t c = start Lists.identifiers c.args.src.now.settings c.args.src.now.tree.records.now c.args.src.now.tree.names.now

pub idents-ident-at-requires : goal.idents-ident-at-requires
idents-ident-at-requires t c = omega (arith, c.decreases, c.loop-k.invariant.ahead, (wrote c.separate-at.ensures).next)

pub idents-loop-k-preserved : goal.idents-loop-k-preserved
idents-loop-k-preserved t c = step Lists.identifiers c.args.src.now.settings c.args.src.now.tree.records.now c.args.src.now.tree.names.now c.loop-k.invariant c.loop-k-test.true (Printers.item_behind c.args.src.now.tree.records.now c.args.src.now.tree.names.now show_arrayed_identifier identifier_part c.separate-at.ensures c.ident-at.ensures)

pub idents-returns : goal.idents-returns
idents-returns t c = done Lists.identifiers c.args.src.now.settings c.args.src.now.tree.records.now c.args.src.now.tree.names.now c.loop-k.invariant (omega (arith, c.loop-k-test.false))

pub index-expr-place-requires : goal.index-expr-place-requires
index-expr-place-requires t c = omega (arith, c.decreases, c.expr-indexed.ensures.next, same_record c.args.src.now.settings c.write_char-opened.ensures)

pub index-returns : goal.index-returns
index-returns t c = Printers.index_parts c.args.src.now.tree.records.now c.args.src.now.tree.names.now c.expr-indexed.ensures c.write_char-opened.ensures c.expr-place.ensures c.write_char.ensures

pub layout-loop-k-init : goal.layout-loop-k-init
layout-loop-k-init t c = start Lists.ids c.args.src.now.settings c.args.src.now.tree.records.now c.args.src.now.tree.names.now

pub layout-id-at-requires : goal.layout-id-at-requires
layout-id-at-requires t c = omega (arith, c.decreases, (wrote (c.show_qualifier_word-word.ensures c.args.src.now.settings)).next, same_record c.args.src.now.settings c.write_char-at.ensures, c.loop-k.invariant.ahead, (wrote c.separate-at.ensures).next)

pub layout-loop-k-preserved : goal.layout-loop-k-preserved
layout-loop-k-preserved t c = step Lists.ids c.args.src.now.settings c.args.src.now.tree.records.now c.args.src.now.tree.names.now c.loop-k.invariant c.loop-k-test.true (Printers.item_behind c.args.src.now.tree.records.now c.args.src.now.tree.names.now show_layout_qualifier_spec id_part c.separate-at.ensures c.id-at.ensures)

pub layout-returns : goal.layout-returns
layout-returns t c = Printers.layout_parts c.args.src.now.tree.records.now c.args.src.now.tree.names.now c.args.n (c.show_qualifier_word-word.ensures c.args.src.now.settings) c.write_char-at.ensures (done Lists.ids c.args.src.now.settings c.args.src.now.tree.records.now c.args.src.now.tree.names.now c.loop-k.invariant (omega (arith, c.loop-k-test.false))) c.write_char.ensures

pub post-returns : goal.post-returns
post-returns t c = Printers.post_parts c.args.src.now.tree.records.now c.args.src.now.tree.names.now c.args.down c.expr-stepped.ensures (c.show_post.ensures c.args.src.now.settings)

pub qual-returns-in_default : goal.qual-returns-in_default
unfolding show_type_qualifier item_of qualifier_of
qual-returns-in_default t c = Printers.no_row c.args.src.now.tree.records.now c.args.src.now.tree.names.now (λ (i : Item). i.qualifier) (λ q. show_type_qualifier q true) 28 _ TypeQualifier.no_specs refl refl c.in_default.ensures refl

pub qual-loop-k-init : goal.qual-loop-k-init
qual-loop-k-init t c = start Lists.specs c.args.src.now.settings c.args.src.now.tree.records.now c.args.src.now.tree.names.now

pub qual-spec-at-requires : goal.qual-spec-at-requires
qual-spec-at-requires t c = omega (arith, c.decreases, c.loop-k.invariant.ahead, (wrote (c.space_between-at.ensures c.args.src.now.settings)).next, (Printers.inside c.args.src.now.settings c.args.src.now.tree.records.now c.args.pen 28 c.in-Some.ensures.0 c.in-Some.ensures.1 (omega arith) c.in-Some.ensures.2).0, (Printers.inside c.args.src.now.settings c.args.src.now.tree.records.now c.args.pen 28 c.in-Some.ensures.0 c.in-Some.ensures.1 (omega arith) c.in-Some.ensures.2).1)

pub qual-loop-k-preserved : goal.qual-loop-k-preserved
qual-loop-k-preserved t c = step Lists.specs c.args.src.now.settings c.args.src.now.tree.records.now c.args.src.now.tree.names.now c.loop-k.invariant c.loop-k-test.true (Printers.item_behind c.args.src.now.tree.records.now c.args.src.now.tree.names.now show_type_qualifier_spec spec_part (c.space_between-at.ensures c.args.src.now.settings) c.spec-at.ensures)

pub qual-returns : goal.qual-returns
unfolding item_of qualifier_of
qual-returns t c = Printers.of_row c.args.src.now.tree.records.now c.args.src.now.tree.names.now c.in-Some.ensures.0 (λ (i : Item). i.qualifier) _ (λ q. show_type_qualifier q true) 28 (several c.in-Some.r.count spec_part TypeQualifier.no_specs TypeQualifier.specs) refl (omega arith) c.in-Some.ensures.1 c.in-Some.ensures.2 (done Lists.specs c.args.src.now.settings c.args.src.now.tree.records.now c.args.src.now.tree.names.now c.loop-k.invariant (omega (arith, c.loop-k-test.false)))

pub qualif-returns-then-on : goal.qualif-returns-then-on
qualif-returns-then-on t c = Printers.qualif_on c.args.src.now.tree.records.now c.args.src.now.tree.names.now c.if-on.true c.qual-qualified.ensures c.write_char.ensures

pub qualif-returns : goal.qualif-returns
unfolding show_qualification
qualif-returns t c = rw c.if-on.false nothing_shown

pub question-returns : goal.question-returns
question-returns t c = Printers.question_parts c.args.src.now.tree.records.now c.args.src.now.tree.names.now c.expr-condition.ensures c.write_binary_op.ensures

pub spec-returns-in_default : goal.spec-returns-in_default
unfolding show_type_qualifier_spec item_of spec_of
spec-returns-in_default t c = Printers.no_row c.args.src.now.tree.records.now c.args.src.now.tree.names.now (λ (i : Item). i.spec) show_type_qualifier_spec 29 _ TypeQualifierSpec.no_spec refl refl c.in_default.ensures refl

pub spec-subr-requires : goal.spec-subr-requires
spec-subr-requires t c = omega (arith, c.decreases, (Printers.inside c.args.src.now.settings c.args.src.now.tree.records.now c.args.pen 29 c.in-Some.ensures.0 c.in-Some.ensures.1 (omega arith) c.in-Some.ensures.2).0, (Printers.inside c.args.src.now.settings c.args.src.now.tree.records.now c.args.pen 29 c.in-Some.ensures.0 c.in-Some.ensures.1 (omega arith) c.in-Some.ensures.2).1)

pub spec-layout-requires : goal.spec-layout-requires
spec-layout-requires t c = omega (arith, c.decreases, (Printers.inside c.args.src.now.settings c.args.src.now.tree.records.now c.args.pen 29 c.in-Some.ensures.0 c.in-Some.ensures.1 (omega arith) c.in-Some.ensures.2).0, (Printers.inside c.args.src.now.settings c.args.src.now.tree.records.now c.args.pen 29 c.in-Some.ensures.0 c.in-Some.ensures.1 (omega arith) c.in-Some.ensures.2).1)

pub spec-returns-in-17 : goal.spec-returns-in-17
spec-returns-in-17 t c = Printers.subroutine c.args.src.now.tree.records.now c.args.src.now.tree.names.now c.in-Some.ensures.0 c.in-Some.ensures.1 c.in-17.is c.in-Some.ensures.2 c.subr.ensures

pub spec-returns-in-18 : goal.spec-returns-in-18
spec-returns-in-18 t c = Printers.layout c.args.src.now.tree.records.now c.args.src.now.tree.names.now c.in-Some.ensures.0 c.in-Some.ensures.1 c.in-18.is c.in-Some.ensures.2 c.layout.ensures

pub spec-returns-in_default-variant : goal.spec-returns-in_default-variant
spec-returns-in_default-variant t c = Printers.qualifier_word_lem c.args.src.now.tree.records.now c.args.src.now.tree.names.now c.in-Some.ensures.0 c.in-Some.ensures.1 c.in_default-variant.in_default-variant-own.rest.0.1 c.in_default-variant.in_default-variant-own.rest.1 c.in-Some.ensures.2 (c.show_qualifier_word.ensures c.args.src.now.settings)

pub strukt-fields-filled-requires : goal.strukt-fields-filled-requires
strukt-fields-filled-requires t c = omega (arith, c.decreases, same_record c.args.src.now.settings c.write_str-word.ensures, same_record c.args.src.now.settings c.write_char-spaced.ensures, (wrote (c.show_name-named.ensures c.args.src.now.settings)).next, (wrote c.enter_block-opened.ensures).next)

pub strukt-returns : goal.strukt-returns
strukt-returns t c = Printers.strukt_parts c.args.src.now.tree.records.now c.args.src.now.tree.names.now c.args.top c.write_str-word.ensures c.write_char-spaced.ensures (c.show_name-named.ensures c.args.src.now.settings) c.enter_block-opened.ensures c.fields-filled.ensures c.exit_block.ensures

pub subr-returns-then-n-eq0 : goal.subr-returns-then-n-eq0
subr-returns-then-n-eq0 t c = Printers.no_types c.args.src.now.tree.records.now c.args.src.now.tree.names.now c.args.n c.if-n-eq0.true (c.show_qualifier_word-word.ensures c.args.src.now.settings)

pub subr-loop-k-init : goal.subr-loop-k-init
subr-loop-k-init t c = start Lists.types c.args.src.now.settings c.args.src.now.tree.records.now c.args.src.now.tree.names.now

pub subr-ty-at-requires : goal.subr-ty-at-requires
subr-ty-at-requires t c = omega (arith, c.decreases, (wrote (c.show_qualifier_word-word.ensures c.args.src.now.settings)).next, same_record c.args.src.now.settings c.write_char-at.ensures, c.loop-k.invariant.ahead, (wrote c.separate-at.ensures).next)

pub subr-loop-k-preserved : goal.subr-loop-k-preserved
subr-loop-k-preserved t c = step Lists.types c.args.src.now.settings c.args.src.now.tree.records.now c.args.src.now.tree.names.now c.loop-k.invariant c.loop-k-test.true (Printers.item_behind c.args.src.now.tree.records.now c.args.src.now.tree.names.now show_type_specifier type_part c.separate-at.ensures c.ty-at.ensures)

pub subr-returns : goal.subr-returns
subr-returns t c = Printers.subr_parts c.args.src.now.tree.records.now c.args.src.now.tree.names.now c.args.n (Printers.positive c.if-n-eq0.false) (c.show_qualifier_word-word.ensures c.args.src.now.settings) c.write_char-at.ensures (done Lists.types c.args.src.now.settings c.args.src.now.tree.records.now c.args.src.now.tree.names.now c.loop-k.invariant (omega (arith, c.loop-k-test.false))) c.write_char.ensures

pub ternary-returns : goal.ternary-returns
ternary-returns t c = Printers.ternary_parts c.args.src.now.tree.records.now c.args.src.now.tree.names.now c.question-asked.ensures c.choice.ensures

pub ty-returns-in_default : goal.ty-returns-in_default
unfolding show_type_specifier item_of type_of
ty-returns-in_default t c = Printers.no_row c.args.src.now.tree.records.now c.args.src.now.tree.names.now (λ (i : Item). i.type) show_type_specifier 20 _ TypeSpecifier.no_type refl refl c.in_default.ensures refl

pub ty-base-named-requires : goal.ty-base-named-requires
ty-base-named-requires t c = omega (arith, c.decreases, (Printers.inside c.args.src.now.settings c.args.src.now.tree.records.now c.args.pen 20 c.in-Some.ensures.0 c.in-Some.ensures.1 (omega arith) c.in-Some.ensures.2).0, (Printers.inside c.args.src.now.settings c.args.src.now.tree.records.now c.args.pen 20 c.in-Some.ensures.0 c.in-Some.ensures.1 (omega arith) c.in-Some.ensures.2).1)

pub ty-dims-requires : goal.ty-dims-requires
ty-dims-requires t c = omega (arith, c.decreases, c.base-named.ensures.next, (Printers.inside c.args.src.now.settings c.args.src.now.tree.records.now c.args.pen 20 c.in-Some.ensures.0 c.in-Some.ensures.1 (omega arith) c.in-Some.ensures.2).0, (Printers.inside c.args.src.now.settings c.args.src.now.tree.records.now c.args.pen 20 c.in-Some.ensures.0 c.in-Some.ensures.1 (omega arith) c.in-Some.ensures.2).1)

pub ty-returns : goal.ty-returns
ty-returns t c = Printers.ty c.args.src.now.tree.records.now c.args.src.now.tree.names.now c.in-Some.ensures.0 c.in-Some.ensures.1 c.in-Some.ensures.2 c.base-named.ensures c.dims.ensures

pub unary-expr-requires : goal.unary-expr-requires
unary-expr-requires t c = omega (arith, c.decreases, (wrote (c.show_unary_op-op.ensures c.args.src.now.tree.names.now)).next)

pub unary-returns : goal.unary-returns
unary-returns t c = Printers.unary_parts c.args.src.now.tree.records.now c.args.src.now.tree.names.now c.args.v c.show_unary_op-op.ensures c.unary_most-most.ensures c.expr.ensures
