-- `glsl::joined` meets its contract: what the walk says of accepted records is the definition's answer. Assumes nothing.
use mathlib.Core.Path.{refl, sym, ◌∙◌}
use native.Mathlib.Omega.{arith}
use Rattle.walk.proofs.Walk.{passed_on}
use Rattle.glsl.proofs.Question.{question_refused, question_answered, answers}
use Rattle.glsl.proofs.joined.Goals as goal

pub returns-in_err-check_expr : goal.returns-in_err-check_expr
returns-in_err-check_expr c = answers _ _ _ (passed_on _ _ c.from_residual.ensures.1 ∙ sym (question_refused c.args.records.now c.args.names.now _ (sym c.check_expr.ensures ∙ c.in_err-check_expr.was)))

pub returns : goal.returns
returns c = answers _ _ _ (sym (question_answered c.args.records.now c.args.names.now (λ p. omega (arith, c.type_inv.records p)) _ (sym c.check_expr.ensures ∙ c.in_ok-check_expr.was) _ c.any_joined.ensures refl))
