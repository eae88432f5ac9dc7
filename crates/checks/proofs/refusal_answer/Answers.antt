-- `checks::refusal_answer` meets its contract: a sum below 2^63 is turned safely. Assumes nothing.
use mathlib.Core.Path.{◌≡◌, sym, ◌∙◌, ap, subst}
use Prim.Native.Nat.{ℕ, ◌<◌, ◌^◌}
use lib.IntN.{ℤ, pos, neg_ℤ, ◌-ℤ◌, +ℤ_idl}
use mir.Syntax.{w64}
use mir.Val.{SFits, to_z, of_z}
use mir.Facts.{to_z-of_z, to_z_pos}
use Rattle.checks.specs.Answer.{refusal_answer}
use Rattle.checks.proofs.Small.{minus_fits}
use Rattle.checks.proofs.refusal_answer.Goals as goal

pub overflow_sub-result : goal.overflow_sub-result
overflow_sub-result c =
    let n = c.sum_of.result in
    let h : n < 2 ^ 63 = c.sum_of.ensures.1 in
    let f : pos 0 -ℤ to_z w64 n ≡ neg_ℤ (pos n) = ap (λ (z : ℤ). pos 0 -ℤ z) (to_z_pos w64 {n = n} h) ∙ +ℤ_idl (neg_ℤ (pos n)) in
    subst (SFits w64) (sym f) (minus_fits n h)

pub returns : goal.returns
unfolding refusal_answer
returns c =
    let n = c.sum_of.result in
    let h : n < 2 ^ 63 = c.sum_of.ensures.1 in
    let f : pos 0 -ℤ to_z w64 n ≡ neg_ℤ (pos n) = ap (λ (z : ℤ). pos 0 -ℤ z) (to_z_pos w64 {n = n} h) ∙ +ℤ_idl (neg_ℤ (pos n)) in
    ap (λ (z : ℤ). to_z w64 (of_z w64 z)) f ∙ to_z-of_z (minus_fits n h) ∙ ap (λ (k : ℕ). neg_ℤ (pos k)) c.sum_of.ensures.0
