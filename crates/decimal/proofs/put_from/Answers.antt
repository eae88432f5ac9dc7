-- `decimal::put_from` meets its contract. The invariant says where the writing stands: what is left, written from here on, gives the room with all digits (Places). Assumes nothing.
use mathlib.Core.Path.{sym, ◌∙◌, ap, subst}
use Prim.Native.Nat.{ℕ, ◌≤◌, ◌+◌, ◌-◌, ◌^◌}
use native.Mathlib.Nat.{lt_of_le_of_lt, pow-le-pow_right}
use lib.Dec.{lit<}
use native.Mathlib.Omega.{arith}
use lib.ListN.{length, set}
use lib.Seq.{sets}
use Rattle.decimal.specs.Decimal.{digit_byte, decimal}
use Rattle.decimal.proofs.Laws.{decimal_small, length_positive, at_most_20}
use Rattle.decimal.proofs.Places.{Standing, begins, positive, goes_on, ends}
use Rattle.decimal.proofs.put_from.Goals as goal

pub bounds-room-at : goal.bounds-room-at
bounds-room-at c = omega (arith, length_positive c.args.n)

pub returns-then-n-lt10 : goal.returns-then-n-lt10
returns-then-n-lt10 c = let a = c.args in ap (sets a.room.now a.at) (sym (decimal_small a.n c.if-n-lt10.true))

pub overflow_sub-last : goal.overflow_sub-last
overflow_sub-last c = omega (arith, length_positive c.args.n)

pub overflow_sub-digits : goal.overflow_sub-digits
overflow_sub-digits c = omega (arith, length_positive c.args.n)

pub overflow_cast-digits : goal.overflow_cast-digits
overflow_cast-digits c = omega (arith, at_most_20 c.args.n (omega arith))

pub pow-power-requires : goal.pow-power-requires
pow-power-requires c =
    let d = at_most_20 c.args.n (omega arith) in
    let h : 10 ^ (c.args.digits - 1) ≤ 10 ^ 19 = pow-le-pow_right {n = 10} (omega arith) {i = c.args.digits - 1} {j = 19} (omega arith) in
    lt_of_le_of_lt h (lit< tt)

pub loop-place-init : goal.loop-place-init
loop-place-init c =
    let a = c.args in
    subst (λ (p : ℕ). Standing (sets a.room.now a.at (decimal a.n)) a.n (a.at + length (decimal a.n)) a.room.now a.n p a.at)
    (sym (c.pow-power.ensures ∙ ap (λ (k : ℕ). 10 ^ (k - 1)) c.requires.0)) (begins a.room.now a.at a.n (omega arith))

pub nonzero_div-room : goal.nonzero_div-room
nonzero_div-room c = positive c.loop-place.invariant

pub nonzero_rem-left : goal.nonzero_rem-left
nonzero_rem-left c = positive c.loop-place.invariant

pub loop-place-preserved : goal.loop-place-preserved
loop-place-preserved c = goes_on c.loop-place.invariant (omega arith)

pub returns : goal.returns
returns c =
    let l = c.loop-place in
    ap (λ (p : ℕ). set l.room p (digit_byte l.left)) (omega arith) ∙ ends l.invariant (omega arith)
