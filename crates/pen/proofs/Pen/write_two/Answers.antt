-- `write_two` meets its contract. Assumes nothing.
use lib.ListN.{length, length-append}
use Rattle.pen.specs.Sheet.{forward}
use Prim.Native.Nat.{ℕ}
use mathlib.Core.Path.{sym, ap, ◌∙◌}
use Rattle.pen.proofs.Lay.{leaf, forward_two}
use borrow.Author.Rules.{rules}
use Rattle.pen.proofs.Pen.write_two.Goals as goal

pub returns : goal.returns
returns c =
    leaf _ (search rules) c.lay_two.ensures
    (c.forward-2.ensures ∙ ap (forward (length c.args.back.now)) c.forward.ensures ∙ forward_two (length c.args.front.now) (length c.args.back.now) c.args.self
    ∙ ap (λ (n : ℕ). forward n c.args.self) (sym (length-append c.args.front.now c.args.back.now)))
