-- `write_digits` meets its contract. Assumes nothing.
use Rattle.pen.specs.Sheet.{forward}
use Rattle.decimal.specs.Decimal.{decimal}
use lib.ListN.{length, length-append}
use Prim.Native.Nat.{ℕ}
use mathlib.Core.Path.{sym, ap, ◌∙◌}
use Rattle.pen.proofs.Lay.{leaf, forward_two}
use borrow.Author.Rules.{rules}
use Rattle.pen.proofs.Pen.write_digits.Goals as goal

pub returns : goal.returns
returns c =
    leaf _ (search rules) c.lay_number.ensures
    (c.forward-2.ensures
    ∙ ap (forward (length c.args.suffix.now)) (c.forward.ensures ∙ ap (λ (n : ℕ). forward n c.args.self) c.width.ensures.0)
    ∙ forward_two (length (decimal c.args.n)) (length c.args.suffix.now) c.args.self
    ∙ ap (λ (n : ℕ). forward n c.args.self) (sym (length-append (decimal c.args.n) c.args.suffix.now)))
