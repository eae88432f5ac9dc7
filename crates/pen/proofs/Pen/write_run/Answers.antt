-- `write_run` meets its contract. Assumes nothing.
use Rattle.pen.specs.Sheet.{forward}
use lib.ListN.{length-replicate}
use Prim.Native.Nat.{ℕ}
use mathlib.Core.Path.{sym, ap, ◌∙◌}
use Rattle.pen.proofs.Lay.{leaf}
use borrow.Author.Rules.{rules}
use Rattle.pen.proofs.Pen.write_run.Goals as goal

pub returns : goal.returns
returns c = leaf _ (search rules) c.lay_run.ensures (c.forward.ensures ∙ ap (λ (n : ℕ). forward n c.args.self) (sym (length-replicate c.args.n c.args.byte)))
