-- The text of commands is no longer than they weigh. (It stands apart from the weights, so that a wrong weight is refused by the law that it breaks, and not for what
-- rests on that.) Assumes nothing.
use mathlib.Core.List.{List, [], ◌∷◌}
use Prim.Native.Nat.{◌+◌, ◌≤◌}
use native.Mathlib.Omega.{arith}
use lib.ListN.{length, length-append}
use Rattle.settings.specs.declared.Settings.{Settings}
use Rattle.settings.specs.declared.FormattingState.{FormattingState}
use Rattle.settings.specs.Settings.{widest_indent}
use Rattle.text.specs.Command.{Command}
use Rattle.text.specs.Pen.{written, after, text}
use Rattle.pen.specs.Free.{climbs}
use Rattle.pen.proofs.Written.{after_level}
use Rattle.bounded.proofs.Weight.{deepest_level, weighs, written_weight}

module _ (s : Settings) (narrow : s.count ≤ widest_indent) where
  pub text_weight : (cs : List Command) (st : FormattingState) → st.indentation_level + climbs cs ≤ deepest_level → length (text s cs st) ≤ weighs cs
  unfolding text weighs climbs
  text_weight [] st h = omega arith
  text_weight (c ∷ cs) st h = omega (
    arith,
    length-append (written s c st) (text s cs (after s c st)),
    written_weight s narrow c st (omega arith),
    text_weight cs (after s c st) (omega (arith, after_level s c st)),
  )
