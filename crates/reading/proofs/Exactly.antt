-- `Same` is exactly "equal texts": two calls that are not refused, under the same settings, hand back equal bytes where their expressions are the same, sound or not; and where they are sound
-- and printed with spaces around operators or where they are needed, equal bytes tell that they are (demand 3, told_apart). Assumes nothing.
use mathlib.Core.Path.{◌≡◌, refl, sym, ap, ◌∙◌}
use mathlib.Core.List.{List}
use Prim.Native.Nat.{ℕ}
use Rattle.settings.specs.Settings.{settings_of}
use Rattle.settings.specs.State.{fresh}
use Rattle.text.specs.Pen.{text}
use Rattle.text.specs.Text.{show_expr}
use Rattle.text.specs.Whole.{expr_text}
use Rattle.grammar.specs.Same.{Same}
use Rattle.grammar.proofs.Alike.{same_text}
use Rattle.reading.specs.Call.{ExprCall}
use Rattle.reading.specs.Demand3.{recorded, ApartAndSound}
use Rattle.reading.proofs.Passed.{text_written}
use Rattle.reading.proofs.Demand3.{in_glsl}

-- what is handed back, by the settings and the expression
written_by : (c : ExprCall) (settings : List ℕ) → c.settings ≡ settings → c.written ≡ text (settings_of settings) (show_expr (recorded c)) fresh
unfolding expr_text
written_by c settings e = text_written c ∙ ap (λ (bytes : List ℕ). text (settings_of bytes) (show_expr (recorded c)) fresh) e

pub same_written : (c d : ExprCall) → c.settings ≡ d.settings → Same (recorded c) (recorded d) → c.written ≡ d.written
same_written c d e same = written_by c d.settings e ∙ same_text (recorded c) (recorded d) same (settings_of d.settings) fresh ∙ sym (written_by d d.settings refl)

pub exactly : (c d : ExprCall) → ApartAndSound c → ApartAndSound d → c.settings ≡ d.settings → (Same (recorded c) (recorded d) → c.written ≡ d.written) × (c.written ≡ d.written → Same (recorded c) (recorded d))
exactly c d h k e = (same_written c d e, in_glsl.told_apart c d h k)
