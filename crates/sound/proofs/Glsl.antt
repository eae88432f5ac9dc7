-- The text of a sound expression is divided into its tokens, where every place of the joined rule has its space (proofs/SoundKept): its names are none that GLSL lists. Assumes nothing.
use mathlib.Core.Bool.{Bool, true, false}
use mathlib.Core.List.{List}
use Prim.Native.Nat.{ℕ}
use Rattle.settings.specs.declared.Settings.{Settings}
use Rattle.settings.specs.declared.FormattingState.{FormattingState}
use Rattle.text.specs.Pen.{text}
use Rattle.text.specs.Tree.{Expr}
use Rattle.text.specs.Text.{show_expr}
use Rattle.text.specs.Visible.{tokens_of}
use Rattle.formed.specs.Formed.{FormedExpr}
use Rattle.lexis.specs.Division.{Divides}
use Rattle.lexis.specs.Keywords.{listed}
use Rattle.lexis.specs.Glsl.{unlisted, any, Lexeme}
use Rattle.lexis.specs.Preprocessing.{Between}
use Rattle.lexis.proofs.Glsl.{spelling}
use Rattle.sound.specs.Sound.{Sound}
use Rattle.division.proofs.Kept.{Kept}
use Rattle.division.proofs.Divided.{divided}
use Rattle.division.proofs.Admitted.{admits}
use Rattle.sound.proofs.SoundKept.{widely_kept}

-- by any language between GLSL's words and the preprocessor's, where every place of the joined rule has its space: as settings that keep tokens apart put it (proofs/SoundKept), or because nothing is joined
pub sound_divided : (W : List ℕ → Bool) → Between W → (s : Settings) (kept : Bool) (e : Expr) → FormedExpr e → Sound listed kept e → Kept false any s e → (x : FormattingState)
    → Divides Lexeme W (text s (show_expr e) x) (tokens_of (show_expr e))
sound_divided W between s kept e f t k x = divided true unlisted (spelling unlisted W between) (admits unlisted) s e f (widely_kept listed kept s e t k) x
