-- Settings of 21 bytes print what they print with a 0 behind them (02, #106: 21 bytes mean 0). Assumes nothing.
use mathlib.Core.Path.{◌≡◌, refl}
use mathlib.Core.List.{List, [], ◌∷◌, ◌++◌}
use Prim.Native.Nat.{ℕ}
use lib.ListN.{length}
use Rattle.settings.specs.Settings.{fewest_bytes}
use Rattle.settings.proofs.Shorter.{settings_same, read_same}
use Rattle.text.specs.Whole.{unit_text, expr_text}
use Rattle.draft.specs.declared.Root.{Root}
use Rattle.glsl.specs.Root.{root_text, print_outcome}

pub same_text : (root : Root) (settings records names : List ℕ) → root_text root (settings ++ 0 ∷ []) records names ≡ root_text root settings records names
unfolding unit_text expr_text
same_text Root.Unit settings records names = rw (settings_same settings) refl
same_text Root.Expr settings records names = rw (settings_same settings) refl

-- so what the calls promise is the same: the answer, and by it and the text every byte of the room and the part that is handed back
pub same_outcome : (root : Root) (settings records names room : List ℕ) → length settings ≡ fewest_bytes → print_outcome root (settings ++ 0 ∷ []) records names room ≡ print_outcome root settings records names room
same_outcome root settings records names room h = rw (read_same settings h, same_text root settings records names) refl
