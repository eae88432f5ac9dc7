-- The print of a unit or an expression: accepted settings and records never make its pen stop, its text is the definition's, and its numbers are small. Assumes
-- nothing.
use Rattle.std.specs.Prelude.{Some, Ok}
use mathlib.Core.Path.{◌≡◌, refl, sym, ap, subst, ◌∙◌}
use mathlib.Core.List.{List}
use Prim.Native.Nat.{ℕ, ◌<◌, ◌≤◌, ◌^◌}
use native.Mathlib.Omega.{arith}
use lib.ListN.{length, get_or}
use Rattle.settings.specs.declared.Settings.{Settings}
use Rattle.settings.specs.Settings.{read_settings, settings_of, widest_indent}
use Rattle.settings.specs.State.{fresh}
use Rattle.settings.proofs.Read.{read_is}
use Rattle.accept.specs.Check.{check}
use Rattle.checks.proofs.Small.{place_small}
use Rattle.text.specs.Pen.{text}
use Rattle.text.specs.Whole.{unit_text, expr_text}
use Rattle.pen.specs.Free.{Free}
use Rattle.bounded.proofs.Narrow.{narrow_read}
use Rattle.bounded.proofs.Free.{unit_free, expr_free}
use Rattle.draft.specs.declared.Root.{Root}
use Rattle.draft.specs.Root.{root_commands, start}
use Rattle.glsl.specs.Root.{root_class, root_text, value, print_outcome}
use Rattle.glsl.proofs.Outcome.{outcome_small}

-- the text by the settings that the bytes say
text_by : (root : Root) (settings records names : List ℕ) → text (settings_of settings) (root_commands root (settings_of settings) records names) fresh ≡ root_text root settings records names
unfolding unit_text expr_text
text_by Root.Unit settings records names = refl
text_by Root.Expr settings records names = refl

free : (root : Root) (records names : List ℕ) → ((p : ℕ) → get_or records p 0 < 256) → (m : ℕ) (s : Settings) → s.count ≤ widest_indent → check records names (root_class root) ≡ Ok m
    → Free s (root_commands root s records names) start
free Root.Unit records names byte m s narrow e = unit_free records names byte m s narrow e s.collapse_single_item_compound_statements start refl refl
free Root.Expr records names byte m s narrow e = expr_free records names byte m s narrow e start refl refl

module _ (root : Root) (settings records names : List ℕ) (s : Settings) (read : read_settings settings ≡ Some s) where
  pub root_text_lem : text s (root_commands root s records names) fresh ≡ root_text root settings records names
  root_text_lem = ap (λ (x : Settings). text x (root_commands root x records names) fresh) (sym (read_is settings s read).1) ∙ text_by root settings records names

  module _ (m : ℕ) (checked : check records names (root_class root) ≡ Ok m) (byte : (p : ℕ) → get_or records p 0 < 256) where
    pub never_stops : Free s (root_commands root s records names) start
    never_stops = free root records names byte m s (narrow_read settings s read) checked

    short : length (root_text root settings records names) < 2 ^ 32
    short = let h = never_stops.place in subst (λ (t : List ℕ). length t < 2 ^ 32) root_text_lem (omega arith)

pub small : (root : Root) (settings records names room : List ℕ) (byte : (p : ℕ) → get_or records p 0 < 256) → value (print_outcome root settings records names room) < 2 ^ 32
small root settings records names room byte =
    outcome_small (read_settings settings) (check records names (root_class root)) (root_text root settings records names) room (place_small records names (root_class root))
    (λ s m e f. short root settings records names s e m f byte)
