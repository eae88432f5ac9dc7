-- Of accepted records: the text is split by longest match into its tokens exactly where the needed spaces are there, or none is needed (02, #107), for expressions and for units, under any settings; and which
-- joined records need one. Assumes nothing.
use mathlib.Core.Path.{◌≡◌, refl, sym, ap, ◌∙◌}
use mathlib.Core.Bool.{Bool, true, false, not, ◌&&◌, and-false}
use mathlib.Core.List.{List, []}
use Prim.Native.Nat.{ℕ, zero, suc, ◌+◌, ◌<◌}
use lib.Dec.{eqb}
use lib.ListN.{get_or}
use Rattle.records.specs.Record.{record_at, record_count}
use Rattle.shapes.specs.Class.{Class}
use Rattle.std.specs.Prelude.{Ok}
use Rattle.accept.specs.Check.{check}
use Rattle.settings.specs.declared.Settings.{Settings}
use Rattle.settings.specs.Settings.{settings_of}
use Rattle.settings.specs.State.{fresh}
use Rattle.text.specs.Tree.{Expr, TranslationUnit}
use Rattle.text.specs.Reading.{expr, unit, from}
use Rattle.text.specs.Whole.{unit_commands, expr_commands, unit_text, expr_text, unit_tokens, expr_tokens}
use Rattle.text.specs.Reading.{Item}
use Rattle.records.specs.declared.Record.{Record}
use Rattle.text.specs.Joined.{joins_here, somewhere, joined_answer}
use Rattle.formed.specs.Formed.{FormedExpr, FormedUnit}
use Rattle.formed.proofs.Formed.{unit_formed, unit_size, expr_formed, expr_size}
use Rattle.lexis.specs.Glsl.{glsl_word, any, Splits}
use Rattle.lexis.proofs.Exact.{exact}
use Rattle.lexis.proofs.Tests.{both, either, or_left, or_right, and_both}
use Rattle.division.specs.Needed.{needs_here, needs_space}
use Rattle.division.proofs.Kept.{Kept}
use Rattle.division.proofs.Divided.{divided}
use Rattle.division.proofs.Units.{unit_divided}
use Rattle.division.proofs.Admitted.{admits}
use Rattle.division.proofs.Cut.{whole_cut}
use Rattle.division.proofs.Told.{tells}
use Rattle.division.proofs.UnitsTold.{tells_unit}
use Rattle.division.proofs.Records.{unit_kept, unit_spaced, expr_kept, expr_spaced}

-- where one place has it that has the other, a place somewhere does
somewhere_wider : (f g : Record → List Item → Bool) → ((r : Record) (L : List Item) → f r L ≡ true → g r L ≡ true) → (n : ℕ) (rs ns : List ℕ) (i : ℕ) → somewhere f n rs ns i ≡ true → somewhere g n rs ns i ≡ true
unfolding somewhere
somewhere_wider f g h zero rs ns i e = e
somewhere_wider f g h (suc n) rs ns i e =
    let r = record_at rs i in
    let L = from rs ns (i + 1) in
    either (f r L) (somewhere f n rs ns (i + 1)) e (λ k. or_left (g r L) (somewhere g n rs ns (i + 1)) (h r L k)) (λ k. or_right (g r L) (somewhere g n rs ns (i + 1)) (somewhere_wider f g h n rs ns (i + 1) k))

-- only what is joined needs a space, and where none stand around operators all of it does
pub needs_joined : (s : Settings) (rs ns : List ℕ) → needs_space s rs ns ≡ true → joined_answer rs ns ≡ true
unfolding needs_space joined_answer
needs_joined s rs ns = somewhere_wider (needs_here s) joins_here (λ r L e. (both (joins_here r L) (not (eqb r.kind 8 && s.spaces_around_binary_ops)) e).0) (record_count rs) rs ns 0

pub joined_needs : (s : Settings) (rs ns : List ℕ) → s.spaces_around_binary_ops ≡ false → joined_answer rs ns ≡ true → needs_space s rs ns ≡ true
unfolding needs_space joined_answer
joined_needs s rs ns off =
    somewhere_wider joins_here (needs_here s) (λ r L e. and_both (joins_here r L) (not (eqb r.kind 8 && s.spaces_around_binary_ops)) e (rw (off, and-false (eqb r.kind 8)) refl)) (record_count rs) rs ns 0

module _ (settings rs ns : List ℕ) (byte : (p : ℕ) → get_or rs p 0 < 256) (m : ℕ) where
  abbrev pub s : Settings
  s = settings_of settings

  -- where a space is needed, it is there
  abbrev pub Spaced : Type 0
  Spaced = needs_space s rs ns ≡ true → s.spaces_where_needed ≡ true

  -- all records belong to what was read
  asked_of : (n : ℕ) → n ≡ record_count rs → somewhere (needs_here s) n rs ns 0 ≡ needs_space s rs ns
  unfolding needs_space
  asked_of n e = ap (λ (k : ℕ). somewhere (needs_here s) k rs ns 0) e

  module _ (accepted : check rs ns Class.expr ≡ Ok m) where
    abbrev pub e : Expr
    e = (expr (from rs ns 0)).tree

    formed : FormedExpr e
    formed = expr_formed rs ns byte m accepted

    asked : somewhere (needs_here s) (expr (from rs ns 0)).size rs ns 0 ≡ needs_space s rs ns
    asked = asked_of (expr (from rs ns 0)).size (expr_size rs ns byte m accepted)

    pub places_kept : Spaced → Kept false any s e
    places_kept h = expr_kept s rs ns (λ j. h (sym asked ∙ j))

    pub expr_split : Spaced → Splits glsl_word (expr_text settings rs ns) (expr_tokens rs ns)
    unfolding expr_text
    expr_split h = divided false any (exact any) (admits any) s e formed (places_kept h) fresh

    pub expr_told : Splits glsl_word (expr_text settings rs ns) (expr_tokens rs ns) → Spaced
    unfolding expr_text
    expr_told d j = expr_spaced s rs ns ((tells s e formed).told fresh [] (whole_cut s (expr_commands rs ns) fresh d)) (asked ∙ j)

  module _ (accepted : check rs ns Class.unit ≡ Ok m) where
    abbrev collapse : Bool
    collapse = s.collapse_single_item_compound_statements

    abbrev u : TranslationUnit
    u = (unit (from rs ns 0)).tree

    unit_is_formed : FormedUnit u
    unit_is_formed = unit_formed rs ns byte m accepted

    asked_unit : somewhere (needs_here s) (unit (from rs ns 0)).size rs ns 0 ≡ needs_space s rs ns
    asked_unit = asked_of (unit (from rs ns 0)).size (unit_size rs ns byte m accepted)

    pub unit_split : Spaced → Splits glsl_word (unit_text settings rs ns) (unit_tokens collapse rs ns)
    unfolding unit_text
    unit_split h = unit_divided false any (exact any) (admits any) s collapse u unit_is_formed (unit_kept s rs ns (λ j. h (sym asked_unit ∙ j))) fresh

    pub unit_told : Splits glsl_word (unit_text settings rs ns) (unit_tokens collapse rs ns) → Spaced
    unfolding unit_text
    unit_told d j = unit_spaced s rs ns ((tells_unit s collapse u unit_is_formed).told fresh [] (whole_cut s (unit_commands collapse rs ns) fresh d)) (asked_unit ∙ j)
