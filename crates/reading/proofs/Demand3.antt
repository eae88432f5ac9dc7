-- Demand 3 holds. Assumes nothing.
use mathlib.Core.Path.{refl, sym, subst}
use mathlib.Core.Bool.{Bool, false}
use mathlib.Core.List.{List}
use Prim.Native.Nat.{ℕ}
use Rattle.settings.specs.declared.Settings.{Settings}
use Rattle.settings.specs.declared.FormattingState.{FormattingState}
use Rattle.settings.specs.Settings.{settings_of}
use Rattle.settings.specs.State.{fresh}
use Rattle.text.specs.Pen.{text}
use Rattle.text.specs.Tree.{Expr}
use Rattle.text.specs.Text.{show_expr}
use Rattle.text.specs.Visible.{tokens_of}
use Rattle.text.specs.Whole.{expr_text}
use Rattle.formed.specs.Formed.{FormedExpr}
use Rattle.formed.proofs.Formed.{expr_formed}
use Rattle.text.specs.Token.{Token}
use Rattle.grammar.specs.Chapter9.{Derives}
use Rattle.grammar.specs.Chapter9.{Nonterminal}
use Rattle.grammar.specs.Chapter9.Value.{expr}
use Rattle.grammar.specs.Same.{Same}
use Rattle.grammar.proofs.Agree.{one_reading}
use Rattle.lexis.specs.Keywords.{listed}
use Rattle.lexis.specs.Glsl.{glsl_word, unlisted, any}
use Rattle.lexis.specs.Preprocessing.{preprocessing_word, Between}
use Rattle.lexis.proofs.Glsl.{vocabulary, glsl_between, preprocessing_between}
use Rattle.lexis.proofs.One.{one_division}
use Rattle.sound.specs.Sound.{Sound}
use Rattle.sound.proofs.Derived.{derived}
use Rattle.division.proofs.Kept.{Kept}
use Rattle.sound.proofs.SoundKept.{sound_kept}
use Rattle.sound.proofs.Glsl.{sound_divided}
use Rattle.sound.proofs.Relaxed.{relaxed}
use Rattle.reading.specs.Read.{IsRead}
use Rattle.reading.specs.Call.{ExprCall}
use Rattle.reading.specs.Demand3.{recorded, SpacedAndSound, ApartAndSound, ReadBack, Demand3, Demand3Of00}
use Rattle.reading.proofs.Passed.{records_accepted, text_written}

-- what a text is read as is one expression, for any vocabulary
pub one_expression : {W : List ℕ → Bool} {bs : List ℕ} {a b : Expr} → Between W → IsRead W bs a → IsRead W bs b → Same a b
one_expression {W = W} {a = a} {b = b} between r q =
    one_reading q.tokens a b (subst (λ (ts : List Token). Derives Nonterminal.expression ts (expr a)) (one_division (vocabulary unlisted W between) r.divided q.divided refl) r.derived) q.derived

-- what is asked of a call: its expression is sound, with or without the conditions that fall away where spaces are kept, and every place of the joined rule has its space
pub record Placed (c : ExprCall) : Type 0 where
  pub kept : Bool
  pub sound : Sound listed kept (recorded c)
  pub places : Kept false any (settings_of c.settings) (recorded c)

module _ (W : List ℕ → Bool) (between : Between W) where
  -- of trees
  pub tree_read : (s : Settings) (kept : Bool) (e : Expr) → FormedExpr e → Sound listed kept e → Kept false any s e → (x : FormattingState) → IsRead W (text s (show_expr e) x) e
  tree_read s kept e f t k x = record { tokens = tokens_of (show_expr e); divided = sound_divided W between s kept e f t k x; derived = derived listed kept e t }

  call_read : (c : ExprCall) → Placed c → IsRead W c.written (recorded c)
  unfolding expr_text
  call_read c h =
      let accepted = records_accepted c in
      subst (λ (bs : List ℕ). IsRead W bs (recorded c)) (sym (text_written c))
      (tree_read (settings_of c.settings) h.kept (recorded c) (expr_formed c.records c.names c.lent accepted.0 accepted.1) h.sound h.places fresh)

  -- whatever calls are covered, if that much is known of each
  pub read_back : {Covers : ExprCall → Type 0} → ((c : ExprCall) → Covers c → Placed c) → ReadBack W Covers
  read_back placed = record {
    read_as = λ c h. call_read c (placed c h);
    read_only_as = λ c h e r. one_expression between r (call_read c (placed c h));
    told_apart = λ c d h k e. one_expression between (subst (λ (bs : List ℕ). IsRead W bs (recorded c)) e (call_read c (placed c h))) (call_read d (placed d k));
    unambiguous = λ bytes a b r q. one_expression between r q;
  }

-- settings that keep tokens apart (02, #106)
pub apart_placed : (c : ExprCall) → ApartAndSound c → Placed c
apart_placed c h = record { kept = (settings_of c.settings).spaces_where_needed; sound = h.sound; places = sound_kept listed (settings_of c.settings) h.apart (recorded c) h.sound }

pub holds : (W : List ℕ → Bool) → Between W → Demand3 W
holds W between = read_back W between apart_placed

-- what 00 covers is covered since #106 too, whatever byte 21 is: at 1 only conditions fall away
pub covered : (c : ExprCall) → SpacedAndSound c → ApartAndSound c
covered c h = record { apart = rw h.spaced refl; sound = relaxed listed (settings_of c.settings).spaces_where_needed (recorded c) h.sound }

-- so demand 3 holds as 00 has it
pub with_operator_spaces : {W : List ℕ → Bool} → Between W → Demand3Of00 W
with_operator_spaces {W = W} between = read_back W between (λ c h. apart_placed c (covered c h))

-- by GLSL's own words, and by the preprocessor's
pub in_glsl : Demand3 glsl_word
in_glsl = holds glsl_word glsl_between

pub in_preprocessor : Demand3 preprocessing_word
in_preprocessor = holds preprocessing_word preprocessing_between
