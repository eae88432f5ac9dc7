-- What it tells of a list of commands that its text is split into its tokens: each token is a longest word before what stands behind it (`Cut`). The converse of proofs/Parts, and for any commands: nothing is asked
-- of the tokens. Assumes nothing.
use mathlib.Core.Path.{◌≡◌, refl, ap, subst, ◌∙◌}
use mathlib.Core.Bool.{Bool, true, false}
use mathlib.Core.List.{List, [], ◌∷◌, ◌++◌, append_assoc, append-nil}
use Prim.Native.Nat.{ℕ}
use Rattle.settings.specs.declared.Settings.{Settings}
use Rattle.settings.specs.declared.FormattingState.{FormattingState}
use Rattle.text.specs.Token.{Token, spell}
use Rattle.text.specs.Asked.{Flag}
use Rattle.text.specs.Command.{Command}
use Rattle.text.specs.Command.Command.{token, space, space_if, space_at_body_if, newline_if, whitespace, write_indent, write_line, flush_line, flush_space, consume_newline, indent, dedent, enter_function_definition_statement, consume_function_definition_statement}
use Rattle.text.specs.Pen.{written, after, text, after_all}
use Rattle.text.specs.Text.{a_symbol, bare_if, apart}
use Rattle.words.specs.Symbol.Symbol.{left_paren, right_paren}
use Rattle.text.specs.Visible.{token_of, tokens_of, visible}
use Rattle.text.proofs.Append.{text_append}
use Rattle.formed.specs.Formed.{Each}
use Rattle.lexis.specs.Division.{Longest}
use Rattle.lexis.specs.Glsl.{glsl_word, Splits}
use Rattle.lexis.proofs.Front.{skipped_out, taken_out}
use Rattle.lexis.proofs.Glsl.{glsl_between}
use Rattle.division.proofs.Blank.{silent_blank, first_blank, blank_white}

-- blanks are skipped
blanks_out : {ts : List Token} (ws bs : List ℕ) → visible ws ≡ [] → Splits glsl_word (ws ++ bs) ts → Splits glsl_word bs ts
blanks_out [] bs h d = d
blanks_out (b ∷ ws) bs h d = let a = first_blank b ws h in blanks_out ws bs a.1 (skipped_out glsl_between b (blank_white b a.0) d refl)

-- a command is a token, or has none
by_token : (P : Command → Type 0) → ((t : Token) → P (token t)) → ((c : Command) → token_of c ≡ [] → P c) → (c : Command) → P c
by_token P f g (token t) = f t
by_token P f g space = g space refl
by_token P f g (space_if k) = g (space_if k) refl
by_token P f g (space_at_body_if k) = g (space_at_body_if k) refl
by_token P f g (newline_if k) = g (newline_if k) refl
by_token P f g (whitespace k) = g (whitespace k) refl
by_token P f g write_indent = g write_indent refl
by_token P f g write_line = g write_line refl
by_token P f g flush_line = g flush_line refl
by_token P f g flush_space = g flush_space refl
by_token P f g consume_newline = g consume_newline refl
by_token P f g indent = g indent refl
by_token P f g dedent = g dedent refl
by_token P f g enter_function_definition_statement = g enter_function_definition_statement refl
by_token P f g consume_function_definition_statement = g consume_function_definition_statement refl

module _ (s : Settings) where
  -- every token is a longest word before the text behind it, with `rest` at the end
  abbrev pub Cut : List Command → FormattingState → (rest : List ℕ) → Type 0
  Cut [] x rest = Unit
  Cut (c ∷ cs) x rest = Each (λ t. Longest glsl_word (spell t) (text s cs (after s c x) ++ rest)) (token_of c) × Cut cs (after s c x) rest

  token_cut : (t : Token) (cs : List Command) (x : FormattingState) (rest : List ℕ) (us : List Token) → (Splits glsl_word (text s cs x ++ rest) us → Cut cs x rest) → Splits glsl_word (text s (token t ∷ cs) x ++ rest) (t ∷ us) → Cut (token t ∷ cs) x rest
  unfolding text written after Each
  token_cut t cs x rest us more d = let a = taken_out glsl_between t d refl (append_assoc (spell t) (text s cs x) rest) in ((a.0, tt), more a.1)

  blank_cut : (c : Command) (cs : List Command) (x : FormattingState) (rest : List ℕ) (us : List Token) → token_of c ≡ [] → (Splits glsl_word (text s cs (after s c x) ++ rest) us → Cut cs (after s c x) rest)
      → Splits glsl_word (text s (c ∷ cs) x ++ rest) us → Cut (c ∷ cs) x rest
  unfolding text Each
  blank_cut c cs x rest us e more d =
      (rw e tt, more (blanks_out (written s c x) (text s cs (after s c x) ++ rest) (silent_blank s c e x) (subst (λ (bs : List ℕ). Splits glsl_word bs us) (append_assoc (written s c x) (text s cs (after s c x)) rest) d)))

  split_cut : (cs : List Command) (x : FormattingState) (rest : List ℕ) (us : List Token) → Splits glsl_word (text s cs x ++ rest) (tokens_of cs ++ us) → Cut cs x rest
  unfolding text tokens_of
  split_cut [] x rest us d = tt
  split_cut (c ∷ cs) x rest us d =
      by_token (λ c. Splits glsl_word (text s (c ∷ cs) x ++ rest) (tokens_of (c ∷ cs) ++ us) → Cut (c ∷ cs) x rest)
      (λ t. token_cut t cs x rest (tokens_of cs ++ us) (split_cut cs x rest us))
      (λ c e d. blank_cut c cs x rest (tokens_of cs ++ us) e (split_cut cs (after s c x) rest us) (subst (λ (ts : List Token). Splits glsl_word (text s (c ∷ cs) x ++ rest) (ts ++ tokens_of cs ++ us)) e d)) c d

  -- a text that is split whole
  pub whole_cut : (cs : List Command) (x : FormattingState) → Splits glsl_word (text s cs x) (tokens_of cs) → Cut cs x []
  whole_cut cs x d = split_cut cs x [] [] (rw (append-nil (text s cs x), append-nil (tokens_of cs)) d)

  -- two lists, one behind the other

  behind_text : (cs ds : List Command) (x : FormattingState) (rest : List ℕ) → text s (cs ++ ds) x ++ rest ≡ text s cs x ++ (text s ds (after_all s cs x) ++ rest)
  behind_text cs ds x rest = ap (λ (bs : List ℕ). bs ++ rest) (text_append s cs ds x) ∙ append_assoc (text s cs x) (text s ds (after_all s cs x)) rest

  cut_before : (cs ds : List Command) (x : FormattingState) (rest : List ℕ) → Cut (cs ++ ds) x rest → Cut cs x (text s ds (after_all s cs x) ++ rest)
  unfolding after_all
  cut_before [] ds x rest a = tt
  cut_before (c ∷ cs) ds x rest a =
      (subst (λ (bs : List ℕ). Each (λ t. Longest glsl_word (spell t) bs) (token_of c)) (behind_text cs ds (after s c x) rest) a.0, cut_before cs ds (after s c x) rest a.1)

  cut_behind : (cs ds : List Command) (x : FormattingState) (rest : List ℕ) → Cut (cs ++ ds) x rest → Cut ds (after_all s cs x) rest
  unfolding after_all
  cut_behind [] ds x rest a = a
  cut_behind (c ∷ cs) ds x rest a = cut_behind cs ds (after s c x) rest a.1

  -- what commands tell, wherever they stand in a text that is cut into its tokens
  pub record Tells (cs : List Command) (K : Type 0) : Type 0 where
    pub told : (x : FormattingState) (rest : List ℕ) → Cut cs x rest → K

module _ {s : Settings} where
  pub always : {cs : List Command} {K : Type 0} → K → Tells s cs K
  always k = record { told = λ x rest a. k }

  pub so_told : {cs : List Command} {K M : Type 0} → (K → M) → Tells s cs K → Tells s cs M
  so_told f t = record { told = λ x rest a. f (t.told x rest a) }

  -- the first of two lists, the second of them, both
  pub first_told : {cs : List Command} {K : Type 0} → Tells s cs K → (ds : List Command) → Tells s (cs ++ ds) K
  first_told {cs = cs} t ds = record { told = λ x rest a. t.told x (text s ds (after_all s cs x) ++ rest) (cut_before s cs ds x rest a) }

  pub last_told : {ds : List Command} {K : Type 0} (cs : List Command) → Tells s ds K → Tells s (cs ++ ds) K
  last_told {ds = ds} cs t = record { told = λ x rest a. t.told (after_all s cs x) rest (cut_behind s cs ds x rest a) }

  infixl 20 ◌also◌
  pub ◌also◌ : {cs ds : List Command} {K M : Type 0} → Tells s cs K → Tells s ds M → Tells s (cs ++ ds) (K × M)
  ◌also◌ {cs = cs} {ds = ds} t u = record { told = λ x rest a. ((first_told t ds).told x rest a, (last_told cs u).told x rest a) }

  -- behind one command
  pub past : {c : Command} {cs : List Command} {K : Type 0} → Tells s cs K → Tells s (c ∷ cs) K
  past {c = c} t = record { told = λ x rest a. t.told (after s c x) rest a.1 }

  pub bare_told : {cs : List Command} {K : Type 0} (bare : Bool) → Tells s cs K → Tells s (bare_if bare cs) K
  bare_told true t = t
  bare_told false t = first_told (last_told (a_symbol left_paren) t) (a_symbol right_paren)

  pub apart_told : {cs : List Command} {K : Type 0} (joined : Bool) (f : Flag) → Tells s cs K → Tells s (apart joined f cs) K
  apart_told true f t = past t
  apart_told false f t = t
