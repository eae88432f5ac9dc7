-- Settings are only layout (02, #107's first half). Assumes nothing.
use mathlib.Core.Path.{◌≡◌, refl, sym, ap, ◌∙◌}
use mathlib.Core.Bool.{Bool, true, false, ◌&&◌, cond}
use mathlib.Core.List.{List, [], ◌∷◌, ◌++◌, append_assoc, append-nil}
use Prim.Native.Nat.{ℕ, zero, suc, ◌*◌}
use Prim.Native.Char.{code}
use lib.ListN.{replicate}
use Rattle.words.specs.Bytes.{bytes}
use Rattle.settings.specs.declared.Settings.{Settings}
use Rattle.settings.specs.declared.FormattingState.{FormattingState}
use Rattle.settings.specs.declared.IndentStyle.{IndentStyle}
use Rattle.settings.specs.declared.IndentStyle.TheVariants as Indent
use Rattle.settings.specs.declared.Whitespace.{Whitespace}
use Rattle.settings.specs.declared.Whitespace.TheVariants as White
use Rattle.settings.specs.Settings.{settings_of}
use Rattle.settings.specs.State.{fresh}
use Rattle.text.specs.Token.{Token, spell}
use Rattle.text.specs.Asked.{flag, gap}
use Rattle.text.specs.Command.{Command}
use Rattle.text.specs.Command.Command.{token, space, space_if, space_at_body_if, newline_if, whitespace, write_indent, write_line, flush_line, flush_space, consume_newline, indent, dedent, enter_function_definition_statement, consume_function_definition_statement}
use Rattle.text.specs.Pen.{indentation, indent_of, line_of, whitespace_text, written, after, text}
use Rattle.text.specs.Visible.{token_of, tokens_of, spelled, blank, visible}
use Rattle.text.specs.Text.{show_expr, show_translation_unit}
use Rattle.text.specs.Reading.{expr, unit, from}
use Rattle.text.specs.Whole.{unit_text, expr_text}

visible_cons : (p : Bool) (b : ℕ) (xs ys : List ℕ) → cond p (xs ++ ys) (b ∷ (xs ++ ys)) ≡ cond p xs (b ∷ xs) ++ ys
visible_cons true b xs ys = refl
visible_cons false b xs ys = refl

pub visible_append : (xs ys : List ℕ) → visible (xs ++ ys) ≡ visible xs ++ visible ys
unfolding visible
visible_append [] ys = refl
visible_append (b ∷ xs) ys = ap (λ (v : List ℕ). cond (blank b) v (b ∷ v)) (visible_append xs ys) ∙ visible_cons (blank b) b (visible xs) (visible ys)

-- blanks over and over are blanks
run_blank : (b n : ℕ) → visible (b ∷ []) ≡ [] → visible (replicate n b) ≡ []
unfolding visible
run_blank b zero e = refl
run_blank b (suc n) e = visible_append (b ∷ []) (replicate n b) ∙ ap (λ (v : List ℕ). v ++ visible (replicate n b)) e ∙ run_blank b n e

indentation_blank : (s : IndentStyle) (n l : ℕ) → visible (indentation s n l) ≡ []
unfolding visible
indentation_blank Indent.None n l = refl
indentation_blank Indent.Tabs n l = run_blank (code "\t") (n * l) refl
indentation_blank Indent.Spaces n l = run_blank (code " ") (n * l) refl

indent_blank : (s : Settings) (x : FormattingState) → visible (indent_of s x) ≡ []
unfolding indent_of
indent_blank s x = indentation_blank s.indent_style s.count _

line_blank : (s : Settings) (x : FormattingState) → visible (line_of s x) ≡ []
unfolding line_of visible
line_blank s x = indent_blank s x

whitespace_blank : (w : Whitespace) → visible (whitespace_text w) ≡ []
unfolding visible
whitespace_blank White.None = refl
whitespace_blank White.Space = refl
whitespace_blank White.Newline = refl

cond_blank : (p : Bool) (bs : List ℕ) → visible bs ≡ [] → visible (cond p bs []) ≡ []
unfolding visible
cond_blank true bs e = e
cond_blank false bs e = refl

-- what a command writes, but for blanks, is its token
pub written_token : (s : Settings) (c : Command) (x : FormattingState) → visible (written s c x) ≡ visible (spelled (token_of c))
unfolding written visible spelled
written_token s (token t) x = ap visible (sym (append-nil (spell t)))
written_token s space x = refl
written_token s (space_if f) x = cond_blank (flag s f) (bytes " ") refl
written_token s (space_at_body_if f) x = cond_blank (flag s f && x.in_function_definition_statement) (bytes " ") refl
written_token s (newline_if f) x = refl
written_token s (whitespace g) x = whitespace_blank (gap s g)
written_token s write_indent x = indent_blank s x
written_token s write_line x = line_blank s x
written_token s flush_line x = cond_blank x.new_line_pending (line_of s x) (line_blank s x)
written_token s flush_space x = cond_blank x.new_line_pending (bytes " ") refl
written_token s consume_newline x = refl
written_token s indent x = refl
written_token s dedent x = refl
written_token s enter_function_definition_statement x = refl
written_token s consume_function_definition_statement x = refl

spelled_append : (ts us : List Token) → spelled (ts ++ us) ≡ spelled ts ++ spelled us
unfolding spelled
spelled_append [] us = refl
spelled_append (t ∷ ts) us = ap (λ (v : List ℕ). spell t ++ v) (spelled_append ts us) ∙ sym (append_assoc (spell t) (spelled ts) (spelled us))

-- the text without its blanks is the tokens without theirs, whatever the settings and the state
pub text_tokens : (s : Settings) (cs : List Command) (x : FormattingState) → visible (text s cs x) ≡ visible (spelled (tokens_of cs))
unfolding text visible spelled tokens_of
text_tokens s [] x = refl
text_tokens s (c ∷ cs) x =
    visible_append (written s c x) (text s cs (after s c x))
    ∙ ap (λ (v : List ℕ). v ++ visible (text s cs (after s c x))) (written_token s c x)
    ∙ ap (λ (v : List ℕ). visible (spelled (token_of c)) ++ v) (text_tokens s cs (after s c x))
    ∙ sym (visible_append (spelled (token_of c)) (spelled (tokens_of cs)))
    ∙ ap visible (sym (spelled_append (token_of c) (tokens_of cs)))

abbrev collapse_of : List ℕ → Bool
collapse_of s = (settings_of s).collapse_single_item_compound_statements

-- two settings that agree on collapse: the texts agree but for spaces, tabs and newlines
pub only_layout : (s t records names : List ℕ) → collapse_of s ≡ collapse_of t → visible (unit_text s records names) ≡ visible (unit_text t records names)
unfolding unit_text
only_layout s t records names e =
    text_tokens (settings_of s) (show_translation_unit (collapse_of s) (unit (from records names 0)).tree) fresh
    ∙ ap (λ (c : Bool). visible (spelled (tokens_of (show_translation_unit c (unit (from records names 0)).tree)))) e
    ∙ sym (text_tokens (settings_of t) (show_translation_unit (collapse_of t) (unit (from records names 0)).tree) fresh)

pub only_layout_expr : (s t records names : List ℕ) → visible (expr_text s records names) ≡ visible (expr_text t records names)
unfolding expr_text
only_layout_expr s t records names =
    text_tokens (settings_of s) (show_expr (expr (from records names 0)).tree) fresh
    ∙ sym (text_tokens (settings_of t) (show_expr (expr (from records names 0)).tree) fresh)
