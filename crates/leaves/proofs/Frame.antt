-- No command looks at the record that the pen stands before, or changes it. Assumes nothing.
use mathlib.Core.Path.{◌≡◌, refl, ap, ◌∙◌}
use mathlib.Core.Bool.{Bool, true, false, cond}
use mathlib.Core.List.{List, [], ◌∷◌}
use Prim.Native.Nat.{ℕ}
use Rattle.words.specs.Bytes.{bytes}
use Rattle.settings.specs.declared.Settings.{Settings}
use Rattle.settings.specs.declared.FormattingState.{FormattingState}
use Rattle.settings.specs.declared.Whitespace.{Whitespace}
use Rattle.settings.specs.declared.Whitespace.TheVariants as White
use Rattle.text.specs.Token.{spell}
use Rattle.text.specs.Asked.{gap}
use Rattle.text.specs.Command.{Command}
use Rattle.text.specs.Command.Command.{token, space, space_if, space_at_body_if, newline_if, whitespace, write_indent, write_line, flush_line, flush_space, consume_newline, indent, dedent, enter_function_definition_statement, consume_function_definition_statement}
use Rattle.text.specs.Pen.{pend, indent_of}
use Rattle.pen.specs.Sheet.{Sheet, lay}
use Rattle.pen.specs.Run.{state_of, turned, space_where, line, whiten, step, run}
use Rattle.leaves.specs.Shown.{before}

-- the same sheet before record n
abbrev pub onto : ℕ → Sheet → Sheet
onto n x = record { room = x.room; pen = before n x.pen }

module _ (n : ℕ) where
  lay_onto : (bs : List ℕ) (x : Sheet) → lay bs (onto n x) ≡ onto n (lay bs x)
  unfolding lay
  lay_onto [] x = refl
  lay_onto (b ∷ bs) x = refl

  line_onto : (s : Settings) (x : Sheet) → line s (onto n x) ≡ onto n (line s x)
  unfolding line lay
  line_onto s x = lay_onto (indent_of s (state_of x)) (lay (bytes "\n") x)

  whiten_onto : (w : Whitespace) (x : Sheet) → whiten w (onto n x) ≡ onto n (whiten w x)
  unfolding whiten
  whiten_onto White.None x = refl
  whiten_onto White.Space x = lay_onto (bytes " ") x
  whiten_onto White.Newline x = refl

  flush_onto : (b : Bool) (st : FormattingState) (x y z : Sheet) → y ≡ onto n z → cond b (turned st y) (onto n x) ≡ onto n (cond b (turned st z) x)
  flush_onto true st x y z e = ap (turned st) e
  flush_onto false st x y z e = refl

  step_onto : (s : Settings) (c : Command) (x : Sheet) → step s c (onto n x) ≡ onto n (step s c x)
  unfolding step space_where
  step_onto s (token t) x = lay_onto (spell t) x
  step_onto s space x = lay_onto (bytes " ") x
  step_onto s (space_if f) x = lay_onto _ x
  step_onto s (space_at_body_if f) x = lay_onto _ x
  step_onto s (newline_if f) x = refl
  step_onto s (whitespace g) x = whiten_onto (gap s g) x
  step_onto s write_indent x = lay_onto (indent_of s (state_of x)) x
  step_onto s write_line x = line_onto s x
  step_onto s flush_line x = flush_onto (state_of x).new_line_pending (pend false (state_of x)) x (line s (onto n x)) (line s x) (line_onto s x)
  step_onto s flush_space x = flush_onto (state_of x).new_line_pending (pend false (state_of x)) x (lay (bytes " ") (onto n x)) (lay (bytes " ") x) (lay_onto (bytes " ") x)
  step_onto s consume_newline x = refl
  step_onto s indent x = refl
  step_onto s dedent x = refl
  step_onto s enter_function_definition_statement x = refl
  step_onto s consume_function_definition_statement x = refl

  pub run_onto : (s : Settings) (cs : List Command) (x : Sheet) → run s cs (onto n x) ≡ onto n (run s cs x)
  unfolding run
  run_onto s [] x = refl
  run_onto s (c ∷ cs) x = ap (run s cs) (step_onto s c x) ∙ run_onto s cs (step s c x)
