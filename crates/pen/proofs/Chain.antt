-- Promises one behind the other, and what each command asks of the function that runs it. Assumes nothing.
use mathlib.Core.Path.{◌≡◌, refl, sym, ap, ◌∙◌}
use mathlib.Core.Bool.{Bool, true, false, cond}
use mathlib.Core.List.{List, [], ◌∷◌, ◌++◌}
use Prim.Native.Nat.{ℕ}
use Rattle.words.specs.Bytes.{bytes}
use Rattle.settings.specs.declared.Settings.{Settings}
use Rattle.settings.specs.declared.FormattingState.{FormattingState}
use Rattle.text.specs.Token.{Token, spell}
use Rattle.text.specs.Asked.{Flag, flag}
use Rattle.text.specs.Command.{Command}
use Rattle.text.specs.Command.Command.{token, space, space_if, newline_if, consume_newline, enter_function_definition_statement, consume_function_definition_statement}
use Rattle.text.specs.Pen.{pend, at_body}
use Rattle.pen.specs.declared.Pen.{Pen}
use Rattle.pen.specs.Sheet.{Sheet, leave, lay}
use Rattle.pen.specs.Run.{asked, space_where, step, run}
use Rattle.pen.specs.Promise.{sheet, Wrote, Ran, Turned}

pub run_append : (s : Settings) (cs ds : List Command) (x : Sheet) → run s (cs ++ ds) x ≡ run s ds (run s cs x)
unfolding run
run_append s [] ds x = refl
run_append s (c ∷ cs) ds x = run_append s cs ds (step s c x)

module _ {s : Settings} {room : List ℕ} {p : Pen} where
  -- nothing was done
  pub nothing_ran : Ran s [] room p room p
  unfolding run
  nothing_ran = record { ran = refl }

  infixr 20 ◌then◌
  pub ◌then◌ : {cs ds : List Command} {room₁ room₂ : List ℕ} {p₁ p₂ : Pen} → Ran s cs room p room₁ p₁ → Ran s ds room₁ p₁ room₂ p₂ → Ran s (cs ++ ds) room p room₂ p₂
  ◌then◌ {cs = cs} {ds = ds} a b = record { ran = run_append s cs ds (sheet room p) ∙ ap (run s ds) a.ran ∙ b.ran }

  module _ {room' : List ℕ} {p' : Pen} where
    -- a token: bytes that spell it were written
    pub by_token : (t : Token) {bs : List ℕ} → bs ≡ spell t → Wrote bs room p room' p' → Ran s (token t ∷ []) room p room' p'
    unfolding run step
    by_token t e w = record { ran = ap (λ (l : List ℕ). lay l (sheet room p)) (sym e) ∙ w.wrote }

    pub by_space : Wrote (bytes " ") room p room' p' → Ran s (space ∷ []) room p room' p'
    unfolding run step
    by_space w = record { ran = w.wrote }

    pub by_space_if : (f : Flag) → Wrote (cond (flag s f) (bytes " ") []) room p room' p' → Ran s (space_if f ∷ []) room p room' p'
    unfolding run step space_where
    by_space_if f w = record { ran = w.wrote }

    -- one token for another that is spelled alike
    pub alike : (t u : Token) → spell t ≡ spell u → (cs ds : List Command) → Ran s (cs ++ token t ∷ ds) room p room' p' → Ran s (cs ++ token u ∷ ds) room p room' p'
    unfolding run step
    alike t u e cs ds a = record {
      ran =
          run_append s cs (token u ∷ ds) (sheet room p) ∙ ap (λ (l : List ℕ). run s ds (lay l (run s cs (sheet room p)))) (sym e)
          ∙ sym (run_append s cs (token t ∷ ds) (sheet room p)) ∙ a.ran;
    }

  -- A command that changes the state alone: to st. What `step` says of the command is `refl` under `unfolding step`; the instances below have said it.
  module _ {p' : Pen} where
    by_turning : (c : Command) (st : FormattingState) → step s c (sheet room p) ≡ sheet room (leave st p) → p' ≡ leave st p → Ran s (c ∷ []) room p room p'
    unfolding run
    by_turning c st f e = record { ran = f ∙ ap (sheet room) (sym e) }

    pub by_newline_if : (f : Flag) → p' ≡ leave (asked (flag s f) p.state) p → Ran s (newline_if f ∷ []) room p room p'
    unfolding step
    by_newline_if f = by_turning (newline_if f) _ refl

    pub by_consume_newline : p' ≡ leave (pend false p.state) p → Ran s (consume_newline ∷ []) room p room p'
    unfolding step
    by_consume_newline = by_turning consume_newline _ refl

    pub by_enter_function_definition_statement : p' ≡ leave (at_body true p.state) p → Ran s (enter_function_definition_statement ∷ []) room p room p'
    unfolding step
    by_enter_function_definition_statement = by_turning enter_function_definition_statement _ refl

    pub by_consume_function_definition_statement : p' ≡ leave (at_body false p.state) p → Ran s (consume_function_definition_statement ∷ []) room p room p'
    unfolding step
    by_consume_function_definition_statement = by_turning consume_function_definition_statement _ refl

-- a promise for every room is one for this room, and the other way round
pub here : {s : Settings} {cs : List Command} {p p' : Pen} {room : List ℕ} → Turned s cs p p' → Ran s cs room p room p'
here {room = room} t = record { ran = t.ran room }

pub everywhere : {s : Settings} {cs : List Command} {p p' : Pen} → ((room : List ℕ) → Ran s cs room p room p') → Turned s cs p p'
everywhere f = record { ran = λ room. (f room).ran }

-- no bytes
pub wrote_nothing : {room : List ℕ} {p : Pen} → Wrote [] room p room p
unfolding lay
wrote_nothing = record { wrote = refl }

-- a space where it is asked for
module _ {on : Bool} {room : List ℕ} {p : Pen} where
  pub spaced : {room' : List ℕ} {p' : Pen} → on ≡ true → Wrote (bytes " ") room p room' p' → Wrote (cond on (bytes " ") []) room p room' p'
  spaced e w = rw e w

  pub unspaced : on ≡ false → Wrote (cond on (bytes " ") []) room p room p
  unspaced e = rw e wrote_nothing
