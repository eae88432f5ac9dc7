-- Parts of a text, as lists of commands: each is divided into its tokens, whatever stands behind it, if that does not make its last token longer. Assumes
-- nothing.
use mathlib.Core.Path.{◌≡◌, refl, subst}
use mathlib.Core.Bool.{Bool, true, false, cond}
use mathlib.Core.List.{List, [], ◌∷◌, ◌++◌, append_assoc, append-nil}
use Prim.Native.Nat.{ℕ}
use Prim.Native.Char.{code}
use Rattle.words.specs.Bytes.{bytes}
use Rattle.words.specs.Symbol.{Symbol, symbol_text}
use Rattle.words.specs.Symbol.Symbol.{left_paren, right_paren, left_bracket, right_bracket, comma}
use Rattle.words.specs.Letter.{letter, digit, name_byte}
use Rattle.settings.specs.declared.Settings.{Settings}
use Rattle.settings.specs.declared.FormattingState.{FormattingState}
use Rattle.text.specs.Token.{Token, spell}
use Rattle.text.specs.Asked.{Flag, flag}
use Rattle.text.specs.Asked.Flag.{spaces_around_binary_ops}
use Rattle.text.specs.Command.{Command, write_binary_op, write_list_separator}
use Rattle.text.specs.Command.Command.{space_if}
use Rattle.text.specs.Pen.{written, after, text, after_all}
use Rattle.text.specs.Text.{a_token, a_symbol, parenthesized, in_square_brackets, bare_if, apart}
use Rattle.text.specs.Visible.{tokens_of}
use Rattle.text.proofs.Append.{text_append}
use Rattle.lexis.specs.Division.{Longest, Divides, begins_with}
use Rattle.lexis.specs.Division.Divides.{take}
use Rattle.lexis.proofs.Laws.{symbol_lengthens, opens, Spelling}
use Rattle.lexis.proofs.Tests.{clash}
use Rattle.lexis.proofs.Digits.{begins_append}
use Rattle.division.proofs.Tokens.{tokens_append}
use Rattle.division.proofs.Blank.{Silent, silent_skipped}
use Rattle.division.proofs.Clear.{Clear, blank_clear, Ends, ends_clear, ends_before, never_longer, plain, Operator}

-- under the settings s, what cs writes has the tokens of cs; E says what its last token can be
pub record Part (wide : Bool) (L : List ℕ → Token → Type 0) (W : List ℕ → Bool) (s : Settings) (E : Token → Type 0) (cs : List Command) : Type 0 where
  pub join : (x : FormattingState) (rest : List ℕ) (us : List Token) → ((t : Token) → E t → Clear wide t rest) → Divides L W rest us → Divides L W (text s cs x ++ rest) (tokens_of cs ++ us)

module _ {wide : Bool} {L : List ℕ → Token → Type 0} {W : List ℕ → Bool} {s : Settings} where
  -- one part behind another that it does not lengthen
  pub then : {E F : Token → Type 0} {cs ds : List Command} → Part wide L W s E cs → ((t : Token) → E t → (x : FormattingState) (rest : List ℕ) → Clear wide t (text s ds x ++ rest)) → Part wide L W s F ds → Part wide L W s F (cs ++ ds)
  then {cs = cs} {ds = ds} p h q = record {
    join = λ x rest us k d. rw (text_append s cs ds x, tokens_append cs ds, append_assoc (text s cs x) (text s ds (after_all s cs x)) rest, append_assoc (tokens_of cs) (tokens_of ds) us)
        (p.join x (text s ds (after_all s cs x) ++ rest) (tokens_of ds ++ us) (λ t e. h t e (after_all s cs x) rest) (q.join (after_all s cs x) rest us k d));
  }

  pub wider : {E F : Token → Type 0} {cs : List Command} → ((t : Token) → E t → F t) → Part wide L W s E cs → Part wide L W s F cs
  wider h p = record { join = λ x rest us k d. p.join x rest us (λ t e. k t (h t e)) d }

  pub nothing : {E : Token → Type 0} → Part wide L W s E []
  unfolding text tokens_of
  nothing = record { join = λ x rest us k d. d }

  -- a part behind one that ends in a space, or has nothing to make longer
  infixl 20 ◌and◌
  pub ◌and◌ : {F : Token → Type 0} {cs ds : List Command} → Part wide L W s (λ t. ⊥) cs → Part wide L W s F ds → Part wide L W s F (cs ++ ds)
  p and q = then p (λ t e x rest. absurd e) q

  -- a command without a token, before a part
  pub blank_part : {E : Token → Type 0} {c : Command} {cs : List Command} → Silent c → Part wide L W s E cs → Part wide L W s E (c ∷ cs)
  unfolding text tokens_of
  blank_part {c = c} {cs = cs} h p = record {
    join = λ x rest us k d. rw (h, append_assoc (written s c x) (text s cs (after s c x)) rest) (silent_skipped s c h x (text s cs (after s c x) ++ rest) (p.join (after s c x) rest us k d));
  }

-- a space that a flag asks for stands clear behind every token; where it is not asked for, what follows must
gap_or : (wide : Bool) (s : Settings) (f : Flag) (t : Token) (cs : List Command) → (flag s f ≡ false → (x : FormattingState) (rest : List ℕ) → Clear wide t (text s cs x ++ rest))
    → (x : FormattingState) (rest : List ℕ) → Clear wide t (text s (space_if f ∷ cs) x ++ rest)
unfolding text written after
gap_or wide s f t cs h x rest = go (flag s f) refl
  where
    go : (b : Bool) → flag s f ≡ b → Clear wide t ((cond b (bytes " ") [] ++ text s cs x) ++ rest)
    go true e = blank_clear wide (code " ") refl t
    go false e = h e x rest

-- where a space is needed it is asked for, and where none is, what follows is clear
pub apart_clear : (wide : Bool) (s : Settings) (j : Bool) (f : Flag) (t : Token) (cs : List Command) → (j ≡ true → flag s f ≡ true) → (j ≡ false → (x : FormattingState) (rest : List ℕ) → Clear wide t (text s cs x ++ rest))
    → (x : FormattingState) (rest : List ℕ) → Clear wide t (text s (apart j f cs) x ++ rest)
apart_clear wide s true f t cs k h = gap_or wide s f t cs (λ e. clash (k refl) e)
apart_clear wide s false f t cs k h = h refl

pub apart_part : {wide : Bool} {L : List ℕ → Token → Type 0} {W : List ℕ → Bool} {s : Settings} {E : Token → Type 0} {cs : List Command} (j : Bool) (f : Flag) → Part wide L W s E cs → Part wide L W s E (apart j f cs)
apart_part true f p = blank_part refl p
apart_part false f p = p

-- an operator is the first that its commands write
pub operator_first : (y : Symbol) → Operator y → (s : Settings) (cs : List Command) (x : FormattingState) (rest : List ℕ) → begins_with plain (text s (a_symbol y ++ cs) x ++ rest) ≡ true
unfolding text written after spell
operator_first y h s cs x rest = begins_append plain (bytes (symbol_text y) ++ text s cs x) rest (begins_append plain (bytes (symbol_text y)) (text s cs x) h)

module _ {wide : Bool} {L : List ℕ → Token → Type 0} {W : List ℕ → Bool} {proper : Token → Bool} (law : Spelling wide spell proper L W) where
  -- a proper token with a text behind it that does not make it longer
  pub taken : (t : Token) → proper t ≡ true → {bs : List ℕ} {ts : List Token} → Clear wide t bs → Divides L W bs ts → Divides L W (spell t ++ bs) (t ∷ ts)
  taken t v {bs = bs} k d = take (law.spells t v) (longest bs k) d
    where
      longest : (rest : List ℕ) → Clear wide t rest → Longest W (spell t) rest
      longest rest k b more end e w = clash (law.longest t v b more w) (subst (λ (r : List ℕ). Clear wide t r) e k)

  -- a token begins as it should
  pub begins_token : (s : Settings) (t : Token) → proper t ≡ true → (x : FormattingState) (rest : List ℕ) → begins_with (opens t) (text s (a_token t) x ++ rest) ≡ true
  unfolding text written
  begins_token s t v x rest = rw (append-nil (spell t)) (begins_append (opens t) (spell t) rest (law.begins t v))

  module _ {s : Settings} where
    -- one token
    pub a_part : (t : Token) → proper t ≡ true → Part wide L W s (λ u. u ≡ t) (a_token t)
    unfolding text tokens_of written after
    a_part t v = record { join = λ x rest us k d. rw (append-nil (spell t)) (taken t v (k t refl) d) }

    module _ (symbols : (y : Symbol) → proper (Token.symbol y) ≡ true) where
      pub a_symbol_part : (y : Symbol) → Part wide L W s (λ u. u ≡ Token.symbol y) (a_symbol y)
      a_symbol_part y = a_part (Token.symbol y) (symbols y)

      -- a symbol that nothing makes longer, before anything
      pub opened : {F : Token → Type 0} {cs : List Command} (y : Symbol) → symbol_lengthens y ≡ "" → Part wide L W s F cs → Part wide L W s F (a_symbol y ++ cs)
      opened {cs = cs} y e p = then (a_symbol_part y) (λ t q x rest. rw q (never_longer wide y (text s cs x ++ rest) e)) p

      -- and behind a part that it stands clear of: then nothing makes the whole longer
      pub behind : {F : Token → Type 0} {i o : Bool} {cs : List Command} (y : Symbol) → Operator y → symbol_lengthens y ≡ "" → Part wide L W s (Ends i o) cs → Part wide L W s F (cs ++ a_symbol y)
      unfolding text written spell
      behind {i = i} {o = o} y h e p = then p (λ t q x rest. rw (append-nil (bytes (symbol_text y))) (ends_before wide (bytes (symbol_text y) ++ rest) (begins_append plain (bytes (symbol_text y)) rest h) i o t q)) (opened y e nothing)

      in_parens : {F : Token → Type 0} {i o : Bool} {cs : List Command} → Part wide L W s (Ends i o) cs → Part wide L W s F (parenthesized cs)
      unfolding symbol_lengthens symbol_text name_byte letter digit
      in_parens p = behind right_paren refl refl (opened left_paren refl p)

      in_brackets : {F : Token → Type 0} {i o : Bool} {cs : List Command} → Part wide L W s (Ends i o) cs → Part wide L W s F (in_square_brackets cs)
      unfolding symbol_lengthens symbol_text name_byte letter digit
      in_brackets p = behind right_bracket refl refl (opened left_bracket refl p)

      -- an index or a dimension; arguments
      pub indexed : {F : Token → Type 0} {i o j p : Bool} {cs ds : List Command} → Part wide L W s (Ends i o) cs → Part wide L W s (Ends j p) ds → Part wide L W s F (cs ++ in_square_brackets ds)
      unfolding text written spell symbol_text name_byte letter digit
      indexed {i = i} {o = o} p q = then p (λ t e x rest. ends_clear wide (code "[") refl refl i o t e) (in_brackets q)

      pub called : {F : Token → Type 0} {i o j p : Bool} {cs ds : List Command} → Part wide L W s (Ends i o) cs → Part wide L W s (Ends j p) ds → Part wide L W s F (cs ++ parenthesized ds)
      unfolding text written spell symbol_text name_byte letter digit
      called {i = i} {o = o} p q = then p (λ t e x rest. ends_clear wide (code "(") refl refl i o t e) (in_parens q)

      -- an operand, bare or in parentheses: it ends as it does where it is bare
      pub operand : {i o j p : Bool} {cs : List Command} (bare : Bool) → (bare ≡ true → (t : Token) → Ends i o t → Ends j p t) → Part wide L W s (Ends i o) cs → Part wide L W s (Ends j p) (bare_if bare cs)
      operand true h p = wider (h refl) p
      operand false h p = in_parens p

      -- a comma, and a space if the settings say so
      pub separated : {i o j p : Bool} {cs ds : List Command} → Part wide L W s (Ends i o) cs → Part wide L W s (Ends j p) ds → Part wide L W s (Ends j p) (cs ++ write_list_separator ++ ds)
      unfolding text written spell symbol_text symbol_lengthens name_byte letter digit
      separated {i = i} {o = o} p q = then p (λ t e x rest. ends_clear wide (code ",") refl refl i o t e) (opened comma refl (blank_part refl nothing)) and q

      -- an operator, with or without spaces around it
      pub between : {i o j p : Bool} {cs ds : List Command} (y : Symbol) → Operator y → (flag s spaces_around_binary_ops ≡ false → (x : FormattingState) (rest : List ℕ) → Clear wide (Token.symbol y) (text s ds x ++ rest))
          → Part wide L W s (Ends i o) cs → Part wide L W s (Ends j p) ds → Part wide L W s (Ends j p) (cs ++ write_binary_op y ++ ds)
      between {i = i} {o = o} {cs = cs} {ds = ds} y h k p q =
          rw (append_assoc cs (write_binary_op y) ds)
          (then p (λ t e. gap_or wide s spaces_around_binary_ops t (a_symbol y ++ (space_if spaces_around_binary_ops ∷ ds)) (λ off x rest. ends_before wide (text s (a_symbol y ++ (space_if spaces_around_binary_ops ∷ ds)) x ++ rest) (operator_first y h s (space_if spaces_around_binary_ops ∷ ds) x rest) i o t e))
          (blank_part refl
          (then (a_symbol_part y) (λ t e x rest. rw e (gap_or wide s spaces_around_binary_ops (Token.symbol y) ds k x rest)) (blank_part refl q))))
