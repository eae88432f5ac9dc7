-- Parts of declarations, statements and units, one behind the other: a part is sealed where nothing makes its last token longer (a symbol that nothing makes longer, or a space, stands last), so that
-- anything may follow it; elsewhere what follows is such a symbol or a space, with layout before it or not. Assumes nothing.
use mathlib.Core.Path.{◌≡◌, refl, ap, subst, ◌∙◌}
use mathlib.Core.Bool.{Bool, true}
use mathlib.Core.List.{List, [], ◌∷◌, ◌++◌, append_assoc}
use Prim.Native.Nat.{ℕ}
use Prim.Native.Char.{code}
use Rattle.words.specs.Letter.{letter, digit, name_byte}
use Rattle.words.specs.Symbol.{Symbol, symbol_text}
use Rattle.words.specs.Symbol.Symbol.{semicolon, left_brace, right_brace}
use Rattle.settings.specs.declared.Settings.{Settings}
use Rattle.settings.specs.declared.FormattingState.{FormattingState}
use Rattle.text.specs.Token.{Token, spell}
use Rattle.text.specs.Command.{Command, enter_block_inner, enter_block, exit_block}
use Rattle.text.specs.Command.Command.{space}
use Rattle.text.specs.Pen.{text, written, after}
use Rattle.text.specs.Text.{a_symbol, a_space}
use Rattle.lexis.proofs.Laws.{symbol_lengthens, Spelling}
use Rattle.division.proofs.Clear.{Clear, Ends, blank_clear, ends_before, ends_wider, Operator}
use Rattle.division.proofs.Blank.{Silent, silent_clear}
use Rattle.division.proofs.Parts.{Part, then, nothing, blank_part, operator_first, opened}

-- a part that may stand behind every token that a text can end in
pub record Next (wide : Bool) (L : List ℕ → Token → Type 0) (W : List ℕ → Bool) (s : Settings) (F : Token → Type 0) (ds : List Command) : Type 0 where
  pub clear : (t : Token) → Ends true true t → (x : FormattingState) (rest : List ℕ) → Clear wide t (text s ds x ++ rest)
  pub part : Part wide L W s F ds

-- a part whose last token nothing makes longer
abbrev pub Sealed : (wide : Bool) (L : List ℕ → Token → Type 0) (W : List ℕ → Bool) (s : Settings) → List Command → Type 0
Sealed wide L W s cs = Part wide L W s (λ t. ⊥) cs

module _ {wide : Bool} {L : List ℕ → Token → Type 0} {W : List ℕ → Bool} {s : Settings} where
  -- behind a part that ends in anything
  infixl 20 ◌onto◌
  pub ◌onto◌ : {F : Token → Type 0} {i o : Bool} {cs ds : List Command} → Part wide L W s (Ends i o) cs → Next wide L W s F ds → Part wide L W s F (cs ++ ds)
  ◌onto◌ {i = i} {o = o} p q = then p (λ t e x rest. q.clear t (ends_wider i o t e) x rest) q.part

  -- layout before it
  pub blank_next : {F : Token → Type 0} {c : Command} {ds : List Command} → Silent c → Next wide L W s F ds → Next wide L W s F (c ∷ ds)
  unfolding text
  blank_next {c = c} {ds = ds} h q = record {
    clear = λ t e x rest. rw (append_assoc (written s c x) (text s ds (after s c x)) rest) (silent_clear wide t s c h x (text s ds (after s c x) ++ rest) (q.clear t e (after s c x) rest));
    part = blank_part h q.part;
  }

  -- a space that no setting takes away
  pub space_next : {F : Token → Type 0} {ds : List Command} → Part wide L W s F ds → Next wide L W s F (space ∷ ds)
  unfolding text written
  space_next p = record { clear = λ t e x rest. blank_clear wide (code " ") refl t; part = blank_part refl p }

  pub a_gap : Next wide L W s (λ t. ⊥) a_space
  a_gap = space_next nothing

  -- in a list: an item and what stands between, as the printers group them
  pub regroup : {F : Token → Type 0} (cs ks bs ds : List Command) → Part wide L W s F (cs ++ ks ++ bs ++ ds) → Part wide L W s F (cs ++ (ks ++ bs ++ ds))
  regroup {F = F} cs ks bs ds p = subst (λ (es : List Command). Part wide L W s F es) (ap (λ (es : List Command). es ++ ds) (append_assoc cs ks bs) ∙ append_assoc cs (ks ++ bs) ds) p

module _ {wide : Bool} {L : List ℕ → Token → Type 0} {W : List ℕ → Bool} {proper : Token → Bool} (law : Spelling wide spell proper L W) (symbols : (y : Symbol) → proper (Token.symbol y) ≡ true) {s : Settings} where
  -- a symbol that nothing makes longer
  pub symbol_next : {F : Token → Type 0} {ds : List Command} (y : Symbol) → Operator y → symbol_lengthens y ≡ "" → Part wide L W s F ds → Next wide L W s F (a_symbol y ++ ds)
  symbol_next {ds = ds} y h e p = record { clear = λ t k x rest. ends_before wide (text s (a_symbol y ++ ds) x ++ rest) (operator_first y h s ds x rest) true true t k; part = opened law symbols y e p }

  -- a terminator: a semicolon, and what the settings ask for behind it
  pub ended : {c : Command} → Silent c → Next wide L W s (λ t. ⊥) (a_symbol semicolon ++ (c ∷ []))
  unfolding symbol_lengthens symbol_text name_byte letter digit
  ended h = symbol_next semicolon refl refl (blank_part h nothing)

  -- braces
  pub block_inner : Next wide L W s (λ t. ⊥) enter_block_inner
  unfolding symbol_lengthens symbol_text name_byte letter digit
  block_inner = symbol_next left_brace refl refl (blank_part refl (blank_part refl nothing))

  pub block_opens : Next wide L W s (λ t. ⊥) enter_block
  block_opens = blank_next refl block_inner

  pub block_closes : {F : Token → Type 0} → Part wide L W s F exit_block
  unfolding symbol_lengthens
  block_closes = blank_part refl (blank_part refl (blank_part refl (opened law symbols right_brace refl (blank_part refl nothing))))
