-- The words and operators that a record names by its variant stand in the table where the printers look for them. Assumes nothing.
use mathlib.Core.Path.{◌≡◌, refl, sym, ap, ◌∙◌}
use mathlib.Core.List.{List, [], ◌∷◌, map}
use Prim.Native.Nat.{ℕ, zero, suc, ◌+◌, ◌-◌, ◌<◌, ◌≤◌, min}
use native.Mathlib.Nat.{zero-add}
use native.Mathlib.Omega.{arith}
use lib.Dec.{eqb}
use lib.ListN.{get_or, get_or-eq_default}
use borrow.Author.Tests.{le-ltb, ne_eqb}
use Rattle.words.specs.Bytes.{bytes}
use Rattle.words.specs.Word.{Word, word_text, qualifier_words, jump_words, bool_words}
use Rattle.words.specs.Symbol.{Symbol, symbol_text, unary_operators, binary_operators, assignment_operators}
use Rattle.words.specs.Keyword.{type_keywords}
use Rattle.word_table.specs.Table.{text_at}
use Rattle.word_table.proofs.Listed.{types_count, first_qualifier, first_jump, first_bool, first_unary, first_binary, first_assignment}
use Rattle.word_table.proofs.Sections.{type_row, qualifier_row, jump_row, bool_row, unary_row, binary_row, assignment_row}
use Rattle.records.proofs.Laws.{split}
use Rattle.settings.specs.declared.Settings.{Settings}
use Rattle.text.specs.Token.{Token, spell}
use Rattle.text.specs.Asked.Flag.{spaces_around_binary_ops}
use Rattle.text.specs.Command.{write_binary_token, write_binary_op}
use Rattle.text.specs.Command.Command.{space_if}
use Rattle.text.specs.Operator.{unary_symbol, binary_symbol, assignment_symbol, binary_op}
use Rattle.text.specs.Text.{bool_word}
use Rattle.text.specs.Reading.{unary_op_of, binary_op_of, assignment_op, storage_of}
use Rattle.pen.specs.declared.Pen.{Pen}
use Rattle.pen.specs.Promise.{Ran}
use Rattle.pen.proofs.Chain.{alike}
use Rattle.precedence.proofs.Codes.{◌above◌, above_sum}
use Rattle.leaves.specs.Qualifier.{qualifier_word}
use Rattle.leaves.specs.Jump.{jump_word}

-- n numbers from i on, and what stands at each
abbrev numbers : ℕ → ℕ → List ℕ
numbers zero i = []
numbers (suc n) i = i ∷ numbers n (suc i)

nth : {A : Type 0} (f : ℕ → A) (n i v : ℕ) (d : A) → v < n → get_or (map f (numbers n i)) v d ≡ f (i + v)
nth f zero i v d h = absurd (omega arith)
nth f (suc n) i zero d h = ap f (omega arith)
nth f (suc n) i (suc v) d h = nth f n (suc i) v d (omega arith) ∙ ap f (omega arith)

-- a section of the table, in the order of the variants, of which the last stands for all behind it
by_variant : {A : Type 0} (f : ℕ → A) (l : List A) (n : ℕ) → map f (numbers (suc n) 0) ≡ l → ((k : ℕ) → f (k above n) ≡ f n) → (v : ℕ) (d : A) → get_or l (min v n) d ≡ f v
by_variant f l n e last v d =
    ap (λ (k : List _). get_or k (min v n) d) (sym e) ∙ nth f (suc n) 0 (min v n) d (omega arith)
    ∙ split v n (λ h. let z : 0 + min v n ≡ v = omega arith in ap f z)
    (λ h. let z : 0 + min v n ≡ n = omega arith in ap f z ∙ sym (last (v - n)) ∙ ap f (above_sum (v - n) n ∙ omega arith))

last_qualifier : (k : ℕ) → qualifier_word (k above 26) ≡ qualifier_word 26
unfolding qualifier_word
last_qualifier k =
    let v = k above 26 in
    let h : 26 ≤ v = omega (arith, above_sum k 26) in
    rw (le-ltb v 17 (omega (arith, h)), ne_eqb v 17 (λ e. omega (arith, h, e)), ne_eqb v 18 (λ e. omega (arith, h, e)), le-ltb v 22 (omega (arith, h)), le-ltb v 25 (omega (arith, h)), ne_eqb v 25 (λ e. omega (arith, h, e))) refl

last_jump : (k : ℕ) → jump_word (k above 3) ≡ jump_word 3
unfolding jump_words
last_jump zero = refl
last_jump (suc k) = refl

module _ (v : ℕ) where
  pub unary_text : text_at (first_unary + min v 5) ≡ spell (Token.symbol (unary_symbol (unary_op_of v)))
  unfolding spell unary_op_of unary_operators unary_symbol
  unary_text =
      unary_row (min v 5) (omega arith) Symbol.bang
      ∙ ap (λ (y : Symbol). bytes (symbol_text y)) (by_variant (λ k. unary_symbol (unary_op_of k)) unary_operators 5 refl (λ k. refl) v Symbol.bang)

  pub binary_text : text_at (first_binary + min v 18) ≡ spell (Token.symbol (binary_symbol (binary_op_of v)))
  unfolding spell binary_op_of binary_operators binary_op
  binary_text =
      binary_row (min v 18) (omega arith) Symbol.bang
      ∙ ap (λ (y : Symbol). bytes (symbol_text y)) (by_variant (λ k. binary_symbol (binary_op_of k)) binary_operators 18 refl (λ k. refl) v Symbol.bang)

  pub assignment_text : text_at (first_assignment + min v 10) ≡ spell (Token.symbol (assignment_symbol (assignment_op v)))
  unfolding spell assignment_op assignment_operators assignment_symbol
  assignment_text =
      assignment_row (min v 10) (omega arith) Symbol.bang
      ∙ ap (λ (y : Symbol). bytes (symbol_text y)) (by_variant (λ k. assignment_symbol (assignment_op k)) assignment_operators 10 refl (λ k. refl) v Symbol.bang)

  pub qualifier_text : text_at (first_qualifier + min v 26) ≡ spell (Token.word (qualifier_word v))
  unfolding spell qualifier_word qualifier_words storage_of
  qualifier_text =
      qualifier_row (min v 26) (omega arith) Word.precise
      ∙ ap (λ (w : Word). bytes (word_text w)) (by_variant qualifier_word qualifier_words 26 refl last_qualifier v Word.precise)

  pub jump_text : text_at (first_jump + min v 3) ≡ spell (Token.word (jump_word v))
  unfolding spell jump_words
  jump_text = jump_row (min v 3) (omega arith) Word.return ∙ ap (λ (w : Word). bytes (word_text w)) (by_variant jump_word jump_words 3 refl last_jump v Word.return)

-- a type keyword; behind the last there is none
pub keyword_text : (v : ℕ) → v < types_count → text_at (0 + min v (types_count - 1)) ≡ spell (Token.type v)
unfolding spell
keyword_text v h =
    let z : 0 + min v (types_count - 1) ≡ v = omega arith in
    ap text_at z ∙ type_row v h

pub no_keyword : (v : ℕ) → types_count ≤ v → [] ≡ spell (Token.type v)
unfolding spell type_keywords
no_keyword v h = ap bytes (sym (get_or-eq_default type_keywords "" h))

-- the words of a bool
pub bool_text : (v : ℕ) → v < 2 → text_at (first_bool + v) ≡ spell (Token.word (bool_word (eqb v 1)))
unfolding spell bool_words
bool_text v h = bool_row v h Word.true ∙ ap (λ (w : Word). bytes (word_text w)) (nth (λ k. bool_word (eqb k 1)) 2 0 v Word.true h ∙ ap (λ (k : ℕ). bool_word (eqb k 1)) (zero-add v))

-- a binary operator, written as its text
pub by_operator : {s : Settings} {room room' : List ℕ} {p p' : Pen} (y : Symbol) {bs : List ℕ} → bs ≡ spell (Token.symbol y) → Ran s (write_binary_token (Token.name bs)) room p room' p'
    → Ran s (write_binary_op y) room p room' p'
unfolding spell
by_operator y {bs = bs} e a = alike (Token.name bs) (Token.symbol y) e (space_if spaces_around_binary_ops ∷ []) (space_if spaces_around_binary_ops ∷ []) a
