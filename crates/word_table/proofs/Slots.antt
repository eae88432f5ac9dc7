-- What stands behind the rows of the table, and that the word of a text's slot is the only fixed word that it can be. Assumes nothing.
use mathlib.Core.Path.{◌≡◌, refl, sym, ◌∙◌, ap}
use mathlib.Core.Bool.{Bool, true, false, cond}
use mathlib.Core.List.{List, [], ◌∷◌, ◌++◌}
use Prim.Native.Nat.{ℕ, zero, suc, ◌+◌, ◌≤◌, ◌<◌}
use native.Mathlib.Nat.{le_of_suc-le-suc, not-suc-le-zero}
use native.Mathlib.Omega.{arith}
use lib.ListN.{length, get_or, get_or-append}
use lib.Seq.{get_or-append-add}
use lib.Dec.{T, eqb}
use denote.Floats.{is_true}
use Rattle.words.specs.Bytes.{bytes}
use Rattle.words.specs.Word.{word_text, qualifier_words, jump_words, bool_words, lone_words, other_words}
use Rattle.words.specs.Symbol.{symbol_text, unary_operators, binary_operators, assignment_operators}
use Rattle.word_table.specs.Slot.{slot_count, slot, no_word, slots_of, row_in, each, slots}
use Rattle.words.specs.Keyword.{type_keywords, fixed_words}
use Rattle.word_table.specs.Table.{flaw, operators, texts, rows, table, text_at}
use Rattle.words.specs.Form.{same, one_of}
use Rattle.word_table.proofs.Listed.{words_count, first_slot, first_flaw}
use Rattle.words.proofs.Tests.{split}
use Rattle.words.proofs.Search.{same_eq, every_word, none_of}
use Rattle.word_table.proofs.Rule.{is_one}

each_at : (f : ℕ → ℕ) (k n i : ℕ) → i < n → get_or (each f k n) i 0 ≡ f (k + i)
unfolding each
each_at f k zero i h = absurd (not-suc-le-zero h)
each_at f k (suc n) zero h = let e : k ≡ k + 0 = omega arith in ap f e
each_at f k (suc n) (suc i) h = let e : suc k + i ≡ k + suc i = omega arith in each_at f (suc k) n i (le_of_suc-le-suc h) ∙ ap f e

behind : (xs ys : List ℕ) (n i : ℕ) → length xs ≡ n → get_or (xs ++ ys) (n + i) 0 ≡ get_or ys i 0
behind xs ys n i e = ap (λ (m : ℕ). get_or (xs ++ ys) (m + i) 0) (sym e) ∙ get_or-append-add xs ys i 0

rows_length : length (rows texts) ≡ first_slot
unfolding texts fixed_words type_keywords other_words qualifier_words jump_words bool_words lone_words word_text operators symbol_text unary_operators binary_operators assignment_operators
rows_length = refl

slots_length : length (slots fixed_words) ≡ slot_count
unfolding slots each
slots_length = refl

-- in a table t
module _ (t : List ℕ) (is : t ≡ table) where
  pub slot_here : (h : ℕ) → h < slot_count → get_or t (first_slot + h) 0 ≡ row_in (slots_of fixed_words) h 0
  unfolding table slots
  slot_here h l =
      ap (λ (l : List ℕ). get_or l (first_slot + h) 0) is ∙ behind (rows texts) _ first_slot h rows_length
      ∙ get_or-append (slots fixed_words) _ 0 h (omega (arith, slots_length))
      ∙ each_at (λ h. row_in (slots_of fixed_words) h 0) 0 slot_count h l ∙ ap (λ (n : ℕ). row_in (slots_of fixed_words) n 0) (omega arith)

  pub flaw_here : (x : ℕ) → x < 256 → get_or t (first_flaw + x) 0 ≡ flaw x
  unfolding table
  flaw_here x l =
      let e : first_flaw + x ≡ first_slot + (slot_count + x) = omega arith in
      ap (λ (l : List ℕ). get_or l (first_flaw + x) 0) is ∙ ap (λ (n : ℕ). get_or table n 0) e
      ∙ behind (rows texts) _ first_slot (slot_count + x) rows_length ∙ behind (slots fixed_words) _ slot_count x slots_length
      ∙ each_at flaw 0 256 x l ∙ ap flaw (omega arith)

-- a row behind those of the words with these slots is that of the empty slot
row_behind : (ss : List ℕ) (h k : ℕ) → k + length ss ≤ row_in ss h k → row_in ss h k ≡ no_word
unfolding row_in
row_behind [] h k l = refl
row_behind (s ∷ ss) h k l = by (eqb s h) l (row_behind ss h (suc k))
  where
    by : (b : Bool) → k + suc (length ss) ≤ cond b k (row_in ss h (suc k)) → (suc k + length ss ≤ row_in ss h (suc k) → row_in ss h (suc k) ≡ no_word)
        → cond b k (row_in ss h (suc k)) ≡ no_word
    by true l later = absurd (omega arith)
    by false l later = later (omega arith)

-- the word of its slot is s
is_found : List ℕ → Bool
is_found s = same (text_at (row_in (slots_of fixed_words) (slot s) 0)) s

-- each fixed word has a slot of its own
words_found : T (every_word is_found fixed_words)
unfolding every_word is_found same slots_of row_in text_at texts fixed_words type_keywords other_words qualifier_words jump_words bool_words lone_words word_text
words_found = tt

fixed_count : length fixed_words ≡ words_count
unfolding fixed_words type_keywords other_words qualifier_words jump_words bool_words lone_words
fixed_count = refl

slots_count : length (slots_of fixed_words) ≡ words_count
unfolding slots_of fixed_words type_keywords other_words qualifier_words jump_words bool_words lone_words
slots_count = refl

no_word_short : length (text_at no_word) ≡ 1
unfolding text_at texts fixed_words type_keywords other_words qualifier_words jump_words bool_words lone_words word_text operators symbol_text unary_operators binary_operators assignment_operators
no_word_short = refl

is_fixed : (k : ℕ) (s : List ℕ) → k < words_count → text_at k ≡ s → T (one_of fixed_words s)
unfolding text_at texts
is_fixed k s h e =
    let l : k < length fixed_words = omega (arith, fixed_count) in
    is_one fixed_words s k l (ap bytes (sym (get_or-append fixed_words operators "" k l)) ∙ e)

pub found : (s : List ℕ) (k : ℕ) → 2 ≤ length s → k ≡ row_in (slots_of fixed_words) (slot s) 0 → same (text_at k) s ≡ one_of fixed_words s
unfolding is_found
found s k long is = ap (λ (k : ℕ). same (text_at k) s) is ∙ by (is_found s) refl
  where
    row : ℕ
    row = row_in (slots_of fixed_words) (slot s) 0

    by : (b : Bool) → same (text_at row) s ≡ b → same (text_at row) s ≡ one_of fixed_words s
    by false e = e ∙ sym (none_of is_found fixed_words s words_found e)
    by true e =
        let q = same_eq (text_at row) s e in
        e
        ∙ sym
        (is_true (one_of fixed_words s)
        (split row words_count (λ h. is_fixed row s h q)
        (λ h. let z = ap length (sym q ∙ ap text_at (row_behind (slots_of fixed_words) (slot s) 0 (omega (arith, slots_count)))) in absurd (omega (arith, z, no_word_short)))))
