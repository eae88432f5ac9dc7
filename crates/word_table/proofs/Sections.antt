-- The rows by what they hold: a law for each section, over the variant; and that no two rows of a section have one text. Written by
-- tools/words.py. Assumes nothing.
use mathlib.Core.Path.{◌≡◌, refl, sym, ◌∙◌, ap}
use mathlib.Core.List.{map}
use Prim.Native.Nat.{ℕ, ◌+◌, ◌<◌}
use native.Mathlib.Nat.{zero-add}
use lib.ListN.{get_or}
use Rattle.words.specs.Bytes.{bytes}
use Rattle.words.specs.Word.{Word, word_text, qualifier_words, jump_words, bool_words, lone_words, other_words}
use Rattle.words.specs.Symbol.{Symbol, symbol_text, unary_operators, binary_operators, assignment_operators}
use Rattle.words.specs.Keyword.{type_keywords, fixed_words}
use Rattle.words.specs.Form.{same, one_of}
use Rattle.word_table.specs.Table.{operators, texts, text_at}
use Rattle.word_table.proofs.Places.{section_text, section}
use Rattle.word_table.proofs.Rule.{different, words_different, rows_apart}

pub type_row : (v : ℕ) → v < 119 → text_at v ≡ bytes (get_or type_keywords v "")
unfolding texts fixed_words type_keywords other_words qualifier_words jump_words bool_words lone_words word_text operators symbol_text unary_operators binary_operators assignment_operators
type_row v h = ap text_at (sym (zero-add v)) ∙ section_text 0 119 type_keywords refl v h

pub qualifier_row : (v : ℕ) → v < 27 → (d : Word) → text_at (119 + v) ≡ bytes (word_text (get_or qualifier_words v d))
unfolding texts fixed_words type_keywords other_words qualifier_words jump_words bool_words lone_words word_text operators symbol_text unary_operators binary_operators assignment_operators
qualifier_row v h d = section word_text 119 qualifier_words refl v h d

pub jump_row : (v : ℕ) → v < 4 → (d : Word) → text_at (146 + v) ≡ bytes (word_text (get_or jump_words v d))
unfolding texts fixed_words type_keywords other_words qualifier_words jump_words bool_words lone_words word_text operators symbol_text unary_operators binary_operators assignment_operators
jump_row v h d = section word_text 146 jump_words refl v h d

pub bool_row : (v : ℕ) → v < 2 → (d : Word) → text_at (150 + v) ≡ bytes (word_text (get_or bool_words v d))
unfolding texts fixed_words type_keywords other_words qualifier_words jump_words bool_words lone_words word_text operators symbol_text unary_operators binary_operators assignment_operators
bool_row v h d = section word_text 150 bool_words refl v h d

pub lone_row : (v : ℕ) → v < 10 → (d : Word) → text_at (152 + v) ≡ bytes (word_text (get_or lone_words v d))
unfolding texts fixed_words type_keywords other_words qualifier_words jump_words bool_words lone_words word_text operators symbol_text unary_operators binary_operators assignment_operators
lone_row v h d = section word_text 152 lone_words refl v h d

pub unary_row : (v : ℕ) → v < 6 → (d : Symbol) → text_at (162 + v) ≡ bytes (symbol_text (get_or unary_operators v d))
unfolding texts fixed_words type_keywords other_words qualifier_words jump_words bool_words lone_words word_text operators symbol_text unary_operators binary_operators assignment_operators
unary_row v h d = section symbol_text 162 unary_operators refl v h d

pub binary_row : (v : ℕ) → v < 19 → (d : Symbol) → text_at (168 + v) ≡ bytes (symbol_text (get_or binary_operators v d))
unfolding texts fixed_words type_keywords other_words qualifier_words jump_words bool_words lone_words word_text operators symbol_text unary_operators binary_operators assignment_operators
binary_row v h d = section symbol_text 168 binary_operators refl v h d

pub assignment_row : (v : ℕ) → v < 11 → (d : Symbol) → text_at (187 + v) ≡ bytes (symbol_text (get_or assignment_operators v d))
unfolding texts fixed_words type_keywords other_words qualifier_words jump_words bool_words lone_words word_text operators symbol_text unary_operators binary_operators assignment_operators
assignment_row v h d = section symbol_text 187 assignment_operators refl v h d

pub word_apart : (j k : ℕ) → j < 162 → k < 162 → text_at j ≡ text_at k → j ≡ k
unfolding texts fixed_words type_keywords other_words qualifier_words jump_words bool_words lone_words word_text operators symbol_text unary_operators binary_operators assignment_operators
word_apart j k hj hk e = rows_apart 0 fixed_words refl words_different j k hj hk (ap text_at (zero-add j) ∙ e ∙ ap text_at (sym (zero-add k)))

pub unary_apart : (j k : ℕ) → j < 6 → k < 6 → text_at (162 + j) ≡ text_at (162 + k) → j ≡ k
unfolding different one_of same texts fixed_words type_keywords other_words qualifier_words jump_words bool_words lone_words word_text operators symbol_text unary_operators binary_operators assignment_operators
unary_apart = rows_apart 162 (map symbol_text unary_operators) refl tt

pub binary_apart : (j k : ℕ) → j < 19 → k < 19 → text_at (168 + j) ≡ text_at (168 + k) → j ≡ k
unfolding different one_of same texts fixed_words type_keywords other_words qualifier_words jump_words bool_words lone_words word_text operators symbol_text unary_operators binary_operators assignment_operators
binary_apart = rows_apart 168 (map symbol_text binary_operators) refl tt

pub assignment_apart : (j k : ℕ) → j < 11 → k < 11 → text_at (187 + j) ≡ text_at (187 + k) → j ≡ k
unfolding different one_of same texts fixed_words type_keywords other_words qualifier_words jump_words bool_words lone_words word_text operators symbol_text unary_operators binary_operators assignment_operators
assignment_apart = rows_apart 187 (map symbol_text assignment_operators) refl tt
