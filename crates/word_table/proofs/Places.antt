-- Where a row's text stands in the table. One test over all texts, that none is longer than the widest, gives it at each row. Assumes nothing.
use mathlib.Core.Path.{◌≡◌, refl, sym, ◌∙◌, ap}
use mathlib.Core.Bool.{Bool, true, ◌&&◌}
use mathlib.Core.List.{List, [], ◌∷◌, ◌++◌, map, append_assoc}
use Prim.Native.Nat.{ℕ, zero, suc, ◌+◌, ◌*◌, ◌-◌, ◌≤◌, ◌<◌}
use Prim.Native.String.{String}
use Prim.Native.Char.{code}
use native.Mathlib.Nat.{le_of_suc-le-suc, not-suc-le-zero}
use native.Mathlib.Omega.{arith}
use lib.ListN.{length, get_or, take, drop, replicate, length-append, length-replicate, get_or-eq_default}
use lib.Seq.{drop-append-add, get_or-drop, get_or-take, get_or_at, take_at}
use lib.Dec.{T, leb, leb→le}
use Rattle.words.specs.Bytes.{bytes}
use Rattle.words.specs.Word.{word_text, qualifier_words, jump_words, bool_words, lone_words, other_words}
use Rattle.words.specs.Symbol.{symbol_text, unary_operators, binary_operators, assignment_operators}
use Rattle.word_table.specs.Slot.{each, slots}
use Rattle.words.specs.Keyword.{type_keywords, fixed_words}
use Rattle.word_table.specs.Table.{flaw, operators, texts, row, rows, table, text_at, widest, width}
use Rattle.word_table.proofs.Listed.{rows_count, first_flaw}
use Rattle.words.proofs.Tests.{both_left, both_right}

unfoldable fit : List String → Bool
fit [] = true
fit (t ∷ ts) = leb (length (bytes t)) widest && fit ts

row_length : (t : String) → length (bytes t) ≤ widest → length (row t) ≡ width
row_length t h =
    simp (length-append, length-replicate) (omega arith)

-- from its start on the table has the row, then the rows behind it and what is more
from_row :
    (ts : List String) (more : List ℕ) (k : ℕ) → T (fit ts) → k < length ts
    → drop (width * k) (rows ts ++ more) ≡ row (get_or ts k "") ++ (rows (drop (suc k) ts) ++ more)
unfolding fit
from_row [] more k t h = absurd (not-suc-le-zero h)
from_row (x ∷ ts) more zero t h = append_assoc (row x) (rows ts) more
from_row (x ∷ ts) more (suc k) t h =
    let w = leb→le _ widest (both_left (leb (length (bytes x)) widest) (fit ts) t) in
    let e : width * suc k ≡ length (row x) + width * k = omega (arith, row_length x w) in
    ap (drop (width * suc k)) (append_assoc (row x) (rows ts) more)
    ∙ ap (λ (n : ℕ). drop n (row x ++ (rows ts ++ more))) e
    ∙ drop-append-add (row x) (rows ts ++ more) (width * k)
    ∙ from_row ts more k (both_right (leb (length (bytes x)) widest) (fit ts) t) (le_of_suc-le-suc h)

-- the longest text fits, and there are as many rows as the code says
texts_fit : T (fit texts)
unfolding fit texts fixed_words type_keywords other_words qualifier_words jump_words bool_words lone_words word_text operators symbol_text unary_operators binary_operators assignment_operators
texts_fit = tt

pub row_count : length texts ≡ rows_count
unfolding texts fixed_words type_keywords other_words qualifier_words jump_words bool_words lone_words operators unary_operators binary_operators assignment_operators
row_count = refl

pub table_length : length table ≡ first_flaw + 256
unfolding table texts fixed_words type_keywords other_words qualifier_words jump_words bool_words lone_words word_text operators symbol_text unary_operators binary_operators assignment_operators slots each
table_length = refl

fits_at : (ts : List String) (k : ℕ) → T (fit ts) → length (bytes (get_or ts k "")) ≤ widest
unfolding fit
fits_at [] k t = omega arith
fits_at (x ∷ ts) zero t = leb→le _ widest (both_left (leb (length (bytes x)) widest) (fit ts) t)
fits_at (x ∷ ts) (suc k) t = fits_at ts k (both_right (leb (length (bytes x)) widest) (fit ts) t)

-- no row's text is longer than the widest
pub text_fits : (k : ℕ) → length (text_at k) ≤ widest
unfolding text_at
text_fits k = fits_at texts k texts_fit

-- nothing behind the last row
pub no_row : (k : ℕ) → rows_count ≤ k → text_at k ≡ []
unfolding text_at
no_row k h = ap bytes (get_or-eq_default texts "" {n = k} (omega (arith, row_count)))

-- the row k, in a table t
module _ (t : List ℕ) (is : t ≡ table) (k : ℕ) (h : k < rows_count) where
  from_here :
      drop (width * k) t
      ≡ text_at k ++ (replicate (widest - length (text_at k)) (code " ") ++ (length (text_at k) ∷ (rows (drop (suc k) texts) ++ (slots fixed_words ++ each flaw 0 256))))
  unfolding table text_at
  from_here =
      ap (drop (width * k)) is ∙ from_row texts _ k texts_fit (omega (arith, row_count))
      ∙ simp append_assoc

  pub length_here : get_or t (width * k + widest) 0 ≡ length (text_at k)
  length_here =
      sym (get_or-drop (width * k) t widest 0) ∙ ap (λ (l : List ℕ). get_or l widest 0) (from_here ∙ sym (append_assoc (text_at k) _ _))
      ∙ get_or_at (text_at k ++ replicate (widest - length (text_at k)) (code " ")) (length (text_at k)) _ 0 widest
      (simp (length-append, length-replicate) (omega (arith, text_fits k)))

  pub text_here : (n : ℕ) → n ≡ length (text_at k) → take n (drop (width * k) t) ≡ text_at k
  text_here n e = ap (take n) from_here ∙ take_at (text_at k) _ n (sym e)

-- the texts of a section: m rows from row n on
pub section_text : (n m : ℕ) (ws : List String) → take m (drop n texts) ≡ ws → (v : ℕ) → v < m → text_at (n + v) ≡ bytes (get_or ws v "")
unfolding text_at
section_text n m ws e v h =
    ap bytes
    (sym (get_or-drop n texts v "") ∙ sym (get_or-take m (drop n texts) v "" h) ∙ ap (λ (l : List String). get_or l v "") e)

map_at : {A : Type 0} (f : A → String) (xs : List A) (v : ℕ) (d : A) → v < length xs → get_or (map f xs) v "" ≡ f (get_or xs v d)
map_at f [] v d h = absurd (not-suc-le-zero h)
map_at f (x ∷ xs) zero d h = refl
map_at f (x ∷ xs) (suc v) d h = map_at f xs v d (le_of_suc-le-suc h)

-- the same where the texts are f of what is listed (d is never looked at)
pub section :
    {A : Type 0} (f : A → String) (n : ℕ) (xs : List A) → take (length xs) (drop n texts) ≡ map f xs
    → (v : ℕ) → v < length xs → (d : A) → text_at (n + v) ≡ bytes (f (get_or xs v d))
section f n xs e v h d = section_text n (length xs) (map f xs) e v h ∙ ap bytes (map_at f xs v d h)
