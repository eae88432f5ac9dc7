-- The rule of the table (02, #102), and the laws that make of it what holds at each row: the fixed words, type keywords and all others, have the form of words, none is longer
-- than the widest, and all are different. Likewise the texts of a section that passes `different`. (That no operator is longer than the widest either is `text_fits` of Places.) Assumes nothing.
use mathlib.Core.Path.{◌≡◌, refl, sym, ◌∙◌, ap, subst}
use mathlib.Core.Bool.{Bool, true, false, not, ◌&&◌}
use mathlib.Core.List.{List, [], ◌∷◌}
use Prim.Native.Nat.{ℕ, zero, suc, ◌+◌, ◌<◌}
use Prim.Native.String.{String}
use native.Mathlib.Nat.{le_of_suc-le-suc, not-suc-le-zero}
use lib.ListN.{length, get_or, take, drop}
use lib.Dec.{T, T_not}
use borrow.Author.Tests.{lt-leb, eq-eqb}
use Rattle.words.specs.Bytes.{bytes}
use Rattle.words.specs.Word.{word_text, qualifier_words, jump_words, bool_words, lone_words, other_words}
use Rattle.words.specs.Keyword.{type_keywords, fixed_words}
use Rattle.word_table.specs.Table.{texts, widest, text_at}
use Rattle.words.specs.Form.{between, digit, letter, name_byte, all, same, one_of}
use Rattle.word_table.proofs.Places.{section_text}
use Rattle.words.proofs.Search.{every_word, none_of}
use Rattle.words.proofs.Tests.{both_left, both_right, either_left, either_right}

-- 2 to 23 letters, digits and underscores, no digit first
unfoldable pub word_form : List ℕ → Bool
word_form s = between 2 widest (length s) && not (digit (get_or s 0 0)) && all name_byte s

-- each different from all behind it
unfoldable pub different : List String → Bool
different [] = true
different (w ∷ ws) = not (one_of ws (bytes w)) && different ws

-- one computed test of all of them
pub rule : T (every_word word_form fixed_words && different fixed_words)
unfolding every_word word_form digit letter name_byte all different one_of same fixed_words type_keywords other_words qualifier_words jump_words bool_words lone_words word_text
rule = tt

words_well_formed : T (every_word word_form fixed_words)
words_well_formed = both_left (every_word word_form fixed_words) (different fixed_words) rule

pub words_different : T (different fixed_words)
words_different = both_right (every_word word_form fixed_words) (different fixed_words) rule

every_at : (f : List ℕ → Bool) (ws : List String) → T (every_word f ws) → (k : ℕ) → k < length ws → T (f (bytes (get_or ws k "")))
unfolding every_word
every_at f [] t k h = absurd (not-suc-le-zero h)
every_at f (w ∷ ws) t zero h = both_left (f (bytes w)) (every_word f ws) t
every_at f (w ∷ ws) t (suc k) h = every_at f ws (both_right (f (bytes w)) (every_word f ws) t) k (le_of_suc-le-suc h)

-- each fixed word has the form of a word
pub well_formed : (k : ℕ) → k < length fixed_words → T (word_form (bytes (get_or fixed_words k "")))
well_formed = every_at word_form fixed_words words_well_formed

-- so that what has less than two bytes is no fixed word
pub none_short : (s : List ℕ) → length s < 2 → one_of fixed_words s ≡ false
unfolding word_form
none_short s h = none_of word_form fixed_words s words_well_formed (simp (lt-leb 2 (length s) h))

pub same_self : (s : List ℕ) → T (same s s)
unfolding same
same_self [] = tt
same_self (x ∷ s) = subst (λ (b : Bool). T (b && same s s)) (sym (eq-eqb x x refl)) (same_self s)

pub is_one : (ws : List String) (s : List ℕ) (k : ℕ) → k < length ws → bytes (get_or ws k "") ≡ s → T (one_of ws s)
unfolding one_of
is_one [] s k h e = absurd (not-suc-le-zero h)
is_one (w ∷ ws) s zero h e = either_left (same (bytes w) s) (one_of ws s) (subst (λ (u : List ℕ). T (same (bytes w) u)) e (same_self (bytes w)))
is_one (w ∷ ws) s (suc k) h e = either_right (same (bytes w) s) (one_of ws s) (is_one ws s k (le_of_suc-le-suc h) e)

-- two rows with one text are one row
pub one_row :
    (ws : List String) → T (different ws) → (j k : ℕ) → j < length ws → k < length ws
    → bytes (get_or ws j "") ≡ bytes (get_or ws k "") → j ≡ k
unfolding different
one_row [] t j k hj hk e = absurd (not-suc-le-zero hj)
one_row (w ∷ ws) t zero zero hj hk e = refl
one_row (w ∷ ws) t zero (suc k) hj hk e =
    absurd (T_not (one_of ws (bytes w)) (both_left (not (one_of ws (bytes w))) (different ws) t) (is_one ws (bytes w) k (le_of_suc-le-suc hk) (sym e)))
one_row (w ∷ ws) t (suc j) zero hj hk e =
    absurd (T_not (one_of ws (bytes w)) (both_left (not (one_of ws (bytes w))) (different ws) t) (is_one ws (bytes w) j (le_of_suc-le-suc hj) e))
one_row (w ∷ ws) t (suc j) (suc k) hj hk e =
    ap suc (one_row ws (both_right (not (one_of ws (bytes w))) (different ws) t) j k (le_of_suc-le-suc hj) (le_of_suc-le-suc hk) e)

-- so the rows of a section whose texts are different
pub rows_apart :
    (n : ℕ) (ws : List String) → take (length ws) (drop n texts) ≡ ws → T (different ws)
    → (j k : ℕ) → j < length ws → k < length ws → text_at (n + j) ≡ text_at (n + k) → j ≡ k
rows_apart n ws e t j k hj hk q =
    one_row ws t j k hj hk (sym (section_text n (length ws) ws e j hj) ∙ q ∙ section_text n (length ws) ws e k hk)
