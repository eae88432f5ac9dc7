-- GLSL's words are a vocabulary: each proper token is spelled as a word that is this token alone, and what makes it longer begins with a byte that may. Assumes nothing.
use mathlib.Core.Path.{◌≡◌, refl, sym, ◌∙◌, ap, subst}
use mathlib.Core.Bool.{Bool, true, not, ◌&&◌, ◌||◌, cond}
use mathlib.Core.List.{List, [], ◌∷◌, ◌++◌}
use mathlib.Core.Option.{Option, none, some}
use Prim.Native.Nat.{ℕ}
use Prim.Native.Char.{code}
use lib.ListN.{length}
use lib.Dec.{eqb}
use borrow.Author.Tests.{not-true}
use Rattle.words.specs.Letter.{between, digit, name_byte}
use Rattle.words.specs.Form.{longest_name, all, one_of, name_form}
use Rattle.words.specs.Keyword.{fixed_words}
use Rattle.text.specs.Token.{Token, spell}
use Rattle.text.specs.Token.Token.{name, int, uint, float, double, word, symbol}
use Rattle.lexis.specs.Preprocessing.{preprocessing_number, preprocessing_word, Between}
use Rattle.lexis.specs.Division.{begins_with}
use Rattle.lexis.specs.Keywords.{listed}
use Rattle.lexis.specs.Number.{number_word}
use Rattle.lexis.specs.Glsl.{identifier_word, symbol_words, glsl_word, proper_where, unlisted, Spelled, Lexeme}
use Rattle.lexis.proofs.Laws.{lengthens, opens, Spelling, Vocabulary}
use Rattle.lexis.proofs.Tests.{both, either, or_left, or_right, and_both, clash}
use Rattle.lexis.proofs.Fixed.{fixed_tokens, find, word_found, symbol_found, type_found, number_not_fixed, name_not_fixed, listed_word, type_listed, word_listed}
use Rattle.lexis.proofs.Symbols.{symbol_listed, symbol_opens}
use Rattle.lexis.proofs.Wider.{number_wider}
use Rattle.lexis.proofs.Numerals.{Numeral, number_token, int_numeral, uint_numeral, float_numeral, double_numeral}
use Rattle.lexis.proofs.Behind.{identifier_first, behind_identifier, behind_number, behind_symbol, solid_word}

-- the token that a word is: a fixed one if it is spelled like one, else a number if a digit is first, else a name
or_else : Option Token → Token → Token
or_else none t = t
or_else (some u) t = u

lexeme : List ℕ → Token
lexeme s = or_else (find fixed_tokens s) (cond (begins_with digit s) (number_token s) (name s))

fixed_lexeme : (s : List ℕ) (t : Token) → find fixed_tokens s ≡ some t → lexeme s ≡ t
unfolding lexeme or_else
fixed_lexeme s t e = rw e

number_lexeme : (s : List ℕ) (t : Token) → Numeral s t → lexeme s ≡ t
unfolding lexeme or_else
number_lexeme [] t n = clash n.opens refl
number_lexeme (b ∷ s) t n = rw (number_not_fixed b s n.opens, n.opens) n.reads

-- names
name_identifier : (n : List ℕ) → name_form n ≡ true → identifier_word n ≡ true
unfolding name_form identifier_word all
name_identifier [] h = h
name_identifier (b ∷ n) h =
    let a = both (between 1 longest_name (length (b ∷ n)) && not (digit b) && (name_byte b && all name_byte n)) (not (one_of fixed_words (b ∷ n))) h in
    let c = both (between 1 longest_name (length (b ∷ n)) && not (digit b)) (name_byte b && all name_byte n) a.0 in
    let d = both (between 1 longest_name (length (b ∷ n))) (not (digit b)) c.0 in
    let e = both (name_byte b) (all name_byte n) c.1 in
    and_both (name_byte b && not (digit b)) (all name_byte n) (and_both (name_byte b) (not (digit b)) e.0 d.1) e.1

identifier_opens : (s : List ℕ) → identifier_word s ≡ true → begins_with (λ b. name_byte b && not (digit b)) s ≡ true
unfolding identifier_word
identifier_opens [] h = h
identifier_opens (b ∷ s) h = identifier_first b s h

name_lexeme : (n : List ℕ) → identifier_word n ≡ true → find fixed_tokens n ≡ none → lexeme n ≡ name n
unfolding lexeme or_else identifier_word
name_lexeme [] h k = clash h refl
name_lexeme (b ∷ n) h k = rw (k, not-true (digit b) (both (name_byte b) (not (digit b)) (identifier_first b n h)).1)

-- a name is no fixed word
unwritten : (n : List ℕ) → name_form n ≡ true → find fixed_tokens n ≡ none
unfolding name_form
unwritten [] h = clash h refl
unwritten (b ∷ n) h =
    let a = both (between 1 longest_name (length (b ∷ n)) && not (digit b) && all name_byte (b ∷ n)) (not (one_of fixed_words (b ∷ n))) h in
    name_not_fixed b n (both (name_byte b) (not (digit b)) (identifier_first b n (name_identifier (b ∷ n) h))).0 (not-true (one_of fixed_words (b ∷ n)) a.1)

-- what is asked of a token: its spelling is a word of GLSL and begins as it should, and even the preprocessor's words go on from it only with a byte that lengthens it
record Shaped (t : Token) : Type 0 where
  is_word : glsl_word (spell t) ≡ true
  longest : (b : ℕ) (more : List ℕ) → preprocessing_word (spell t ++ (b ∷ more)) ≡ true → lengthens true t b ≡ true
  begins : begins_with (opens t) (spell t) ≡ true

-- names, type keywords and words; of `lengthens` and `opens` it is said what they are for such a token
identifier_shaped :
    (t : Token) → identifier_word (spell t) ≡ true → ((b : ℕ) → name_byte b ≡ true → lengthens true t b ≡ true)
    → (begins_with (λ b. name_byte b && not (digit b)) (spell t) ≡ true → begins_with (opens t) (spell t) ≡ true) → Shaped t
unfolding glsl_word
identifier_shaped t h l o = record {
  is_word = or_left (identifier_word (spell t) || number_word (spell t)) (one_of symbol_words (spell t)) (or_left (identifier_word (spell t)) (number_word (spell t)) h);
  longest = λ b more g. l b (behind_identifier (spell t) b more h g);
  begins = o (identifier_opens (spell t) h);
}

identifier_listed : (s : List ℕ) → listed_word s ≡ true → identifier_word s ≡ true
unfolding listed_word
identifier_listed s h = (both (identifier_word s) (listed s) h).0

number_shaped :
    (t : Token) → Numeral (spell t) t → ((b : ℕ) → name_byte b || eqb b (code ".") ≡ true → lengthens true t b ≡ true)
    → (begins_with digit (spell t) ≡ true → begins_with (opens t) (spell t) ≡ true) → Shaped t
unfolding glsl_word
number_shaped t n l o = record {
  is_word = or_left (identifier_word (spell t) || number_word (spell t)) (one_of symbol_words (spell t)) (or_right (identifier_word (spell t)) (number_word (spell t)) n.is_number);
  longest = λ b more g. l b (behind_number (spell t) b more n.opens n.is_calm g);
  begins = o n.opens;
}

-- whatever names pass: words of 3.6 too
shaped : (passes : List ℕ → Bool) (t : Token) → proper_where passes t ≡ true → Shaped t
unfolding proper_where spell lengthens opens glsl_word
shaped passes (name n) h = identifier_shaped (name n) (name_identifier n (both (name_form n) (passes n) h).0) (λ b k. k) (λ k. k)
shaped passes (Token.type v) h = identifier_shaped (Token.type v) (identifier_listed (spell (Token.type v)) (type_listed v h)) (λ b k. k) (λ k. k)
shaped passes (int n) h = number_shaped (int n) (int_numeral n) (λ b k. k) (λ k. k)
shaped passes (uint n) h = number_shaped (uint n) (uint_numeral n) (λ b k. k) (λ k. k)
shaped passes (float t) h = number_shaped (float t) (float_numeral t h) (λ b k. k) (λ k. k)
shaped passes (double t) h = number_shaped (double t) (double_numeral t h) (λ b k. k) (λ k. k)
shaped passes (word w) h = identifier_shaped (word w) (identifier_listed (spell (word w)) (word_listed w)) (λ b k. k) (λ k. k)
shaped passes (symbol y) h = record {
  is_word = or_right (identifier_word (spell (symbol y)) || number_word (spell (symbol y))) (one_of symbol_words (spell (symbol y))) (symbol_listed y);
  longest = behind_symbol y;
  begins = symbol_opens y;
}

-- and its spelling is read as that token: no name is a fixed word
reads : (passes : List ℕ → Bool) (t : Token) → proper_where passes t ≡ true → lexeme (spell t) ≡ t
unfolding proper_where spell
reads passes (name n) h = let a = (both (name_form n) (passes n) h).0 in name_lexeme n (name_identifier n a) (unwritten n a)
reads passes (Token.type v) h = fixed_lexeme (spell (Token.type v)) (Token.type v) (type_found v h)
reads passes (int n) h = number_lexeme (spell (int n)) (int n) (int_numeral n)
reads passes (uint n) h = number_lexeme (spell (uint n)) (uint n) (uint_numeral n)
reads passes (float t) h = number_lexeme (spell (float t)) (float t) (float_numeral t h)
reads passes (double t) h = number_lexeme (spell (double t)) (double t) (double_numeral t h)
reads passes (word w) h = fixed_lexeme (spell (word w)) (word w) (word_found w)
reads passes (symbol y) h = fixed_lexeme (spell (symbol y)) (symbol y) (symbol_found y)

-- a word that looks like a name and is no fixed word is a name, if it is a token
pub only_name : (w : List ℕ) → identifier_word w ≡ true → find fixed_tokens w ≡ none → (t : Token) → Lexeme w t → t ≡ name w
only_name w h k t l = sym (reads unlisted t l.is_proper) ∙ ap lexeme l.spells ∙ name_lexeme w h k

-- any language between GLSL and the preprocessor: so it does not matter how a compiler cuts out what looks like a number and is none
module _ (passes : List ℕ → Bool) (W : List ℕ → Bool) (between : Between W) where
  within : (s : List ℕ) (t : Token) → Spelled passes s t → W s ≡ true
  within s t l = between.has_all s (subst (λ (r : List ℕ). glsl_word r ≡ true) l.spells (shaped passes t l.is_proper).is_word)

  pub spelling : Spelling true spell (proper_where passes) (Spelled passes) W
  spelling = record {
    spells = λ t h. record { spells = refl; is_proper = h };
    longest = λ t h b more g. (shaped passes t h).longest b more (between.has_no_other (spell t ++ (b ∷ more)) g);
    begins = λ t h. (shaped passes t h).begins;
  }

  pub vocabulary : Vocabulary (Spelled passes) W
  vocabulary = record {
    within = within;
    one = λ s t u l m. sym (reads passes t l.is_proper) ∙ ap lexeme (l.spells ∙ sym m.spells) ∙ reads passes u m.is_proper;
    solid = λ s t l. solid_word s (between.has_no_other s (within s t l));
  }

glsl_wider : (s : List ℕ) → glsl_word s ≡ true → preprocessing_word s ≡ true
unfolding glsl_word preprocessing_word
glsl_wider s h =
    either (identifier_word s || number_word s) (one_of symbol_words s) h
    (λ i. or_left (identifier_word s || preprocessing_number s) (one_of symbol_words s)
    (either (identifier_word s) (number_word s) i (or_left (identifier_word s) (preprocessing_number s)) (λ n. or_right (identifier_word s) (preprocessing_number s) (number_wider s n))))
    (or_right (identifier_word s || preprocessing_number s) (one_of symbol_words s))

pub glsl_between : Between glsl_word
glsl_between = record { has_all = λ w h. h; has_no_other = glsl_wider }

pub preprocessing_between : Between preprocessing_word
preprocessing_between = record { has_all = glsl_wider; has_no_other = λ w h. h }
