-- The tokens that have one spelling each: type keywords, words and symbols. Assumes nothing.
use mathlib.Core.Path.{◌≡◌, refl, sym, ◌∙◌, ap, subst}
use mathlib.Core.Bool.{Bool, true, false, not, ◌&&◌, ◌||◌, cond, and-false}
use mathlib.Core.List.{List, [], ◌∷◌, ◌++◌, map}
use mathlib.Core.Option.{Option, none, some}
use Prim.Native.Nat.{ℕ, zero, suc, ◌+◌, ◌≤◌, ◌<◌}
use native.Mathlib.Omega.{arith}
use lib.ListN.{length}
use lib.Dec.{ltb}
use borrow.Author.Tests.{ltb-true}
use Rattle.words.specs.Letter.{digit, letter, name_byte}
use Rattle.words.specs.Form.{all, same, one_of}
use Rattle.words.specs.Word.{Word, StorageQualifier, PrecisionQualifier, InterpolationQualifier, word_text, other_words, qualifier_words, jump_words, bool_words, lone_words}
use Rattle.words.specs.Word.Word.{storage, precision_qualifier, interpolation, subroutine, layout, invariant, precise, continue, break, discard, return, precision, struct, if, else, switch, case, default, while, «do», for}
use Rattle.words.specs.Symbol.{Symbol, symbol_text, unary_operators, binary_operators, assignment_operators}
use Rattle.words.specs.Symbol.Symbol.{left_paren, right_paren, left_bracket, right_bracket, left_brace, right_brace, dot, comma, colon, semicolon, question, inc_op, dec_op, plus, dash, bang, tilde, or_op, xor_op, and_op, vertical_bar, caret, ampersand, eq_op, ne_op, left_angle, right_angle, le_op, ge_op, left_op, right_op, star, slash, percent, equal, mul_assign, div_assign, mod_assign, add_assign, sub_assign, left_assign, right_assign, and_assign, xor_assign, or_assign}
use Rattle.words.specs.Keyword.{type_keywords, fixed_words}
use Rattle.words.proofs.Search.{same_eq, apart}
use Rattle.word_table.proofs.Listed.{types_count}
use Rattle.word_table.proofs.Rule.{same_self}
use Rattle.word_table.proofs.Sections.{type_row, word_apart}
use Rattle.text.specs.Token.{Token, spell}
use Rattle.text.specs.Token.Token.{name, int, uint, float, double, word, symbol}
use Rattle.lexis.specs.Division.{begins_with}
use Rattle.lexis.specs.Keywords.{keywords, vulkan_keywords, reserved_words, listed_words, listed}
use Rattle.lexis.specs.Glsl.{identifier_word}
use Rattle.lexis.proofs.Tests.{holds, both, clash}

-- n type keywords from number v on
unfoldable pub types_from : ℕ → ℕ → List Token
types_from v zero = []
types_from v (suc n) = Token.type v ∷ types_from (suc v) n

unfoldable pub others : List Token
others =
    map word (qualifier_words ++ jump_words ++ bool_words ++ lone_words)
    ++ map symbol (unary_operators ++ binary_operators ++ assignment_operators)
    ++ map symbol (left_paren ∷ right_paren ∷ left_bracket ∷ right_bracket ∷ left_brace ∷ right_brace ∷ dot ∷ comma ∷ colon ∷ semicolon ∷ question ∷ [])

unfoldable pub fixed_tokens : List Token
fixed_tokens = types_from 0 (length type_keywords) ++ others

-- the first of them that is spelled so
unfoldable pub find : List Token → List ℕ → Option Token
find [] s = none
find (t ∷ ts) s = cond (same (spell t) s) (some t) (find ts s)

pub word_found : (w : Word) → find fixed_tokens (spell (word w)) ≡ some (word w)
unfolding find spell same fixed_tokens others types_from type_keywords qualifier_words jump_words bool_words lone_words word_text
word_found (storage StorageQualifier.const) = refl
word_found (storage StorageQualifier.inout) = refl
word_found (storage StorageQualifier.«in») = refl
word_found (storage StorageQualifier.out) = refl
word_found (storage StorageQualifier.centroid) = refl
word_found (storage StorageQualifier.patch) = refl
word_found (storage StorageQualifier.sample) = refl
word_found (storage StorageQualifier.uniform) = refl
word_found (storage StorageQualifier.buffer) = refl
word_found (storage StorageQualifier.shared) = refl
word_found (storage StorageQualifier.coherent) = refl
word_found (storage StorageQualifier.volatile) = refl
word_found (storage StorageQualifier.restrict) = refl
word_found (storage StorageQualifier.readonly) = refl
word_found (storage StorageQualifier.writeonly) = refl
word_found (storage StorageQualifier.attribute) = refl
word_found (storage StorageQualifier.varying) = refl
word_found (precision_qualifier PrecisionQualifier.highp) = refl
word_found (precision_qualifier PrecisionQualifier.mediump) = refl
word_found (precision_qualifier PrecisionQualifier.lowp) = refl
word_found (interpolation InterpolationQualifier.smooth) = refl
word_found (interpolation InterpolationQualifier.flat) = refl
word_found (interpolation InterpolationQualifier.noperspective) = refl
word_found subroutine = refl
word_found layout = refl
word_found invariant = refl
word_found precise = refl
word_found continue = refl
word_found break = refl
word_found discard = refl
word_found return = refl
word_found Word.false = refl
word_found Word.true = refl
word_found precision = refl
word_found struct = refl
word_found if = refl
word_found else = refl
word_found switch = refl
word_found case = refl
word_found default = refl
word_found while = refl
word_found «do» = refl
word_found for = refl

pub symbol_found : (y : Symbol) → find fixed_tokens (spell (symbol y)) ≡ some (symbol y)
unfolding find spell same fixed_tokens others types_from type_keywords qualifier_words jump_words bool_words lone_words word_text symbol_text unary_operators binary_operators assignment_operators
symbol_found left_paren = refl
symbol_found right_paren = refl
symbol_found left_bracket = refl
symbol_found right_bracket = refl
symbol_found left_brace = refl
symbol_found right_brace = refl
symbol_found dot = refl
symbol_found comma = refl
symbol_found colon = refl
symbol_found semicolon = refl
symbol_found question = refl
symbol_found inc_op = refl
symbol_found dec_op = refl
symbol_found plus = refl
symbol_found dash = refl
symbol_found bang = refl
symbol_found tilde = refl
symbol_found or_op = refl
symbol_found xor_op = refl
symbol_found and_op = refl
symbol_found vertical_bar = refl
symbol_found caret = refl
symbol_found ampersand = refl
symbol_found eq_op = refl
symbol_found ne_op = refl
symbol_found left_angle = refl
symbol_found right_angle = refl
symbol_found le_op = refl
symbol_found ge_op = refl
symbol_found left_op = refl
symbol_found right_op = refl
symbol_found star = refl
symbol_found slash = refl
symbol_found percent = refl
symbol_found equal = refl
symbol_found mul_assign = refl
symbol_found div_assign = refl
symbol_found mod_assign = refl
symbol_found add_assign = refl
symbol_found sub_assign = refl
symbol_found left_assign = refl
symbol_found right_assign = refl
symbol_found and_assign = refl
symbol_found xor_assign = refl
symbol_found or_assign = refl

-- type keywords of one spelling are one
type_apart : (j k : ℕ) → j < types_count → k < types_count → spell (Token.type j) ≡ spell (Token.type k) → j ≡ k
unfolding spell
type_apart j k hj hk e = word_apart j k (omega arith) (omega arith) (type_row j hj ∙ e ∙ sym (type_row k hk))

found_from : (n v k : ℕ) → v ≤ k → k < v + n → v + n ≤ types_count → find (types_from v n) (spell (Token.type k)) ≡ some (Token.type k)
unfolding find types_from
found_from zero v k h i j = absurd (omega arith)
found_from (suc n) v k h i j = go (same (spell (Token.type v)) (spell (Token.type k))) refl (λ e. found_from n (suc v) k e (omega arith) (omega arith))
  where
    go :
        (b : Bool) → same (spell (Token.type v)) (spell (Token.type k)) ≡ b
        → (suc v ≤ k → find (types_from (suc v) n) (spell (Token.type k)) ≡ some (Token.type k))
        → cond b (some (Token.type v)) (find (types_from (suc v) n) (spell (Token.type k))) ≡ some (Token.type k)
    go true e later = ap (λ (x : ℕ). some (Token.type x)) (type_apart v k (omega arith) (omega arith) (same_eq _ _ e))
    go false e later = let apart : v ≡ k → ⊥ = λ q. clash (subst (λ (x : ℕ). same (spell (Token.type v)) (spell (Token.type x)) ≡ true) q (holds _ (same_self (spell (Token.type v))))) e in later (omega arith)

find_append : (ts us : List Token) (s : List ℕ) (t : Token) → find ts s ≡ some t → find (ts ++ us) s ≡ some t
unfolding find
find_append [] us s t e = let z : ◌≡◌ {A = ℕ} 0 1 = cc in absurd (omega arith)
find_append (u ∷ ts) us s t e = go (same (spell u) s) e (find_append ts us s t)
  where
    go : (b : Bool) → cond b (some u) (find ts s) ≡ some t → (find ts s ≡ some t → find (ts ++ us) s ≡ some t) → cond b (some u) (find (ts ++ us) s) ≡ some t
    go true e later = e
    go false e later = later e

pub type_found : (v : ℕ) → ltb v (length type_keywords) ≡ true → find fixed_tokens (spell (Token.type v)) ≡ some (Token.type v)
unfolding fixed_tokens type_keywords
type_found v h = find_append (types_from 0 types_count) others (spell (Token.type v)) (Token.type v) (found_from types_count 0 v (omega arith) (omega (arith, ltb-true v types_count h)) (omega arith))

-- a test of each of them
unfoldable pub every : (Token → Bool) → List Token → Bool
every f [] = true
every f (t ∷ ts) = f t && every f ts

pub found_passes : (f : Token → Bool) (ts : List Token) (s : List ℕ) (t : Token) → every f ts ≡ true → find ts s ≡ some t → f t ≡ true
unfolding every find
found_passes f [] s t h e = let z : ◌≡◌ {A = ℕ} 0 1 = cc in absurd (omega arith)
found_passes f (u ∷ ts) s t h e = go (same (spell u) s) e (both (f u) (every f ts) h).0 (found_passes f ts s t (both (f u) (every f ts) h).1)
  where
    go : (b : Bool) → cond b (some u) (find ts s) ≡ some t → f u ≡ true → (find ts s ≡ some t → f t ≡ true) → f t ≡ true
    go true e here later = let q : u ≡ t = cc in subst (λ (x : Token). f x ≡ true) q here
    go false e here later = later e

-- a text that fails a test which all spellings pass is no spelling
none_found : (f : List ℕ → Bool) (ts : List Token) (s : List ℕ) → every (λ t. f (spell t)) ts ≡ true → f s ≡ false → find ts s ≡ none
unfolding every find
none_found f [] s h e = refl
none_found f (t ∷ ts) s h e =
    let a = both (f (spell t)) (every (λ u. f (spell u)) ts) h in
    rw (apart (spell t) s (λ q. clash a.0 (ap f q ∙ e))) (none_found f ts s a.1 e)

-- a word that GLSL lists
unfoldable pub listed_word : List ℕ → Bool
listed_word s = identifier_word s && listed s

-- type keywords and words are such words
listed_if_word : Token → Bool
listed_if_word (name n) = true
listed_if_word (Token.type v) = listed_word (spell (Token.type v))
listed_if_word (int n) = true
listed_if_word (uint n) = true
listed_if_word (float t) = true
listed_if_word (double t) = true
listed_if_word (word w) = listed_word (spell (word w))
listed_if_word (symbol y) = true

all_listed : every listed_if_word fixed_tokens ≡ true
unfolding every listed_if_word listed_word identifier_word listed listed_words keywords vulkan_keywords reserved_words all same one_of digit letter name_byte spell fixed_tokens others types_from type_keywords qualifier_words jump_words bool_words lone_words word_text unary_operators binary_operators assignment_operators
all_listed = refl

pub type_listed : (v : ℕ) → ltb v (length type_keywords) ≡ true → listed_word (spell (Token.type v)) ≡ true
unfolding listed_if_word
type_listed v h = found_passes listed_if_word fixed_tokens (spell (Token.type v)) (Token.type v) all_listed (type_found v h)

pub word_listed : (w : Word) → listed_word (spell (word w)) ≡ true
unfolding listed_if_word
word_listed w = found_passes listed_if_word fixed_tokens (spell (word w)) (word w) all_listed (word_found w)

-- no name and no number is spelled like one of them
unlike : List ℕ → Bool
unlike s = begins_with (λ b. not (digit b)) s && (one_of fixed_words s || begins_with (λ b. not (name_byte b)) s)

all_unlike : every (λ t. unlike (spell t)) fixed_tokens ≡ true
unfolding every unlike same one_of digit letter name_byte spell fixed_tokens others types_from fixed_words type_keywords other_words qualifier_words jump_words bool_words lone_words word_text symbol_text unary_operators binary_operators assignment_operators
all_unlike = refl

pub number_not_fixed : (b : ℕ) (bs : List ℕ) → digit b ≡ true → find fixed_tokens (b ∷ bs) ≡ none
unfolding unlike
number_not_fixed b bs h = none_found unlike fixed_tokens (b ∷ bs) all_unlike (rw h)

pub name_not_fixed : (b : ℕ) (bs : List ℕ) → name_byte b ≡ true → one_of fixed_words (b ∷ bs) ≡ false → find fixed_tokens (b ∷ bs) ≡ none
unfolding unlike
name_not_fixed b bs h k = none_found unlike fixed_tokens (b ∷ bs) all_unlike (rw (h, k) (and-false (not (digit b))))
