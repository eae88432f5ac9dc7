-- What may stand behind a name, a number or a symbol so that both together begin a word. Assumes nothing.
use mathlib.Core.Path.{◌≡◌, refl, subst}
use mathlib.Core.Bool.{true, false, not, ◌&&◌, ◌||◌}
use mathlib.Core.List.{List, [], ◌∷◌, ◌++◌}
use Prim.Native.Nat.{ℕ}
use Prim.Native.Char.{code}
use native.Mathlib.Omega.{arith}
use lib.Dec.{eqb}
use borrow.Author.Tests.{eqb-true, not-true}
use Rattle.words.specs.Bytes.{bytes}
use Rattle.words.specs.Letter.{digit, letter, name_byte}
use Rattle.words.specs.Form.{all, same, one_of}
use Rattle.words.specs.Symbol.{Symbol, symbol_text, unary_operators, binary_operators, assignment_operators}
use Rattle.words.proofs.Search.{every_word}
use Rattle.text.specs.Token.{has, spell}
use Rattle.text.specs.Token.Token.{symbol}
use Rattle.lexis.specs.Preprocessing.{opens_number, plain, preprocessing_number, preprocessing_word}
use Rattle.lexis.specs.Division.{white_space, begins_with}
use Rattle.lexis.specs.Glsl.{identifier_word, symbol_words}
use Rattle.lexis.proofs.Laws.{symbol_lengthens}
use Rattle.lexis.proofs.Tests.{both, either, or_left, clash, passes, all_behind}
use Rattle.lexis.proofs.Letters.{digit_range, digit_name_byte, letter_from, solid_from}
use Rattle.lexis.proofs.Symbols.{symbol_opens, longer_symbol, point_or_not}
use Rattle.lexis.proofs.Preprocessing.{calm, number_behind, number_first, point_behind}

-- a word is of one of three kinds
three : {C : Type 0} (s : List ℕ) → preprocessing_word s ≡ true → (identifier_word s ≡ true → C) → (preprocessing_number s ≡ true → C) → (one_of symbol_words s ≡ true → C) → C
unfolding preprocessing_word
three s h f g k =
    either (identifier_word s || preprocessing_number s) (one_of symbol_words s) h (λ i. either (identifier_word s) (preprocessing_number s) i f g) k

-- by its first byte
pub identifier_first : (b : ℕ) (s : List ℕ) → identifier_word (b ∷ s) ≡ true → name_byte b && not (digit b) ≡ true
unfolding identifier_word
identifier_first b s h = (both (name_byte b && not (digit b)) (all name_byte s) h).0

symbol_word_first : (b : ℕ) (s : List ℕ) → one_of symbol_words (b ∷ s) ≡ true → not (name_byte b) && not (white_space b) ≡ true
unfolding every_word symbol_words symbol_text unary_operators binary_operators assignment_operators name_byte letter digit white_space
symbol_word_first b s h = passes (begins_with (λ c. not (name_byte c) && not (white_space c))) symbol_words (b ∷ s) refl h

pub no_symbol_word : {C : Type 0} (b : ℕ) (s : List ℕ) → name_byte b ≡ true → one_of symbol_words (b ∷ s) ≡ true → C
no_symbol_word b s h i = clash h (not-true (name_byte b) (both (not (name_byte b)) (not (white_space b)) (symbol_word_first b s i)).0)

-- no letter or underscore begins a number
pub letter_no_number : {C : Type 0} (b : ℕ) → name_byte b && not (digit b) ≡ true → digit b || eqb b (code ".") ≡ true → C
letter_no_number b h n =
    let l = letter_from b h in
    either (digit b) (eqb b (code ".")) n (λ d. absurd (omega (arith, (digit_range b d).1))) (λ p. absurd (omega (arith, eqb-true b (code ".") p)))

-- behind a name or a keyword
pub behind_identifier : (s : List ℕ) (b : ℕ) (more : List ℕ) → identifier_word s ≡ true → preprocessing_word (s ++ (b ∷ more)) ≡ true → name_byte b ≡ true
unfolding identifier_word all
behind_identifier [] b more h g = clash h refl
behind_identifier (c ∷ s) b more h g =
    let i = identifier_first c s h in
    three (c ∷ (s ++ (b ∷ more))) g
    (λ w. (both (name_byte b) (all name_byte more) (all_behind name_byte s (b ∷ more) (both (name_byte c && not (digit c)) (all name_byte (s ++ (b ∷ more))) w).1)).0)
    (λ n. letter_no_number c i (number_first c (s ++ (b ∷ more)) n))
    (λ y. no_symbol_word c (s ++ (b ∷ more)) (both (name_byte c) (not (digit c)) i).0 y)

-- behind a number
pub behind_number : (s : List ℕ) (b : ℕ) (more : List ℕ) → begins_with digit s ≡ true → all calm s ≡ true → preprocessing_word (s ++ (b ∷ more)) ≡ true → name_byte b || eqb b (code ".") ≡ true
unfolding plain
behind_number [] b more d h g = clash d refl
behind_number (c ∷ s) b more d h g =
    three (c ∷ (s ++ (b ∷ more))) g
    (λ w. letter_no_number c (identifier_first c (s ++ (b ∷ more)) w) (or_left (digit c) (eqb c (code ".")) d))
    (λ n. number_behind (c ∷ s) b more h n)
    (λ y. no_symbol_word c (s ++ (b ∷ more)) (digit_name_byte c d) y)

-- behind a symbol
no_name : {C : Type 0} (s : List ℕ) (b : ℕ) (more : List ℕ) → begins_with (λ c. not (name_byte c)) s ≡ true → identifier_word (s ++ (b ∷ more)) ≡ true → C
no_name [] b more h w = clash h refl
no_name (c ∷ s) b more h w = clash (both (name_byte c) (not (digit c)) (identifier_first c (s ++ (b ∷ more)) w)).0 (not-true (name_byte c) h)

no_number :
    {C : Type 0} (s : List ℕ) (b : ℕ) (more : List ℕ) → begins_with (λ c. not (name_byte c)) s ≡ true → begins_with (λ c. not (eqb c (code "."))) s ≡ true
    → preprocessing_number (s ++ (b ∷ more)) ≡ true → C
no_number [] b more h p n = clash h refl
no_number (c ∷ s) b more h p n =
    either (digit c) (eqb c (code ".")) (number_first c (s ++ (b ∷ more)) n) (λ d. clash (digit_name_byte c d) (not-true (name_byte c) h)) (λ e. clash e (not-true (eqb c (code ".")) p))

pub behind_symbol : (y : Symbol) (b : ℕ) (more : List ℕ) → preprocessing_word (spell (symbol y) ++ (b ∷ more)) ≡ true → has b (bytes (symbol_lengthens y)) ≡ true
behind_symbol y b more g =
    three (spell (symbol y) ++ (b ∷ more)) g
    (λ w. no_name (spell (symbol y)) b more (symbol_opens y) w)
    (λ n. point_or_not y (λ p. no_number (spell (symbol y)) b more (symbol_opens y) p n)
    (λ e lengthened. lengthened b (point_behind b more (subst (λ (s : List ℕ). preprocessing_number (s ++ (b ∷ more)) ≡ true) e n))))
    (longer_symbol y b more)

-- no word is empty, none begins with white space
some_word : preprocessing_word [] ≡ false
unfolding preprocessing_word identifier_word preprocessing_number opens_number same one_of symbol_words symbol_text unary_operators binary_operators assignment_operators
some_word = refl

pub solid_word : (s : List ℕ) → preprocessing_word s ≡ true → begins_with (λ b. not (white_space b)) s ≡ true
solid_word [] h = clash h some_word
solid_word (b ∷ s) h =
    three (b ∷ s) h
    (λ w. solid_from b (omega (arith, letter_from b (identifier_first b s w))))
    (λ n. either (digit b) (eqb b (code ".")) (number_first b s n) (λ d. solid_from b (omega (arith, (digit_range b d).0))) (λ p. solid_from b (omega (arith, eqb-true b (code ".") p))))
    (λ y. (both (not (name_byte b)) (not (white_space b)) (symbol_word_first b s y)).1)
