-- How symbols are told from names, from numbers and from each other: by one test each of all symbols. Assumes nothing.
use mathlib.Core.Path.{◌≡◌, refl, sym, subst}
use mathlib.Core.Bool.{Bool, true, false, not, ◌&&◌, ◌||◌, cond}
use mathlib.Core.List.{List, [], ◌∷◌, ◌++◌}
use Prim.Native.Nat.{ℕ, zero, suc, ◌+◌, ◌≤◌, ◌<◌}
use Prim.Native.Char.{code}
use native.Mathlib.Omega.{arith}
use lib.Dec.{eqb}
use borrow.Author.Tests.{eqb-true, eqb-false, eq-eqb}
use Rattle.words.specs.Bytes.{bytes}
use Rattle.words.specs.Letter.{digit, letter, name_byte}
use Rattle.words.specs.Form.{all, same, one_of}
use Rattle.words.specs.Word.{qualifier_words, jump_words, bool_words, lone_words}
use Rattle.words.specs.Symbol.{Symbol, symbol_text, unary_operators, binary_operators, assignment_operators}
use Rattle.words.specs.Keyword.{type_keywords}
use Rattle.words.proofs.Search.{same_eq, every_word}
use Rattle.text.specs.Token.{Token, spell, has}
use Rattle.text.specs.Token.Token.{name, int, uint, float, double, word, symbol}
use Rattle.text.specs.Visible.{blank}
use Rattle.lexis.specs.Division.{begins_with}
use Rattle.lexis.specs.Glsl.{symbol_words}
use Rattle.lexis.proofs.Laws.{symbol_lengthens}
use Rattle.lexis.proofs.Tests.{both, either, passes}
use Rattle.lexis.proofs.Letters.{digit_range}
use Rattle.lexis.proofs.Fixed.{types_from, others, fixed_tokens, symbol_found, every, found_passes}

-- a test of the symbols among the tokens, and what it says of each symbol
on_symbols : (Symbol → Bool) → Token → Bool
on_symbols f (name n) = true
on_symbols f (Token.type v) = true
on_symbols f (int n) = true
on_symbols f (uint n) = true
on_symbols f (float t) = true
on_symbols f (double t) = true
on_symbols f (word w) = true
on_symbols f (symbol y) = f y

each_symbol : (f : Symbol → Bool) → every (on_symbols f) fixed_tokens ≡ true → (y : Symbol) → f y ≡ true
unfolding on_symbols
each_symbol f h y = found_passes (on_symbols f) fixed_tokens (spell (symbol y)) (symbol y) h (symbol_found y)

-- each is a word, and begins as no name does
pub symbol_listed : (y : Symbol) → one_of symbol_words (spell (symbol y)) ≡ true
unfolding every on_symbols fixed_tokens others types_from type_keywords qualifier_words jump_words bool_words lone_words unary_operators binary_operators assignment_operators spell symbol_text one_of same symbol_words
symbol_listed = each_symbol (λ y. one_of symbol_words (spell (symbol y))) refl

pub symbol_opens : (y : Symbol) → begins_with (λ b. not (name_byte b)) (spell (symbol y)) ≡ true
unfolding every on_symbols fixed_tokens others types_from type_keywords qualifier_words jump_words bool_words lone_words unary_operators binary_operators assignment_operators spell symbol_text name_byte letter digit
symbol_opens = each_symbol (λ y. begins_with (λ b. not (name_byte b)) (spell (symbol y))) refl

-- no blank makes one longer
pub no_blank : (y : Symbol) → all (λ b. not (blank b)) (bytes (symbol_lengthens y)) ≡ true
unfolding every on_symbols fixed_tokens others types_from type_keywords qualifier_words jump_words bool_words lone_words unary_operators binary_operators assignment_operators all symbol_lengthens
no_blank = each_symbol (λ y. all (λ b. not (blank b)) (bytes (symbol_lengthens y))) refl

-- where w goes on from s, it goes on with one of these bytes
follows : (s w next : List ℕ) → Bool
follows [] [] next = true
follows [] (b ∷ w) next = has b next
follows (c ∷ s) [] next = true
follows (c ∷ s) (b ∷ w) next = cond (eqb c b) (follows s w next) true

follows_at : (s : List ℕ) (b : ℕ) (more next : List ℕ) → follows s (s ++ (b ∷ more)) next ≡ true → has b next ≡ true
unfolding follows
follows_at [] b more next h = h
follows_at (c ∷ s) b more next h = follows_at s b more next (rw (eq-eqb c c refl) at h)

-- a longer symbol
pub longer_symbol : (y : Symbol) (b : ℕ) (more : List ℕ) → one_of symbol_words (spell (symbol y) ++ (b ∷ more)) ≡ true → has b (bytes (symbol_lengthens y)) ≡ true
unfolding every on_symbols fixed_tokens others types_from type_keywords qualifier_words jump_words bool_words lone_words unary_operators binary_operators assignment_operators spell symbol_text every_word follows has symbol_words symbol_lengthens
longer_symbol y b more h =
    follows_at (spell (symbol y)) b more (bytes (symbol_lengthens y))
    (passes (λ w. follows (spell (symbol y)) w (bytes (symbol_lengthens y))) symbol_words (spell (symbol y) ++ (b ∷ more))
    (each_symbol (λ z. every_word (λ w. follows (spell (symbol z)) w (bytes (symbol_lengthens z))) symbol_words) refl y) h)

-- n numbers from `low` on pass a test
pass_from : (ℕ → Bool) → (low n : ℕ) → Bool
pass_from f low zero = true
pass_from f low (suc n) = f low && pass_from f (suc low) n

pass_at : (f : ℕ → Bool) (n low b : ℕ) → pass_from f low n ≡ true → low ≤ b → b < low + n → f b ≡ true
unfolding pass_from
pass_at f zero low b h i j = absurd (omega arith)
pass_at f (suc n) low b h i j = go (eqb b low) refl (λ k. pass_at f n (suc low) b (both (f low) (pass_from f (suc low) n) h).1 k (omega arith))
  where
    go : (c : Bool) → eqb b low ≡ c → (suc low ≤ b → f b ≡ true) → f b ≡ true
    go true e later = subst (λ (x : ℕ). f x ≡ true) (sym (eqb-true b low e)) (both (f low) (pass_from f (suc low) n) h).0
    go false e later = let q : b ≡ low → ⊥ = eqb-false b low e in later (omega arith)

-- a number: only the point begins as one does, and any digit makes it longer
no_point : Symbol → Bool
no_point y = begins_with (λ b. not (eqb b (code "."))) (spell (symbol y))

point_alone : Symbol → Bool
point_alone y = same (spell (symbol y)) (bytes ".") && pass_from (λ b. has b (bytes (symbol_lengthens y))) (code "0") 10

no_point_or_alone : (y : Symbol) → no_point y || point_alone y ≡ true
unfolding every on_symbols fixed_tokens others types_from type_keywords qualifier_words jump_words bool_words lone_words unary_operators binary_operators assignment_operators spell symbol_text no_point point_alone same pass_from has symbol_lengthens
no_point_or_alone = each_symbol (λ y. no_point y || point_alone y) refl

pub point_or_not :
    {C : Type 0} (y : Symbol) → (begins_with (λ b. not (eqb b (code "."))) (spell (symbol y)) ≡ true → C)
    → (spell (symbol y) ≡ bytes "." → ((b : ℕ) → digit b ≡ true → has b (bytes (symbol_lengthens y)) ≡ true) → C) → C
unfolding no_point point_alone
point_or_not y other point =
    either (no_point y) (point_alone y) (no_point_or_alone y) other
    (λ h. let a = both (same (spell (symbol y)) (bytes ".")) (pass_from (λ b. has b (bytes (symbol_lengthens y))) (code "0") 10) h in
    point (same_eq (spell (symbol y)) (bytes ".") a.0)
    (λ b d. pass_at (λ c. has c (bytes (symbol_lengthens y))) 10 (code "0") b a.1 (digit_range b d).0 (omega (arith, (digit_range b d).1))))
