-- What the preprocessor's numbers begin with, and what they go on with behind a number that is printed. Assumes nothing.
use mathlib.Core.Path.{◌≡◌, refl, sym, ◌∙◌, subst}
use mathlib.Core.Bool.{Bool, true, false, not, ◌&&◌, ◌||◌, or-false}
use mathlib.Core.List.{List, [], ◌∷◌, ◌++◌, append-nil}
use Prim.Native.Nat.{ℕ}
use Prim.Native.Char.{code}
use lib.Dec.{eqb}
use borrow.Author.Tests.{not-true}
use Rattle.words.specs.Letter.{digit, name_byte}
use Rattle.words.specs.Form.{all}
use Rattle.lexis.specs.Division.{begins_with}
use Rattle.lexis.specs.Number.{sign, exponent_letter}
use Rattle.lexis.specs.Preprocessing.{plain, goes_on, opens_number, preprocessing_number}
use Rattle.lexis.proofs.Tests.{both, either, or_left, or_right, and_both}
use Rattle.lexis.proofs.Letters.{digit_name_byte}

-- plain bytes go on, whatever is before them
goes_wider : (l : Bool) (s : List ℕ) → goes_on false s ≡ true → goes_on l s ≡ true
unfolding goes_on
goes_wider l [] h = refl
goes_wider l (b ∷ s) h =
    let a = both (plain b || false) (goes_on (exponent_letter b) s) h in
    and_both (plain b || l && sign b) (goes_on (exponent_letter b) s) (or_left (plain b) (l && sign b) (sym (or-false (plain b)) ∙ a.0)) a.1

pub plain_then : (u v : List ℕ) → all plain u ≡ true → goes_on false v ≡ true → (l : Bool) → goes_on l (u ++ v) ≡ true
unfolding all goes_on
plain_then [] v h i l = goes_wider l v i
plain_then (b ∷ u) v h i l =
    let a = both (plain b) (all plain u) h in
    and_both (plain b || l && sign b) (goes_on (exponent_letter b) (u ++ v)) (or_left (plain b) (l && sign b) a.0) (plain_then u v a.1 i (exponent_letter b))

pub plain_goes : (s : List ℕ) → all plain s ≡ true → (l : Bool) → goes_on l s ≡ true
unfolding goes_on
plain_goes s h l = subst (λ (r : List ℕ). goes_on l r ≡ true) (append-nil s) (plain_then s [] h refl l)

pub name_byte_plain : (b : ℕ) → name_byte b ≡ true → plain b ≡ true
unfolding plain
name_byte_plain b h = or_left (name_byte b) (eqb b (code ".")) h

pub digit_plain : (b : ℕ) → digit b ≡ true → plain b ≡ true
digit_plain b h = name_byte_plain b (digit_name_byte b h)

-- the bytes behind which no sign goes on
unfoldable pub calm : ℕ → Bool
calm b = plain b && not (exponent_letter b)

calm_then : (s : List ℕ) (b : ℕ) (more : List ℕ) → all calm s ≡ true → goes_on false (s ++ (b ∷ more)) ≡ true → plain b ≡ true
unfolding all goes_on calm
calm_then [] b more h g = sym (or-false (plain b)) ∙ (both (plain b || false) (goes_on (exponent_letter b) more) g).0
calm_then (c ∷ s) b more h g =
    let a = both (calm c) (all calm s) h in
    let e : exponent_letter c ≡ false = not-true (exponent_letter c) (both (plain c) (not (exponent_letter c)) a.0).1 in
    calm_then s b more a.1 (subst (λ (l : Bool). goes_on l (s ++ (b ∷ more)) ≡ true) e (both (plain c || false) (goes_on (exponent_letter c) (s ++ (b ∷ more))) g).1)

-- a number that goes on from such bytes goes on with a letter, a digit, an underscore or a point
pub number_behind : (s : List ℕ) (b : ℕ) (more : List ℕ) → all calm s ≡ true → preprocessing_number (s ++ (b ∷ more)) ≡ true → plain b ≡ true
unfolding preprocessing_number
number_behind s b more h n = calm_then s b more h (both (opens_number (s ++ (b ∷ more))) (goes_on false (s ++ (b ∷ more))) n).1

pub number_first : (b : ℕ) (s : List ℕ) → preprocessing_number (b ∷ s) ≡ true → digit b || eqb b (code ".") ≡ true
unfolding preprocessing_number opens_number
number_first b s h =
    either (digit b) (eqb b (code ".") && begins_with digit s) (both (opens_number (b ∷ s)) (goes_on false (b ∷ s)) h).0 (or_left (digit b) (eqb b (code ".")))
    (λ p. or_right (digit b) (eqb b (code ".")) (both (eqb b (code ".")) (begins_with digit s) p).0)

-- behind a point that is first
pub point_behind : (b : ℕ) (s : List ℕ) → preprocessing_number (code "." ∷ b ∷ s) ≡ true → digit b ≡ true
unfolding preprocessing_number opens_number digit
point_behind b s h = (both (opens_number (code "." ∷ b ∷ s)) (goes_on false (code "." ∷ b ∷ s)) h).0
