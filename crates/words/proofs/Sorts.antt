-- What a text is as a name: the sort that the tests of it give, and what a sort says of the tests (02, #105). Assumes nothing.
use mathlib.Core.Path.{◌≡◌, refl, ap, subst}
use mathlib.Core.Bool.{Bool, true, false, not, cond, ◌&&◌, and-true}
use mathlib.Core.List.{List, [], ◌∷◌}
use Prim.Native.Nat.{ℕ, ◌≤◌}
use Prim.Native.Char.{code}
use native.Mathlib.Omega.{arith}
use lib.ListN.{length, get_or, take}
use lib.Dec.{T, eqb}
use borrow.Author.Tests.{eqb-true, le-leb}
use Rattle.words.specs.Bytes.{bytes}
use Rattle.words.specs.Word.{word_text, qualifier_words, jump_words, bool_words, lone_words, other_words}
use Rattle.words.specs.Keyword.{type_keywords, fixed_words}
use Rattle.words.specs.declared.NameSort.{NameSort}
use Rattle.words.specs.declared.NameSort.TheVariants.{Ordinary, Reserved, NoName}
use Rattle.words.specs.Form.{longest_name, digit, name_byte, all, same, name_form, reserved, name_sort}
use Rattle.words.proofs.Search.{every_word, none_of}

-- the sort, by the tests
module _ (s : List ℕ) where
  pub is_no_name : name_form s ≡ false → name_sort s ≡ NoName
  unfolding name_sort
  is_no_name e = rw e

  pub is_reserved : name_form s ≡ true → reserved s ≡ true → name_sort s ≡ Reserved
  unfolding name_sort
  is_reserved e k = rw (e, k)

  pub is_ordinary : name_form s ≡ true → reserved s ≡ false → name_sort s ≡ Ordinary
  unfolding name_sort
  is_ordinary e k = rw (e, k)

-- what the two tests of a name are, by its sort
abbrev pub Tests : NameSort → Bool → Bool → Type 0
Tests Ordinary name gl = (name ≡ true) × (gl ≡ false)
Tests Reserved name gl = (name ≡ true) × (gl ≡ true)
Tests NoName name gl = name ≡ false

tests : (name gl : Bool) → Tests (cond name (cond gl Reserved Ordinary) NoName) name gl
tests true true = (refl, refl)
tests true false = (refl, refl)
tests false gl = refl

sort_tests : (s : List ℕ) → Tests (name_sort s) (name_form s) (reserved s)
unfolding name_sort
sort_tests s = tests (name_form s) (reserved s)

pub told : (s : List ℕ) (x : NameSort) → name_sort s ≡ x → Tests x (name_form s) (reserved s)
told s x e = subst (λ (y : NameSort). Tests y (name_form s) (reserved s)) e (sort_tests s)

-- an ordinary name is a name
pub ordinary_name : (s : List ℕ) → name_sort s ≡ Ordinary → name_form s ≡ true
ordinary_name s e = (told s Ordinary e).0

-- A text that begins with gl_ begins with no digit and is no fixed word, so it is a name if its bytes are a name's.
letter_first : (s : List ℕ) → reserved s ≡ true → (1 ≤ length s) × (digit (get_or s 0 0) ≡ false)
unfolding reserved same digit
letter_first [] e = let z : ◌≡◌ {A = ℕ} 0 1 = cc in absurd (omega arith)
letter_first (x ∷ s) e = by (eqb x (code "g")) refl e
  where
    by : (b : Bool) → eqb x (code "g") ≡ b → b && same (take 2 s) (bytes "l_") ≡ true → (1 ≤ length (x ∷ s)) × (digit x ≡ false)
    by true q f = (omega arith, ap digit (eqb-true x (code "g") q))
    by false q f = let z : ◌≡◌ {A = ℕ} 0 1 = cc in absurd (omega arith)

no_word_reserved : T (every_word (λ w. not (reserved w)) fixed_words)
unfolding every_word reserved same fixed_words type_keywords other_words qualifier_words jump_words bool_words lone_words word_text
no_word_reserved = tt

pub reserved_name : (s : List ℕ) → reserved s ≡ true → length s ≤ longest_name → name_form s ≡ all name_byte s
unfolding name_form
reserved_name s e l =
    let first = letter_first s e in
    simp (le-leb 1 (length s) first.0, le-leb (length s) longest_name l, first.1, none_of (λ w. not (reserved w)) fixed_words s no_word_reserved (ap not e), and-true)
