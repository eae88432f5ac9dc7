-- What `same` and `one_of` say of a text. Assumes nothing.
use mathlib.Core.Path.{◌≡◌, refl, ◌∙◌, ap, subst}
use mathlib.Core.Bool.{Bool, true, false, ◌&&◌}
use mathlib.Core.List.{List, [], ◌∷◌}
use Prim.Native.Nat.{ℕ}
use Prim.Native.String.{String}
use native.Mathlib.Omega.{arith}
use lib.Dec.{T, eqb}
use lib.Pointwise.{pointwise}
use borrow.Author.Tests.{eqb-true}
use Rattle.words.specs.Bytes.{bytes}
use Rattle.words.specs.Form.{same, one_of}
use Rattle.words.proofs.Tests.{both_left, both_right}

-- `same` is what the library's `==` says of two slices
pub same_is : (u v : List ℕ) → same u v ≡ pointwise eqb u v
unfolding same
same_is [] [] = refl
same_is [] (y ∷ v) = refl
same_is (x ∷ u) [] = refl
same_is (x ∷ u) (y ∷ v) = ap (λ (b : Bool). eqb x y && b) (same_is u v)

-- what `same` says
pub same_eq : (u v : List ℕ) → same u v ≡ true → u ≡ v
unfolding same
same_eq [] [] e = refl
same_eq [] (y ∷ v) e = let z : ◌≡◌ {A = ℕ} 0 1 = cc in absurd (omega arith)
same_eq (x ∷ u) [] e = let z : ◌≡◌ {A = ℕ} 0 1 = cc in absurd (omega arith)
same_eq (x ∷ u) (y ∷ v) e = by (eqb x y) refl e (same_eq u v)
  where
    by : (b : Bool) → eqb x y ≡ b → b && same u v ≡ true → (same u v ≡ true → u ≡ v) → x ∷ u ≡ y ∷ v
    by true q e later = let p : u ≡ v = later e in let r = eqb-true x y q in cc
    by false q e later = let z : ◌≡◌ {A = ℕ} 0 1 = cc in absurd (omega arith)

pub apart : (u v : List ℕ) → (u ≡ v → ⊥) → same u v ≡ false
apart u v f = by (same u v) refl
  where
    by : (b : Bool) → same u v ≡ b → same u v ≡ false
    by true e = absurd (f (same_eq u v e))
    by false e = e

-- a text that fails a test which all words pass is none of them
unfoldable pub every_word : (List ℕ → Bool) → List String → Bool
every_word f [] = true
every_word f (w ∷ ws) = f (bytes w) && every_word f ws

pub none_of : (f : List ℕ → Bool) (ws : List String) (s : List ℕ) → T (every_word f ws) → f s ≡ false → one_of ws s ≡ false
unfolding every_word one_of
none_of f [] s t e = refl
none_of f (w ∷ ws) s t e =
    rw (apart (bytes w) s (λ q. subst (λ (b : Bool). T b) (ap f q ∙ e) (both_left (f (bytes w)) (every_word f ws) t)))
    (none_of f ws s (both_right (f (bytes w)) (every_word f ws) t) e)
