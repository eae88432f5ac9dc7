-- Bytes and one more read as ++ or -- exactly if they are a sign and it is the same; so whether they do goes by the byte's sign. Assumes nothing.
use mathlib.Core.Path.{◌≡◌, refl, sym, ◌∙◌, ap}
use mathlib.Core.Bool.{Bool, true, false, ◌&&◌, ◌||◌, cond, or-false, and-false}
use mathlib.Core.List.{List, [], ◌∷◌, ◌++◌}
use Prim.Native.Nat.{ℕ}
use lib.Dec.{eqb}
use borrow.Author.Tests.{eqb-false, ne_eqb}
use Rattle.words.specs.Form.{same, one_of}
use Rattle.text.specs.Operator.{reads_as_one}
use Rattle.formed.proofs.Signs.{plus, minus, sign_byte}

-- bytes and one more spell a sign twice exactly if they are the sign, and so is the last
twice : (x y : ℕ) (w : List ℕ) → same (x ∷ x ∷ []) (w ++ (y ∷ [])) ≡ same (x ∷ []) w && eqb x y
unfolding same
twice x y [] = and-false (eqb x y)
twice x y (a ∷ []) = go (eqb x a) (eqb x y)
  where
    go : (p q : Bool) → p && (q && true) ≡ p && true && q
    go true true = refl
    go true false = refl
    go false q = refl
twice x y (a ∷ b ∷ w) = ap (λ (t : Bool). eqb x a && (eqb x b && t)) (longer w) ∙ go (eqb x a) (eqb x b)
  where
    longer : (v : List ℕ) → same [] (v ++ (y ∷ [])) ≡ false
    longer [] = refl
    longer (c ∷ v) = refl

    go : (p q : Bool) → p && (q && false) ≡ p && false && eqb x y
    go true true = refl
    go true false = refl
    go false q = refl

-- the operator's bytes, and what its operand begins with: both plus, or both minus
abbrev pub spelled : List ℕ → ℕ → Bool
spelled w b = same (plus ∷ []) w && eqb plus b || same (minus ∷ []) w && eqb minus b

pub reads_spelled : (w : List ℕ) (b : ℕ) → reads_as_one (w ++ (b ∷ [])) ≡ spelled w b
unfolding one_of
reads_spelled w b = rw (twice plus b w, twice minus b w) (ap (λ (t : Bool). same (plus ∷ []) w && eqb plus b || t) (or-false _))

-- 0 is no sign, and a byte that is none is like it
pub neither : (w : List ℕ) (b : ℕ) → eqb plus b ≡ false → eqb minus b ≡ false → spelled w b ≡ false
neither w b p m = rw (p, m, and-false (same (plus ∷ []) w), and-false (same (minus ∷ []) w)) refl

pub as_sign : (w : List ℕ) (b : ℕ) → spelled w (sign_byte b) ≡ spelled w b
as_sign w b = go (eqb b plus) (eqb b minus) refl refl
  where
    differs : (k : ℕ) → eqb b k ≡ false → eqb k b ≡ false
    differs k e = ne_eqb k b (λ q. eqb-false b k e (sym q))

    go : (p m : Bool) → eqb b plus ≡ p → eqb b minus ≡ m → spelled w (cond (p || m) b 0) ≡ spelled w b
    go true m e f = refl
    go false true e f = refl
    go false false e f = neither w 0 refl refl ∙ sym (neither w b (differs plus e) (differs minus f))

pub reads_by_sign : (w : List ℕ) (b : ℕ) → reads_as_one (w ++ (sign_byte b ∷ [])) ≡ reads_as_one (w ++ (b ∷ []))
reads_by_sign w b = reads_spelled w (sign_byte b) ∙ as_sign w b ∙ sym (reads_spelled w b)
