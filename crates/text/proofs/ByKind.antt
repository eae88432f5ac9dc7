-- What goes by a test, by a record's kind as the rows of Reading do, or by a unary operator's variant: what holds in each case holds. Assumes nothing.
use mathlib.Core.Path.{◌≡◌, refl, sym, subst}
use mathlib.Core.Bool.{Bool, true, false, cond}
use mathlib.Core.List.{List}
use Prim.Native.Nat.{ℕ, zero, suc}
use lib.Dec.{eqb}
use borrow.Author.Tests.{eqb-true}
use Rattle.text.specs.Reading.{Read, Item, Reader}

pub either : {A : Type 0} (P : Read A → Type 0) (L : List Item) (b : Bool) (f g : Reader A) → P (f L) → P (g L) → P (cond b f g L)
either P L true f g p q = p
either P L false f g p q = q

-- kind k is read by the row of kind m, or as the other rows say
pub of_kind : {A : Type 0} (P : ℕ → Read A → Type 0) (L : List Item) (k m : ℕ) (f g : Reader A)
    → P m (f L) → (eqb k m ≡ false → P k (g L)) → P k (cond (eqb k m) f g L)
of_kind P L k m f g here other = go (eqb k m) refl
  where
    go : (b : Bool) → eqb k m ≡ b → P k (cond b f g L)
    go true e = subst (λ (k : ℕ). P k (f L)) (sym (eqb-true k m e)) here
    go false e = other e

-- a kind is m, or another
pub at_kind : (P : ℕ → Type 0) (k m : ℕ) → P m → (eqb k m ≡ false → P k) → P k
at_kind P k m here other = go (eqb k m) refl
  where
    go : (b : Bool) → eqb k m ≡ b → P k
    go true e = subst P (sym (eqb-true k m e)) here
    go false e = other e

-- by the variant of a unary operator, of which the last stands for all beyond it
pub by_variant : (P : ℕ → Type 0) → P 0 → P 1 → P 2 → P 3 → P 4 → ((n : ℕ) → P (suc (suc (suc (suc (suc n)))))) → (v : ℕ) → P v
by_variant P a b c d e f zero = a
by_variant P a b c d e f (suc zero) = b
by_variant P a b c d e f (suc (suc zero)) = c
by_variant P a b c d e f (suc (suc (suc zero))) = d
by_variant P a b c d e f (suc (suc (suc (suc zero)))) = e
by_variant P a b c d e f (suc (suc (suc (suc (suc n))))) = f n
