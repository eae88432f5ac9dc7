-- Parts read one by one, or some of them together as one part: it is the same. Assumes nothing.
use mathlib.Core.Path.{◌≡◌, sym, ap, ◌∙◌}
use mathlib.Core.List.{List}
use Prim.Native.Nat.{ℕ, ◌+◌}
use native.Mathlib.Omega.{arith}
use Rattle.text.specs.Reading.{Read, Reader, give, applied, ◌and◌, from}
use Rattle.text.proofs.At.{and_at, part_at}

module _ (rs ns : List ℕ) where
  -- behind a part p: a part q, as itself or as g makes it
  module _ {P A : Type 0} (p : Reader P) (q : Reader A) (i : ℕ) where
    abbrev n : ℕ
    n = 0 + (p (from rs ns i)).size

    abbrev y : Read A
    y = q (from rs ns (i + n))

    pub one_grouped : {B C : Type 0} (a : P → A → C) (b : P → B → C) (g : A → B) → ((x : P) (y : A) → a x y ≡ b x (g y))
        → (give a and p and q) (from rs ns i) ≡ (give b and p and (give g and q)) (from rs ns i)
    one_grouped {B = B} {C = C} a b g h =
        and_at rs ns (give a and p) q i ∙ ap (λ (t : C). record { tree = t; size = n + y.size }) (h (p (from rs ns i)).tree y.tree)
        ∙ sym (and_at rs ns (give b and p) (give g and q) i ∙ ap (λ (z : Read B). applied ((give b and p) (from rs ns i)) z) (part_at rs ns g q (i + n)))

    -- two parts q and r
    pub two_grouped : {B C D : Type 0} (r : Reader B) (a : P → A → B → C) (b : P → D → C) (g : A → B → D) → ((x : P) (y : A) (z : B) → a x y z ≡ b x (g y z))
        → (give a and p and q and r) (from rs ns i) ≡ (give b and p and (give g and q and r)) (from rs ns i)
    two_grouped {B = B} {C = C} {D = D} r a b g h =
        let x = (p (from rs ns i)).tree in
        let together : i + (n + y.size) ≡ i + n + y.size = omega arith in
        let z = r (from rs ns (i + n + y.size)) in
        let sizes : n + y.size + z.size ≡ n + (y.size + z.size) = omega arith in
        and_at rs ns (give a and p and q) r i ∙ ap (λ (w : Read (B → C)). applied w (r (from rs ns (i + w.size)))) (and_at rs ns (give a and p) q i)
        ∙ ap (λ (k : ℕ). applied (applied ((give a and p) (from rs ns i)) y) (r (from rs ns k))) together
        ∙ ap (λ (k : ℕ). record { tree = a x y.tree z.tree; size = k }) sizes
        ∙ ap (λ (t : C). record { tree = t; size = n + (y.size + z.size) }) (h x y.tree z.tree)
        ∙ sym
        (and_at rs ns (give b and p) (give g and q and r) i
        ∙ ap (λ (w : Read D). applied ((give b and p) (from rs ns i)) w) (and_at rs ns (give g and q) r (i + n) ∙ ap (λ (w : Read (B → D)). applied w (r (from rs ns (i + n + w.size)))) (part_at rs ns g q (i + n))))
