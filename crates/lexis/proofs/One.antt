-- A text has one division by longest match at most. Assumes nothing.
use mathlib.Core.Path.{◌≡◌, refl, sym}
use mathlib.Core.Bool.{Bool, true, not}
use mathlib.Core.List.{List, [], ◌∷◌, ◌++◌}
use Prim.Native.Nat.{ℕ}
use native.Mathlib.Omega.{arith}
use Rattle.text.specs.Token.{Token}
use Rattle.lexis.specs.Division.{white_space, Longest, Divides, begins_with}
use Rattle.lexis.specs.Division.Divides.{at_end, skip, take}
use Rattle.lexis.proofs.Laws.{Vocabulary}

-- two words at the front of one text: they are the same, or one goes on into the text behind the other
data Overlap (v w bs cs : List ℕ) : Type 0 where
  same : v ≡ w → bs ≡ cs → Overlap v w bs cs
  first : (b : ℕ) (more : List ℕ) → w ≡ v ++ (b ∷ more) → bs ≡ b ∷ (more ++ cs) → Overlap v w bs cs
  second : (b : ℕ) (more : List ℕ) → v ≡ w ++ (b ∷ more) → cs ≡ b ∷ (more ++ bs) → Overlap v w bs cs

one_more : (c d : ℕ) (v w bs cs : List ℕ) → c ≡ d → Overlap v w bs cs → Overlap (c ∷ v) (d ∷ w) bs cs
one_more c d v w bs cs q (same h i) = same (cc) i
one_more c d v w bs cs q (first b more h i) = first b more (cc) i
one_more c d v w bs cs q (second b more h i) = second b more (cc) i

overlap : (v w bs cs : List ℕ) → v ++ bs ≡ w ++ cs → Overlap v w bs cs
overlap [] [] bs cs q = same refl q
overlap [] (d ∷ w) bs cs q = first d w refl q
overlap (c ∷ v) [] bs cs q = second c v refl (sym q)
overlap (c ∷ v) (d ∷ w) bs cs q = one_more c d v w bs cs (cc) (overlap v w bs cs (cc))

abbrev pub Solid : List ℕ → Type 0
Solid w = begins_with (λ b. not (white_space b)) w ≡ true

not_empty : (w bs : List ℕ) → Solid w → [] ≡ w ++ bs → ⊥
not_empty [] bs h q = let z : ◌≡◌ {A = ℕ} 0 1 = cc in omega arith
not_empty (c ∷ w) bs h q = let z : ◌≡◌ {A = ℕ} 0 1 = cc in omega arith

pub not_skipped : (b : ℕ) (zs w bs : List ℕ) → white_space b ≡ true → Solid w → b ∷ zs ≡ w ++ bs → ⊥
not_skipped b zs [] bs s h q = let z : ◌≡◌ {A = ℕ} 0 1 = cc in omega arith
not_skipped b zs (d ∷ w) bs s h q = let e : b ≡ d = cc in let z : ◌≡◌ {A = ℕ} 0 1 = cc in omega arith

module _ {L : List ℕ → Token → Type 0} {W : List ℕ → Bool} (law : Vocabulary L W) where
  joined : (v w bs cs : List ℕ) (t u : Token) (ts us : List Token) → L v t → L w u → Longest W v bs → Longest W w cs → (bs ≡ cs → ts ≡ us) → Overlap v w bs cs → t ∷ ts ≡ u ∷ us
  joined v w bs cs t u ts us l m g h k (same i j) = let a : t ≡ u = law.one w t u (rw i at l) m in let b : ts ≡ us = k j in cc
  joined v w bs cs t u ts us l m g h k (first b more i j) = absurd (g b more cs j (law.within (v ++ (b ∷ more)) u (rw i at m)))
  joined v w bs cs t u ts us l m g h k (second b more i j) = absurd (h b more bs j (law.within (w ++ (b ∷ more)) t (rw i at l)))

  pub one_division : {bs cs : List ℕ} {ts us : List Token} → Divides L W bs ts → Divides L W cs us → bs ≡ cs → ts ≡ us
  one_division at_end at_end q = refl
  one_division at_end (skip h d) q = let z : ◌≡◌ {A = ℕ} 0 1 = cc in absurd (omega arith)
  one_division at_end (take {w = w} {bs = bs} l g d) q = absurd (not_empty w bs (law.solid w _ l) q)
  one_division (skip h d) at_end q = let z : ◌≡◌ {A = ℕ} 0 1 = cc in absurd (omega arith)
  one_division (skip h d) (skip i e) q = one_division d e (cc)
  one_division (skip {b = b} {bs = zs} h d) (take {w = w} {bs = bs} l g e) q = absurd (not_skipped b zs w bs h (law.solid w _ l) q)
  one_division (take {w = w} {bs = bs} l g d) at_end q = absurd (not_empty w bs (law.solid w _ l) (sym q))
  one_division (take {w = w} {bs = bs} l g e) (skip {b = b} {bs = zs} h d) q = absurd (not_skipped b zs w bs h (law.solid w _ l) (sym q))
  one_division (take {w = v} {bs = bs} {t = t} {ts = ts} l g d) (take {w = w} {bs = cs} {t = u} {ts = us} m h e) q =
      joined v w bs cs t u ts us l m g h (λ i. one_division d e i) (overlap v w bs cs q)
