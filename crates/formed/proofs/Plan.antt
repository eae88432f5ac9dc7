-- Readings as plans. A plan is a reading whose steps can be looked at: how it reads, which classes of children it takes, and what must hold for its
-- tree to be formed. ONE law then serves every kind of record: if the children are what their classes ask for, the plan reads them. Assumes nothing.
use mathlib.Core.Path.{◌≡◌, sym, subst}
use mathlib.Core.List.{List, [], ◌∷◌, ◌++◌}
use Prim.Native.Nat.{ℕ, zero, suc, ◌+◌, ◌<◌}
use native.Mathlib.Omega.{arith}
use lib.ListN.{replicate}
use Rattle.shapes.specs.Class.{Class}
use Rattle.text.specs.Reading.{Read, Reader, from, counted, give as give_tree, several as read_several, ◌and◌ as ◌and_read◌}
use Rattle.text.proofs.At.{and_at}
use Rattle.formed.proofs.As.{Sort, reader, Formed, Reads, told, Parts}

-- a list of items of class c: its end, one item before it, and what it must be
pub record Items (c : Class) (B : Type 0) : Type 1 where
  pub end : B
  pub more : Sort c → B → B
  pub All : B → Type 0
  pub at_end : All end
  pub one_more : (x : Sort c) → Formed c x → (y : B) → All y → All (more x y)

abbrev pub items :
    {c : Class} {B : Type 0} (end : B) (more : Sort c → B → B) (All : B → Type 0)
    → All end → ((x : Sort c) → Formed c x → (y : B) → All y → All (more x y)) → Items c B
items e f All p h = record { end = e; more = f; All = All; at_end = p; one_more = h }

-- `give`, `several` and `_and_` as in text's Reading; `one c`: a child of class c; `some`: several, one at least
infixl 20 ◌and◌
pub data Plan : Type 0 → Type 1 where
  give : {A : Type 0} → A → Plan A
  one : (c : Class) → Plan (Sort c)
  several : {B : Type 0} {c : Class} → ℕ → Items c B → Plan B
  some : {B : Type 0} {c : Class} (n : ℕ) → 0 < n → Items c B → Plan B
  ◌and◌ : {A B : Type 0} → Plan (A → B) → Plan A → Plan B

unfoldable pub reading : {A : Type 0} → Plan A → Reader A
reading (give a) = give_tree a
reading (one c) = reader c
reading (several {c = c} n l) = read_several n (reader c) l.end l.more
reading (some {c = c} n h l) = read_several n (reader c) l.end l.more
reading (p and q) = reading p and_read reading q

-- the classes of its children, before others
unfoldable pub before : {A : Type 0} → Plan A → List Class → List Class
before (give a) cs = cs
before (one c) cs = c ∷ cs
before (several {c = c} n l) cs = replicate n c ++ cs
before (some {c = c} n h l) cs = replicate n c ++ cs
before (p and q) cs = before p (before q cs)

-- its tree is what P says, if its children are formed
unfoldable pub Holds : {A : Type 0} → Plan A → (A → Type 0) → Type 0
Holds (give a) P = P a
Holds (one c) P = (x : Sort c) → Formed c x → P x
Holds {A} (several n l) P = (x : A) → l.All x → P x
Holds {A} (some {c = c} n h l) P = (x : Sort c) → Formed c x → (y : A) → l.All y → P (l.more x y)
Holds (p and q) P = Holds p (λ f. Holds q (λ x. P (f x)))

-- a plan whose tree is what P says
pub record Row {A : Type 0} (P : A → Type 0) : Type 1 where
  pub plan : Plan A
  pub holds : Holds plan P

infixl 10 ◌so◌
abbrev pub ◌so◌ : {A : Type 0} {P : A → Type 0} (p : Plan A) → Holds p P → Row P
◌so◌ p h = record { plan = p; holds = h }

module _ (rs ns : List ℕ) where
  -- it is read from record i on as P says, and behind it the children of some classes go on to record m
  abbrev ReadBefore : {A : Type 0} → List Class → Reader A → (A → Type 0) → ℕ → ℕ → Type 0
  ReadBefore cs p P i m = (k : ℕ) × Reads P (p (from rs ns i)) i k × Parts rs ns cs k m

  both : {A B : Type 0} (f : Reader (A → B)) (p : Reader A) (P : B → Type 0) (i j k : ℕ)
      → i + (f (from rs ns i)).size ≡ j
      → Reads (λ a. P ((f (from rs ns i)).tree a)) (p (from rs ns j)) j k
      → Reads P ((f and_read p) (from rs ns i)) i k
  both {B = B} f p P i j k e x =
      let y = subst (λ (n : ℕ). Reads (λ a. P ((f (from rs ns i)).tree a)) (p (from rs ns n)) n k) (sym e) x in
      subst (λ (z : Read B). Reads P z i k) (sym (and_at rs ns f p i)) (record { formed = y.formed; ends = omega (arith, y.ends) })

  module _ {c : Class} {B : Type 0} (l : Items c B) (cs : List Class) where
    -- one item, and n behind it
    more : (n : ℕ) (P : B → Type 0)
        → ((x : Sort c) → Formed c x → (y : B) → l.All y → P (l.more x y))
        → ((i m : ℕ) → Parts rs ns (replicate n c ++ cs) i m → ReadBefore cs (reading (several n l)) l.All i m)
        → (i m : ℕ) → Parts rs ns (replicate (suc n) c ++ cs) i m → ReadBefore cs (reading (several (suc n) l)) P i m
    unfolding reading read_several Parts
    more n P h rest i m ps =
        let x = rest ps.0 m ps.2 in
        let y = both (give_tree l.more) (reader c) (λ f. (b : B) → l.All b → P (f b)) i i ps.0 (omega arith) (told h ps.1) in
        let z = both (give_tree l.more and_read reader c) (reading (several n l)) P i ps.0 x.0 y.ends (told y.formed x.1) in
        (x.0, z, x.2)

    all : (n i m : ℕ) → Parts rs ns (replicate n c ++ cs) i m → ReadBefore cs (reading (several n l)) l.All i m
    unfolding reading read_several
    all zero i m ps = (i, record { formed = l.at_end; ends = omega arith }, ps)
    all (suc n) i m ps = more n l.All l.one_more (all n) i m ps

    one_at_least : (n : ℕ) → 0 < n → (P : B → Type 0) → ((x : Sort c) → Formed c x → (y : B) → l.All y → P (l.more x y))
        → (i m : ℕ) → Parts rs ns (replicate n c ++ cs) i m → ReadBefore cs (reading (several n l)) P i m
    one_at_least zero h P hold i m ps = absurd (omega arith)
    one_at_least (suc n) h P hold i m ps = more n P hold (all n) i m ps

  plan_reads : {A : Type 0} (p : Plan A) (P : A → Type 0) (cs : List Class) (i m : ℕ)
      → Holds p P → Parts rs ns (before p cs) i m → ReadBefore cs (reading p) P i m
  unfolding reading before Holds Parts
  plan_reads (give a) P cs i m h ps = (i, record { formed = h; ends = omega arith }, ps)
  plan_reads (one c) P cs i m h ps = (ps.0, told h ps.1, ps.2)
  plan_reads (several n l) P cs i m h ps = let x = all l cs n i m ps in (x.0, told h x.1, x.2)
  plan_reads (some n pos l) P cs i m h ps = one_at_least l cs n pos P h i m ps
  plan_reads (p and q) P cs i m h ps =
      let x = plan_reads p (λ f. Holds q (λ a. P (f a))) (before q cs) i m h ps in
      let y = plan_reads q (λ a. P ((reading p (from rs ns i)).tree a)) cs x.0 m x.1.formed x.2 in
      (y.0, both (reading p) (reading q) P i x.0 y.0 x.1.ends y.1, y.2)

  -- a record and its children
  pub reads : {A : Type 0} {P : A → Type 0} (x : Row P) (i m : ℕ)
      → Parts rs ns (before x.plan []) (i + 1) m → Reads P (counted (reading x.plan (from rs ns (i + 1)))) i m
  unfolding Parts
  reads {P = P} x i m ps =
      let y = plan_reads x.plan P [] (i + 1) m x.holds ps in
      record { formed = y.1.formed; ends = omega (arith, y.1.ends, y.2) }
