-- The laws of the walk, in the form in which the code's two loops ask for them: what is left from here is all of it from the start. Assumes nothing.
use mathlib.Core.Path.{◌≡◌, refl, sym, ◌∙◌, ap}
use mathlib.Core.List.{List, [], ◌∷◌, ◌++◌, map}
use Prim.Native.Nat.{ℕ, suc, ◌+◌, ◌-◌, ◌≤◌, ◌<◌}
use native.Mathlib.Omega.{arith}
use lib.ListN.{length, get_or, drop, drop_of_length-le, replicate}
use lib.Seq.{drop-cons}
use Rattle.std.specs.Prelude.{Result, Ok, Err}
use Rattle.std.specs.Result.{IsErrAnd}
use Rattle.shapes.specs.declared.Part.{Part}
use Rattle.shapes.specs.declared.Part.TheVariants.{OneOf, Counted}
use Rattle.shapes.specs.Class.{Class}
use Rattle.shapes.specs.Shape.{classes}
use Rattle.shapes.specs.Table.{class_of, part_of, part_class, times}
use Rattle.accept.specs.declared.Refused.{Refused}
use Rattle.accept.specs.Checked.{Checked}
use Rattle.accept.specs.Check.{bind, each}

-- what a `?` passes on is the refusal that it found
pub passed_on : {T : Type 0} (r : Result T Refused) (e : Refused) → IsErrAnd r (λ (x : Refused). x ≡ e) → r ≡ Err e
passed_on (Ok m) e h = elim h [ ]
passed_on (Err x) e h = ap (λ (x : Refused). Err x) h

module _ (f : Class → ℕ → Checked) where
  each_append : (xs ys : List Class) (i : ℕ) → each f (xs ++ ys) i ≡ bind (each f xs i) (each f ys)
  each_append [] ys i = refl
  each_append (c ∷ xs) ys i = go (f c i) (each_append xs ys)
    where
      go : (x : Checked) → ((m : ℕ) → each f (xs ++ ys) m ≡ bind (each f xs m) (each f ys)) → bind x (each f (xs ++ ys)) ≡ bind (bind x (each f xs)) (each f ys)
      go (Ok m) h = h m
      go (Err r) h = refl

  -- n trees of class c, of which k are walked
  module _ (c : Class) (n k i : ℕ) {w : Checked} where
    run_cons : k < n → w ≡ each f (replicate (n - k) c) i → w ≡ bind (f c i) (each f (replicate (n - (k + 1)) c))
    run_cons h e =
        let p : n - k ≡ suc (n - (k + 1)) = omega arith in
        e ∙ ap (λ (m : ℕ). each f (replicate m c) i) p

    -- the next tree is walked: those behind it follow, or it refuses
    pub run_step : {o : Checked} → k < n → w ≡ each f (replicate (n - k) c) i → f c i ≡ o → w ≡ bind o (each f (replicate (n - (k + 1)) c))
    run_step h e g = run_cons h e ∙ ap (λ (z : Checked). bind z (each f (replicate (n - (k + 1)) c))) g

    pub run_done : n ≤ k → w ≡ each f (replicate (n - k) c) i → w ≡ Ok i
    run_done h e =
        let p : n - k ≡ 0 = omega arith in
        e ∙ ap (λ (m : ℕ). each f (replicate m c) i) p

  -- in a record that counts n
  module _ (n : ℕ) where
    -- what is left of its parts, from part j on
    abbrev pub parts_left : List Part → ℕ → ℕ → Checked
    parts_left ps j i = each f (classes n (map part_of (drop j ps))) i

    -- the trees of one part, and those behind it
    part_trees : (x : Part) (ps : List Part) (i : ℕ)
        → each f (classes n (map part_of (x ∷ ps))) i ≡ bind (each f (replicate (times x n) (part_class x)) i) (each f (classes n (map part_of ps)))
    unfolding classes
    part_trees (OneOf c) ps i = each_append (replicate 1 (class_of c)) (classes n (map part_of ps)) i
    part_trees (Counted c) ps i = each_append (replicate n (class_of c)) (classes n (map part_of ps)) i

    module _ (ps : List Part) (j i : ℕ) {w : Checked} (e : w ≡ parts_left ps j i) where
      -- the trees of part j are walked, by o: those of the next part follow, or one refuses
      pub part_step : (d : Part) {c : Class} {k : ℕ} {o o' : Checked} → j < length ps → c ≡ part_class (get_or ps j d) → k ≡ times (get_or ps j d) n
          → o ≡ each f (replicate k c) i → o ≡ o' → w ≡ bind o' (parts_left ps (j + 1))
      part_step d {c} {k} h p q g v =
          let x = get_or ps j d in
          let next : suc j ≡ j + 1 = omega arith in
          e
          ∙ ap (λ (ps : List Part). each f (classes n (map part_of ps)) i) (drop-cons ps j d h)
          ∙ ap (λ (j : ℕ). each f (classes n (map part_of (x ∷ drop j ps))) i) next
          ∙ part_trees x (drop (j + 1) ps) i
          ∙ ap (λ (y : Checked). bind y (parts_left ps (j + 1))) (ap (λ (k : ℕ). each f (replicate k (part_class x)) i) (sym q) ∙ ap (λ (c : Class). each f (replicate k c) i) (sym p) ∙ sym g ∙ v)

      pub parts_done : length ps ≤ j → w ≡ Ok i
      unfolding classes
      parts_done h = e ∙ ap (λ (ps : List Part). each f (classes n (map part_of ps)) i) (drop_of_length-le ps h)
