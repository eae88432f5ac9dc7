-- How many children the parts of a shape stand for, part by part, as the code counts them. Assumes nothing.
use mathlib.Core.Path.{◌≡◌, ◌∙◌, ap}
use mathlib.Core.List.{List, ◌∷◌, map}
use Prim.Native.Nat.{ℕ, suc, ◌+◌, ◌<◌, ◌≤◌}
use native.Mathlib.Omega.{arith}
use lib.ListN.{length, get_or, drop, drop_of_length-le, replicate, length-append, length-replicate}
use lib.Seq.{drop-cons}
use Rattle.shapes.specs.declared.Part.{Part}
use Rattle.shapes.specs.declared.Part.TheVariants.{OneOf, Counted}
use Rattle.shapes.specs.Shape.{classes}
use Rattle.shapes.specs.Table.{class_of, part_of, times}

-- a part stands for so many children, before those of the other parts
part_count : (n : ℕ) (x : Part) (ps : List Part) → length (classes n (map part_of (x ∷ ps))) ≡ times x n + length (classes n (map part_of ps))
unfolding classes
part_count n (OneOf c) ps = omega arith
part_count n (Counted c) ps =
    length-append (replicate n (class_of c)) (classes n (map part_of ps))
    ∙ ap (λ (k : ℕ). k + length (classes n (map part_of ps))) (length-replicate n (class_of c))

pub at_most : (x : Part) (n : ℕ) → n < 65536 → times x n ≤ 65535
at_most (OneOf c) n h = omega arith
at_most (Counted c) n h = omega arith

-- the children of the parts from part j on
abbrev pub children_left : ℕ → List Part → ℕ → ℕ
children_left n ps j = length (classes n (map part_of (drop j ps)))

module _ (n : ℕ) (ps : List Part) (j : ℕ) where
  pub none_left : length ps ≤ j → children_left n ps j ≡ 0
  unfolding classes
  none_left h = ap (λ (ps : List Part). length (classes n (map part_of ps))) (drop_of_length-le ps h)

  -- the children of part j are counted, and those of the parts behind it are left
  pub more_left : (d : Part) (counted : ℕ) {x : ℕ} → j < length ps → x ≡ times (get_or ps j d) n → counted + children_left n ps j ≡ counted + x + children_left n ps (j + 1)
  more_left d counted {x} h e =
      let next : suc j ≡ j + 1 = omega arith in
      let parts =
      ap (λ (ps : List Part). length (classes n (map part_of ps))) (drop-cons ps j d h)
      ∙ part_count n (get_or ps j d) (drop (suc j) ps)
      ∙ ap (λ (k : ℕ). times (get_or ps j d) n + children_left n ps k) next in
      omega (arith, parts, e)
