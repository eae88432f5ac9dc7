-- The code's rows say what the definitions say: by one computed test of all kinds, variants and classes. To compute it takes a fraction of the time if the
-- definition's rows are made once for each variant. Assumes nothing.
use mathlib.Core.Path.{◌≡◌, refl, sym, ◌∙◌, ap}
use mathlib.Core.Bool.{Bool, true, ◌&&◌, and-eq-true_iff as both}
use mathlib.Core.List.{List, [], ◌∷◌}
use mathlib.Core.Logic.{⊎_elim}
use Prim.Native.Nat.{ℕ, zero, suc, ◌+◌, ◌-◌, ◌<◌, ◌≤◌}
use native.Mathlib.Omega.{arith}
use native.Mathlib.Nat.{not-suc-le-zero, eq-or-lt_of_le, le_of_suc-le-suc}
use lib.Dec.{ltb, leb}
use lib.ListN.{get_or, take, drop, length}
use Rattle.std.proofs.lemmas.List.{length-take}
use borrow.Author.Tests.{leb-true, ltb-true}
use Rattle.shapes.specs.declared.Row.{Row as RowAt}
use Rattle.shapes.specs.declared.rows.TheConstants.{PARTS, ROWS}
use Rattle.shapes.specs.Shape.{Shape, Row, rows, row_of, last_variant, shape_of}
use Rattle.shapes.specs.Table.{kind_at, row_at, row_in}

-- f at each number below n, the last first
unfoldable pub below : {A : Type 0} → ℕ → (ℕ → A) → List A
below zero f = []
below (suc n) f = f n ∷ below n f

pub at : {A : Type 0} (f g : ℕ → A) (n k : ℕ) → k < n → below n f ≡ below n g → f k ≡ g k
unfolding below
at f g zero k h e = absurd (not-suc-le-zero h)
at {A} f g (suc n) k h e =
    ⊎_elim
    (λ (p : k ≡ n). ap f p ∙ ap (λ (l : List A). get_or l 0 (f n)) e ∙ sym (ap g p))
    (λ (l : k < n). at f g n k l (ap (drop 1) e))
    (eq-or-lt_of_le (le_of_suc-le-suc h))

-- the definition's rows for n variants from v on; behind them they are made anew
unfoldable pub rows_from : ℕ → ℕ → List (List Row)
rows_from v zero = []
rows_from v (suc n) = rows v ∷ rows_from (suc v) n

rows_of : (v n i w : ℕ) → v + i ≡ w → get_or (rows_from v n) i (rows w) ≡ rows w
unfolding rows_from
rows_of v zero i w e = refl
rows_of v (suc n) zero w e = let q : v ≡ w = omega arith in ap rows q
rows_of v (suc n) (suc i) w e = rows_of (suc v) n i w (omega arith)

abbrev most_variants : ℕ
most_variants = 119

unfoldable pub said_lasts : List ℕ
said_lasts = let rs = rows 0 in below 256 (λ k. (row_of k rs).last)

unfoldable pub read_shapes : List (List Shape)
read_shapes = below 256 (λ k. below (suc (kind_at k).last) (λ v. row_in (row_at k v)))

unfoldable pub said_shapes : List (List Shape)
said_shapes =
    let vs = rows_from 0 most_variants in
    below 256 (λ k. below (suc (kind_at k).last) (λ v. (row_of k (get_or vs v (rows v))).shape))

-- what the code reads lies within
abbrev stands : ℕ → ℕ → Bool
stands k v =
    let r = row_at k v in
    ltb ((kind_at k).first + v) (length ROWS) && (leb r.first r.end && (leb r.end (length PARTS) && leb (r.end - r.first) 4))

all_of_four : (a b c d : Bool) → (a && (b && (c && d))) ≡ true → (a ≡ true) × (b ≡ true) × (c ≡ true) × (d ≡ true)
all_of_four a b c d e =
    let p = (both a (b && (c && d))).0 e in
    let q = (both b (c && d)).0 p.1 in
    let r = (both c d).0 q.1 in
    (p.0, q.0, r.0, r.1)

unfoldable pub read_within : List (List Bool)
read_within = below 256 (λ k. below (suc (kind_at k).last) (λ v. stands k v))

unfoldable pub all_within : List (List Bool)
all_within = below 256 (λ k. below (suc (kind_at k).last) (λ v. true))

lasts_same : below 256 (λ k. (kind_at k).last) ≡ said_lasts
unfolding below rows said_lasts
lasts_same = refl

shapes_same : read_shapes ≡ said_shapes
unfolding below rows rows_from read_shapes said_shapes
shapes_same = refl

within_same : read_within ≡ all_within
unfolding below read_within all_within
within_same = refl

module _ (k : ℕ) (h : k < 256) where
  pub last_said : (kind_at k).last ≡ last_variant k
  unfolding said_lasts last_variant
  last_said = at (λ k. (kind_at k).last) (λ k. (row_of k (rows 0)).last) 256 k h lasts_same

  module _ (v : ℕ) (l : v ≤ last_variant k) where
    pub shape_said : row_in (row_at k v) ≡ shape_of k v
    unfolding read_shapes said_shapes shape_of
    shape_said =
        let vs = rows_from 0 most_variants in
        at (λ v. row_in (row_at k v)) (λ v. (row_of k (get_or vs v (rows v))).shape) (suc (kind_at k).last) v (omega (arith, last_said))
        (at (λ k. below (suc (kind_at k).last) (λ v. row_in (row_at k v))) (λ k. below (suc (kind_at k).last) (λ v. (row_of k (get_or vs v (rows v))).shape)) 256 k h shapes_same)
        ∙ ap (λ (rs : List Row). (row_of k rs).shape) (rows_of 0 most_variants v v (omega arith))

    -- what the code reads lies within
    within : stands k v ≡ true
    unfolding read_within all_within
    within =
        at (λ v. stands k v) (λ v. true) (suc (kind_at k).last) v (omega (arith, last_said))
        (at (λ k. below (suc (kind_at k).last) (λ v. stands k v)) (λ k. below (suc (kind_at k).last) (λ v. true)) 256 k h within_same)

    abbrev row : RowAt
    row = row_at k v

    tested : (ltb ((kind_at k).first + v) (length ROWS) ≡ true) × (leb row.first row.end ≡ true) × (leb row.end (length PARTS) ≡ true) × (leb (row.end - row.first) 4 ≡ true)
    tested = all_of_four (ltb ((kind_at k).first + v) (length ROWS)) (leb row.first row.end) (leb row.end (length PARTS)) (leb (row.end - row.first) 4) within

    pub row_within : (kind_at k).first + v < length ROWS
    row_within = ltb-true _ _ tested.0

    pub parts_within : (row.first ≤ row.end) × (row.end ≤ length PARTS)
    parts_within = (leb-true _ _ tested.1, leb-true _ _ tested.2)

    pub few_parts : length (take (row.end - row.first) (drop row.first PARTS)) ≤ 4
    few_parts =
        let few : row.end - row.first ≤ 4 = leb-true (row.end - row.first) 4 tested.3 in
        let long = length-take (row.end - row.first) (drop row.first PARTS) in
        omega (arith, few, long)
