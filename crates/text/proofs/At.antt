-- What stands at record i, from the records behind it. Assumes nothing.
use mathlib.Core.Path.{◌≡◌, refl, ap, sym, ◌∙◌}
use mathlib.Core.List.{List, [], ◌∷◌}
use Prim.Native.Nat.{ℕ, zero, suc, ◌+◌, ◌-◌, ◌<◌, ◌≤◌}
use native.Mathlib.Omega.{arith}
use native.Mathlib.Nat.{add-zero, zero-add}
use lib.Dec.{eqb, eqb-suc-suc, eqb-suc-zero}
use Rattle.text.specs.Text.{single_item}
use lib.ListN.{drop}
use Rattle.records.specs.Record.{record_at, record_count, no_record}
use Rattle.records.proofs.Laws.{split, record_behind}
use Rattle.text.specs.Tree.{Expr, Statements}
use Rattle.text.specs.Reading.{Read, Item, Reader, nothing, first, first_kind, items, item_of, expr_of, from, expr, applied, ◌and◌, give, several, statement, made}

module _ (rs ns : List ℕ) where
  from_at : (n i : ℕ) → record_count rs - i ≡ n → from rs ns i ≡ items n rs ns i
  unfolding from
  from_at n i e = rw e refl

  -- a record that stands there, before those behind it
  pub from_in : (i : ℕ) → i < record_count rs → from rs ns i ≡ item_of ns (record_at rs i) (from rs ns (i + 1)) ∷ from rs ns (i + 1)
  unfolding items
  from_in i h =
      let e : record_count rs - i ≡ suc (record_count rs - (i + 1)) = omega arith in
      from_at (suc (record_count rs - (i + 1))) i e
      ∙ ap (λ (L : List Item). item_of ns (record_at rs i) L ∷ L) (sym (from_at (record_count rs - (i + 1)) (i + 1) refl))

  from_out : (i : ℕ) → record_count rs ≤ i → from rs ns i ≡ []
  unfolding items
  from_out i h = from_at 0 i (omega arith)

  -- a record that stands there, as one sort
  pub first_in : {A : Type 0} (sort : Item → Read A) (a : A) (i : ℕ) → i < record_count rs → first sort a (from rs ns i) ≡ sort (item_of ns (record_at rs i) (from rs ns (i + 1)))
  unfolding first
  first_in sort a i h = rw (from_in i h) refl

  -- no record stands there
  pub first_out : {A : Type 0} (sort : Item → Read A) (a : A) (i : ℕ) → record_count rs ≤ i → first sort a (from rs ns i) ≡ nothing a
  unfolding first
  first_out sort a i h = rw (from_out i h) refl

  -- inside and outside, where a record of zeros is none of the sort
  pub item_at : {A : Type 0} (sort : Item → Read A) (a : A) (i : ℕ) → ((L : List Item) → sort (item_of ns no_record L) ≡ nothing a)
      → first sort a (from rs ns i) ≡ sort (item_of ns (record_at rs i) (from rs ns (i + 1)))
  item_at sort a i e = split i (record_count rs) (first_in sort a i)
      (λ h. first_out sort a i h ∙ sym (rw (record_behind rs i h) (e (from rs ns (i + 1)))))

  pub expr_at : (i : ℕ) → expr (from rs ns i) ≡ expr_of ns (record_at rs i) (from rs ns (i + 1))
  unfolding item_of expr_of
  expr_at i = item_at (λ (x : Item). x.expr) Expr.no_expr i (λ L. refl)

  pub kind_at : (i : ℕ) → first_kind (from rs ns i) ≡ (record_at rs i).kind
  unfolding first_kind item_of
  kind_at i = split i (record_count rs) (λ h. rw (from_in i h) refl) (λ h. rw (from_out i h, record_behind rs i h) refl)

  pub from_drop : (k i : ℕ) → drop k (from rs ns i) ≡ from rs ns (i + k)
  from_drop zero i = rw (add-zero i) refl
  from_drop (suc k) i = split i (record_count rs)
      (λ h. rw (from_in i h) (from_drop k (i + 1) ∙ ap (from rs ns) (omega arith)))
      (λ h. rw (from_out i h) (sym (from_out (i + suc k) (omega arith))))

  -- ONE law for the parts of every kind: the next part is read where those before it end
  pub and_at : {A B : Type 0} (f : Reader (A → B)) (p : Reader A) (i : ℕ) → (f and p) (from rs ns i) ≡ applied (f (from rs ns i)) (p (from rs ns (i + (f (from rs ns i)).size)))
  and_at f p i = ap (λ (L : List Item). applied (f (from rs ns i)) (p L)) (from_drop (f (from rs ns i)).size i)

  -- the first part is read where the parts begin
  pub part_at : {A B : Type 0} (f : A → B) (p : Reader A) (i : ℕ) → (give f and p) (from rs ns i) ≡ made f (p (from rs ns i))
  part_at {B = B} f p i = ap (λ (n : ℕ). made {A = ℕ} {B = B} (λ x. f (p (from rs ns i)).tree) (record { tree = n; size = n })) (zero-add (p (from rs ns i)).size)

  -- the parts of a list: one, and those behind it
  pub several_at : {A B : Type 0} (n : ℕ) (p : Reader A) (end : B) (more : A → B → B) (i : ℕ) →
      (several (suc n) p end more (from rs ns i)).tree ≡ more (p (from rs ns i)).tree (several n p end more (from rs ns (i + (p (from rs ns i)).size))).tree
  unfolding several
  several_at {B = B} n p end more i =
      ap (λ (x : Read B). x.tree) (and_at (give more and p) (several n p end more) i)
      ∙ rw (zero-add (p (from rs ns i)).size) refl

-- what collapses: a compound statement whose record counts one
pub single_item_count : (n : ℕ) (L : List Item) → single_item (several n statement Statements.no_statements Statements.statements L).tree ≡ eqb n 1
unfolding several
single_item_count zero L = refl
single_item_count (suc zero) L = refl
single_item_count (suc (suc n)) L = sym (eqb-suc-suc (suc n) 0 ∙ eqb-suc-zero n)
