-- The tests of the whole, one by one: which sizes are refused, and what is left to ask where they pass. Assumes nothing.
use mathlib.Core.Path.{◌≡◌, refl, ◌∙◌, ap}
use mathlib.Core.Bool.{Bool, true, false, not, ◌||◌, or-true, cond}
use mathlib.Core.List.{List}
use mathlib.Mathlib.Data.Bool.Basic.{or-eq-false-eq-eq-false-and-eq-false as neither}
use Prim.Native.Nat.{ℕ, ◌*◌, ◌%◌, ◌<◌, ◌≤◌}
use native.Mathlib.Omega.{arith}
use lib.Dec.{eqb, ltb}
use lib.ListN.{length}
use borrow.Author.Tests.{ltb-false, eq-eqb, ne_eqb, lt-ltb, le-ltb}
use Rattle.records.specs.Record.{record_size, record_count}
use Rattle.shapes.specs.Class.{Class}
use Rattle.accept.specs.declared.Refusal.TheVariants as Why
use Rattle.accept.specs.Checked.{Checked, refused}
use Rattle.std.specs.Prelude.{Ok}
use Rattle.accept.specs.Check.{bind, node, nothing_behind, records_out_of_size, most_records, most_name_bytes, deepest, check}
use Rattle.accept.proofs.Accepted.{not_refused, next_is, bind_next}

module _ (records names : List ℕ) where
  -- 2: none, a part of one, too many
  pub no_records : length records ≡ 0 → records_out_of_size records ≡ true
  no_records e = rw (eq-eqb (length records) 0 e) refl

  pub part_of_one : 0 < length records % record_size → records_out_of_size records ≡ true
  part_of_one h = rw (ne_eqb (length records % record_size) 0 (λ e. omega arith), or-true (eqb (length records) 0)) refl

  pub too_many : record_size * most_records < length records → records_out_of_size records ≡ true
  too_many h = rw (lt-ltb (record_size * most_records) (length records) h) (or-true (eqb (length records) 0 || not (eqb (length records % record_size) 0)))

  pub so_many : (n : ℕ) → length records ≡ record_size * n → 0 < n → n ≤ most_records → records_out_of_size records ≡ false
  so_many n e h k =
      let some = ne_eqb (length records) 0 (λ z. omega arith) in
      let whole = eq-eqb (length records % record_size) 0 (omega arith) in
      let few = le-ltb (record_size * most_records) (length records) (omega arith) in
      rw (some, whole, few) refl

  module _ (c : Class) where
    pub records_refused : records_out_of_size records ≡ true → check records names c ≡ refused Why.RecordsOutOfSize 0
    unfolding check
    records_refused e = rw e refl

    -- 3, where it is not 2
    pub names_refused : records_out_of_size records ≡ false → most_name_bytes < length names → check records names c ≡ refused Why.NamesOutOfSize 0
    unfolding check
    names_refused e h = rw (e, lt-ltb most_name_bytes (length names) h) refl

    -- 4 to 12, and 15
    pub sizes_pass : records_out_of_size records ≡ false → length names ≤ most_name_bytes
        → check records names c ≡ bind (node records names deepest c 0) (nothing_behind records names)
    unfolding check
    sizes_pass e h = rw (e, le-ltb most_name_bytes (length names) h) refl

    -- the whole is accepted, if its sizes are and a tree is all of it
    pub accepts : (m : ℕ) → records_out_of_size records ≡ false → length names ≤ most_name_bytes → node records names deepest c 0 ≡ Ok m
        → m ≡ record_count records → check records names c ≡ Ok m
    accepts m e h w n = sizes_pass e h ∙ rw (w, eq-eqb m (record_count records) n) refl

    -- and only then (that the tree is all of it says `all_taken` in Places)
    passed : (m : ℕ) (a b : Bool) (x : Checked) → cond a (refused Why.RecordsOutOfSize 0) (cond b (refused Why.NamesOutOfSize 0) x) ≡ Ok m
        → (a ≡ false) × (b ≡ false) × (x ≡ Ok m)
    passed m true b x e = not_refused Why.RecordsOutOfSize 0 m e
    passed m false true x e = not_refused Why.NamesOutOfSize 0 m e
    passed m false false x e = (refl, refl, e)

    nothing_behind_lem : (k m : ℕ) → nothing_behind records names k ≡ Ok m → k ≡ m
    nothing_behind_lem k m e = go (eqb k (record_count records)) e
      where
        go : (b : Bool) → cond b (Ok k) (refused Why.RecordsLeftOver k) ≡ Ok m → k ≡ m
        go true e = next_is k m e
        go false e = not_refused Why.RecordsLeftOver k m e

    pub check_next : (m : ℕ) → check records names c ≡ Ok m
        → (records_out_of_size records ≡ false) × (length names ≤ most_name_bytes) × (node records names deepest c 0 ≡ Ok m)
    unfolding check
    check_next m e =
        let p = passed m (records_out_of_size records) (ltb most_name_bytes (length names)) _ e in
        let b = bind_next (node records names deepest c 0) (nothing_behind records names) m p.2 in
        (p.0, ltb-false most_name_bytes (length names) p.1, b.1 ∙ ap Ok (nothing_behind_lem b.0 m b.2))

    -- accepted records are at most 4,096
    pub few_records : (m : ℕ) → check records names c ≡ Ok m → record_count records ≤ most_records
    unfolding record_count
    few_records m e =
        let n = length records in
        let p = (neither (eqb n 0 || not (eqb (n % record_size) 0)) (ltb (record_size * most_records) n)).0 (check_next m e).0 in
        omega (arith, ltb-false (record_size * most_records) n p.1)
