-- Every answer of the record check stands where document 01 says (01, "Calls", the column "place"), whatever the bytes. Assumes nothing.
use mathlib.Core.Path.{◌≡◌, refl, subst}
use mathlib.Core.Bool.{Bool, true, false, cond}
use mathlib.Core.List.{List, [], ◌∷◌}
use mathlib.Core.Option.{Option, none, some}
use mathlib.Core.Logic.{◌⊎◌, inl, inr}
use Prim.Native.Nat.{ℕ, zero, suc, ◌≤◌, ◌<◌}
use native.Mathlib.Omega.{arith}
use lib.Dec.{eqb, ltb}
use lib.ListN.{length}
use borrow.Author.Tests.{ltb-true, ltb-false, eqb-true, eqb-false}
use Rattle.records.specs.declared.Record.{Record}
use Rattle.records.specs.Record.{record_count, record_at}
use Rattle.shapes.specs.Class.{Class}
use Rattle.accept.specs.declared.Refusal.{Refusal}
use Rattle.accept.specs.declared.Refusal.TheVariants as Why
use Rattle.accept.specs.Checked.{Checked, refused}
use Rattle.std.specs.Prelude.{Ok, Err}
use Rattle.accept.specs.Refusal.{number}
use Rattle.accept.specs.Check.{faults, fault_of, bind, each, children_of, judged, alone, node, nothing_behind, records_out_of_size, most_name_bytes, deepest, check}
use Rattle.accepted.specs.Placed.{Stands, Placed}
use Rattle.accept.proofs.Faults.{fault_is, Found, found}

-- where there are n records: a walk ends before a record or behind the last, or its refusal may stand there
module _ (n : ℕ) where
  abbrev pub Walked : Checked → Type 0
  Walked (Ok m) = m ≤ n
  Walked (Err r) = Stands n r.refusal r.place

  walked_bind : (x : Checked) (g : ℕ → Checked) → Walked x → ((m : ℕ) → m ≤ n → Walked (g m)) → Walked (bind x g)
  walked_bind (Ok m) g p h = h m p
  walked_bind (Err r) g p h = p

  walked_each : (f : Class → ℕ → Checked) → ((c : Class) (i : ℕ) → i ≤ n → Walked (f c i)) → (cs : List Class) (i : ℕ) → i ≤ n → Walked (each f cs i)
  walked_each f h [] i k = k
  walked_each f h (c ∷ cs) i k = walked_bind (f c i) (each f cs) (h c i k) (walked_each f h cs)

module _ (records names : List ℕ) where
  abbrev n : ℕ
  n = record_count records

  walked_judged : (i : ℕ) (o : Option Refusal) → i < n → Found (λ x. Stands n x i) o → Walked n (judged i o)
  walked_judged i none h k = omega arith
  walked_judged i (some x) h k = k

  -- every fault that a record may have stands at the record
  walked_there : (left : ℕ) (c : Class) (r : Record) (i : ℕ) → i < n → Walked n (judged i (fault_of names left c r))
  walked_there left c r i h =
      walked_judged i (fault_of names left c r) h
      (rw (fault_is names left c r) (found (λ x. Stands n x i) (faults names left c r) (h, (h, (h, (h, (h, (h, (h, (h, tt))))))))))

  walked_alone : (left : ℕ) (c : Class) (i : ℕ) → i ≤ n → Walked n (alone records names left c i)
  unfolding alone
  walked_alone left c i k = go (ltb i n) refl
    where
      go : (b : Bool) → ltb i n ≡ b → Walked n (cond b (judged i (fault_of names left c (record_at records i))) (refused Why.RecordMissing i))
      go true e = walked_there left c (record_at records i) i (ltb-true i n e)
      go false e = let h = ltb-false i n e in omega arith

  pub walked : (left : ℕ) (c : Class) (i : ℕ) → i ≤ n → Walked n (node records names left c i)
  unfolding node
  walked zero c i k = walked_alone 0 c i k
  walked (suc left) c i k =
      let cs = children_of (record_at records i) in
      walked_bind n (alone records names (suc left) c i) (each (node records names left) cs) (walked_alone (suc left) c i k)
      (walked_each n (node records names left) (walked left) cs)

  -- the first record that is left over stands
  whole : (x : Checked) → Walked n x → Placed n (bind x (nothing_behind records names))
  whole (Err r) h = h
  whole (Ok m) h = go (eqb m n) refl
    where
      go : (b : Bool) → eqb m n ≡ b → Placed n (cond b (Ok m) (refused Why.RecordsLeftOver m))
      go true e = eqb-true m n e
      go false e = let d = eqb-false m n e in omega arith

  sized : (a b : Bool) (x : Checked) → Placed n x → Placed n (cond a (refused Why.RecordsOutOfSize 0) (cond b (refused Why.NamesOutOfSize 0) x))
  sized true b x h = refl
  sized false true x h = refl
  sized false false x h = h

  -- for every root
  pub placed : (c : Class) → Placed n (check records names c)
  unfolding check
  placed c =
      let x = node records names deepest c 0 in
      let tree = whole x (walked deepest c 0 (omega arith)) in
      sized (records_out_of_size records) (ltb most_name_bytes (length names)) (bind x (nothing_behind records names)) tree

  pub refused_there : (c : Class) (x : Refusal) (p : ℕ) → check records names c ≡ refused x p → Stands n x p
  refused_there c x p e = subst (Placed n) e (placed c)

  pub all_taken : (c : Class) (m : ℕ) → check records names c ≡ Ok m → m ≡ n
  all_taken c m e = subst (Placed n) e (placed c)

-- so no place is beyond the record count, and the number is one of 2 to 12, or 15 (1 and 13 are the calls')
abbrev pub OfTheCheck : ℕ → Type 0
OfTheCheck k = (2 ≤ k) × ((k ≤ 12) ⊎ (k ≡ 15))

pub in_range_lem : (n : ℕ) (x : Refusal) (p : ℕ) → Stands n x p → (p ≤ n) × OfTheCheck (number x)
in_range_lem n Why.SettingsOutOfRange p h = absurd h
in_range_lem n Why.RecordsOutOfSize p h = (omega arith, (omega arith, inl (omega arith)))
in_range_lem n Why.NamesOutOfSize p h = (omega arith, (omega arith, inl (omega arith)))
in_range_lem n Why.RecordMissing p h = (omega arith, (omega arith, inl (omega arith)))
in_range_lem n Why.KindNotAllowed p h = (omega arith, (omega arith, inl (omega arith)))
in_range_lem n Why.TooDeep p h = (omega arith, (omega arith, inl (omega arith)))
in_range_lem n Why.VariantOutOfRange p h = (omega arith, (omega arith, inl (omega arith)))
in_range_lem n Why.CountMissing p h = (omega arith, (omega arith, inl (omega arith)))
in_range_lem n Why.UnusedSet p h = (omega arith, (omega arith, inl (omega arith)))
in_range_lem n Why.TextBeyond p h = (omega arith, (omega arith, inl (omega arith)))
in_range_lem n Why.TextMisformed p h = (omega arith, (omega arith, inl (omega arith)))
in_range_lem n Why.RecordsLeftOver p h = (omega arith, (omega arith, inl (omega arith)))
in_range_lem n Why.RoomTooSmall p h = absurd h
in_range_lem n Why.ReservedDeclared p h = (omega arith, (omega arith, inr refl))
