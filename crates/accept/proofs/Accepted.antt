-- What an accepted walk tells: its first part was accepted, a record has no fault, and its children were accepted behind it. Assumes nothing.
use mathlib.Core.Path.{◌≡◌, refl, sym, ◌∙◌, ap}
use mathlib.Core.Bool.{Bool, true, false, cond, and-eq-true_iff as both}
use mathlib.Core.List.{List}
use mathlib.Core.Option.{Option, none, some}
use Prim.Native.Nat.{ℕ, suc, ◌+◌, ◌≤◌, ◌<◌}
use native.Mathlib.Omega.{arith}
use lib.Dec.{ltb, leb}
use borrow.Author.Tests.{ltb-true, leb-true, not-false}
use Rattle.records.specs.declared.Record.{Record}
use Rattle.records.specs.Record.{record_count, record_at}
use Rattle.shapes.specs.Class.{Class, allowed, takes_variant}
use Rattle.shapes.specs.Shape.{last_variant}
use Rattle.accept.specs.declared.Refusal.{Refusal}
use Rattle.accept.specs.declared.Refusal.TheVariants.{RecordMissing}
use Rattle.accept.specs.Checked.{Checked, refused}
use Rattle.std.specs.Prelude.{Ok, Err}
use Rattle.accept.specs.Check.{fault_of, bind, each, children_of, judged, alone, node}
use Rattle.accept.proofs.Faults.{no_test_holds}

-- an accepted walk is not refused, and it ends at one record
pub not_refused : {A : Type 0} (x : Refusal) (p m : ℕ) → refused x p ≡ Ok m → A
not_refused x p m e = let z : ◌≡◌ {A = ℕ} 0 1 = cc in absurd (omega arith)

pub next_is : (m n : ℕ) → ◌≡◌ {A = Checked} (Ok m) (Ok n) → m ≡ n
next_is m n e = cc

pub bind_next : (x : Checked) (g : ℕ → Checked) (m : ℕ) → bind x g ≡ Ok m → (k : ℕ) × (x ≡ Ok k) × (g k ≡ Ok m)
bind_next (Ok k) g m e = (k, refl, e)
bind_next (Err r) g m e = not_refused r.refusal r.place m e

-- a record without a fault has a variant of its kind
pub no_fault_variant : (names : List ℕ) (left : ℕ) (c : Class) (r : Record) → fault_of names left c r ≡ none → r.variant ≤ last_variant r.kind
no_fault_variant names left c r e =
    let tests = no_test_holds names left c r e in
    leb-true _ _ ((both (takes_variant (allowed c) r.variant) (leb r.variant (last_variant r.kind))).0 (not-false _ tests.1.1.0)).1

module _ (records names : List ℕ) where
  judged_next : (i m : ℕ) (b : Bool) (f : Option Refusal) → cond b (judged i f) (refused RecordMissing i) ≡ Ok m → (b ≡ true) × (f ≡ none) × (m ≡ i + 1)
  judged_next i m true none e = (refl, refl, sym (next_is _ _ e))
  judged_next i m true (some x) e = not_refused x i m e
  judged_next i m false f e = not_refused RecordMissing i m e

  -- a record that is accepted by itself stands there and has no fault
  pub alone_next : (left : ℕ) (c : Class) (i m : ℕ) → alone records names left c i ≡ Ok m
      → (i < record_count records) × (fault_of names left c (record_at records i) ≡ none) × (m ≡ i + 1)
  unfolding alone
  alone_next left c i m e =
      let j = judged_next i m (ltb i (record_count records)) (fault_of names left c (record_at records i)) e in
      (ltb-true _ _ j.0, j.1, j.2)

  pub alone_deep : (A : Type 0) (c : Class) (i m : ℕ) → alone records names 0 c i ≡ Ok m → A
  alone_deep A c i m e = let z = (no_test_holds names 0 c (record_at records i) (alone_next 0 c i m e).1).1.0 in absurd (let z : ◌≡◌ {A = ℕ} 0 1 = cc in omega arith)

  -- an accepted record stands there, has no fault, and its children are accepted behind it, with one level less
  pub node_next : (left : ℕ) (c : Class) (i m : ℕ) → node records names (suc left) c i ≡ Ok m
      → (i < record_count records) × (fault_of names (suc left) c (record_at records i) ≡ none) × (each (node records names left) (children_of (record_at records i)) (i + 1) ≡ Ok m)
  unfolding node
  node_next left c i m e =
      let b = bind_next (alone records names (suc left) c i) (each (node records names left) (children_of (record_at records i))) m e in
      let a = alone_next (suc left) c i b.0 b.1 in
      (a.0, a.1, sym (ap (each (node records names left) (children_of (record_at records i))) a.2) ∙ b.2)

  -- where no level is left nothing is accepted
  pub node_deep : (A : Type 0) (c : Class) (i m : ℕ) → node records names 0 c i ≡ Ok m → A
  unfolding node
  node_deep A c i m e = alone_deep A c i m e
