-- Every record of an accepted tree is the root of an accepted tree, and fits where it stands: no record is skipped. Assumes nothing.
use mathlib.Core.Path.{◌≡◌, subst}
use mathlib.Core.List.{List, [], ◌∷◌}
use Prim.Native.Nat.{ℕ, zero, suc, ◌+◌, ◌<◌, ◌≤◌}
use native.Mathlib.Omega.{arith}
use lib.ListN.{length}
use Rattle.records.specs.Record.{record_count, record_at}
use Rattle.records.proofs.Laws.{split}
use Rattle.shapes.specs.Class.{Class}
use Rattle.accept.specs.Checked.{Checked}
use Rattle.std.specs.Prelude.{Ok}
use Rattle.accept.specs.Check.{each, children_of, node, deepest, check}
use Rattle.accept.proofs.Accepted.{next_is, bind_next, node_next, node_deep}
use Rattle.accepted.specs.Fits.{Rooted}
use Rattle.accepted.proofs.Places.{Walked, walked, all_taken}
use Rattle.accepted.proofs.Sizes.{check_next}
use Rattle.accepted.proofs.Fits.{fits}

-- trees one behind the other, by what is known of one tree
module _ (f : Class → ℕ → Checked) where
  pub each_advances : ((c : Class) (i m : ℕ) → f c i ≡ Ok m → i < m) → (cs : List Class) (i m : ℕ) → each f cs i ≡ Ok m → i + length cs ≤ m
  each_advances h [] i m e = let k = next_is i m e in omega arith
  each_advances h (c ∷ cs) i m e =
      let b = bind_next (f c i) (each f cs) m e in
      let here = h c i b.0 b.1 in
      let behind = each_advances h cs b.0 m b.2 in
      omega arith

  -- a record that they take is taken by one of them
  each_takes : (j : ℕ) (P : Type 0) → ((c : Class) (i m : ℕ) → f c i ≡ Ok m → i ≤ j → j < m → P)
      → (cs : List Class) (i m : ℕ) → each f cs i ≡ Ok m → i ≤ j → j < m → P
  each_takes j P h [] i m e k l = let z = next_is i m e in absurd (omega arith)
  each_takes j P h (c ∷ cs) i m e k l =
      let b = bind_next (f c i) (each f cs) m e in
      split j b.0 (h c i b.0 b.1 k) (λ behind. each_takes j P h cs b.0 m b.2 behind l)

module _ (records names : List ℕ) where
  -- an accepted tree has a record of its own, and ends before a record or behind the last
  pub advances : (left : ℕ) (c : Class) (i m : ℕ) → node records names left c i ≡ Ok m → i < m
  advances zero c i m e = node_deep records names (i < m) c i m e
  advances (suc left) c i m e =
      let h = each_advances (node records names left) (advances left) (children_of (record_at records i)) (i + 1) m (node_next records names left c i m e).2 in
      omega arith

  pub ends : (left : ℕ) (c : Class) (i m : ℕ) → node records names left c i ≡ Ok m → m ≤ record_count records
  ends zero c i m e = node_deep records names (m ≤ record_count records) c i m e
  ends (suc left) c i m e =
      let h = (node_next records names left c i m e).0 in
      subst (Walked (record_count records)) e (walked records names (suc left) c i (omega arith))

  -- the records from i up to m, where a tree of them is accepted
  rooted : (j left : ℕ) → left ≤ deepest → (c : Class) (i m : ℕ) → node records names left c i ≡ Ok m → i ≤ j → j < m → Rooted records names j
  rooted j zero d c i m e k l = node_deep records names (Rooted records names j) c i m e
  rooted j (suc left) d c i m e k l =
      let n = node_next records names left c i m e in
      let cs = children_of (record_at records i) in
      split i j
      (λ below. each_takes (node records names left) j (Rooted records names j) (rooted j left (omega arith)) cs (i + 1) m n.2 (omega arith) l)
      (λ here.
      let same : i ≡ j = omega arith in
      subst (Rooted records names) same
      (record {
        left = suc left;
        shallow = d;
        class = c;
        next = m;
        accepted = e;
        fits = fits names (suc left) c (record_at records i) n.1;
        own = advances (suc left) c i m e;
        within = ends (suc left) c i m e;
      }))

  -- no record is skipped
  pub each_record : (c : Class) (m : ℕ) → check records names c ≡ Ok m → (j : ℕ) → j < record_count records → Rooted records names j
  each_record c m e j h =
      let all = all_taken records names c m e in
      rooted j deepest (omega arith) c 0 m (check_next records names c m e).2 (omega arith) (omega arith)
