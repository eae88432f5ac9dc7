-- A record that is accepted by itself: levels are left, its variant is one of its kind's, and its tree is the walk over the parts of its shape; and where it is
-- refused, so is its tree. Assumes nothing.
use mathlib.Core.Path.{◌≡◌, sym, ◌∙◌, ap, subst}
use mathlib.Core.List.{List}
use Prim.Native.Nat.{ℕ, zero, suc, ◌-◌, ◌≤◌, ◌<◌}
use native.Mathlib.Omega.{arith}
use Rattle.std.specs.Prelude.{Ok, Err}
use Rattle.records.specs.declared.Record.{Record}
use Rattle.records.specs.Record.{record_at}
use Rattle.shapes.specs.declared.Shape.{Shape as ShapeRow}
use Rattle.shapes.specs.Class.{Class}
use Rattle.shapes.specs.Shape.{Shape, last_variant, shape_of, classes}
use Rattle.shapes.specs.Table.{shape_in}
use Rattle.accept.specs.declared.Refused.{Refused}
use Rattle.accept.specs.Checked.{Checked}
use Rattle.accept.specs.Check.{bind, each, children_of, alone, node}
use Rattle.accept.proofs.Accepted.{alone_next, alone_deep, no_fault_variant}
use Rattle.walk.proofs.Walk.{parts_left}

module _ (records names : List ℕ) (left : ℕ) (c : Class) (i : ℕ) where
  -- the tree at record i, where the record by itself is refused, and where it is not
  pub node_stop : {r : Refused} → alone records names left c i ≡ Err r → node records names left c i ≡ Err r
  unfolding node
  node_stop e = go left e
    where
      go : {r : Refused} (left : ℕ) → alone records names left c i ≡ Err r → node records names left c i ≡ Err r
      go zero e = e
      go (suc left) e = ap (λ (z : Checked). bind z (each (node records names left) (children_of (record_at records i)))) e

  node_open : (m : ℕ) → alone records names left c i ≡ Ok m → node records names left c i ≡ each (node records names (left - 1)) (children_of (record_at records i)) m
  unfolding node
  node_open m e = go left e
    where
      go : (left : ℕ) → alone records names left c i ≡ Ok m → node records names left c i ≡ each (node records names (left - 1)) (children_of (record_at records i)) m
      go zero e = alone_deep records names (node records names 0 c i ≡ each (node records names (0 - 1)) (children_of (record_at records i)) m) c i m e
      go (suc left) e =
          let p : left ≡ suc left - 1 = omega arith in
          ap (λ (z : Checked). bind z (each (node records names left) (children_of (record_at records i)))) e
          ∙ ap (λ (l : ℕ). each (node records names l) (children_of (record_at records i)) m) p

  module _ {r : Record} {m : ℕ} (read : r ≡ record_at records i) (accepted : alone records names left c i ≡ Ok m) where
    pub variant_listed : r.variant ≤ last_variant r.kind
    variant_listed =
        subst (λ (r : Record). r.variant ≤ last_variant r.kind) (sym read)
        (no_fault_variant names left c (record_at records i) (alone_next records names left c i m accepted).1)

    pub deep_enough : 0 < left
    deep_enough = go left accepted
      where
        go : (left : ℕ) → alone records names left c i ≡ Ok m → 0 < left
        go zero e = alone_deep records names (0 < 0) c i m e
        go (suc left) e = omega arith

    pub opened : (s : ShapeRow) → shape_in s ≡ shape_of r.kind r.variant → node records names left c i ≡ parts_left (node records names (left - 1)) r.count s.parts.now 0 m
    opened s says =
        let f = node records names (left - 1) in
        node_open m accepted
        ∙ ap (λ (r : Record). each f (children_of r) m) (sym read)
        ∙ ap (λ (s : Shape). each f (classes r.count s.parts) m) (sym says)
