-- Accepted records read as a formed tree that takes exactly the records there are. Assumes nothing.
use mathlib.Core.Path.{◌≡◌, sym, subst}
use mathlib.Core.List.{List, [], ◌∷◌}
use Prim.Native.Nat.{ℕ, zero, suc, ◌+◌, ◌<◌}
use native.Mathlib.Omega.{arith}
use lib.ListN.{get_or}
use Rattle.records.specs.Record.{record_at, record_count}
use Rattle.records.proofs.Laws.{fields_small}
use Rattle.shapes.specs.Class.{Class}
use Rattle.std.specs.Prelude.{Ok}
use Rattle.accept.specs.Check.{each, node, check, children_of, deepest}
use Rattle.accept.proofs.Accepted.{next_is, bind_next, node_next, node_deep}
use Rattle.accepted.proofs.Places.{all_taken}
use Rattle.accepted.proofs.Sizes.{check_next}
use Rattle.accepted.proofs.Each.{each_record}
use Rattle.text.specs.Reading.{Item, expr, unit, from}
use Rattle.text.proofs.At.{from_in}
use Rattle.formed.specs.Formed.{FormedExpr, FormedUnit}
use Rattle.formed.proofs.As.{reader, Formed, Reads, As, Parts}
use Rattle.formed.proofs.Faultless.{faultless}
use Rattle.formed.proofs.Classes.{kinds}

module _ (rs ns : List ℕ) where
  -- an accepted walk, if what is accepted with so many levels left reads
  parts : (left : ℕ) → ((c : Class) (i m : ℕ) → node rs ns left c i ≡ Ok m → As rs ns c i m)
      → (cs : List Class) (i m : ℕ) → each (node rs ns left) cs i ≡ Ok m → Parts rs ns cs i m
  unfolding Parts
  parts left h [] i m e = next_is i m e
  parts left h (c ∷ cs) i m e =
      let x = bind_next (node rs ns left c i) (each (node rs ns left) cs) m e in
      (x.0, h c i x.0 x.1, parts left h cs x.0 m x.2)

  -- 32 bits are 4 bytes: the records are bytes
  module _ (byte : (p : ℕ) → get_or rs p 0 < 256) where
    -- THE theorem: an accepted tree reads as what is asked for, formed, and takes exactly the records that were walked
    pub node_reads : (left : ℕ) (c : Class) (i m : ℕ) → node rs ns left c i ≡ Ok m → As rs ns c i m
    node_reads zero c i m e = node_deep rs ns (As rs ns c i m) c i m e
    node_reads (suc left) c i m e =
        let r = record_at rs i in
        let x = node_next rs ns left c i m e in
        let f = faultless ns (suc left) c r (fields_small rs i byte).a x.1 in
        let ps = parts left (node_reads left) (children_of r) (i + 1) m x.2 in
        subst (λ (L : List Item). Reads (Formed c) (reader c L) i m) (sym (from_in rs ns i x.0))
        (kinds rs ns c r.kind f.kind r.variant f.variant r.count r.a r.b f.filled i m ps)

    -- each record of accepted records is read as what some class asks for
    pub every_record : (c : Class) (m : ℕ) → check rs ns c ≡ Ok m → (j : ℕ) → j < record_count rs → (d : Class) × (n : ℕ) × As rs ns d j n
    every_record c m e j h =
        let x = each_record rs ns c m e j h in
        (x.class, x.next, node_reads x.left x.class j x.next x.accepted)

    -- all of them are read as what the root asks for
    pub root_reads : (c : Class) (m : ℕ) → check rs ns c ≡ Ok m → As rs ns c 0 (record_count rs)
    root_reads c m e = subst (As rs ns c 0) (all_taken rs ns c m e) (node_reads deepest c 0 m (check_next rs ns c m e).2)

    pub unit_formed : (m : ℕ) → check rs ns Class.unit ≡ Ok m → FormedUnit (unit (from rs ns 0)).tree
    unit_formed m e = (root_reads Class.unit m e).formed

    pub unit_size : (m : ℕ) → check rs ns Class.unit ≡ Ok m → (unit (from rs ns 0)).size ≡ record_count rs
    unit_size m e = omega (arith, (root_reads Class.unit m e).ends)

    pub expr_formed : (m : ℕ) → check rs ns Class.expr ≡ Ok m → FormedExpr (expr (from rs ns 0)).tree
    expr_formed m e = (root_reads Class.expr m e).formed

    pub expr_size : (m : ℕ) → check rs ns Class.expr ≡ Ok m → (expr (from rs ns 0)).size ≡ record_count rs
    expr_size m e = omega (arith, (root_reads Class.expr m e).ends)
