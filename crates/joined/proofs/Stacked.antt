-- Where a tree is accepted, the stack before it is its byte on the stack behind it. Assumes nothing.
use mathlib.Core.Path.{◌≡◌, sym, ◌∙◌, ap}
use mathlib.Core.Bool.{Bool, cond}
use mathlib.Core.List.{List, [], ◌∷◌}
use Prim.Native.Nat.{ℕ, zero, suc, ◌+◌, ◌-◌, ◌<◌}
use native.Mathlib.Omega.{arith}
use lib.ListN.{length, drop}
use borrow.Author.Tests.{le-ltb}
use Rattle.records.specs.Record.{record_at, record_count}
use Rattle.shapes.specs.Class.{Class}
use Rattle.shapes.specs.Shape.{last_variant}
use Rattle.std.specs.Prelude.{Ok}
use Rattle.accept.specs.Check.{each, node, children_of}
use Rattle.accept.proofs.Accepted.{next_is, bind_next, node_next, node_deep, no_fault_variant}
use Rattle.signs.specs.Sign.{additive}
use Rattle.joined.specs.Stack.{State, step, walk, bare_sign, child_count}

module _ (rs : List ℕ) where
  -- the state before record i
  abbrev pub before : ℕ → State
  before i = walk rs (record_count rs - i) i

  pub before_in : (i : ℕ) → i < record_count rs → before i ≡ step (record_at rs i) (before (i + 1))
  unfolding walk
  before_in i h =
      let e : record_count rs - i ≡ suc (record_count rs - (i + 1)) = omega arith in
      ap (λ (n : ℕ). walk rs n i) e

  abbrev pub byte_of : ℕ → ℕ
  byte_of i = bare_sign (before i).head additive

  module _ (ns : List ℕ) where
    -- trees one behind the other are taken off, if each of them is one byte
    each_stack : (left : ℕ) → ((c : Class) (i m : ℕ) → node rs ns left c i ≡ Ok m → (before i).stack ≡ byte_of i ∷ (before m).stack)
        → (cs : List Class) (i m : ℕ) → each (node rs ns left) cs i ≡ Ok m → drop (length cs) (before i).stack ≡ (before m).stack
    each_stack left h [] i m e = ap (λ (k : ℕ). (before k).stack) (next_is i m e)
    each_stack left h (c ∷ cs) i m e =
        let b = bind_next (node rs ns left c i) (each (node rs ns left) cs) m e in
        ap (drop (suc (length cs))) (h c i b.0 b.1) ∙ each_stack left h cs b.0 m b.2

    pub node_stack : (left : ℕ) (c : Class) (i m : ℕ) → node rs ns left c i ≡ Ok m → (before i).stack ≡ byte_of i ∷ (before m).stack
    unfolding child_count
    node_stack zero c i m e = node_deep rs ns ((before i).stack ≡ byte_of i ∷ (before m).stack) c i m e
    node_stack (suc left) c i m e =
        let r = record_at rs i in
        let x = node_next rs ns left c i m e in
        let here = before_in i x.0 in
        let listed = le-ltb (last_variant r.kind) r.variant (no_fault_variant ns (suc left) c r x.1) in
        ap (λ (s : State). s.stack) here
        ∙ ap (λ (b : Bool). bare_sign (step r (before (i + 1))).head additive ∷ drop (cond b 0 (length (children_of r))) (before (i + 1)).stack) listed
        ∙ ap (λ (s : List ℕ). bare_sign (step r (before (i + 1))).head additive ∷ s) (each_stack left (node_stack left) (children_of r) (i + 1) m x.2)
        ∙ ap (λ (s : State). bare_sign s.head additive ∷ (before m).stack) (sym here)
