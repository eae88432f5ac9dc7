-- The records of an accepted expression by their kinds, and their operands: where these stand, and that they are formed. Assumes nothing.
use mathlib.Core.Path.{◌≡◌, ◌∙◌, ap}
use mathlib.Core.Bool.{false}
use mathlib.Core.List.{List, [], ◌∷◌}
use Prim.Native.Nat.{ℕ, zero, suc, ◌+◌, ◌<◌}
use native.Mathlib.Omega.{arith}
use lib.Dec.{eqb}
use lib.ListN.{get_or, drop}
use Rattle.records.specs.declared.Record.{Record}
use Rattle.records.specs.Record.{record_at}
use Rattle.shapes.specs.Class.{Class}
use Rattle.shapes.specs.Shape.{rows, shape_of, classes}
use Rattle.std.specs.Prelude.{Ok}
use Rattle.accept.specs.Check.{each, node, children_of}
use Rattle.accept.proofs.Accepted.{bind_next, node_next, node_deep}
use Rattle.text.specs.Reading.{from, expr}
use Rattle.text.proofs.At.{from_drop}
use Rattle.text.proofs.ByKind.{at_kind}
use Rattle.formed.specs.Formed.{FormedExpr}
use Rattle.formed.proofs.Kind.{rec}
use Rattle.formed.proofs.Formed.{node_reads}

module _ (rs ns : List ℕ) where
  -- a binary operator's right operand stands behind the left one
  pub record Right (i : ℕ) : Type 0 where
    pub at : ℕ
    pub next : ℕ
    pub left : ℕ
    pub first : node rs ns left Class.expr (i + 1) ≡ Ok at
    pub second : node rs ns left Class.expr at ≡ Ok next
    pub there : drop (0 + (expr (from rs ns (i + 1))).size) (from rs ns (i + 1)) ≡ from rs ns at
    pub formed : FormedExpr (expr (from rs ns at)).tree

module _ (rs ns : List ℕ) (byte : (p : ℕ) → get_or rs p 0 < 256) where
  -- the children of a record at i are accepted
  abbrev Children : (left m i k v n a b : ℕ) → Type 0
  Children left m i k v n a b = each (node rs ns left) (children_of (rec k v n a b)) (i + 1) ≡ Ok m

  -- a unary operator's operand stands right behind it
  operand_formed : (left m i v n a b : ℕ) → Children left m i 7 v n a b → FormedExpr (expr (from rs ns (i + 1))).tree
  unfolding rows shape_of classes
  operand_formed left m i v n a b e =
      let x = bind_next (node rs ns left Class.expr (i + 1)) (each (node rs ns left) []) m e in
      (node_reads rs ns byte left Class.expr (i + 1) x.0 x.1).formed

  right_of : (left m i v n a b : ℕ) → Children left m i 8 v n a b → Right rs ns i
  unfolding rows shape_of classes
  right_of left m i v n a b e =
      let l = bind_next (node rs ns left Class.expr (i + 1)) (each (node rs ns left) (Class.expr ∷ [])) m e in
      let r = bind_next (node rs ns left Class.expr l.0) (each (node rs ns left) []) m l.2 in
      let s = 0 + (expr (from rs ns (i + 1))).size in
      let place : i + 1 + s ≡ l.0 = omega (arith, (node_reads rs ns byte left Class.expr (i + 1) l.0 l.1).ends) in
      record {
        at = l.0;
        next = r.0;
        left = left;
        first = l.1;
        second = r.1;
        there = from_drop rs ns s (i + 1) ∙ ap (from rs ns) place;
        formed = (node_reads rs ns byte left Class.expr l.0 r.0 r.1).formed;
      }

  -- what holds of unary and binary operators, and of all else, holds of each record of an accepted tree
  module _ (Q : ℕ → Record → Type 0) (unary : (i v n a b : ℕ) → FormedExpr (expr (from rs ns (i + 1))).tree → Q i (rec 7 v n a b))
      (binary : (i v n a b : ℕ) → Right rs ns i → Q i (rec 8 v n a b)) (other : (i k v n a b : ℕ) → eqb k 7 ≡ false → eqb k 8 ≡ false → Q i (rec k v n a b)) where
    pub of_record : (left : ℕ) (c : Class) (i m : ℕ) → node rs ns left c i ≡ Ok m → Q i (record_at rs i)
    of_record zero c i m e = node_deep rs ns (Q i (record_at rs i)) c i m e
    of_record (suc left) c i m e =
        let r = record_at rs i in
        let x = node_next rs ns left c i m e in
        by_kind r.kind r.variant r.count r.a r.b x.2
      where
        by_kind : (k v n a b : ℕ) → Children left m i k v n a b → Q i (rec k v n a b)
        by_kind k v n a b =
            at_kind (λ k. Children left m i k v n a b → Q i (rec k v n a b)) k 7 (λ h. unary i v n a b (operand_formed left m i v n a b h)) λ e7.
            at_kind (λ k. Children left m i k v n a b → Q i (rec k v n a b)) k 8 (λ h. binary i v n a b (right_of left m i v n a b h)) λ e8.
            λ h. other i k v n a b e7 e8
