-- The number that `unary_most` answers is 000's test of an operand. Assumes nothing.
use mathlib.Core.Path.{◌≡◌, refl, sym}
use mathlib.Core.Bool.{Bool, true, false, not, ◌&&◌, ◌||◌, and-true, and-false, cond}
use mathlib.Core.List.{List}
use Prim.Native.Nat.{ℕ, suc}
use native.Mathlib.Omega.{arith}
use lib.Dec.{leb, eqb}
use borrow.Author.Tests.{ne_eqb, eqb-true}
use Rattle.words.specs.Symbol.{symbol_text}
use Rattle.words.specs.Form.{same, one_of}
use Rattle.records.specs.declared.Record.{Record}
use Rattle.text.specs.Tree.{UnaryOp, Expr}
use Rattle.text.specs.Operator.{precedence, unary_precedence, unary_symbol, doubled, doubles}
use Rattle.text.specs.Reading.{Item, Read, Reader, unary_op_of, expr_of, expr}
use Rattle.text.proofs.ByKind.{either, by_variant}
use Rattle.leaves.specs.Operand.{most_under}

-- two operators spell ++ or -- where they are the same, plus or minus (000's own test)
doubled_at : (v w : ℕ) → doubled (unary_op_of v) (unary_op_of w) ≡ (eqb v 2 || eqb v 3) && eqb w v
unfolding doubled one_of same symbol_text unary_symbol unary_op_of
doubled_at = by_variant (λ v. (w : ℕ) → doubled (unary_op_of v) (unary_op_of w) ≡ (eqb v 2 || eqb v 3) && eqb w v)
    (by_variant (λ w. doubled UnaryOp.Inc (unary_op_of w) ≡ false) refl refl refl refl refl (λ n. refl))
    (by_variant (λ w. doubled UnaryOp.Dec (unary_op_of w) ≡ false) refl refl refl refl refl (λ n. refl))
    (by_variant (λ w. doubled UnaryOp.Add (unary_op_of w) ≡ eqb w 2) refl refl refl refl refl (λ n. sym (ne_eqb (suc (suc (suc (suc (suc n))))) 2 (λ e. omega arith))))
    (by_variant (λ w. doubled UnaryOp.Minus (unary_op_of w) ≡ eqb w 3) refl refl refl refl refl (λ n. sym (ne_eqb (suc (suc (suc (suc (suc n))))) 3 (λ e. omega arith))))
    (by_variant (λ w. doubled UnaryOp.Not (unary_op_of w) ≡ false) refl refl refl refl refl (λ n. refl))
    (λ n. rw (ne_eqb (suc (suc (suc (suc (suc n))))) 2 (λ e. omega arith), ne_eqb (suc (suc (suc (suc (suc n))))) 3 (λ e. omega arith)) (by_variant (λ w. doubled UnaryOp.Complement (unary_op_of w) ≡ false) refl refl refl refl refl (λ n. refl)))

-- no other kind has a unary operator
not_unary : (names : List ℕ) (r : Record) (L : List Item) (op : UnaryOp) → eqb r.kind 7 ≡ false → doubles op (expr_of names r L).tree ≡ false
unfolding expr_of doubles
not_unary names r L op e = rw e (or 1 _ _ refl (or 2 _ _ refl (or 3 _ _ refl (or 4 _ _ refl (or 5 _ _ refl (or 6 _ _ refl (or 8 _ _ refl (or 9 _ _ refl (or 10 _ _ refl (or 11 _ _ refl (or 12 _ _ refl (or 13 _ _ refl (or 14 _ _ refl (or 15 _ _ refl (or 16 _ _ refl refl)))))))))))))))
  where
    or : (k : ℕ) (f g : Reader Expr) → doubles op (f L).tree ≡ false → doubles op (g L).tree ≡ false → doubles op (cond (eqb r.kind k) f g L).tree ≡ false
    or k = either (λ (x : Read Expr). doubles op x.tree ≡ false) L (eqb r.kind k)

-- a unary operator's operand: bare if it binds at 3 or more strongly and has not the same sign
module _ (names : List ℕ) (r : Record) (L : List Item) (v : ℕ) where
  abbrev e : Expr
  e = (expr_of names r L).tree

  signed : r.kind ≡ 7 → e ≡ Expr.Unary (unary_op_of r.variant) (expr L).tree
  unfolding expr_of
  signed k = rw k refl

  by_sign : (b : Bool) → leb 3 (cond b 2 3) ≡ leb 3 3 && not b
  by_sign true = refl
  by_sign false = refl

  pub under_sign : leb (precedence e) (most_under v r) ≡ leb (precedence e) unary_precedence && not (doubles (unary_op_of v) e)
  unfolding most_under precedence doubles
  under_sign = go (eqb r.kind 7) refl
    where
      go : (b : Bool) → eqb r.kind 7 ≡ b
          → leb (precedence e) (cond ((eqb v 2 || eqb v 3) && b && eqb r.variant v) 2 3) ≡ leb (precedence e) 3 && not (doubles (unary_op_of v) e)
      go true k = rw (signed (eqb-true r.kind 7 k), doubled_at v r.variant, and-true (eqb v 2 || eqb v 3)) (by_sign ((eqb v 2 || eqb v 3) && eqb r.variant v))
      go false k = rw (not_unary names r L (unary_op_of v) k, and-false (eqb v 2 || eqb v 3), and-true (leb (precedence e) 3)) refl
