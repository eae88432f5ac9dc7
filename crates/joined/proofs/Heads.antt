-- The head that the walk has before a record is that of the expression which is read there, for any records. Assumes nothing.
use mathlib.Core.Path.{◌≡◌, refl, sym, ◌∙◌, ap}
use mathlib.Core.Bool.{false, cond}
use mathlib.Core.List.{List}
use Prim.Native.Nat.{ℕ, zero, suc, ◌+◌, ◌-◌}
use native.Mathlib.Omega.{arith}
use lib.Dec.{eqb}
use borrow.Author.Tests.{ne_eqb}
use Rattle.records.specs.declared.Record.{Record}
use Rattle.records.specs.Record.{record_at, record_count}
use Rattle.text.specs.Tree.{Expr}
use Rattle.text.specs.Operator.{precedence}
use Rattle.text.specs.Joins.{sign}
use Rattle.text.specs.Reading.{Item, Reader, first, items, from, item_of, expr_of, expr, unary_op_of}
use Rattle.text.proofs.ByKind.{of_kind, by_variant}
use Rattle.precedence.proofs.Tree.{precedence_at}
use Rattle.signs.specs.Sign.{of_unary, plus_or_minus}
use Rattle.signs.proofs.Step.{sign_here, type_first}
use Rattle.joined.specs.Stack.{Head, bare_sign, sign_of, own_of, head_of, walk}
use Rattle.joined.proofs.Own.{unary_own, own, head}

own_variant : (v : ℕ) → of_unary v ≡ unary_own (unary_op_of v)
unfolding plus_or_minus unary_own unary_op_of
own_variant = by_variant (λ v. of_unary v ≡ unary_own (unary_op_of v)) refl refl refl refl refl (λ n. let v = suc (suc (suc (suc (suc n)))) in
    simp (ne_eqb v 2 (λ e. omega arith), ne_eqb v 3 (λ e. omega arith)))

-- what an expression is by itself, by its record
own_here : (ns : List ℕ) (r : Record) (L : List Item) → own_of r.kind r.variant ≡ own (expr_of ns r L).tree
unfolding expr_of own_of own
own_here ns r L =
    row 1 _ _ refl λ e1. row 2 _ _ refl λ e2. row 3 _ _ refl λ e3. row 4 _ _ refl λ e4. row 5 _ _ refl λ e5. row 6 _ _ refl λ e6. row 7 _ _ (own_variant r.variant) λ e7. row 8 _ _ refl λ e8.
    row 9 _ _ refl λ e9. row 10 _ _ refl λ e10. row 11 _ _ refl λ e11. row 12 _ _ refl λ e12. row 13 _ _ refl λ e13. row 14 _ _ refl λ e14. row 15 _ _ refl λ e15. row 16 _ _ refl λ e16.
    rw (e2, e7) refl
  where
    row : (m : ℕ) (f g : Reader Expr) → own_of m r.variant ≡ own (f L).tree → (eqb r.kind m ≡ false → own_of r.kind r.variant ≡ own (g L).tree) → own_of r.kind r.variant ≡ own (cond (eqb r.kind m) f g L).tree
    row m f g = of_kind (λ k y. own_of k r.variant ≡ own y.tree) L r.kind m f g

-- each part by its law
same_head : {s t p q o w : ℕ} → s ≡ t → p ≡ q → o ≡ w → ◌≡◌ {A = Head} (record { sign = s; precedence = p; own = o }) (record { sign = t; precedence = q; own = w })
same_head {t = t} {p = p} {q = q} {o = o} a b c = ap (λ (s : ℕ). record { sign = s; precedence = p; own = o }) a ∙ ap (λ (p : ℕ). record { sign = t; precedence = p; own = o }) b ∙ ap (λ (o : ℕ). record { sign = t; precedence = q; own = o }) c

module _ (rs ns : List ℕ) where
  heads : (n i : ℕ) → (walk rs n i).head ≡ head (expr (items n rs ns i)).tree
  unfolding walk items first item_of sign precedence own head_of sign_of bare_sign
  heads zero i = refl
  heads (suc n) i =
      let r = record_at rs i in
      let L = items n rs ns (i + 1) in
      ap (head_of r) (heads n (i + 1))
      ∙ same_head (sign_here ns r.kind r.variant r.count r.a r.b L (type_first rs ns n (i + 1))) (sym (precedence_at ns r L)) (own_here ns r L)

  pub head_at : (i : ℕ) → (walk rs (record_count rs - i) i).head ≡ head (expr (from rs ns i)).tree
  unfolding from
  head_at i = heads (record_count rs - i) i
