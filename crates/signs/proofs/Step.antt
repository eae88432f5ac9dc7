-- The sign of the expression that is read at a record, by that record and the expression behind it, for any records; and how `first_sign` and `joins_at` find it. Assumes nothing.
use mathlib.Core.Path.{◌≡◌, refl, sym, ◌∙◌, ap}
use mathlib.Core.Bool.{Bool, true, false, cond, not, ◌&&◌}
use mathlib.Core.List.{List}
use Prim.Native.Nat.{ℕ, zero, suc, ◌+◌, ◌-◌, ◌≤◌, ◌<◌}
use native.Mathlib.Omega.{arith}
use lib.Dec.{eqb, leb, ltb}
use borrow.Author.Tests.{eqb-true, eq-eqb, ne_eqb, le-ltb, le-leb, lt-leb}
use Rattle.records.specs.declared.Record.{Record}
use Rattle.records.specs.Record.{record_at, record_count}
use Rattle.records.proofs.Laws.{same_answer}
use Rattle.text.specs.Tree.{Expr, FunIdentifier}
use Rattle.text.specs.Operator.{precedence, postfix_precedence, binary_precedence, comma_precedence}
use Rattle.text.specs.Joins.{unary_sign, sign, sign_callee, sign_if}
use Rattle.text.specs.Reading.{Read, Item, Reader, first, first_kind, items, from, item_of, expr_of, expr, callee, type, give, ◌and◌, unary_op_of, binary_op_of}
use Rattle.text.proofs.At.{expr_at, first_out}
use Rattle.text.proofs.ByKind.{of_kind, by_variant}
use Rattle.precedence.specs.Precedence.{precedence_of}
use Rattle.precedence.proofs.Tree.{precedence_at}
use Rattle.signs.specs.Sign.{unary_sign_of, int_sign, first_below, own_sign, goes_on, sign_before, joins_with}

-- up to a precedence is below the next
pub up_to : (p n : ℕ) → leb p n ≡ ltb p (n + 1)
up_to p n = same_answer p n p (n + 1) (λ h. omega arith) (λ h. omega arith)

unary_variant : (v : ℕ) → unary_sign_of v ≡ unary_sign (unary_op_of v)
unfolding unary_sign_of unary_sign unary_op_of
unary_variant = by_variant (λ v. unary_sign_of v ≡ unary_sign (unary_op_of v)) refl refl refl refl refl (λ n. let v = suc (suc (suc (suc (suc n)))) in
    simp (ne_eqb v 0 (λ e. omega arith), ne_eqb v 1 (λ e. omega arith), ne_eqb v 2 (λ e. omega arith), ne_eqb v 3 (λ e. omega arith)))

-- nothing binds below 0
pub none_below : (p : ℕ) → ltb p 0 ≡ false
none_below p = le-ltb p 0 (omega arith)

-- a record of kind k before the records L, of which the first is no expression where it is a type
module _ (ns : List ℕ) (k v n a b : ℕ) (L : List Item) (type_first : first_kind L ≡ 20 → (expr L).tree ≡ Expr.no_expr) where
  abbrev behind : ℕ
  behind = precedence (expr L).tree

  abbrev S : ℕ → ℕ
  S k = sign_before (record { kind = k; variant = v; count = n; a = a; b = b }) behind (sign (expr L).tree)

  record Signed (s : ℕ) (x : Read Expr) : Type 0 where
    pub is : s ≡ sign x.tree

  -- it is read by the row of kind m, or as the other rows say
  row_of : (m : ℕ) (f g : Reader Expr) → Signed (S m) (f L) → (eqb k m ≡ false → Signed (S k) (g L)) → Signed (S k) (cond (eqb k m) f g L)
  row_of m f g = of_kind (λ k y. Signed (S k) y) L k m f g

  -- a type begins with no sign
  call : sign (expr L).tree ≡ sign_callee (callee L).tree
  unfolding sign
  call = go (eqb (first_kind L) 20) refl
    where
      go : (b : Bool) → eqb (first_kind L) 20 ≡ b → sign (expr L).tree ≡ sign_callee (cond b (give FunIdentifier.OfType and type) (give FunIdentifier.OfExpr and expr) L).tree
      go true e = ap sign (type_first (eqb-true _ _ e))
      go false e = refl

  -- an operand that is bare up to a precedence
  looser : (n : ℕ) → cond (ltb (precedence (expr L).tree) (n + 1)) (sign (expr L).tree) 0 ≡ sign_if (leb (precedence (expr L).tree) n) (sign (expr L).tree)
  looser n = ap (λ (b : Bool). cond b (sign (expr L).tree) 0) (sym (up_to (precedence (expr L).tree) n))

  here : Signed (S k) (expr_of ns (record { kind = k; variant = v; count = n; a = a; b = b }) L)
  unfolding expr_of goes_on own_sign first_below sign precedence int_sign
  here =
      row_of 1 _ _ (record { is = rw (none_below behind) refl }) λ e1.
      row_of 2 _ _ (record { is = rw (none_below behind) refl }) λ e2.
      row_of 3 _ _ (record { is = rw (none_below behind) refl }) λ e3.
      row_of 4 _ _ (record { is = rw (none_below behind) refl }) λ e4.
      row_of 5 _ _ (record { is = rw (none_below behind) refl }) λ e5.
      row_of 6 _ _ (record { is = rw (none_below behind) refl }) λ e6.
      row_of 7 _ _ (record { is = rw (none_below behind) (unary_variant v) }) λ e7.
      row_of 8 _ _ (record { is = looser (binary_precedence (binary_op_of v)) }) λ e8.
      row_of 9 _ _ (record { is = refl }) λ e9.
      row_of 10 _ _ (record { is = refl }) λ e10.
      row_of 11 _ _ (record { is = looser postfix_precedence }) λ e11.
      row_of 12 _ _ (record { is = call }) λ e12.
      row_of 13 _ _ (record { is = looser postfix_precedence }) λ e13.
      row_of 14 _ _ (record { is = refl }) λ e14.
      row_of 15 _ _ (record { is = refl }) λ e15.
      row_of 16 _ _ (record { is = looser comma_precedence }) λ e16.
      record { is = rw (e2, e7, e8, e9, e10, e11, e12, e13, e14, e15, e16, none_below behind) refl }

  pub sign_here : S k ≡ sign (expr_of ns (record { kind = k; variant = v; count = n; a = a; b = b }) L).tree
  sign_here = here.is

-- a type is no expression
module _ (rs ns : List ℕ) where
  pub type_first : (n i : ℕ) → first_kind (items n rs ns i) ≡ 20 → (expr (items n rs ns i)).tree ≡ Expr.no_expr
  unfolding items first first_kind item_of expr_of
  type_first zero i e = refl
  type_first (suc n) i e = let r = record_at rs i in ap (λ (k : ℕ). (expr_of ns (record { kind = k; variant = r.variant; count = r.count; a = r.a; b = r.b }) (items n rs ns (i + 1))).tree) e

  type_at : (i : ℕ) → first_kind (from rs ns i) ≡ 20 → (expr (from rs ns i)).tree ≡ Expr.no_expr
  unfolding from
  type_at i = type_first (record_count rs - i) i

  abbrev tree : ℕ → Expr
  tree i = (expr (from rs ns i)).tree

  binds : (i : ℕ) → precedence (tree i) ≡ precedence_of (record_at rs i).kind (record_at rs i).variant
  binds i = ap (λ (x : Read Expr). precedence x.tree) (expr_at rs ns i) ∙ precedence_at ns (record_at rs i) (from rs ns (i + 1))

  sign_at : (i : ℕ) → sign_before (record_at rs i) (precedence (tree (i + 1))) (sign (tree (i + 1))) ≡ sign (tree i)
  sign_at i =
      let r = record_at rs i in
      sign_here ns r.kind r.variant r.count r.a r.b (from rs ns (i + 1)) (type_at (i + 1)) ∙ ap (λ (x : Read Expr). sign x.tree) (sym (expr_at rs ns i))

-- `first_sign`, a step further or at its end, for all names
module _ (rs : List ℕ) where
  abbrev pub SignAt : ℕ → List ℕ → ℕ
  SignAt i ns = sign (expr (from rs ns i)).tree

  module _ (i : ℕ) {r next : Record} {q : ℕ} (er : r ≡ record_at rs i) (en : next ≡ record_at rs (i + 1)) (eq : q ≡ precedence_of next.kind next.variant) where
    goes : (b : Bool) → goes_on r q ≡ b → (ns : List ℕ) → goes_on (record_at rs i) (precedence (expr (from rs ns (i + 1))).tree) ≡ b
    goes b h ns = rw (binds rs ns (i + 1), sym en, sym er, sym eq) h

    pub next_sign : goes_on r q ≡ true → (ns : List ℕ) → SignAt (i + 1) ns ≡ SignAt i ns
    next_sign h ns = ap (λ (b : Bool). cond b (SignAt (i + 1) ns) (own_sign (record_at rs i))) (sym (goes true h ns)) ∙ sign_at rs ns i

    pub own_sign_is : goes_on r q ≡ false → (ns : List ℕ) → own_sign r ≡ SignAt i ns
    own_sign_is h ns = ap own_sign er ∙ ap (λ (b : Bool). cond b (SignAt (i + 1) ns) (own_sign (record_at rs i))) (sym (goes false h ns)) ∙ sign_at rs ns i

  pub no_sign_out : (i : ℕ) → record_count rs ≤ i → (ns : List ℕ) → 0 ≡ SignAt i ns
  unfolding sign
  no_sign_out i h ns = ap (λ (x : Read Expr). sign x.tree) (sym (first_out rs ns (λ x. x.expr) Expr.no_expr i h))

-- `joins_at`, by what was found on the way
module _ (rs : List ℕ) (i op most : ℕ) where
  abbrev At : List ℕ → Bool
  At ns = let e = (expr (from rs ns i)).tree in joins_with op (sign_if (leb (precedence e) most) (sign e))

  pub no_operator : op ≡ 0 → (ns : List ℕ) → false ≡ At ns
  unfolding joins_with
  no_operator e ns = rw (eq-eqb op 0 e) refl

  -- an operand in parentheses begins with no sign
  no_sign : (b : Bool) → false ≡ not b && b
  no_sign true = refl
  no_sign false = refl

  module _ {k v q : ℕ} (ek : k ≡ (record_at rs i).kind) (ev : v ≡ (record_at rs i).variant) (eq : q ≡ precedence_of k v) where
    strength : (ns : List ℕ) → precedence (expr (from rs ns i)).tree ≡ q
    strength ns = binds rs ns i ∙ sym (rw (sym ek, sym ev) eq)

    pub in_parentheses : most < q → (ns : List ℕ) → false ≡ At ns
    unfolding joins_with
    in_parentheses h ns = rw (strength ns, lt-leb q most h) (no_sign (eqb op 0))

    pub by_sign : q ≤ most → {f : ℕ} → ((ns : List ℕ) → f ≡ SignAt rs i ns) → (ns : List ℕ) → joins_with op f ≡ At ns
    by_sign h g ns = rw (strength ns, le-leb q most h, g ns) refl
