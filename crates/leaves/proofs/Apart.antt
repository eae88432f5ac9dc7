-- A space that is needed, or none, behind an operator or before a dot: what was run. Assumes nothing.
use mathlib.Core.Path.{◌≡◌, refl, sym, ap, subst, ◌∙◌}
use mathlib.Core.Bool.{Bool, true, false, cond}
use mathlib.Core.List.{List, []}
use Prim.Native.Nat.{ℕ, ◌+◌}
use lib.Dec.{eqb, leb}
use Rattle.words.specs.Bytes.{bytes}
use Rattle.words.specs.Symbol.{Symbol}
use Rattle.records.specs.declared.Record.{Record}
use Rattle.records.specs.Record.{record_at}
use Rattle.settings.specs.declared.Settings.{Settings}
use Rattle.text.specs.Asked.{Flag, flag}
use Rattle.text.specs.Tree.{Expr}
use Rattle.text.specs.Operator.{precedence, bare_operand}
use Rattle.text.specs.Joins.{sign, sign_if, joins_under, joins_right, is_int}
use Rattle.text.specs.Text.{apart, a_symbol}
use Rattle.text.specs.Reading.{Read, Reader, Item, expr, expr_of, from, unary_op_of, binary_op_of}
use Rattle.text.proofs.At.{expr_at}
use Rattle.text.proofs.ByKind.{of_kind}
use Rattle.signs.specs.Sign.{joins_with, of_unary, of_binary}
use Rattle.signs.proofs.Step.{up_to}
use Rattle.signs.proofs.Operators as Operators
use Rattle.pen.specs.declared.Pen.{Pen}
use Rattle.pen.specs.Promise.{Ran, Wrote}
use Rattle.pen.proofs.Chain.{◌then◌, nothing_ran, by_space_if, spaced, unspaced}
use Rattle.leaves.specs.Operand.{most_under}
use Rattle.leaves.proofs.Operand.{under_sign}

-- a place that is joined or not: no space is asked for; none is needed; one is asked for, needed and written
module _ (s : Settings) (f : Flag) (j : Bool) {room : List ℕ} {p : Pen} where
  pub off : flag s f ≡ false → Ran s (apart j f []) room p room p
  off h = go j
    where
      go : (j : Bool) → Ran s (apart j f []) room p room p
      go true = by_space_if f (unspaced h)
      go false = nothing_ran

  pub unneeded : j ≡ false → Ran s (apart j f []) room p room p
  unneeded e = rw e nothing_ran

  pub needed : {room' : List ℕ} {p' : Pen} → j ≡ true → flag s f ≡ true → Wrote (bytes " ") room p room' p' → Ran s (apart j f []) room p room' p'
  needed e h w = rw e (by_space_if f (spaced h w))

-- the tests of `show_unary_op` and `show_binary_op` are the rule's
module _ (rs ns : List ℕ) (i v : ℕ) where
  abbrev operand : Expr
  operand = (expr (from rs ns i)).tree

  bare_is : leb (precedence operand) (most_under v (record_at rs i)) ≡ bare_operand (unary_op_of v) operand
  bare_is = subst (λ (y : Read Expr). leb (precedence y.tree) (most_under v (record_at rs i)) ≡ bare_operand (unary_op_of v) y.tree) (sym (expr_at rs ns i)) (under_sign ns (record_at rs i) (from rs ns (i + 1)) v)

  pub under_test : {op most : ℕ} → op ≡ of_unary v → most ≡ most_under v (record_at rs i) → joins_with op (sign_if (leb (precedence operand) most) (sign operand)) ≡ joins_under (unary_op_of v) operand
  under_test e m = rw (e, m) (ap (λ (b : Bool). joins_with (of_unary v) (sign_if b (sign operand))) bare_is ∙ Operators.under operand v)

  pub right_test : {op : ℕ} → op ≡ of_binary v → joins_with op (sign_if (leb (precedence operand) 4) (sign operand)) ≡ joins_right (binary_op_of v) operand
  right_test e = rw e (ap (λ (b : Bool). joins_with (of_binary v) (sign_if b (sign operand))) (up_to (precedence operand) 4) ∙ Operators.right operand v)

-- an IntConst, told by its record
int_here : (ns : List ℕ) (r : Record) (L : List Item) → is_int (expr_of ns r L).tree ≡ eqb r.kind 2
unfolding expr_of is_int
int_here ns r L =
    row 1 _ _ refl λ e1. row 2 _ _ refl λ e2. row 3 _ _ refl λ e3. row 4 _ _ refl λ e4. row 5 _ _ refl λ e5. row 6 _ _ refl λ e6. row 7 _ _ refl λ e7. row 8 _ _ refl λ e8.
    row 9 _ _ refl λ e9. row 10 _ _ refl λ e10. row 11 _ _ refl λ e11. row 12 _ _ refl λ e12. row 13 _ _ refl λ e13. row 14 _ _ refl λ e14. row 15 _ _ refl λ e15. row 16 _ _ refl λ e16.
    sym e2
  where
    row : (m : ℕ) (f g : Reader Expr) → is_int (f L).tree ≡ eqb m 2 → (eqb r.kind m ≡ false → is_int (g L).tree ≡ eqb r.kind 2) → is_int (cond (eqb r.kind m) f g L).tree ≡ eqb r.kind 2
    row m f g = of_kind (λ k y. is_int y.tree ≡ eqb k 2) L r.kind m f g

pub int_at : (rs : List ℕ) (i : ℕ) {k : ℕ} → k ≡ (record_at rs i).kind → (ns : List ℕ) → is_int (expr (from rs ns i)).tree ≡ eqb k 2
int_at rs i e ns = ap (λ (x : Read Expr). is_int x.tree) (expr_at rs ns i) ∙ int_here ns (record_at rs i) (from rs ns (i + 1)) ∙ ap (λ (k : ℕ). eqb k 2) (sym e)

pub dot_behind : {s : Settings} {room room₁ room₂ : List ℕ} {p p₁ p₂ : Pen} (f : Flag) (j : Bool) → Ran s (apart j f []) room p room₁ p₁ → Ran s (a_symbol Symbol.dot) room₁ p₁ room₂ p₂ → Ran s (apart j f (a_symbol Symbol.dot)) room p room₂ p₂
dot_behind f true a b = a then b
dot_behind f false a b = a then b
