-- What stands at a record, by its kind: how Reading reads a record that was read as r. Assumes nothing.
use mathlib.Core.Path.{◌≡◌, refl, sym, ◌∙◌, ap}
use mathlib.Core.Bool.{Bool, true, false, cond}
use mathlib.Core.List.{List}
use Prim.Native.Nat.{ℕ, ◌+◌, ◌-◌}
use lib.Dec.{eqb, ltb}
use borrow.Author.Tests.{eq-eqb, ne_eqb}
use Rattle.words.specs.Word.{Word}
use Rattle.records.specs.declared.Record.{Record}
use Rattle.records.specs.Record.{record_at}
use Rattle.records.proofs.Arms.{NoneFrom}
use Rattle.text.specs.Tree.{Expr, FunIdentifier, TypeSpecifierNonArray, TypeQualifierSpec}
use Rattle.text.specs.Reading.{Item, nothing, give, ◌and◌, counted, from, storage_of, precision_of, interpolation_of, item_of, expr_of, base_of, spec_of, expr, type, base, callee}
use Rattle.text.specs.Text.{a_word, show_type_qualifier_spec}
use Rattle.text.proofs.At.{kind_at}
use Rattle.leaves.specs.Qualifier.{qualifier_word}
use Rattle.leaves.proofs.Shown.{opened_any}

-- a qualifier that is one word, by its variant
abbrev pub word_spec : ℕ → TypeQualifierSpec
word_spec v =
    cond (ltb v 17) (TypeQualifierSpec.Storage (storage_of v))
    (cond (ltb v 22) (TypeQualifierSpec.Precision (precision_of (v - 19)))
    (cond (ltb v 25) (TypeQualifierSpec.Interpolation (interpolation_of (v - 22))) (cond (eqb v 25) TypeQualifierSpec.Invariant TypeQualifierSpec.Precise)))

-- it is shown as its word
pub word_shown : (v : ℕ) → (v ≡ 17 → ⊥) → (v ≡ 18 → ⊥) → a_word (qualifier_word v) ≡ show_type_qualifier_spec (word_spec v)
unfolding qualifier_word show_type_qualifier_spec
word_shown v h k = rw (ne_eqb v 17 h, ne_eqb v 18 k) (go (ltb v 17) (ltb v 22) (ltb v 25) (eqb v 25))
  where
    go : (a b c d : Bool) → a_word (cond a (Word.storage (storage_of v)) (cond b (Word.precision_qualifier (precision_of (v - 19))) (cond c (Word.interpolation (interpolation_of (v - 22))) (cond d Word.invariant Word.precise))))
        ≡ show_type_qualifier_spec (cond a (TypeQualifierSpec.Storage (storage_of v)) (cond b (TypeQualifierSpec.Precision (precision_of (v - 19))) (cond c (TypeQualifierSpec.Interpolation (interpolation_of (v - 22))) (cond d TypeQualifierSpec.Invariant TypeQualifierSpec.Precise))))
    go true b c d = refl
    go false true c d = refl
    go false false true d = refl
    go false false false true = refl
    go false false false false = refl

-- the same record, of kind k
abbrev pub as_kind : ℕ → Record → Record
as_kind k r = record { kind = k; variant = r.variant; count = r.count; a = r.a; b = r.b }

-- it is what the row of qualifiers says
pub word_row : (names : List ℕ) (r : Record) (L : List Item) → (r.variant ≡ 17 → ⊥) → (r.variant ≡ 18 → ⊥) → spec_of names (as_kind 29 r) L ≡ counted (give (word_spec r.variant) L)
unfolding spec_of
word_row names r L v w = rw (ne_eqb r.variant 17 v, ne_eqb r.variant 18 w) (go (ltb r.variant 17) (ltb r.variant 22) (ltb r.variant 25) (eqb r.variant 25))
  where
    go : (a b c d : Bool)
        → counted (cond a (give (TypeQualifierSpec.Storage (storage_of r.variant))) (cond b (give (TypeQualifierSpec.Precision (precision_of (r.variant - 19)))) (cond c (give (TypeQualifierSpec.Interpolation (interpolation_of (r.variant - 22)))) (cond d (give TypeQualifierSpec.Invariant) (give TypeQualifierSpec.Precise)))) L)
        ≡ counted (give (cond a (TypeQualifierSpec.Storage (storage_of r.variant)) (cond b (TypeQualifierSpec.Precision (precision_of (r.variant - 19))) (cond c (TypeQualifierSpec.Interpolation (interpolation_of (r.variant - 22))) (cond d TypeQualifierSpec.Invariant TypeQualifierSpec.Precise)))) L)
    go true b c d = refl
    go false true c d = refl
    go false false true d = refl
    go false false false true = refl
    go false false false false = refl

module _ (records names : List ℕ) {r : Record} (i : ℕ) (e : r ≡ record_at records i) where
  -- what stands here, and behind the record
  abbrev here : List Item
  here = from records names i

  abbrev L : List Item
  L = from records names (i + 1)

  pub no_expr_at : NoneFrom 1 16 r.kind → expr here ≡ nothing Expr.no_expr
  unfolding item_of expr_of
  no_expr_at h =
      opened_any records names (λ (x : Item). x.expr) Expr.no_expr i (λ L. refl) e
      ∙ rw (ne_eqb r.kind 1 h.0.0.0.0.0.0.0.0.0.0.0.0.0.0.0.1, ne_eqb r.kind 2 h.0.0.0.0.0.0.0.0.0.0.0.0.0.0.1, ne_eqb r.kind 3 h.0.0.0.0.0.0.0.0.0.0.0.0.0.1, ne_eqb r.kind 4 h.0.0.0.0.0.0.0.0.0.0.0.0.1, ne_eqb r.kind 5 h.0.0.0.0.0.0.0.0.0.0.0.1, ne_eqb r.kind 6 h.0.0.0.0.0.0.0.0.0.0.1, ne_eqb r.kind 7 h.0.0.0.0.0.0.0.0.0.1, ne_eqb r.kind 8 h.0.0.0.0.0.0.0.0.1, ne_eqb r.kind 9 h.0.0.0.0.0.0.0.1, ne_eqb r.kind 10 h.0.0.0.0.0.0.1, ne_eqb r.kind 11 h.0.0.0.0.0.1, ne_eqb r.kind 12 h.0.0.0.0.1, ne_eqb r.kind 13 h.0.0.0.1, ne_eqb r.kind 14 h.0.0.1, ne_eqb r.kind 15 h.0.1, ne_eqb r.kind 16 h.1) refl

  pub no_base_at : NoneFrom 21 3 r.kind → base here ≡ nothing TypeSpecifierNonArray.no_base
  unfolding item_of base_of
  no_base_at h = opened_any records names (λ (x : Item). x.base) TypeSpecifierNonArray.no_base i (λ L. refl) e ∙ rw (ne_eqb r.kind 21 h.0.0.1, ne_eqb r.kind 22 h.0.1, ne_eqb r.kind 23 h.1) refl

  -- a callee is a type if its record is one
  pub called_type : {k : ℕ} → k ≡ (record_at records i).kind → k ≡ 20 → callee here ≡ (give FunIdentifier.OfType and type) here
  called_type f k = ap (λ (b : Bool). cond b (give FunIdentifier.OfType and type) (give FunIdentifier.OfExpr and expr) here) (ap (λ (x : ℕ). eqb x 20) (kind_at records names i ∙ sym f) ∙ eq-eqb _ 20 k)

  pub called_expr : {k : ℕ} → k ≡ (record_at records i).kind → (k ≡ 20 → ⊥) → callee here ≡ (give FunIdentifier.OfExpr and expr) here
  called_expr f k = ap (λ (b : Bool). cond b (give FunIdentifier.OfType and type) (give FunIdentifier.OfExpr and expr) here) (ap (λ (x : ℕ). eqb x 20) (kind_at records names i ∙ sym f) ∙ ne_eqb _ 20 k)
