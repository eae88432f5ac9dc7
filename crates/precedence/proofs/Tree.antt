-- The precedence that a record tells is its tree's precedence. Assumes nothing.
use mathlib.Core.Path.{◌≡◌, refl}
use mathlib.Core.Bool.{false, cond}
use mathlib.Core.List.{List}
use Prim.Native.Nat.{ℕ}
use lib.Dec.{eqb}
use Rattle.records.specs.declared.Record.{Record}
use Rattle.text.specs.Tree.{Expr}
use Rattle.text.specs.Operator.{precedence}
use Rattle.text.specs.Reading.{Item, Read, Reader, expr_of}
use Rattle.text.proofs.ByKind.{of_kind}
use Rattle.precedence.specs.Precedence.{precedence_of}

module _ (names : List ℕ) (r : Record) (L : List Item) where
  -- what is read as kind k binds so
  abbrev Binds : ℕ → Read Expr → Type 0
  Binds k x = precedence x.tree ≡ precedence_of k r.variant

  row_of : (m : ℕ) (f g : Reader Expr) → Binds m (f L) → (eqb r.kind m ≡ false → Binds r.kind (g L)) → Binds r.kind (cond (eqb r.kind m) f g L)
  row_of m f g = of_kind Binds L r.kind m f g

  pub precedence_at : Binds r.kind (expr_of names r L)
  unfolding expr_of precedence precedence_of
  precedence_at =
      row_of 1 _ _ refl λ e1.
      row_of 2 _ _ refl λ e2.
      row_of 3 _ _ refl λ e3.
      row_of 4 _ _ refl λ e4.
      row_of 5 _ _ refl λ e5.
      row_of 6 _ _ refl λ e6.
      row_of 7 _ _ refl λ e7.
      row_of 8 _ _ refl λ e8.
      row_of 9 _ _ refl λ e9.
      row_of 10 _ _ refl λ e10.
      row_of 11 _ _ refl λ e11.
      row_of 12 _ _ refl λ e12.
      row_of 13 _ _ refl λ e13.
      row_of 14 _ _ refl λ e14.
      row_of 15 _ _ refl λ e15.
      row_of 16 _ _ refl λ e16.
      rw (e7, e8, e9, e10, e11, e12, e13, e14, e15, e16) refl
