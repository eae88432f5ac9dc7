-- What a printer learns of a record's kind where it is none that it knows. Assumes nothing.
use mathlib.Core.Path.{◌≡◌, sym, ◌∙◌}
use Prim.Native.Nat.{ℕ}
use Rattle.std.specs.Prelude.{Option, None, Some}
use Rattle.records.specs.declared.kind.Kind.{Kind}
use Rattle.records.specs.Kind.{number, kind_of}
use Rattle.records.proofs.Numbers.{of_number}

module _ {o : Option Kind} (n : ℕ) (is : o ≡ kind_of n) where
  -- it has no kind
  pub no_number : o ≡ None → (x : Kind) → n ≡ number x → ⊥
  no_number none x e = let h : None ≡ Some x = sym none ∙ is ∙ of_number x n e in absurd cc

  -- it has another
  pub not_this : {y : Kind} → o ≡ Some y → (x : Kind) → (y ≡ x → ⊥) → n ≡ number x → ⊥
  not_this {y} some x other e = let h : Some y ≡ Some x = sym some ∙ is ∙ of_number x n e in other cc
