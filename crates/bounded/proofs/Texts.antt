-- Texts that have their form are short. Assumes nothing.
use mathlib.Core.Path.{◌≡◌}
use mathlib.Core.Bool.{true}
use mathlib.Core.List.{List}
use Prim.Native.Nat.{ℕ, ◌≤◌}
use native.Mathlib.Omega.{arith}
use lib.ListN.{length}
use Rattle.words.specs.Form.{longest_name, longest_float, name_form, float_form}
use Rattle.words.proofs.Names.{name_long}
use Rattle.words.proofs.Floats.{float_long}
use Rattle.records.proofs.Laws.{split}

pub name_short : (s : List ℕ) → name_form s ≡ true → length s ≤ longest_name
name_short s e = split longest_name (length s) (λ h. let f = name_long s h in let z : ◌≡◌ {A = ℕ} 0 1 = cc in absurd (omega arith)) (λ h. h)

pub float_short : (s : List ℕ) → float_form s ≡ true → length s ≤ longest_float
float_short s e = split longest_float (length s) (λ h. let f = float_long s h in let z : ◌≡◌ {A = ℕ} 0 1 = cc in absurd (omega arith)) (λ h. h)
