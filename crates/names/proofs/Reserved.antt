-- Whether a text begins with gl_, by its length and its first three bytes. Assumes nothing.
use mathlib.Core.Path.{◌≡◌, refl, ◌∙◌, ap}
use mathlib.Core.List.{List, [], ◌∷◌}
use mathlib.Core.Bool.{Bool, false, ◌&&◌, and-true, and-false}
use Prim.Native.Nat.{ℕ, ◌≤◌, ◌<◌}
use Prim.Native.Char.{code}
use native.Mathlib.Omega.{arith}
use lib.ListN.{length, get_or}
use lib.Dec.{eqb}
use Rattle.words.specs.Form.{same, reserved}

pub too_short : (s : List ℕ) → length s < 3 → reserved s ≡ false
unfolding reserved same
too_short [] h = refl
too_short (x ∷ []) h = and-false (eqb x (code "g"))
too_short (x ∷ (y ∷ [])) h = ap (λ (b : Bool). eqb x (code "g") && b) (and-false (eqb y (code "l"))) ∙ and-false (eqb x (code "g"))
too_short (x ∷ (y ∷ (z ∷ s))) h = absurd (omega arith)

pub reserved_is : (s : List ℕ) → 3 ≤ length s → reserved s ≡ eqb (get_or s 0 0) (code "g") && (eqb (get_or s 1 0) (code "l") && eqb (get_or s 2 0) (code "_"))
unfolding reserved same
reserved_is [] h = absurd (omega arith)
reserved_is (x ∷ []) h = absurd (omega arith)
reserved_is (x ∷ (y ∷ [])) h = absurd (omega arith)
reserved_is (x ∷ (y ∷ (z ∷ s))) h = ap (λ (b : Bool). eqb x (code "g") && (eqb y (code "l") && b)) (and-true (eqb z (code "_")))
