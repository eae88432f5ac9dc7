-- Records from numbers, for worked examples. Assumes nothing.
use mathlib.Core.List.{List, [], ◌∷◌}
use Prim.Native.Nat.{ℕ, ◌/◌, ◌%◌}

-- a record: kind, variant, count, a, b
abbrev pub rec : ℕ → ℕ → ℕ → ℕ → ℕ → List ℕ
rec k v n a b =
    k ∷ v ∷ n % 256 ∷ n / 256 ∷ a % 256 ∷ a / 256 % 256 ∷ a / 65536 % 256 ∷ a / 16777216 ∷ b % 256 ∷ b / 256 % 256 ∷ b / 65536 % 256 ∷ b / 16777216 ∷ []

-- with a variant alone; with a count alone; with the one-letter name at offset a
abbrev pub plain : ℕ → ℕ → List ℕ
plain k v = rec k v 0 0 0

abbrev pub many : ℕ → ℕ → List ℕ
many k n = rec k 0 n 0 0

abbrev pub named : ℕ → ℕ → ℕ → List ℕ
named k v a = rec k v 0 a 1
