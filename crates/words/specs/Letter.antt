-- Digits, letters and the bytes of a name (01, "Tree records", the paragraph behind the table). Assumes nothing.
use Rattle.std.specs.Prelude.{Bool, ◌&&◌, ◌||◌, ℕ, leb, eqb}
use Prim.Native.Char.{code}

abbrev pub between : ℕ → ℕ → ℕ → Bool
between low high x = leb low x && leb x high

unfoldable pub digit : ℕ → Bool
digit x = between (code "0") (code "9") x

unfoldable pub letter : ℕ → Bool
letter x = between (code "a") (code "z") x || between (code "A") (code "Z") x

unfoldable pub name_byte : ℕ → Bool
name_byte x = letter x || digit x || eqb x (code "_")
