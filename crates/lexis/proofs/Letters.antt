-- Where the bytes of names and numbers lie among all bytes. Assumes nothing.
use mathlib.Core.Path.{◌≡◌}
use mathlib.Core.Bool.{true, not, ◌&&◌, ◌||◌}
use Prim.Native.Nat.{ℕ, ◌≤◌, ◌<◌}
use Prim.Native.Char.{code}
use native.Mathlib.Omega.{arith}
use lib.Dec.{leb, eqb}
use borrow.Author.Tests.{leb-true, le-leb, eqb-true, ne_eqb, not-true}
use Rattle.words.specs.Letter.{between, digit, letter, name_byte}
use Rattle.lexis.specs.Division.{white_space}
use Rattle.lexis.proofs.Tests.{both, either, or_left, or_right, and_both, clash}

pub range : (low high b : ℕ) → between low high b ≡ true → (low ≤ b) × (b ≤ high)
range low high b e = let h = both (leb low b) (leb b high) e in (leb-true low b h.0, leb-true b high h.1)

pub in_range_lem : (low high b : ℕ) → low ≤ b → b ≤ high → between low high b ≡ true
in_range_lem low high b h i = and_both (leb low b) (leb b high) (le-leb low b h) (le-leb b high i)

pub digit_range : (b : ℕ) → digit b ≡ true → (code "0" ≤ b) × (b ≤ code "9")
unfolding digit
digit_range b e = range (code "0") (code "9") b e

pub digit_of : (b : ℕ) → code "0" ≤ b → b ≤ code "9" → digit b ≡ true
unfolding digit
digit_of b h i = in_range_lem (code "0") (code "9") b h i

pub digit_name_byte : (b : ℕ) → digit b ≡ true → name_byte b ≡ true
unfolding name_byte
digit_name_byte b e = or_left (letter b || digit b) (eqb b (code "_")) (or_right (letter b) (digit b) e)

-- a letter or an underscore
pub letter_from : (b : ℕ) → name_byte b && not (digit b) ≡ true → code "A" ≤ b
unfolding name_byte letter
letter_from b e =
    let h = both (name_byte b) (not (digit b)) e in
    either (letter b || digit b) (eqb b (code "_")) h.0
    (λ k. either (letter b) (digit b) k
    (λ l. either (between (code "a") (code "z") b) (between (code "A") (code "Z") b) l (λ r. omega (arith, (range (code "a") (code "z") b r).0)) (λ r. (range (code "A") (code "Z") b r).0))
    (λ d. clash d (not-true (digit b) h.1)))
    (λ k. omega (arith, eqb-true b (code "_") k))

-- no white space lies behind the space
pub solid_from : (b : ℕ) → code " " < b → not (white_space b) ≡ true
unfolding white_space
solid_from b h =
    rw (ne_eqb b (code " ") (λ q. omega arith), ne_eqb b (code "\t") (λ q. omega arith), ne_eqb b (code "\n") (λ q. omega arith), ne_eqb b 11 (λ q. omega arith), ne_eqb b 12 (λ q. omega arith), ne_eqb b (code "\r") (λ q. omega arith))
