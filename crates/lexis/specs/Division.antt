-- Division of a text into tokens by longest match (4.60 §3.1 white space, §3.5 tokens; longest match is C++'s rule, which §3.3 takes over). The language is a
-- parameter: W has its words, and L says which token a word is, for the tokens that a text of ours can hold. Assumes nothing.
use Rattle.std.specs.Prelude.{◌≡◌, Bool, true, false, ◌||◌, List, [], ◌∷◌, ◌++◌, ℕ, eqb}
use Prim.Native.Char.{code}
use Rattle.text.specs.Token.{Token}

abbrev pub vertical_tab : ℕ
vertical_tab = 11

abbrev pub form_feed : ℕ
form_feed = 12

unfoldable pub white_space : ℕ → Bool
white_space b = eqb b (code " ") || eqb b (code "\t") || eqb b (code "\n") || eqb b vertical_tab || eqb b form_feed || eqb b (code "\r")

-- there is a first byte, and it passes the test
abbrev pub begins_with : (ℕ → Bool) → List ℕ → Bool
begins_with f [] = false
begins_with f (b ∷ bs) = f b

-- no word of the language begins with w and goes on into bs
abbrev pub Longest : (W : List ℕ → Bool) → (w bs : List ℕ) → Type 0
Longest W w bs = (b : ℕ) (more rest : List ℕ) → bs ≡ b ∷ (more ++ rest) → W (w ++ (b ∷ more)) ≡ true → ⊥

-- the end; white space is skipped; a longest word is taken (every word that is a token is in W: proofs/Laws, `within`)
pub data Divides (L : List ℕ → Token → Type 0) (W : List ℕ → Bool) : List ℕ → List Token → Type 0 where
  at_end : Divides L W [] []
  skip : {b : ℕ} {bs : List ℕ} {ts : List Token} → white_space b ≡ true → Divides L W bs ts → Divides L W (b ∷ bs) ts
  take : {w bs : List ℕ} {t : Token} {ts : List Token} → L w t → Longest W w bs → Divides L W bs ts → Divides L W (w ++ bs) (t ∷ ts)
