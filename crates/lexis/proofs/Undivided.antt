-- A word of the language that is no token of ours is divided into nothing, since its front alone is not the longest match: a word that GLSL lists and the printer never writes, and a word of the
-- preprocessor that GLSL has not. Assumes nothing.
use mathlib.Core.Path.{◌≡◌, refl, sym, ap, subst, ◌∙◌}
use mathlib.Core.Bool.{Bool, true, false, not, ◌||◌}
use mathlib.Core.List.{List, [], ◌∷◌, ◌++◌, append-nil}
use mathlib.Core.Option.{none}
use Prim.Native.Nat.{ℕ}
use Rattle.words.specs.Form.{one_of, name_form}
use Rattle.text.specs.Token.{Token}
use Rattle.text.specs.Token.Token.{name}
use Rattle.lexis.specs.Keywords.{listed}
use Rattle.lexis.specs.Number.{number_word}
use Rattle.lexis.specs.Division.{white_space, Longest, Divides}
use Rattle.lexis.specs.Division.Divides.{at_end, skip, take}
use Rattle.lexis.specs.Glsl.{identifier_word, symbol_words, glsl_word, proper_where, unlisted, proper, Lexeme, GlslDivides}
use Rattle.lexis.specs.Preprocessing.{Between}
use Rattle.lexis.proofs.Tests.{both, clash, or_left}
use Rattle.lexis.proofs.Behind.{solid_word}
use Rattle.lexis.proofs.Fixed.{fixed_tokens, find}
use Rattle.lexis.proofs.Glsl.{only_name, vocabulary, glsl_between}

module _ {W : List ℕ → Bool} (between : Between W) (w : List ℕ) (whole_word : W w ≡ true) (no_token : (t : Token) → Lexeme w t → ⊥) where
  no_front : (v rest : List ℕ) (t : Token) → Lexeme v t → Longest W v rest → w ≡ v ++ rest → ⊥
  no_front v [] t l g e = no_token t (subst (λ (u : List ℕ). Lexeme u t) (sym (e ∙ append-nil v)) l)
  no_front v (b ∷ rest) t l g e = g b rest [] (ap (λ (r : List ℕ). b ∷ r) (sym (append-nil rest))) (subst (λ (u : List ℕ). W u ≡ true) e whole_word)

  no_blank : (b : ℕ) (bs : List ℕ) → white_space b ≡ true → w ≡ b ∷ bs → ⊥
  no_blank b bs h e = clash (solid_word (b ∷ bs) (between.has_no_other (b ∷ bs) (subst (λ (u : List ℕ). W u ≡ true) e whole_word))) (ap not h)

  undivided : {bs : List ℕ} {ts : List Token} → Divides Lexeme W bs ts → w ≡ bs → ⊥
  undivided at_end e = clash (solid_word [] (between.has_no_other [] (subst (λ (u : List ℕ). W u ≡ true) e whole_word))) refl
  undivided (skip {b = b} {bs = bs} h d) e = no_blank b bs h e
  undivided (take {w = v} {bs = rest} {t = t} l g d) e = no_front v rest t l g e

-- a word that GLSL lists and the printer never writes
module _ (w : List ℕ) (is_identifier : identifier_word w ≡ true) (is_listed : listed w ≡ true) (not_written : find fixed_tokens w ≡ none) where
  is_word : glsl_word w ≡ true
  unfolding glsl_word
  is_word = or_left (identifier_word w || number_word w) (one_of symbol_words w) (or_left (identifier_word w) (number_word w) is_identifier)

  not_ours : (t : Token) → Lexeme w t → ⊥
  unfolding proper_where
  not_ours t l =
      let e : proper (name w) ≡ true = subst (λ (u : Token). proper u ≡ true) (only_name w is_identifier not_written t l) l.is_proper in
      clash (both (name_form w) (not (listed w)) e).1 (ap not is_listed)

  pub listed_undivided : {bs : List ℕ} {ts : List Token} → GlslDivides bs ts → w ≡ bs → ⊥
  listed_undivided d e = undivided glsl_between w is_word not_ours d e

-- a word that GLSL has not: all our tokens are words of GLSL
pub foreign_undivided : {W : List ℕ → Bool} → Between W → (w : List ℕ) → W w ≡ true → glsl_word w ≡ false → {bs : List ℕ} {ts : List Token} → Divides Lexeme W bs ts → w ≡ bs → ⊥
foreign_undivided between w h f d e = undivided between w h (λ t l. clash ((vocabulary unlisted glsl_word glsl_between).within w t l) f) d e
