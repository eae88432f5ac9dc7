-- What a splitting into words does at the front of a text, for any words between GLSL's and the preprocessor's: white space is skipped, a token's spelling is taken as the longest word. Assumes nothing.
use mathlib.Core.Path.{◌≡◌, refl, sym, ap, subst, ◌∙◌}
use mathlib.Core.Bool.{Bool, true}
use mathlib.Core.List.{List, ◌∷◌, ◌++◌, append_cancel_left}
use Prim.Native.Nat.{ℕ}
use native.Mathlib.Omega.{arith}
use Rattle.text.specs.Token.{Token, spell}
use Rattle.lexis.specs.Division.{white_space, Longest}
use Rattle.lexis.specs.Division.Divides.{at_end, skip, take}
use Rattle.lexis.specs.Glsl.{Spelled, any, Splits}
use Rattle.lexis.specs.Preprocessing.{Between}
use Rattle.lexis.proofs.One.{Solid, not_skipped}
use Rattle.lexis.proofs.Glsl.{vocabulary}

module _ {W : List ℕ → Bool} (between : Between W) where
  solid : {w : List ℕ} {t : Token} → Spelled any w t → Solid w
  solid {w = w} {t = t} l = (vocabulary any W between).solid w t l

  pub skipped_out : {cs bs : List ℕ} {ts : List Token} (b : ℕ) → white_space b ≡ true → Splits W cs ts → cs ≡ b ∷ bs → Splits W bs ts
  skipped_out b h at_end e = let z : ◌≡◌ {A = ℕ} 0 1 = cc in absurd (omega arith)
  skipped_out {bs = bs} {ts = ts} b h (skip {bs = cs} i d) e = let q : cs ≡ bs = cc in subst (λ (x : List ℕ). Splits W x ts) q d
  skipped_out {bs = bs} b h (take {w = w} {bs = cs} l g d) e = absurd (not_skipped b bs w cs h (solid l) (sym e))

  -- the first token is spelled as a word
  head_spelled : {bs : List ℕ} {ts us : List Token} (t : Token) → Splits W bs us → us ≡ t ∷ ts → Spelled any (spell t) t
  head_spelled t at_end e = let z : ◌≡◌ {A = ℕ} 0 1 = cc in absurd (omega arith)
  head_spelled t (skip h d) e = head_spelled t d e
  head_spelled t (take {t = u} l g d) e =
      let q : u ≡ t = cc in
      subst (λ (x : Token). Spelled any (spell x) x) q (record { spells = refl; is_proper = l.is_proper })

  pub taken_out : {cs bs : List ℕ} {ts us : List Token} (t : Token) → Splits W cs us → us ≡ t ∷ ts → cs ≡ spell t ++ bs → Longest W (spell t) bs × Splits W bs ts
  taken_out t at_end u e = let z : ◌≡◌ {A = ℕ} 0 1 = cc in absurd (omega arith)
  taken_out {bs = bs} t (skip {b = b} {bs = cs} h d) u e = absurd (not_skipped b cs (spell t) bs h (solid (head_spelled t d u)) e)
  taken_out {bs = bs} {ts = ts} t (take {w = w} {bs = cs} {t = v} {ts = vs} l g d) u e =
      let p : v ≡ t = cc in
      let r : vs ≡ ts = cc in
      let n : w ≡ spell t = sym l.spells ∙ ap spell p in
      let q : cs ≡ bs = append_cancel_left (spell t) cs bs (ap (λ (x : List ℕ). x ++ cs) (sym n) ∙ e) in
      (subst (λ (x : List ℕ). Longest W (spell t) x) q (subst (λ (x : List ℕ). Longest W x cs) n g), subst (λ (x : List ℕ). Splits W x ts) q (subst (λ (x : List Token). Splits W cs x) r d))
