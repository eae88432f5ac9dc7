-- Commands that write no token: what they write is blanks, which are skipped between tokens and make none of them longer, under any settings and in any state. Assumes nothing.
use mathlib.Core.Path.{◌≡◌, refl, ap, ◌∙◌}
use mathlib.Core.Bool.{Bool, true, false, cond}
use mathlib.Core.List.{List, [], ◌∷◌, ◌++◌, cons≢nil}
use Prim.Native.Nat.{ℕ}
use Rattle.settings.specs.declared.Settings.{Settings}
use Rattle.settings.specs.declared.FormattingState.{FormattingState}
use Rattle.text.specs.Token.{Token}
use Rattle.text.specs.Command.{Command}
use Rattle.text.specs.Pen.{written}
use Rattle.text.specs.Visible.{token_of, spelled, blank, visible}
use Rattle.text.proofs.OnlyLayout.{written_token}
use Rattle.lexis.specs.Division.{white_space, Divides}
use Rattle.lexis.specs.Division.Divides.{skip}
use Rattle.division.proofs.Clear.{Clear, blank_is, blank_clear}

-- a command without a token
abbrev pub Silent : Command → Type 0
Silent c = token_of c ≡ []

-- so all that it writes is blanks
pub silent_blank : (s : Settings) (c : Command) → Silent c → (x : FormattingState) → visible (written s c x) ≡ []
unfolding visible spelled
silent_blank s c h x = written_token s c x ∙ ap (λ (ts : List Token). visible (spelled ts)) h

-- the first byte of a text whose visible part is vs is a blank, or is not
pub by_blank : {P : Type 0} (b : ℕ) (bs vs : List ℕ) → visible (b ∷ bs) ≡ vs → (blank b ≡ true → visible bs ≡ vs → P) → (b ∷ visible bs ≡ vs → P) → P
unfolding visible
by_blank {P = P} b bs vs e f g = go (blank b) refl e
  where
    go : (p : Bool) → blank b ≡ p → cond p (visible bs) (b ∷ visible bs) ≡ vs → P
    go true q e = f q e
    go false q e = g e

-- where nothing is visible it is one, and nothing is visible behind it
pub first_blank : (b : ℕ) (bs : List ℕ) → visible (b ∷ bs) ≡ [] → (blank b ≡ true) × (visible bs ≡ [])
first_blank b bs h = by_blank b bs [] h (λ q t. (q, t)) (λ t. absurd (cons≢nil t))

-- blanks are white space
pub blank_white : (b : ℕ) → blank b ≡ true → white_space b ≡ true
unfolding white_space
blank_white = blank_is (λ b. white_space b ≡ true) refl refl refl

-- a text of blanks is skipped
skipped : {L : List ℕ → Token → Type 0} {W : List ℕ → Bool} (bs rest : List ℕ) {ts : List Token} → visible bs ≡ [] → Divides L W rest ts → Divides L W (bs ++ rest) ts
skipped [] rest h d = d
skipped (b ∷ bs) rest h d = let a = first_blank b bs h in skip (blank_white b a.0) (skipped bs rest a.1 d)

-- so what a silent command writes is skipped
pub silent_skipped : {L : List ℕ → Token → Type 0} {W : List ℕ → Bool} (s : Settings) (c : Command) → Silent c → (x : FormattingState) (rest : List ℕ) {ts : List Token} → Divides L W rest ts → Divides L W (written s c x ++ rest) ts
silent_skipped s c h x rest d = skipped (written s c x) rest (silent_blank s c h x) d

-- and what stands clear behind a token does so with that before it
pub silent_clear : (wide : Bool) (t : Token) (s : Settings) (c : Command) → Silent c → (x : FormattingState) (rest : List ℕ) → Clear wide t rest → Clear wide t (written s c x ++ rest)
silent_clear wide t s c h x rest k = go (written s c x) (silent_blank s c h x)
  where
    go : (bs : List ℕ) → visible bs ≡ [] → Clear wide t (bs ++ rest)
    go [] v = k
    go (b ∷ bs) v = blank_clear wide b (first_blank b bs v).0 t
