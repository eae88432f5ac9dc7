-- The two tokens of a negative whole number, or the one of another, are the text of the i32. Assumes nothing.
use mathlib.Core.Path.{◌≡◌, ap}
use mathlib.Core.Bool.{Bool, true, false, cond}
use mathlib.Core.List.{List, [], ◌∷◌, append-nil}
use Prim.Native.Nat.{ℕ}
use Prim.Native.Char.{code}
use Rattle.words.specs.Symbol.{Symbol, symbol_text}
use Rattle.decimal.specs.Decimal.{decimal, negative, magnitude, int_text}
use Rattle.settings.specs.declared.Settings.{Settings}
use Rattle.settings.specs.declared.FormattingState.{FormattingState}
use Rattle.text.specs.Token.{Token, spell}
use Rattle.text.specs.Command.{symbol}
use Rattle.text.specs.Command.Command.{token}
use Rattle.text.specs.Pen.{written, after, text}
use Rattle.text.specs.Text.{show_int}

pub show_int_text : (s : Settings) (n : ℕ) (x : FormattingState) → text s (show_int n) x ≡ int_text n
unfolding text written after spell symbol_text int_text
show_int_text s n x = go (negative n)
  where
    go : (p : Bool) → text s (cond p (symbol Symbol.dash ∷ token (Token.int (magnitude n)) ∷ []) (token (Token.int (magnitude n)) ∷ [])) x
        ≡ cond p (code "-" ∷ decimal (magnitude n)) (decimal (magnitude n))
    go true = ap (λ (t : List ℕ). code "-" ∷ t) (append-nil (decimal (magnitude n)))
    go false = append-nil (decimal (magnitude n))
