-- The text of two lists of commands, one behind the other, and the state behind them. Assumes nothing.
use mathlib.Core.Path.{◌≡◌, refl, sym, ap, ◌∙◌}
use mathlib.Core.List.{List, [], ◌∷◌, ◌++◌, append_assoc}
use Prim.Native.Nat.{ℕ}
use Rattle.settings.specs.declared.Settings.{Settings}
use Rattle.settings.specs.declared.FormattingState.{FormattingState}
use Rattle.text.specs.Command.{Command}
use Rattle.text.specs.Pen.{written, after, text, after_all}

pub text_append : (s : Settings) (cs ds : List Command) (x : FormattingState) → text s (cs ++ ds) x ≡ text s cs x ++ text s ds (after_all s cs x)
unfolding text after_all
text_append s [] ds x = refl
text_append s (c ∷ cs) ds x = ap (λ (v : List ℕ). written s c x ++ v) (text_append s cs ds (after s c x)) ∙ sym (append_assoc (written s c x) (text s cs (after s c x)) (text s ds (after_all s cs (after s c x))))

pub after_append : (s : Settings) (cs ds : List Command) (x : FormattingState) → after_all s (cs ++ ds) x ≡ after_all s ds (after_all s cs x)
unfolding after_all
after_append s [] ds x = refl
after_append s (c ∷ cs) ds x = after_append s cs ds (after s c x)
