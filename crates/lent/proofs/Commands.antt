-- What new_line and consume_newline leave of a state is what their commands leave of it in the definition of the text. Assumes nothing.
use mathlib.Core.Path.{◌≡◌, refl}
use mathlib.Core.Bool.{false}
use Rattle.settings.specs.declared.Settings.{Settings}
use Rattle.settings.specs.declared.FormattingState.{FormattingState}
use Rattle.text.specs.Asked.{Flag, flag}
use Rattle.text.specs.Command.Command.{newline_if, consume_newline}
use Rattle.text.specs.Pen.{pend, after}
use Rattle.pen.specs.Run.{asked}

pub new_line_command : (s : Settings) (f : Flag) (x : FormattingState) → asked (flag s f) x ≡ after s (newline_if f) x
unfolding after
new_line_command s f x = refl

pub consume_newline_command : (s : Settings) (x : FormattingState) → pend false x ≡ after s consume_newline x
unfolding after
consume_newline_command s x = refl
