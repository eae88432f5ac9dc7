-- The bytes that say OPEN's settings are OPEN.
use Rattle.std.proofs.Common.{ap, ◌∙◌}
use Rattle.settings.specs.Settings.{OPEN}
use Rattle.settings.specs.Bytes.{settings_bytes}
use Rattle.settings.proofs.RoundTrip.{bytes_again, open_in_range}
use Rattle.print.proofs.open_record.Goals as goal

pub returns : goal.returns
returns c = c.to_bytes.ensures ∙ ap settings_bytes c.open-open.ensures ∙ bytes_again OPEN open_in_range
