-- A call that succeeds had its records accepted, and hands back their text; and of all accepted records, under any settings that are read, there is such a call. Assumes nothing.
use Rattle.std.specs.Prelude.{Option, None, Some, Ok, Err}
use mathlib.Core.Path.{◌≡◌, refl, sym, ap, ◌∙◌}
use mathlib.Core.List.{List}
use Prim.Native.Nat.{ℕ, ◌<◌}
use native.Mathlib.Omega.{arith}
use lib.ListN.{length, get_or}
use borrow.Author.Tests.{le-leb}
use Rattle.settings.specs.declared.Settings.{Settings}
use Rattle.settings.specs.Settings.{read_settings}
use Rattle.accept.specs.declared.Refusal.TheVariants as Why
use Rattle.accept.specs.Checked.{Checked}
use Rattle.accept.specs.Check.{check}
use Rattle.accepted.proofs.Unique.{number_not_zero}
use Rattle.draft.specs.declared.Root.{Root}
use Rattle.glsl.specs.Printed.{Printed, refusal_number, refusal_place, front, fitted, outcome}
use Rattle.glsl.specs.Root.{root_class, root_text, print_outcome}
use Rattle.glsl.proofs.Outcome.{accepted}
use Rattle.reading.specs.Call.{Call}

checked : (r : Option Settings) (c : Checked) (t room : List ℕ) → refusal_number (outcome r c t room) ≡ 0 → (m : ℕ) × (c ≡ Ok m)
unfolding outcome
checked None c t room h = absurd (number_not_zero Why.SettingsOutOfRange h)
checked (Some s) (Err x) t room h = absurd (number_not_zero x.refusal h)
checked (Some s) (Ok m) t room h = (m, refl)

whole_front : (o : Printed) (t : List ℕ) → refusal_number o ≡ 0 → front o t ≡ t
whole_front (Ok n) t h = refl
whole_front (Err x) t h = absurd (number_not_zero x.refusal h)

module _ {root : Root} (c : Call root) where
  not_refused : refusal_number (print_outcome root c.settings c.records c.names c.room) ≡ 0
  not_refused = sym c.promised.numbered ∙ c.accepted

  pub records_accepted : (m : ℕ) × (check c.records c.names (root_class root) ≡ Ok m)
  records_accepted = checked (read_settings c.settings) (check c.records c.names (root_class root)) (root_text root c.settings c.records c.names) c.room not_refused

  pub text_written : c.written ≡ root_text root c.settings c.records c.names
  text_written = c.promised.handed ∙ whole_front (print_outcome root c.settings c.records c.names c.room) (root_text root c.settings c.records c.names) not_refused

-- a room of the text's own length fits
fits : (t : List ℕ) → fitted t t ≡ Ok (length t)
unfolding fitted
fits t = rw (le-leb (length t) (length t) (omega arith)) refl

-- the call that is lent these settings, records and names, and a room of the text's length
pub called : (root : Root) (settings records names : List ℕ) → ((p : ℕ) → get_or records p 0 < 256) → (s : Settings) → read_settings settings ≡ Some s → (m : ℕ) → check records names (root_class root) ≡ Ok m
    → (c : Call root) × (c.settings ≡ settings) × (c.records ≡ records) × (c.names ≡ names)
called root settings records names byte s read m next =
    let t = root_text root settings records names in
    let o : print_outcome root settings records names t ≡ Ok (length t) = accepted (read_settings settings) (check records names (root_class root)) t t s m read next ∙ fits t in (
      record {
        settings = settings;
        records = records;
        names = names;
        room = t;
        written = t;
        no = 0;
        place = 0;
        lent = byte;
        promised = record { handed = sym (ap (λ (a : Printed). front a t) o); numbered = sym (ap refusal_number o); placed = sym (ap refusal_place o) };
        accepted = refl;
      },
      refl,
      refl,
      refl,
    )
