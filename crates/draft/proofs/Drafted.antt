-- Drafted, then put: a printer that starts at the front with a fresh state leaves its pen as far on as the definition's text is long, whatever the
-- room, and where the text fits it stands at the front of the room; so a draft measures it, and a draft that it fits can be copied. Assumes nothing.
use Rattle.std.specs.Prelude.{Ok, Err}
use mathlib.Core.Path.{◌≡◌, refl, sym, ap, subst, ◌∙◌}
use mathlib.Core.List.{List, ◌++◌}
use Prim.Native.Nat.{ℕ, ◌<◌, ◌≤◌}
use native.Mathlib.Nat.{zero-add}
use native.Mathlib.Omega.{arith}
use lib.ListN.{length, take, drop}
use lib.Seq.{sets, sets-eq, take-append_seam}
use Rattle.settings.specs.declared.Settings.{Settings}
use Rattle.settings.specs.State.{fresh}
use Rattle.text.specs.Command.{Command}
use Rattle.text.specs.Pen.{text}
use Rattle.text.specs.Reading.{Reader, from}
use Rattle.pen.specs.declared.Pen.{Pen}
use Rattle.pen.specs.Free.{Free}
use Rattle.pen.proofs.Written.{ran_length, pen_text, room_text}
use Rattle.leaves.specs.Shown.{Shows}
use Rattle.draft.specs.Root.{start}
use Rattle.draft.specs.Put.{Puts}

-- what is shown from the first record on
module _ {A : Type 0} (show : A → List Command) (q : Reader A) (s : Settings) (records names : List ℕ) where
  abbrev commands : List Command
  commands = show (q (from records names 0)).tree

  abbrev shown : List ℕ
  shown = text s commands fresh

  module _ (free : Free s commands start) where
    measured : {room room' : List ℕ} {p : Pen} → Shows show q s records names room start room' p → p.at ≡ length shown
    measured a = ap (λ (x : Pen). x.at) (pen_text a.ran free) ∙ zero-add (length shown)

    -- laid at the front of a room where it fits, and nothing behind it
    front_laid : (room : List ℕ) → length shown ≤ length room → sets room 0 shown ≡ shown ++ drop (length shown) room
    front_laid room h = sets-eq shown room 0 (omega arith) ∙ ap (λ (n : ℕ). shown ++ drop n room) (zero-add (length shown))

    stands : {room room' : List ℕ} {p : Pen} → Shows show q s records names room start room' p → length shown ≤ length room → room' ≡ shown ++ drop (length shown) room
    stands {room = room} a h = room_text a.ran free (omega arith) ∙ front_laid room h

    -- drafted, then, from the same start, too long, copied or written again
    module _ (room : List ℕ) {draft draft' : List ℕ} {p₀ p : Pen} (began : p₀ ≡ start) (drafting : Shows show q s records names draft p₀ draft' p) where
      drafted : Shows show q s records names draft start draft' p
      drafted = subst (λ (x : Pen). Shows show q s records names draft x draft' p) began drafting

      long : p.at ≡ length shown
      long = measured drafted

      put : {room' : List ℕ} → p.at ≤ length room → room' ≡ shown ++ drop (length shown) room → Puts shown room room' (Ok p.at)
      unfolding Puts
      put h there = (long, h, there ∙ ap (λ (n : ℕ). shown ++ drop n room) (sym long))

      -- the front of a draft that is long enough is the text
      front_drafted : p.at ≤ length draft' → take p.at draft' ≡ shown
      front_drafted h =
          ap (λ (n : ℕ). take n draft') long ∙ ap (take (length shown)) (stands drafted (omega (arith, long, ran_length drafted.ran))) ∙ take-append_seam shown (drop (length shown) draft)

      pub not_put : length room < p.at → Puts shown room room (Err (record { length = p.at }))
      unfolding Puts
      not_put h = (long, h, refl)

      pub copied : {room' : List ℕ} → p.at ≤ length room → p.at ≤ length draft' → room' ≡ sets room 0 (take p.at draft') → Puts shown room room' (Ok p.at)
      copied h h' copying = put h (copying ∙ ap (sets room 0) (front_drafted h') ∙ front_laid room (omega (arith, long)))

      pub rewritten : {room' : List ℕ} {p' : Pen} → p.at ≤ length room → Shows show q s records names room p₀ room' p' → Puts shown room room' (Ok p.at)
      rewritten {room' = room'} {p' = p'} h writing =
          put h (stands (subst (λ (x : Pen). Shows show q s records names room x room' p') began writing) (omega (arith, long)))
