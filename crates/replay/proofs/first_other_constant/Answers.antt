-- The settings of a record are said by its 22 bytes, by computation, so none is found to differ.
use Rattle.std.proofs.Common.{◌≡◌, refl, ℕ, List, [], ◌∷◌, Bool, not, cond, ltb, length, zip, Option, Some, None, rules, tests, ap, ◌∙◌}
use Rattle.std.proofs.lemmas.Iterator.{YieldsList-from_slice, YieldsList-from_zip}
use Rattle.std.proofs.lemmas.Iterator.Search.{position_from_yields_List}
use Rattle.std.specs.List.{position_or_len}
use Rattle.words.specs.Form.{same}
use Rattle.settings.specs.declared.Settings.{Settings}
use Rattle.settings.specs.Bytes.{settings_bytes}
use Rattle.settings.specs.Settings.{style_of, whitespace_of, settings_of, TIGHT, OPEN, EXPORT}
use Rattle.replay.specs.declared.TheConstants.{CONSTANTS}
use Rattle.replay.proofs.first_other_constant.Goals as goal

-- the test of the closure, and the first place where it says yes
differs : Settings × List ℕ → Bool
differs p = not (same (settings_bytes p.0) p.1)

first_place : List (Settings × List ℕ) → Option ℕ
first_place all = cond (ltb (position_or_len differs all) (length all)) (Some (position_or_len differs all)) None

none_differs : first_place (zip (settings_of TIGHT ∷ settings_of OPEN ∷ settings_of EXPORT ∷ []) CONSTANTS) ≡ None
unfolding first_place differs same settings_bytes settings_of style_of whitespace_of
none_differs = refl

pub returns : goal.returns
unfolding first_place differs
returns c =
    let said = c.tight.result ∷ c.open.result ∷ c.export.result ∷ [] in
    position_from_yields_List differs c.position.new.self _ c.position.result c.position.ensures.ran (YieldsList-from_zip (YieldsList-from_slice said cc) (YieldsList-from_slice CONSTANTS cc)) (λ x b q k. search (rules, tests))
    ∙ ap (λ (s : Settings). first_place (zip (s ∷ c.open.result ∷ c.export.result ∷ []) CONSTANTS)) c.tight.ensures
    ∙ ap (λ (s : Settings). first_place (zip (settings_of TIGHT ∷ s ∷ c.export.result ∷ []) CONSTANTS)) c.open.ensures
    ∙ ap (λ (s : Settings). first_place (zip (settings_of TIGHT ∷ settings_of OPEN ∷ s ∷ []) CONSTANTS)) c.export.ensures
    ∙ none_differs
