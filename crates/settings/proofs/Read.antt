-- Settings that were read are those of the bytes, and the bytes were a record. Assumes nothing.
use mathlib.Core.Path.{◌≡◌, refl}
use mathlib.Core.Bool.{Bool, true, false, cond}
use mathlib.Core.List.{List}
use Prim.Native.Nat.{ℕ}
use Rattle.std.specs.Prelude.{None, Some}
use native.Mathlib.Omega.{arith}
use Rattle.settings.specs.declared.Settings.{Settings}
use Rattle.settings.specs.Settings.{is_record, settings_of, read_settings}

pub read_is : (bs : List ℕ) (s : Settings) → read_settings bs ≡ Some s → (is_record bs ≡ true) × (settings_of bs ≡ s)
unfolding read_settings
read_is bs s e = go (is_record bs) e
  where
    go : (b : Bool) → cond b (Some (settings_of bs)) None ≡ Some s → (b ≡ true) × (settings_of bs ≡ s)
    go true e = (refl, cc)
    go false e = let z : ◌≡◌ {A = ℕ} 0 1 = cc in absurd (omega arith)
