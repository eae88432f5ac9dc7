-- Accepted settings indent by at most 16 (01, "Settings record"). Assumes nothing.
use mathlib.Core.Path.{◌≡◌, subst}
use mathlib.Core.Bool.{true, ◌&&◌, and-eq-true_iff}
use mathlib.Core.List.{List, [], ◌∷◌}
use Prim.Native.Nat.{ℕ, ◌≤◌}
use Rattle.std.specs.Prelude.{Some}
use native.Mathlib.Omega.{arith}
use lib.ListN.{length, drop}
use lib.Dec.{leb}
use borrow.Author.Tests.{leb-true}
use Rattle.settings.specs.declared.Settings.{Settings}
use Rattle.settings.specs.Settings.{last_style, widest_indent, fewest_bytes, limits, in_range, is_record, settings_of, read_settings}
use Rattle.settings.proofs.Read.{read_is}

narrow : (bs : List ℕ) → in_range bs limits ≡ true → (settings_of bs).count ≤ widest_indent
unfolding in_range limits settings_of
narrow [] e = omega arith
narrow (b ∷ []) e = omega arith
narrow (b ∷ c ∷ bs) e =
    let rest = in_range bs (drop 2 limits) in
    leb-true c widest_indent ((and-eq-true_iff (leb c widest_indent) rest).0 ((and-eq-true_iff (leb b last_style) (leb c widest_indent && rest)).0 e).1).0

in_range_lem : (bs : List ℕ) → is_record bs ≡ true → in_range bs limits ≡ true
unfolding is_record
in_range_lem bs e = ((and-eq-true_iff (leb fewest_bytes (length bs)) (in_range bs limits)).0 e).1

pub narrow_read : (bs : List ℕ) (s : Settings) → read_settings bs ≡ Some s → s.count ≤ widest_indent
narrow_read bs s e = let r = read_is bs s e in subst (λ (t : Settings). t.count ≤ widest_indent) r.1 (narrow bs (in_range_lem bs r.0))
