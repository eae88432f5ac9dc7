-- The walk over bytes and their limits, for any list of limits. Assumes nothing.
use Rattle.std.proofs.Common.{◌≡◌, refl, ap, ℕ, ◌<◌, ◌≤◌, Bool, true, false, ◌&&◌, leb, List, [], ◌∷◌, length, zip, arith}
use Rattle.std.proofs.Math.Bool.{and-false, and-eq-true_iff}
use Rattle.std.specs.List.{list_all}
use Rattle.settings.specs.Settings.{in_range}

-- more bytes than limits are out of range
pub range_too_long : (bs ms : List ℕ) → length ms < length bs → in_range bs ms ≡ false
unfolding in_range
range_too_long [] ms h = absurd (omega arith)
range_too_long (b ∷ bs) [] h = refl
range_too_long (b ∷ bs) (m ∷ ms) h = rw (range_too_long bs ms (omega arith)) (and-false (leb b m))

-- and of no more bytes each is tested against its limit
pub range_by_pairs : (bs ms : List ℕ) → length bs ≤ length ms → list_all (λ (p : ℕ × ℕ). leb p.0 p.1) (zip bs ms) ≡ in_range bs ms
unfolding in_range
range_by_pairs [] ms h = refl
range_by_pairs (b ∷ bs) [] h = absurd (omega arith)
range_by_pairs (b ∷ bs) (m ∷ ms) h = ap (λ (r : Bool). leb b m && r) (range_by_pairs bs ms (omega arith))

-- what is in range is no longer than its limits
pub range_no_longer : (bs ms : List ℕ) → in_range bs ms ≡ true → length bs ≤ length ms
unfolding in_range
range_no_longer [] ms e = omega arith
range_no_longer (b ∷ bs) [] e = cc
range_no_longer (b ∷ bs) (m ∷ ms) e = let h = range_no_longer bs ms ((and-eq-true_iff (leb b m) (in_range bs ms)).0 e).1 in omega (arith, h)
