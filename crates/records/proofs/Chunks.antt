-- Records as arrays of 12 bytes: array i is record i. Assumes nothing.
use mathlib.Core.Path.{◌≡◌, sym, ◌∙◌, ap}
use mathlib.Core.List.{List, []}
use Prim.Native.Nat.{ℕ, zero, suc, ◌+◌, ◌*◌, ◌<◌}
use native.Mathlib.Omega.{arith}
use native.Mathlib.Nat.{zero-mul, suc-mul}
use lib.ListN.{get_or, take, drop}
use Rattle.std.proofs.lemmas.List.{get_or-take, get_or-drop, drop-drop}
use Rattle.std.specs.Simd.{first_chunks}
use Rattle.records.specs.Record.{record_in, record_count, record_at}
use Rattle.records.proofs.Laws.{record_here}

array_at : (n k i : ℕ) (xs : List ℕ) → i < k → get_or (first_chunks n k xs) i [] ≡ take n (drop (i * n) xs)
array_at n zero i xs h = absurd (omega arith)
array_at n (suc k) zero xs h = rw (zero-mul n)
array_at n (suc k) (suc i) xs h = array_at n k i (drop n xs) (omega arith) ∙ ap (take n) (drop-drop (i * n) n xs ∙ ap (λ (m : ℕ). drop m xs) (omega (arith, suc-mul i n)))

byte_in : (xs : List ℕ) (p : ℕ) {q : ℕ} (i : ℕ) → q ≡ p + i → i < 12 → get_or (take 12 (drop p xs)) i 0 ≡ get_or xs q 0
byte_in xs p i e h = get_or-take 12 (drop p xs) i 0 h ∙ get_or-drop p xs i 0 ∙ ap (λ (m : ℕ). get_or xs m 0) (sym e)

record_in_array : (bs : List ℕ) (p : ℕ) → record_in (take 12 (drop p bs)) 0 ≡ record_in bs p
unfolding record_in
record_in_array bs p =
    let b : (i q : ℕ) → q ≡ p + i → i < 12 → get_or (take 12 (drop p bs)) i 0 ≡ get_or bs q 0 = λ i q. byte_in bs p i in
    cc (
      b 0 p (omega arith) (omega arith),
      b 1 (p + 1) (omega arith) (omega arith),
      b 2 (p + 2) (omega arith) (omega arith),
      b 3 (p + 2 + 1) (omega arith) (omega arith),
      b 4 (p + 4) (omega arith) (omega arith),
      b 5 (p + 4 + 1) (omega arith) (omega arith),
      b 6 (p + 4 + 2) (omega arith) (omega arith),
      b 7 (p + 4 + 2 + 1) (omega arith) (omega arith),
      b 8 (p + 8) (omega arith) (omega arith),
      b 9 (p + 8 + 1) (omega arith) (omega arith),
      b 10 (p + 8 + 2) (omega arith) (omega arith),
      b 11 (p + 8 + 2 + 1) (omega arith) (omega arith),
    )

pub record_in_arrays : (bs : List ℕ) (i : ℕ) {a : List ℕ} → i < record_count bs → a ≡ get_or (first_chunks 12 (record_count bs) bs) i [] → record_in a 0 ≡ record_at bs i
record_in_arrays bs i h e =
    ap (λ (xs : List ℕ). record_in xs 0) (e ∙ array_at 12 (record_count bs) i bs h ∙ ap (λ (m : ℕ). take 12 (drop m bs)) (omega arith))
    ∙ record_in_array bs (12 * i)
    ∙ sym (record_here bs i h)
