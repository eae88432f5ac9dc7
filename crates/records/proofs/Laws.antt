-- The laws of records: where one stands, what stands behind the last, how large its fields are. Assumes nothing.
use mathlib.Core.Path.{◌≡◌, refl, sym, ◌∙◌, ap}
use mathlib.Core.Bool.{Bool, true, false}
use mathlib.Core.List.{List, []}
use Prim.Native.Nat.{ℕ, ◌+◌, ◌*◌, ◌≤◌, ◌<◌, ◌^◌}
use native.Mathlib.Nat.{add-sub_cancel_left}
use native.Mathlib.Omega.{arith}
use lib.ListN.{length, get_or, take, drop, length-drop}
use lib.Seq.{length-take-le}
use lib.Dec.{leb, ltb}
use denote.Ref.{Bor}
use Rattle.std.specs.Prelude.{Option, Some, None}
use Rattle.std.specs.Option.{unwrap_or}
use Rattle.std.specs.List.{PartBy}
use borrow.Author.Tests.{lt-ltb, le-ltb, le-leb, lt-leb, leb-true, leb-false, ltb-true, ltb-false}
use Rattle.records.specs.declared.Record.{Record}
use Rattle.records.specs.Record.{record_in, record_count, record_at, no_record, part, text_of, name_at}

-- below n, or not
pub split : {A : Type 0} (k n : ℕ) → (k < n → A) → (n ≤ k → A) → A
split {A} k n below behind = go (ltb k n) refl
  where
    go : (b : Bool) → ltb k n ≡ b → A
    go true e = below (ltb-true k n e)
    go false e = behind (ltb-false k n e)

-- 12 bytes a record: as many bytes as n records take are n records
pub count_whole : (bs : List ℕ) (n : ℕ) → length bs ≡ 12 * n → record_count bs ≡ n
unfolding record_count
count_whole bs n e = omega arith

-- two tests that hold together have one answer
pub same_answer : (m n i k : ℕ) → (m ≤ n → i < k) → (n < m → k ≤ i) → leb m n ≡ ltb i k
same_answer m n i k both neither = go (leb m n) refl
  where
    go : (b : Bool) → leb m n ≡ b → b ≡ ltb i k
    go true e = sym (lt-ltb i k (both (leb-true _ _ e)))
    go false e = sym (le-ltb i k (neither (leb-false _ _ e)))

pub all_zero : (r : Record) → (r.kind ≡ 0) × (r.variant ≡ 0 × (r.count ≡ 0 × (r.a ≡ 0 × r.b ≡ 0))) → r ≡ no_record
all_zero r (k, (v, (n, (a, b)))) = let e : record { kind = r.kind; variant = r.variant; count = r.count; a = r.a; b = r.b } ≡ no_record = cc in e

module _ (bs : List ℕ) (i : ℕ) where
  -- where a record stands, its 12 bytes do
  pub bytes_stand : i < record_count bs → 12 * i + 12 ≤ length bs
  unfolding record_count
  bytes_stand h = omega arith

  -- what an answer of `stands` says
  pub if_stands : {b : Bool} → b ≡ ltb i (record_count bs) → b ≡ true → i < record_count bs
  if_stands e t = ltb-true i (record_count bs) (sym e ∙ t)

  pub if_not : {b : Bool} → b ≡ ltb i (record_count bs) → b ≡ false → record_count bs ≤ i
  if_not e t = ltb-false i (record_count bs) (sym e ∙ t)

  pub record_here : i < record_count bs → record_at bs i ≡ record_in bs (12 * i)
  unfolding record_at
  record_here h = simp (lt-ltb i (record_count bs) h)

  -- behind the last whole record there is none
  pub record_behind : record_count bs ≤ i → record_at bs i ≡ no_record
  unfolding record_at
  record_behind h = simp (le-ltb i (record_count bs) h)

  -- no kind is 0: a kind other than 0 says that a record stands there
  pub kind_stands : ((record_at bs i).kind ≡ 0 → ⊥) → i < record_count bs
  kind_stands n = split i (record_count bs) (λ h. h) (λ h. absurd (n (ap (λ (r : Record). r.kind) (record_behind h))))

-- the part of the names, where it ends within them and where it does not
module _ (names : List ℕ) (a b : ℕ) where
  pub part_within : a + b ≤ length names → part names a b ≡ take b (drop a names)
  unfolding part
  part_within h = simp (le-leb (a + b) (length names) h)

  pub part_beyond : length names < a + b → part names a b ≡ []
  unfolding part
  part_beyond h = simp (lt-leb (a + b) (length names) h)

  pub length_within : a + b ≤ length names → length (part names a b) ≡ b
  length_within h = ap length (part_within h) ∙ length-take-le b (drop a names) (simp length-drop (omega arith))

  -- what `get` gives, or else nothing
  pub part_got : (none : Bor (List ℕ)) (got : Option (Bor (List ℕ))) → none.now ≡ [] → PartBy (λ (text : Bor (List ℕ)). text.now) names a (a + b) got → (unwrap_or got none).now ≡ part names a b
  part_got none None e got = e ∙ sym (part_beyond (omega (arith, got.0)))
  part_got none (Some text) e got = got.0.2 ∙ ap (λ (n : ℕ). take n (drop a names)) (add-sub_cancel_left a b) ∙ sym (part_within got.0.1)

-- 01, "Calls": a name is empty if no whole record stands there
pub name_behind : (bs names : List ℕ) (i : ℕ) → record_count bs ≤ i → name_at bs names i ≡ []
name_behind bs names i h = ap (text_of names) (record_behind bs i h) ∙ part_within names 0 0 (omega arith)

-- the fields are no larger than their bits, where the bytes are bytes
pub record Small (r : Record) : Type 0 where
  pub kind : r.kind < 2 ^ 8
  pub variant : r.variant < 2 ^ 8
  pub count : r.count < 2 ^ 16
  pub a : r.a < 2 ^ 32
  pub b : r.b < 2 ^ 32

pub fields_small : (bs : List ℕ) (i : ℕ) → ((k : ℕ) → get_or bs k 0 < 256) → Small (record_at bs i)
unfolding record_in
fields_small bs i byte =
    split i (record_count bs) (λ h. rw (record_here bs i h) (here (12 * i)))
    (λ h. rw (record_behind bs i h) (record { kind = omega arith; variant = omega arith; count = omega arith; a = omega arith; b = omega arith }))
  where
    two : (p : ℕ) → get_or bs p 0 + 256 * get_or bs (p + 1) 0 < 2 ^ 16
    two p = omega (arith, byte p, byte (p + 1))

    four : (p : ℕ) → get_or bs p 0 + 256 * get_or bs (p + 1) 0 + 65536 * (get_or bs (p + 2) 0 + 256 * get_or bs (p + 2 + 1) 0) < 2 ^ 32
    four p = omega (arith, two p, two (p + 2))

    here : (p : ℕ) → Small (record_in bs p)
    here p = record { kind = byte p; variant = byte (p + 1); count = two (p + 2); a = four (p + 4); b = four (p + 8) }
