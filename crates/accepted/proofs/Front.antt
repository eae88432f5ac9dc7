-- A record in front moves an answer by one and changes nothing else of it. Assumes nothing.
use mathlib.Core.Path.{◌≡◌, refl, sym, ◌∙◌, ap}
use mathlib.Core.Bool.{Bool, true, false, cond}
use mathlib.Core.List.{List, [], ◌∷◌, ◌++◌}
use mathlib.Core.Option.{Option, none, some}
use Prim.Native.Nat.{ℕ, zero, suc, ◌+◌, ◌*◌}
use native.Mathlib.Omega.{arith}
use lib.Dec.{ltb, leb-suc-suc}
use lib.ListN.{length, length-append}
use lib.Seq.{get_or-append-add}
use Rattle.records.specs.Record.{record_size, byte_at, u16_at, u32_at, record_in, record_count, record_at}
use Rattle.shapes.specs.Class.{Class}
use Rattle.accept.specs.declared.Refusal.{Refusal}
use Rattle.accept.specs.declared.Refusal.TheVariants.{RecordMissing}
use Rattle.accept.specs.Checked.{Checked, refused}
use Rattle.std.specs.Prelude.{Ok, Err}
use Rattle.accept.specs.Check.{fault_of, bind, each, children_of, judged, alone, node}

abbrev pub later : Checked → Checked
later (Ok m) = Ok (suc m)
later (Err r) = refused r.refusal (suc r.place)

bind_later : (x : Checked) (f g : ℕ → Checked) → ((m : ℕ) → f (suc m) ≡ later (g m)) → bind (later x) f ≡ later (bind x g)
bind_later (Ok m) f g h = h m
bind_later (Err r) f g h = refl

each_later : (f g : Class → ℕ → Checked) → ((c : Class) (i : ℕ) → f c (suc i) ≡ later (g c i)) → (cs : List Class) (i : ℕ)
    → each f cs (suc i) ≡ later (each g cs i)
each_later f g h [] i = refl
each_later f g h (c ∷ cs) i = rw (h c i) (bind_later (g c i) (each f cs) (each g cs) (each_later f g h cs))

module _ (r bs : List ℕ) (one : length r ≡ record_size) where
  pub count_behind : record_count (r ++ bs) ≡ suc (record_count bs)
  unfolding record_count
  count_behind = let e = length-append r bs in omega arith

  -- q in the whole is p behind the record
  byte_behind : (q p : ℕ) → q ≡ record_size + p → byte_at (r ++ bs) q ≡ byte_at bs p
  byte_behind q p e = ap (byte_at (r ++ bs)) (e ∙ ap (λ (n : ℕ). n + p) (sym one)) ∙ get_or-append-add r bs p 0

  two_behind : (q p : ℕ) → q ≡ record_size + p → u16_at (r ++ bs) q ≡ u16_at bs p
  two_behind q p e = λ t. byte_behind q p e t + 256 * byte_behind (q + 1) (p + 1) (omega arith) t

  four_behind : (q p : ℕ) → q ≡ record_size + p → u32_at (r ++ bs) q ≡ u32_at bs p
  four_behind q p e = λ t. two_behind q p e t + 65536 * two_behind (q + 2) (p + 2) (omega arith) t

  in_behind : (q p : ℕ) → q ≡ record_size + p → record_in (r ++ bs) q ≡ record_in bs p
  unfolding record_in
  in_behind q p e = λ t. record {
    kind = byte_behind q p e t;
    variant = byte_behind (q + 1) (p + 1) (omega arith) t;
    count = two_behind (q + 2) (p + 2) (omega arith) t;
    a = four_behind (q + 4) (p + 4) (omega arith) t;
    b = four_behind (q + 8) (p + 8) (omega arith) t;
  }

  pub record_later : (i : ℕ) → record_at (r ++ bs) (suc i) ≡ record_at bs i
  unfolding record_at
  record_later i = rw (count_behind, leb-suc-suc (suc i) (record_count bs), in_behind (record_size * suc i) (record_size * i) (omega arith)) refl

  module _ (names : List ℕ) where
    judged_later : (i : ℕ) (b : Bool) (f : Option Refusal)
        → cond b (judged (suc i) f) (refused RecordMissing (suc i)) ≡ later (cond b (judged i f) (refused RecordMissing i))
    judged_later i true none = ap Ok (omega arith)
    judged_later i true (some x) = refl
    judged_later i false f = refl

    alone_later : (left : ℕ) (c : Class) (i : ℕ) → alone (r ++ bs) names left c (suc i) ≡ later (alone bs names left c i)
    unfolding alone
    alone_later left c i =
        rw (count_behind, leb-suc-suc (suc i) (record_count bs), record_later i)
        (judged_later i (ltb i (record_count bs)) (fault_of names left c (record_at bs i)))

    pub node_later : (left : ℕ) (c : Class) (i : ℕ) → node (r ++ bs) names left c (suc i) ≡ later (node bs names left c i)
    unfolding node
    node_later zero c i = alone_later 0 c i
    node_later (suc left) c i =
        let cs = children_of (record_at bs i) in
        let f = node (r ++ bs) names left in
        let g = node bs names left in
        let behind = each_later f g (node_later left) cs in
        rw (alone_later (suc left) c i, record_later i) (bind_later (alone bs names (suc left) c i) (each f cs) (each g cs) behind)
