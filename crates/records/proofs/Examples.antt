-- Records and names worked by computation, at the edges. Assumes nothing.
use mathlib.Core.Path.{◌≡◌, refl}
use mathlib.Core.List.{List, [], ◌∷◌, ◌++◌}
use Prim.Native.Nat.{ℕ, ◌-◌, ◌^◌}
use Rattle.records.specs.Record.{record_in, record_count, record_at, no_record, part, name_at}

abbrev names : List ℕ
names = 97 ∷ 98 ∷ 99 ∷ []

-- a Variable whose text is b bytes long at offset a, both below 256
abbrev variable : (a b : ℕ) → List ℕ
variable a b = 1 ∷ 0 ∷ 0 ∷ 0 ∷ a ∷ 0 ∷ 0 ∷ 0 ∷ b ∷ 0 ∷ 0 ∷ 0 ∷ []

within : name_at (variable 0 2) names 0 ≡ 97 ∷ 98 ∷ []
unfolding record_count record_at record_in part
within = refl

-- it ends with the names
exactly : name_at (variable 1 2) names 0 ≡ 98 ∷ 99 ∷ []
unfolding record_count record_at record_in part
exactly = refl

-- its last byte would be one beyond them
one_beyond : name_at (variable 2 2) names 0 ≡ []
unfolding record_count record_at record_in part
one_beyond = refl

-- the kind does not matter: an IntConst's 32 bits are read as an offset all the same
any_kind : name_at (2 ∷ 0 ∷ 0 ∷ 0 ∷ 2 ∷ 0 ∷ 0 ∷ 0 ∷ 1 ∷ 0 ∷ 0 ∷ 0 ∷ []) names 0 ≡ 99 ∷ []
unfolding record_count record_at record_in part
any_kind = refl

-- a + b is beyond 32 bits: it does not wrap to 1
no_wrap : name_at (1 ∷ 0 ∷ 0 ∷ 0 ∷ 255 ∷ 255 ∷ 255 ∷ 255 ∷ 2 ∷ 0 ∷ 0 ∷ 0 ∷ []) names 0 ≡ []
unfolding record_count record_at record_in part
no_wrap = refl

-- the second of two records
second : name_at (variable 0 1 ++ variable 1 1) names 1 ≡ 98 ∷ []
unfolding record_count record_at record_in part
second = refl

-- no record stands at 1, nor at 2^63, where 12 * i is beyond 64 bits
behind : name_at (variable 0 2) names 1 ≡ []
unfolding record_count record_at record_in part
behind = refl

far_behind : name_at (variable 0 2) names (2 ^ 63) ≡ []
unfolding record_count record_at record_in part
far_behind = refl

-- 13 bytes are one record, and its part behind is none
one_and_a_part : record_count (variable 0 2 ++ (1 ∷ [])) ≡ 1
unfolding record_count
one_and_a_part = refl

part_is_none : record_at (variable 0 2 ++ (1 ∷ [])) 1 ≡ no_record
unfolding record_count record_at record_in
part_is_none = refl

-- little-endian, at full width
all_fields : record_at (12 ∷ 3 ∷ 1 ∷ 2 ∷ 1 ∷ 2 ∷ 3 ∷ 4 ∷ 255 ∷ 255 ∷ 255 ∷ 255 ∷ []) 0 ≡ record { kind = 12; variant = 3; count = 513; a = 67305985; b = 2 ^ 32 - 1 }
unfolding record_count record_at record_in
all_fields = refl
