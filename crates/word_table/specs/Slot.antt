-- How a fixed word is looked for: each has a slot of its own, and a text is compared with the word of its slot alone. Assumes nothing.
use Rattle.std.specs.Prelude.{cond, List, [], ◌∷◌, map, ℕ, zero, suc, ◌+◌, ◌-◌, ◌*◌, ◌%◌, length, get_or, leb, ltb, eqb}
use Prim.Native.String.{String}
use Rattle.words.specs.Bytes.{bytes}

-- the byte i of a text, or its last
abbrev pub byte_or_last : List ℕ → ℕ → ℕ
byte_or_last s i = get_or s (cond (ltb i (length s - 1)) i (length s - 1)) 0

abbrev pub slot_count : ℕ
slot_count = 512

-- a text's slot: a sum of some of its bytes with factors, others for a short text, of 8 bytes at most, than for a long one (any other choice would do: by this one
-- no two fixed words meet)
abbrev pub short_sum : List ℕ → ℕ
short_sum s = 16 * get_or s 0 0 + byte_or_last s 3 + (2 * byte_or_last s 4 + 4 * byte_or_last s 5) + (32 * byte_or_last s 6 + 8 * byte_or_last s 7)

abbrev pub long_sum : List ℕ → ℕ
long_sum s = get_or s 0 0 + 8 * get_or s 1 0 + get_or s 7 0 + (8 * get_or s (length s - 7) 0 + 64 * get_or s (length s - 2) 0) + 204

abbrev pub slot : List ℕ → ℕ
slot s = cond (leb (length s) 8) (short_sum s) (long_sum s) % slot_count

-- the row of an empty slot: that of `+`, which no text of two bytes or more is
abbrev pub no_word : ℕ
no_word = 164

-- the slot of each word
unfoldable pub slots_of : List String → List ℕ
slots_of = map (λ w. slot (bytes w))

-- the row of the first word whose slot is h, where the first word has row k
unfoldable pub row_in : List ℕ → ℕ → ℕ → ℕ
row_in [] h k = no_word
row_in (s ∷ ss) h k = cond (eqb s h) k (row_in ss h (suc k))

-- f at each of the n numbers from k on
unfoldable pub each : (ℕ → ℕ) → ℕ → ℕ → List ℕ
each f k zero = []
each f k (suc n) = f k ∷ each f (suc k) n

-- the row for each slot (the words' own slots are worked out once, not for each row: the table is compared by computation)
unfoldable pub slots : List String → List ℕ
slots ws = let taken = slots_of ws in each (λ h. row_in taken h 0) 0 slot_count
