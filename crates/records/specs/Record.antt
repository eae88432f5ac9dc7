-- The fields of the records: 12 bytes each, little-endian, no header (01, "Tree records"). Assumes nothing.
use Rattle.std.specs.Prelude.{Bool, cond, List, [], ℕ, ◌+◌, ◌*◌, ◌/◌, ◌%◌, length, get_or, take, drop, leb, ltb, eqb}
use Rattle.records.specs.declared.Record.{Record}

abbrev pub record_size : ℕ
record_size = 12

abbrev pub byte_at : List ℕ → ℕ → ℕ
byte_at bs p = get_or bs p 0

abbrev pub u16_at : List ℕ → ℕ → ℕ
u16_at bs p = byte_at bs p + 256 * byte_at bs (p + 1)

abbrev pub u32_at : List ℕ → ℕ → ℕ
u32_at bs p = u16_at bs p + 65536 * u16_at bs (p + 2)

-- the record that begins at byte p
unfoldable pub record_in : List ℕ → ℕ → Record
record_in bs p = record {
  kind = byte_at bs p;
  variant = byte_at bs (p + 1);
  count = u16_at bs (p + 2);
  a = u32_at bs (p + 4);
  b = u32_at bs (p + 8);
}

-- how many whole records there are
unfoldable pub record_count : List ℕ → ℕ
record_count bs = length bs / record_size

abbrev pub no_record : Record
no_record = record { kind = 0; variant = 0; count = 0; a = 0; b = 0 }

-- record i, all 0 where no whole record stands
unfoldable pub record_at : List ℕ → ℕ → Record
record_at bs i = cond (ltb i (record_count bs)) (record_in bs (record_size * i)) no_record

-- the part of the names at offset a, length b: nothing where it ends beyond them
unfoldable pub part : List ℕ → ℕ → ℕ → List ℕ
part names a b = cond (leb (a + b) (length names)) (take b (drop a names)) []

-- T of a record
abbrev pub text_of : List ℕ → Record → List ℕ
text_of names r = part names r.a r.b

-- 01, "Calls": T of the record at any index, whatever its kind; nothing where no whole record stands (its offset and length are 0)
abbrev pub name_at : List ℕ → List ℕ → ℕ → List ℕ
name_at records names i = text_of names (record_at records i)

-- +1, +2 and +4 in a variant
abbrev pub bit0 : ℕ → Bool
bit0 v = eqb (v % 2) 1

abbrev pub bit1 : ℕ → Bool
bit1 v = eqb (v / 2 % 2) 1

abbrev pub bit2 : ℕ → Bool
bit2 v = eqb (v / 4 % 2) 1
