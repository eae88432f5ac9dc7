-- How much there is of each, and the row at which each section begins. Written by tools/words.py. Assumes nothing.
use Prim.Native.Nat.{ℕ}

-- how many type keywords there are
abbrev pub types_count : ℕ
types_count = 119

-- how many fixed words there are, these included
abbrev pub words_count : ℕ
words_count = 162

-- how many rows the table has
abbrev pub rows_count : ℕ
rows_count = 198

-- how many bytes these are, so where the slots begin
abbrev pub first_slot : ℕ
first_slot = 4752

-- and where the flaws of the bytes begin
abbrev pub first_flaw : ℕ
first_flaw = 5264

-- the section qualifier_words
abbrev pub first_qualifier : ℕ
first_qualifier = 119

-- the section jump_words
abbrev pub first_jump : ℕ
first_jump = 146

-- the section bool_words
abbrev pub first_bool : ℕ
first_bool = 150

-- the section lone_words
abbrev pub first_lone : ℕ
first_lone = 152

-- the section unary_operators
abbrev pub first_unary : ℕ
first_unary = 162

-- the section binary_operators
abbrev pub first_binary : ℕ
first_binary = 168

-- the section assignment_operators
abbrev pub first_assignment : ℕ
first_assignment = 187
