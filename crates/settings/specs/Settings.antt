-- The settings record: 21 or 22 bytes, each in range (01, "Settings record"; 02, #106). Assumes nothing.
use Rattle.std.specs.Prelude.{Bool, true, false, ◌&&◌, cond, List, [], ◌∷◌, ◌++◌, ℕ, length, get_or, leb, eqb, Option, None, Some}
use Rattle.settings.specs.declared.IndentStyle.{IndentStyle}
use Rattle.settings.specs.declared.IndentStyle.TheVariants as Indent
use Rattle.settings.specs.declared.Whitespace.{Whitespace}
use Rattle.settings.specs.declared.Whitespace.TheVariants as White
use Rattle.settings.specs.declared.Settings.{Settings}

-- the highest value of a style, a count, a flag, a whitespace
abbrev pub last_style : ℕ
last_style = 2

abbrev pub widest_indent : ℕ
widest_indent = 16

abbrev pub last_flag : ℕ
last_flag = 1

abbrev pub last_white : ℕ
last_white = 2

-- the highest value of each byte, in the order of FormattingSettings; the last is byte 21 (02, #106)
unfoldable pub limits : List ℕ
limits =
    last_style ∷ widest_indent
    ∷ last_flag ∷ last_flag ∷ last_flag ∷ last_flag ∷ last_flag ∷ last_flag
    ∷ last_white ∷ last_white ∷ last_white ∷ last_white
    ∷ last_flag
    ∷ last_white ∷ last_white
    ∷ last_flag ∷ last_flag ∷ last_flag ∷ last_flag ∷ last_flag ∷ last_flag
    ∷ last_flag ∷ []

-- no more bytes than limits, each at most its limit
unfoldable pub in_range : List ℕ → List ℕ → Bool
in_range [] ms = true
in_range (b ∷ bs) [] = false
in_range (b ∷ bs) (m ∷ ms) = leb b m && in_range bs ms

-- 01's record has 21 bytes; byte 21 may follow
abbrev pub fewest_bytes : ℕ
fewest_bytes = 21

unfoldable pub is_record : List ℕ → Bool
is_record bs = leb fewest_bytes (length bs) && in_range bs limits

-- a byte as an IndentStyle, a flag, a Whitespace
unfoldable pub style_of : ℕ → IndentStyle
style_of b = cond (eqb b 0) Indent.None (cond (eqb b 1) Indent.Tabs Indent.Spaces)

abbrev pub flag_of : ℕ → Bool
flag_of b = eqb b 1

unfoldable pub whitespace_of : ℕ → Whitespace
whitespace_of b = cond (eqb b 0) White.None (cond (eqb b 1) White.Space White.Newline)

-- a byte that is not there counts as 0: so 21 bytes mean 0 for byte 21
unfoldable pub settings_of : List ℕ → Settings
settings_of bs = record {
  indent_style = style_of (get_or bs 0 0);
  count = get_or bs 1 0;
  space_before_open_block = flag_of (get_or bs 2 0);
  newline_after_open_block = flag_of (get_or bs 3 0);
  newline_before_close_block = flag_of (get_or bs 4 0);
  newline_after_close_block = flag_of (get_or bs 5 0);
  newline_after_collapsed_statement = flag_of (get_or bs 6 0);
  newline_before_collapsed_statement = flag_of (get_or bs 7 0);
  struct_field_separator = whitespace_of (get_or bs 8 0);
  struct_declaration_terminator = whitespace_of (get_or bs 9 0);
  declaration_terminator = whitespace_of (get_or bs 10 0);
  case_label_terminator = whitespace_of (get_or bs 11 0);
  spaces_around_binary_ops = flag_of (get_or bs 12 0);
  statement_terminator = whitespace_of (get_or bs 13 0);
  function_definition_terminator = whitespace_of (get_or bs 14 0);
  collapse_single_item_compound_statements = flag_of (get_or bs 15 0);
  space_before_else = flag_of (get_or bs 16 0);
  space_after_list_separator = flag_of (get_or bs 17 0);
  space_after_for_statement_separator = flag_of (get_or bs 18 0);
  spaces_surrounding_initializer_list_expressions = flag_of (get_or bs 19 0);
  spaces_surrounding_statement_parentheses = flag_of (get_or bs 20 0);
  spaces_where_needed = flag_of (get_or bs 21 0);
}

-- the answer to a record, and to any other bytes (refusal 1)
unfoldable pub read_settings : List ℕ → Option Settings
read_settings bs = cond (is_record bs) (Some (settings_of bs)) None

-- 01: TIGHT and OPEN, byte for byte
abbrev pub TIGHT : List ℕ
TIGHT = 0 ∷ 0 ∷ 0 ∷ 0 ∷ 0 ∷ 0 ∷ 0 ∷ 0 ∷ 0 ∷ 0 ∷ 0 ∷ 0 ∷ 0 ∷ 0 ∷ 0 ∷ 0 ∷ 0 ∷ 0 ∷ 0 ∷ 0 ∷ 0 ∷ []

abbrev pub OPEN : List ℕ
OPEN = 2 ∷ 4 ∷ 1 ∷ 1 ∷ 1 ∷ 1 ∷ 1 ∷ 1 ∷ 2 ∷ 2 ∷ 2 ∷ 2 ∷ 1 ∷ 2 ∷ 2 ∷ 0 ∷ 1 ∷ 1 ∷ 1 ∷ 1 ∷ 1 ∷ []

-- 02, #106: TIGHT that keeps the spaces it needs; the name is ours, for what an export should use
abbrev pub EXPORT : List ℕ
EXPORT = TIGHT ++ 1 ∷ []
