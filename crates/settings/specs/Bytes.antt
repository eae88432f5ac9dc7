-- The 22 bytes of settings (01, "Settings record"; 02, #106): what `to_bytes` answers; the settings are read from them again (proofs/RoundTrip). Assumes nothing.
use Rattle.std.specs.Prelude.{Bool, true, false, List, [], ◌∷◌, ℕ}
use Rattle.settings.specs.declared.IndentStyle.{IndentStyle}
use Rattle.settings.specs.declared.IndentStyle.TheVariants as Indent
use Rattle.settings.specs.declared.Whitespace.{Whitespace}
use Rattle.settings.specs.declared.Whitespace.TheVariants as White
use Rattle.settings.specs.declared.Settings.{Settings}

-- of an IndentStyle, a flag, a Whitespace, and of settings
abbrev pub style_byte : IndentStyle → ℕ
style_byte Indent.None = 0
style_byte Indent.Tabs = 1
style_byte Indent.Spaces = 2

abbrev pub flag_byte : Bool → ℕ
flag_byte false = 0
flag_byte true = 1

abbrev pub whitespace_byte : Whitespace → ℕ
whitespace_byte White.None = 0
whitespace_byte White.Space = 1
whitespace_byte White.Newline = 2

unfoldable pub settings_bytes : Settings → List ℕ
settings_bytes s =
    style_byte s.indent_style
    ∷ s.count
    ∷ flag_byte s.space_before_open_block
    ∷ flag_byte s.newline_after_open_block
    ∷ flag_byte s.newline_before_close_block
    ∷ flag_byte s.newline_after_close_block
    ∷ flag_byte s.newline_after_collapsed_statement
    ∷ flag_byte s.newline_before_collapsed_statement
    ∷ whitespace_byte s.struct_field_separator
    ∷ whitespace_byte s.struct_declaration_terminator
    ∷ whitespace_byte s.declaration_terminator
    ∷ whitespace_byte s.case_label_terminator
    ∷ flag_byte s.spaces_around_binary_ops
    ∷ whitespace_byte s.statement_terminator
    ∷ whitespace_byte s.function_definition_terminator
    ∷ flag_byte s.collapse_single_item_compound_statements
    ∷ flag_byte s.space_before_else
    ∷ flag_byte s.space_after_list_separator
    ∷ flag_byte s.space_after_for_statement_separator
    ∷ flag_byte s.spaces_surrounding_initializer_list_expressions
    ∷ flag_byte s.spaces_surrounding_statement_parentheses
    ∷ flag_byte s.spaces_where_needed
    ∷ []
