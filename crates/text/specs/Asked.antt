-- What a command can ask the settings for: the flags and the whitespaces of FormattingSettings, by name, and whether spaces stand where they are needed. Assumes nothing.
use Rattle.std.specs.Prelude.{Bool, not, ◌&&◌}
use Rattle.settings.specs.declared.Settings.{Settings}
use Rattle.settings.specs.declared.Whitespace.{Whitespace}

-- but for collapse_single_item_compound_statements, which decides what commands there are
pub data Flag : Type 0 where
  space_before_open_block newline_after_open_block newline_before_close_block newline_after_close_block : Flag
  newline_after_collapsed_statement newline_before_collapsed_statement : Flag
  spaces_around_binary_ops space_before_else space_after_list_separator space_after_for_statement_separator : Flag
  spaces_surrounding_initializer_list_expressions spaces_surrounding_statement_parentheses : Flag
  -- where two tokens would be read as one (02, #106); the second behind a binary operator, where an operator space may stand already
  spaces_where_needed needed_operator_spaces : Flag

-- struct_declaration_terminator is asked for by show_struct alone, which 01 leaves out
pub data Gap : Type 0 where
  struct_field_separator struct_declaration_terminator declaration_terminator : Gap
  case_label_terminator statement_terminator function_definition_terminator : Gap

unfoldable pub flag : Settings → Flag → Bool
flag s space_before_open_block = s.space_before_open_block
flag s newline_after_open_block = s.newline_after_open_block
flag s newline_before_close_block = s.newline_before_close_block
flag s newline_after_close_block = s.newline_after_close_block
flag s newline_after_collapsed_statement = s.newline_after_collapsed_statement
flag s newline_before_collapsed_statement = s.newline_before_collapsed_statement
flag s spaces_around_binary_ops = s.spaces_around_binary_ops
flag s space_before_else = s.space_before_else
flag s space_after_list_separator = s.space_after_list_separator
flag s space_after_for_statement_separator = s.space_after_for_statement_separator
flag s spaces_surrounding_initializer_list_expressions = s.spaces_surrounding_initializer_list_expressions
flag s spaces_surrounding_statement_parentheses = s.spaces_surrounding_statement_parentheses
flag s spaces_where_needed = s.spaces_where_needed
flag s needed_operator_spaces = s.spaces_where_needed && not s.spaces_around_binary_ops

unfoldable pub gap : Settings → Gap → Whitespace
gap s struct_field_separator = s.struct_field_separator
gap s struct_declaration_terminator = s.struct_declaration_terminator
gap s declaration_terminator = s.declaration_terminator
gap s case_label_terminator = s.case_label_terminator
gap s statement_terminator = s.statement_terminator
gap s function_definition_terminator = s.function_definition_terminator
