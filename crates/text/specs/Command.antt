-- What the printer does, whatever the settings: commands, and the methods of 000's FormattingState as lists of them. Assumes nothing.
use Rattle.std.specs.Prelude.{List, [], ◌∷◌}
use Rattle.words.specs.Word.{Word}
use Rattle.words.specs.Symbol.{Symbol}
use Rattle.text.specs.Token.{Token}
use Rattle.text.specs.Asked.{Flag, Gap}
use Rattle.text.specs.Asked.Flag.{space_before_open_block, newline_after_open_block, newline_before_close_block, newline_after_close_block, newline_after_collapsed_statement, newline_before_collapsed_statement, spaces_around_binary_ops, space_before_else, space_after_list_separator, space_after_for_statement_separator, spaces_surrounding_initializer_list_expressions, spaces_surrounding_statement_parentheses}
use Rattle.text.specs.Asked.Gap.{struct_field_separator, struct_declaration_terminator, declaration_terminator, case_label_terminator, statement_terminator, function_definition_terminator}

pub data Command : Type 0 where
  token : Token → Command
  -- a space: always; if a flag asks for it; if a flag asks for it and a function's body begins here
  space : Command
  space_if : Flag → Command
  space_at_body_if : Flag → Command
  -- a newline becomes pending, if a flag asks for it
  newline_if : Flag → Command
  -- what a Whitespace asks for: nothing, a space, or a pending newline
  whitespace : Gap → Command
  -- the indent of the level; a newline and the indent, whatever is pending (no printer asks for them: flush_line does)
  write_indent write_line : Command
  -- a pending newline: is written, with the indent; is written as a space; is forgotten
  flush_line flush_space consume_newline : Command
  -- one level more, one level less
  indent dedent : Command
  -- a function's body begins; it has begun
  enter_function_definition_statement consume_function_definition_statement : Command

abbrev pub word : Word → Command
word w = token (Token.word w)

abbrev pub symbol : Symbol → Command
symbol y = token (Token.symbol y)

-- FormattingState's methods, in 000's order but for enter_block_inner, which two of them use. Those that are one command have its name: write_indent,
-- write_line, flush_line, flush_space, consume_newline, enter_ and consume_function_definition_statement; new_line is `newline_if`. With directives
-- (02, #101) come move_to_empty_line and exit_external_declaration.

abbrev pub enter_block_inner : List Command
enter_block_inner = symbol Symbol.left_brace ∷ indent ∷ newline_if newline_after_open_block ∷ []

-- a function's body has the space, another compound statement has none
abbrev pub enter_compound_statement_block : List Command
enter_compound_statement_block = space_at_body_if space_before_open_block ∷ enter_block_inner

abbrev pub enter_external_declaration : List Command
enter_external_declaration = flush_line ∷ []

abbrev pub enter_block : List Command
enter_block = space_if space_before_open_block ∷ enter_block_inner

abbrev pub exit_block : List Command
exit_block = dedent ∷ newline_if newline_before_close_block ∷ flush_line ∷ symbol Symbol.right_brace ∷ newline_if newline_after_close_block ∷ []

abbrev pub enter_collapsed_compound_statement : List Command
enter_collapsed_compound_statement = indent ∷ newline_if newline_before_collapsed_statement ∷ []

abbrev pub exit_collapsed_compound_statement : List Command
exit_collapsed_compound_statement = dedent ∷ newline_if newline_after_collapsed_statement ∷ []

abbrev pub enter_initializer_list : List Command
enter_initializer_list = symbol Symbol.left_brace ∷ space_if spaces_surrounding_initializer_list_expressions ∷ []

abbrev pub end_initializer_list : List Command
end_initializer_list = space_if spaces_surrounding_initializer_list_expressions ∷ symbol Symbol.right_brace ∷ []

abbrev pub enter_case_label : List Command
enter_case_label = symbol Symbol.colon ∷ whitespace case_label_terminator ∷ []

abbrev pub write_else : List Command
write_else = space_if space_before_else ∷ word Word.else ∷ space ∷ []

abbrev pub write_struct_field_separator : List Command
write_struct_field_separator = symbol Symbol.semicolon ∷ whitespace struct_field_separator ∷ []

abbrev pub write_list_separator : List Command
write_list_separator = symbol Symbol.comma ∷ space_if space_after_list_separator ∷ []

abbrev pub write_for_statement_separator : List Command
write_for_statement_separator = symbol Symbol.semicolon ∷ space_if space_after_for_statement_separator ∷ []

-- show_struct alone calls it, which 01 leaves out
abbrev pub write_struct_declaration_terminator : List Command
write_struct_declaration_terminator = symbol Symbol.semicolon ∷ whitespace struct_declaration_terminator ∷ []

abbrev pub write_declaration_terminator : List Command
write_declaration_terminator = symbol Symbol.semicolon ∷ whitespace declaration_terminator ∷ []

-- 000 takes any text for the operator
abbrev pub write_binary_token : Token → List Command
write_binary_token op = space_if spaces_around_binary_ops ∷ token op ∷ space_if spaces_around_binary_ops ∷ []

abbrev pub write_binary_op : Symbol → List Command
write_binary_op op = write_binary_token (Token.symbol op)

abbrev pub write_statement_terminator : List Command
write_statement_terminator = symbol Symbol.semicolon ∷ whitespace statement_terminator ∷ []

abbrev pub write_function_definition_terminator : List Command
write_function_definition_terminator = whitespace function_definition_terminator ∷ []

abbrev pub write_statement_opening_parenthesis : List Command
write_statement_opening_parenthesis = space_if spaces_surrounding_statement_parentheses ∷ symbol Symbol.left_paren ∷ []

abbrev pub write_statement_closing_parenthesis : List Command
write_statement_closing_parenthesis = symbol Symbol.right_paren ∷ space_if spaces_surrounding_statement_parentheses ∷ []
