-- For worked texts: `unfolding computing` opens every definition of the text. Made by tools/computing.py. Assumes nothing.
use Prim.Native.Nat.{ℕ}
use Rattle.words.specs.Word.{word_text, qualifier_words, jump_words, bool_words, lone_words, other_words}
use Rattle.words.specs.Symbol.{symbol_text, unary_operators, binary_operators, assignment_operators}
use Rattle.words.specs.Keyword.{type_keywords, fixed_words}
use Rattle.words.specs.Form.{all, same, one_of, name_form, reserved, name_sort, digits, behind_digits, whole_part, fraction, nothing_or_fraction, float_form}
use Rattle.decimal.specs.Decimal.{digits_of, decimal, magnitude, signed, int_text}
use Rattle.records.specs.Record.{record_in, record_count, record_at, part}
use Rattle.settings.specs.Settings.{limits, in_range, is_record, style_of, whitespace_of, settings_of, read_settings}
use Rattle.text.specs.Token.{has, pointed, spell}
use Rattle.text.specs.Asked.{flag, gap}
use Rattle.text.specs.Pen.{indent_of, line_of, written, after, text, after_all}
use Rattle.text.specs.Operator.{binary_op, precedence, unary_symbol, assignment_symbol, doubled, doubles}
use Rattle.text.specs.Joins.{unary_sign, joins, is_int, sign, sign_callee}
use Rattle.text.specs.Text.{optional, show_fully_specified_type, show_function_parameter_declaration, show_parameters, show_function_prototype, show_initialized, show_single_declaration, show_single_declaration_no_type, show_tail, show_init_declarator_list, show_block, show_declaration, show_condition, show_for_init_statement, show_jump_statement, show_function_definition, show_external_declaration, show_translation_unit, show_type_specifier_non_array, show_type_specifier, show_type_specifiers, show_struct_fields, show_struct_field, show_array_spec, show_dimension, show_arrayed_identifier, show_arrayed_identifiers, show_qualification, show_type_qualifier, show_type_qualifier_spec, show_layout_ids, show_layout_qualifier_spec, show_expr, show_exprs, show_function_identifier, show_initializer, show_initializers, show_statement, show_statements}
use Rattle.text.specs.Reading.{first, first_kind, several, unary_op_of, binary_op_of, assignment_op, storage_of, expr_of, type_of, base_of, array_of, dimension_of, field_of, identifier_of, qualifier_of, spec_of, layout_id_of, full_type_of, prototype_of, parameter_of, declarators_of, single_of, declarator_of, initializer_of, block_of, declaration_of, compound_of, statement_of, condition_of, for_init_of, external_of, unit_of, item_of, items, from}
use Rattle.text.specs.Visible.{tokens_of, spelled, visible}
use Rattle.text.specs.Whole.{unit_text, expr_text}
use Rattle.text.specs.Joined.{somewhere, joined_answer}

unfoldable pub computing : ℕ
unfolding word_text qualifier_words jump_words bool_words lone_words other_words symbol_text unary_operators binary_operators assignment_operators type_keywords fixed_words all same one_of name_form reserved name_sort digits behind_digits whole_part fraction nothing_or_fraction float_form digits_of decimal magnitude signed int_text record_in record_count record_at part limits in_range is_record style_of whitespace_of settings_of read_settings has pointed spell flag gap indent_of line_of written after text after_all binary_op precedence unary_symbol assignment_symbol doubled doubles unary_sign joins is_int sign sign_callee optional show_fully_specified_type show_function_parameter_declaration show_parameters show_function_prototype show_initialized show_single_declaration show_single_declaration_no_type show_tail show_init_declarator_list show_block show_declaration show_condition show_for_init_statement show_jump_statement show_function_definition show_external_declaration show_translation_unit show_type_specifier_non_array show_type_specifier show_type_specifiers show_struct_fields show_struct_field show_array_spec show_dimension show_arrayed_identifier show_arrayed_identifiers show_qualification show_type_qualifier show_type_qualifier_spec show_layout_ids show_layout_qualifier_spec show_expr show_exprs show_function_identifier show_initializer show_initializers show_statement show_statements first first_kind several unary_op_of binary_op_of assignment_op storage_of expr_of type_of base_of array_of dimension_of field_of identifier_of qualifier_of spec_of layout_id_of full_type_of prototype_of parameter_of declarators_of single_of declarator_of initializer_of block_of declaration_of compound_of statement_of condition_of for_init_of external_of unit_of item_of items from tokens_of spelled visible unit_text expr_text somewhere joined_answer
computing = 0
