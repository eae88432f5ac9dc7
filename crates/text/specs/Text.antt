-- The text of each tree, as commands: the printers of 000, and the spaces that are needed (02, #106). A definition `show-..` is 000's function of that name; where a name is ours, a comment says
-- which function it is a part of. What is used stands above what uses it. Assumes nothing.
use Rattle.std.specs.Prelude.{Bool, true, false, not, ◌&&◌, cond, List, [], ◌∷◌, ◌++◌, ℕ, leb, ltb}
use Rattle.std.proofs.Math.Option.{Option, none, some}
use Rattle.words.specs.Word.{Word, StorageQualifier}
use Rattle.words.specs.Symbol.{Symbol}
use Rattle.decimal.specs.Decimal.{negative, magnitude}
use Rattle.text.specs.Token.{Token}
use Rattle.text.specs.Asked.{Flag}
use Rattle.text.specs.Asked.Flag.{spaces_where_needed, needed_operator_spaces}
use Rattle.text.specs.Command.{Command, word, symbol, enter_compound_statement_block, enter_external_declaration, enter_block, exit_block, enter_collapsed_compound_statement, exit_collapsed_compound_statement, enter_initializer_list, end_initializer_list, enter_case_label, write_else, write_struct_field_separator, write_list_separator, write_for_statement_separator, write_declaration_terminator, write_binary_op, write_statement_terminator, write_function_definition_terminator, write_statement_opening_parenthesis, write_statement_closing_parenthesis}
use Rattle.text.specs.Command.Command.{token, space, space_if, flush_line, flush_space, consume_newline, enter_function_definition_statement, consume_function_definition_statement}
use Rattle.text.specs.Operator.{postfix_precedence, ternary_precedence, assignment_precedence, comma_precedence, binary_precedence, binary_symbol, precedence, unary_symbol, assignment_symbol, bare_operand, bare_right}
use Rattle.text.specs.Joins.{joins_under, joins_right, is_int}
use Rattle.text.specs.Tree.{Identifier, Expr, Exprs, FunIdentifier, TypeSpecifier, TypeSpecifiers, TypeSpecifierNonArray, ArraySpecifier, ArraySpecifierDimension, StructFieldSpecifier, StructFieldSpecifiers, ArrayedIdentifier, ArrayedIdentifiers, Qualification, TypeQualifier, TypeQualifierSpec, LayoutQualifier, LayoutQualifierSpec, FullySpecifiedType, FunctionParameterDeclaration, FunctionPrototype, Initializer, Initializers, SingleDeclaration, SingleDeclarationNoType, InitDeclaratorList, Block, Declaration, Condition, ForInitStatement, JumpStatement, Statement, Statements, ExternalDeclaration, TranslationUnit}

-- small lists, for `write!`, `f.write_char` and `f.write_str`

abbrev pub a_token : Token → List Command
a_token t = token t ∷ []

abbrev pub a_word : Word → List Command
a_word w = word w ∷ []

abbrev pub a_symbol : Symbol → List Command
a_symbol y = symbol y ∷ []

abbrev pub a_space : List Command
a_space = space ∷ []

abbrev pub show_identifier : Identifier → List Command
show_identifier i = a_token (Token.name i)

-- (..) and [..]
abbrev pub parenthesized : List Command → List Command
parenthesized cs = a_symbol Symbol.left_paren ++ cs ++ a_symbol Symbol.right_paren

abbrev pub in_square_brackets : List Command → List Command
in_square_brackets cs = a_symbol Symbol.left_bracket ++ cs ++ a_symbol Symbol.right_bracket

-- an operand: where it is bare it stands as it is, elsewhere in parentheses
abbrev pub bare_if : Bool → List Command → List Command
bare_if true cs = cs
bare_if false cs = parenthesized cs

-- where the rule of specs/Joins has a place (02, #106): one space, if a flag asks for it, before what would be read as one with what stands before it
abbrev pub apart : (joined : Bool) → Flag → List Command → List Command
apart true f cs = space_if f ∷ cs
apart false f cs = cs

-- in a list: a separator before each but the first, which 000 takes off the iterator
abbrev pub separator : (first : Bool) → List Command
separator true = []
separator false = write_list_separator

-- in a qualifier: a space before each but the first
abbrev pub space_between : (first : Bool) → List Command
space_between true = []
space_between false = a_space

-- in show_expr: an i32 from its 32 bits. A negative number's sign is a token of its own.
abbrev pub show_int : ℕ → List Command
show_int n = cond (negative n) (symbol Symbol.dash ∷ a_token (Token.int (magnitude n))) (a_token (Token.int (magnitude n)))

abbrev pub bool_word : Bool → Word
bool_word true = Word.true
bool_word false = Word.false

-- what is there or not: a struct's name, a block's identifier, an expression, a condition
unfoldable pub optional : {A : Type 0} → (A → List Command) → Option A → List Command
optional show none = []
optional show (some a) = show a

-- in show_subroutine
abbrev pub without_types : TypeSpecifiers → Bool
without_types TypeSpecifiers.no_types = true
without_types (TypeSpecifiers.types t ts) = false

-- Types, structs, arrays, qualifiers and expressions call each other. Inside are also: show_type_name, show_struct_non_declaration (clause Struct),
-- show_storage_qualifier, show_subroutine, show_layout_qualifier, show_precision_qualifier and show_interpolation_qualifier (clauses of
-- show_type_qualifier_spec), show_float and show_double (tokens, spelled in Token.antt). A plural is the loop over what it lists.
unfoldable mutual
  pub show_type_specifier_non_array : TypeSpecifierNonArray → List Command
  show_type_specifier_non_array TypeSpecifierNonArray.no_base = []
  show_type_specifier_non_array (TypeSpecifierNonArray.Keyword v) = a_token (Token.type v)
  show_type_specifier_non_array (TypeSpecifierNonArray.TypeName i) = show_identifier i
  show_type_specifier_non_array (TypeSpecifierNonArray.Struct i fs) =
      a_word Word.struct ++ a_space ++ optional show_identifier i ++ enter_block ++ show_struct_fields fs ++ exit_block

  pub show_type_specifier : TypeSpecifier → List Command
  show_type_specifier TypeSpecifier.no_type = []
  show_type_specifier (TypeSpecifier.type t a) = show_type_specifier_non_array t ++ show_array_spec a

  pub show_type_specifiers : TypeSpecifiers → (first : Bool) → List Command
  show_type_specifiers TypeSpecifiers.no_types first = []
  show_type_specifiers (TypeSpecifiers.types t ts) first = separator first ++ show_type_specifier t ++ show_type_specifiers ts false

  pub show_struct_fields : StructFieldSpecifiers → List Command
  show_struct_fields StructFieldSpecifiers.no_fields = []
  show_struct_fields (StructFieldSpecifiers.fields f fs) = flush_line ∷ show_struct_field f ++ write_struct_field_separator ++ show_struct_fields fs

  pub show_struct_field : StructFieldSpecifier → List Command
  show_struct_field StructFieldSpecifier.no_field = []
  show_struct_field (StructFieldSpecifier.field q t is) = show_qualification q ++ show_type_specifier t ++ a_space ++ show_arrayed_identifiers is true

  pub show_array_spec : ArraySpecifier → List Command
  show_array_spec ArraySpecifier.no_dimensions = []
  show_array_spec (ArraySpecifier.dimensions d ds) = show_dimension d ++ show_array_spec ds

  -- in show_array_spec
  pub show_dimension : ArraySpecifierDimension → List Command
  show_dimension ArraySpecifierDimension.no_dimension = []
  show_dimension ArraySpecifierDimension.Unsized = in_square_brackets []
  show_dimension (ArraySpecifierDimension.ExplicitlySized e) = in_square_brackets (show_expr e)

  pub show_arrayed_identifier : ArrayedIdentifier → List Command
  show_arrayed_identifier ArrayedIdentifier.no_identifier = []
  show_arrayed_identifier (ArrayedIdentifier.arrayed i a) = show_identifier i ++ show_array_spec a

  pub show_arrayed_identifiers : ArrayedIdentifiers → (first : Bool) → List Command
  show_arrayed_identifiers ArrayedIdentifiers.no_identifiers first = []
  show_arrayed_identifiers (ArrayedIdentifiers.identifiers i is) first =
      separator first ++ show_arrayed_identifier i ++ show_arrayed_identifiers is false

  -- in show_fully_specified_type, show_struct_field and show_function_parameter_declaration: where there is a qualifier, a space stands behind it
  pub show_qualification : Qualification → List Command
  show_qualification Qualification.unqualified = []
  show_qualification (Qualification.qualified q) = show_type_qualifier q true ++ a_space

  pub show_type_qualifier : TypeQualifier → (first : Bool) → List Command
  show_type_qualifier TypeQualifier.no_specs first = []
  show_type_qualifier (TypeQualifier.specs q qs) first = space_between first ++ show_type_qualifier_spec q ++ show_type_qualifier qs false

  pub show_type_qualifier_spec : TypeQualifierSpec → List Command
  show_type_qualifier_spec TypeQualifierSpec.no_spec = []
  show_type_qualifier_spec (TypeQualifierSpec.Storage q) = a_word (Word.storage q)
  show_type_qualifier_spec (TypeQualifierSpec.Subroutine ts) =
      a_word Word.subroutine ++ cond (without_types ts) [] (parenthesized (show_type_specifiers ts true))
  show_type_qualifier_spec (TypeQualifierSpec.Layout is) = a_word Word.layout ++ parenthesized (show_layout_ids is true)
  show_type_qualifier_spec (TypeQualifierSpec.Precision p) = a_word (Word.precision_qualifier p)
  show_type_qualifier_spec (TypeQualifierSpec.Interpolation i) = a_word (Word.interpolation i)
  show_type_qualifier_spec TypeQualifierSpec.Invariant = a_word Word.invariant
  show_type_qualifier_spec TypeQualifierSpec.Precise = a_word Word.precise

  -- in show_layout_qualifier
  pub show_layout_ids : LayoutQualifier → (first : Bool) → List Command
  show_layout_ids LayoutQualifier.no_ids first = []
  show_layout_ids (LayoutQualifier.ids i is) first = separator first ++ show_layout_qualifier_spec i ++ show_layout_ids is false

  pub show_layout_qualifier_spec : LayoutQualifierSpec → List Command
  show_layout_qualifier_spec LayoutQualifierSpec.no_id = []
  show_layout_qualifier_spec (LayoutQualifierSpec.Ident i) = show_identifier i
  show_layout_qualifier_spec (LayoutQualifierSpec.IdentIs i e) = show_identifier i ++ write_binary_op Symbol.equal ++ show_expr e
  show_layout_qualifier_spec LayoutQualifierSpec.Shared = a_word (Word.storage StorageQualifier.shared)

  pub show_expr : Expr → List Command
  show_expr Expr.no_expr = []
  show_expr (Expr.Variable i) = show_identifier i
  show_expr (Expr.IntConst n) = show_int n
  show_expr (Expr.UIntConst n) = a_token (Token.uint n)
  show_expr (Expr.BoolConst b) = a_word (bool_word b)
  show_expr (Expr.FloatConst t) = a_token (Token.float t)
  show_expr (Expr.DoubleConst t) = a_token (Token.double t)
  show_expr (Expr.Unary op e) = a_symbol (unary_symbol op) ++ apart (joins_under op e) spaces_where_needed (bare_if (bare_operand op e) (show_expr e))
  show_expr (Expr.Binary op l r) =
      bare_if (leb (precedence l) (binary_precedence op)) (show_expr l)
      ++ write_binary_op (binary_symbol op)
      ++ apart (joins_right op r) needed_operator_spaces (bare_if (bare_right op r) (show_expr r))
  show_expr (Expr.Ternary c s e) =
      bare_if (ltb (precedence c) ternary_precedence) (show_expr c) ++ write_binary_op Symbol.question ++ show_expr s ++ write_binary_op Symbol.colon ++ bare_if (leb (precedence e) ternary_precedence) (show_expr e)
  show_expr (Expr.Assignment op v e) =
      bare_if (ltb (precedence v) assignment_precedence) (show_expr v) ++ write_binary_op (assignment_symbol op) ++ bare_if (leb (precedence e) assignment_precedence) (show_expr e)
  show_expr (Expr.Bracket e a) = bare_if (leb (precedence e) postfix_precedence) (show_expr e) ++ in_square_brackets (show_expr a)
  show_expr (Expr.FunCall f es) = show_function_identifier f ++ parenthesized (show_exprs es true)
  show_expr (Expr.Dot i e) = bare_if (leb (precedence e) postfix_precedence) (show_expr e) ++ apart (is_int e) spaces_where_needed (a_symbol Symbol.dot) ++ show_identifier i
  show_expr (Expr.PostInc e) = bare_if (ltb (precedence e) postfix_precedence) (show_expr e) ++ a_symbol Symbol.inc_op
  show_expr (Expr.PostDec e) = bare_if (ltb (precedence e) postfix_precedence) (show_expr e) ++ a_symbol Symbol.dec_op
  show_expr (Expr.Comma a b) = bare_if (leb (precedence a) comma_precedence) (show_expr a) ++ write_list_separator ++ bare_if (ltb (precedence b) comma_precedence) (show_expr b)

  pub show_exprs : Exprs → (first : Bool) → List Command
  show_exprs Exprs.no_exprs first = []
  show_exprs (Exprs.exprs e es) first = separator first ++ show_expr e ++ show_exprs es false

  pub show_function_identifier : FunIdentifier → List Command
  show_function_identifier (FunIdentifier.OfType t) = show_type_specifier t
  show_function_identifier (FunIdentifier.OfExpr e) = show_expr e

-- declarations

unfoldable pub show_fully_specified_type : FullySpecifiedType → List Command
show_fully_specified_type FullySpecifiedType.no_full_type = []
show_fully_specified_type (FullySpecifiedType.full_type q t) = show_qualification q ++ show_type_specifier t

-- with show_function_parameter_declarator
unfoldable pub show_function_parameter_declaration : FunctionParameterDeclaration → List Command
show_function_parameter_declaration FunctionParameterDeclaration.no_parameter = []
show_function_parameter_declaration (FunctionParameterDeclaration.Unnamed q t) = show_qualification q ++ show_type_specifier t
show_function_parameter_declaration (FunctionParameterDeclaration.Named q t i) = show_qualification q ++ show_type_specifier t ++ a_space ++ show_arrayed_identifier i

-- in show_function_prototype
unfoldable pub show_parameters : List FunctionParameterDeclaration → (first : Bool) → List Command
show_parameters [] first = []
show_parameters (p ∷ ps) first = separator first ++ show_function_parameter_declaration p ++ show_parameters ps false

unfoldable pub show_function_prototype : FunctionPrototype → List Command
show_function_prototype FunctionPrototype.no_prototype = []
show_function_prototype (FunctionPrototype.prototype i t ps) =
    show_fully_specified_type t ++ a_space ++ show_identifier i ++ parenthesized (show_parameters ps true)

unfoldable mutual
  pub show_initializer : Initializer → List Command
  show_initializer Initializer.no_initializer = []
  show_initializer (Initializer.Simple e) = show_expr e
  show_initializer (Initializer.ListOf is) = enter_initializer_list ++ show_initializers is true ++ end_initializer_list

  pub show_initializers : Initializers → (first : Bool) → List Command
  show_initializers Initializers.no_initializers first = []
  show_initializers (Initializers.initializers i is) first = separator first ++ show_initializer i ++ show_initializers is false

-- in show_single_declaration: the name
abbrev pub show_declared : Option Identifier → List Command
show_declared none = []
show_declared (some i) = a_space ++ show_identifier i

-- in show_single_declaration and show_single_declaration_no_type: the initializer
unfoldable pub show_initialized : Option Initializer → List Command
show_initialized none = []
show_initialized (some i) = write_binary_op Symbol.equal ++ show_initializer i

unfoldable pub show_single_declaration : SingleDeclaration → List Command
show_single_declaration SingleDeclaration.no_single = []
show_single_declaration (SingleDeclaration.single t i a e) = show_fully_specified_type t ++ show_declared i ++ show_array_spec a ++ show_initialized e

unfoldable pub show_single_declaration_no_type : SingleDeclarationNoType → List Command
show_single_declaration_no_type SingleDeclarationNoType.no_declarator = []
show_single_declaration_no_type (SingleDeclarationNoType.declarator i e) = show_arrayed_identifier i ++ show_initialized e

-- in show_init_declarator_list: those behind the head
unfoldable pub show_tail : List SingleDeclarationNoType → List Command
show_tail [] = []
show_tail (d ∷ ds) = write_list_separator ++ show_single_declaration_no_type d ++ show_tail ds

unfoldable pub show_init_declarator_list : InitDeclaratorList → List Command
show_init_declarator_list InitDeclaratorList.no_declarators = []
show_init_declarator_list (InitDeclaratorList.declarators d ds) = show_single_declaration d ++ show_tail ds

unfoldable pub show_block : Block → List Command
show_block Block.no_block = []
show_block (Block.block i q fs n) =
    show_type_qualifier q true ++ a_space ++ show_identifier i ++ enter_block ++ show_struct_fields fs ++ exit_block ++ optional show_arrayed_identifier n

unfoldable pub show_declaration : Declaration → List Command
show_declaration Declaration.no_declaration = []
show_declaration (Declaration.OfPrototype p) = show_function_prototype p ++ write_declaration_terminator
show_declaration (Declaration.OfDeclarators l) = show_init_declarator_list l ++ write_declaration_terminator
show_declaration (Declaration.Precision q t) =
    a_word Word.precision ++ a_space ++ show_type_qualifier_spec q ++ a_space ++ show_type_specifier t ++ write_declaration_terminator
show_declaration (Declaration.OfBlock b) = show_block b ++ write_declaration_terminator
show_declaration (Declaration.Invariant i) = a_word Word.invariant ++ a_space ++ show_identifier i ++ write_declaration_terminator
show_declaration (Declaration.TypeOnly q) = show_type_qualifier q true ++ write_declaration_terminator

-- statements

unfoldable pub show_condition : Condition → List Command
show_condition Condition.no_condition = []
show_condition (Condition.OfExpr e) = show_expr e
show_condition (Condition.Assignment i t e) =
    show_fully_specified_type t ++ a_space ++ show_identifier i ++ write_binary_op Symbol.equal ++ show_initializer e

unfoldable pub show_for_init_statement : ForInitStatement → List Command
show_for_init_statement ForInitStatement.no_for_init = []
show_for_init_statement (ForInitStatement.Expression e) = optional show_expr e ++ write_for_statement_separator
show_for_init_statement (ForInitStatement.OfDeclaration d) = show_declaration d

unfoldable pub show_jump_statement : JumpStatement → List Command
show_jump_statement JumpStatement.Continue = a_word Word.continue ++ write_statement_terminator
show_jump_statement JumpStatement.Break = a_word Word.break ++ write_statement_terminator
show_jump_statement JumpStatement.Discard = a_word Word.discard ++ write_statement_terminator
show_jump_statement (JumpStatement.Return none) = a_word Word.return ++ write_statement_terminator
show_jump_statement (JumpStatement.Return (some e)) = a_word Word.return ++ a_space ++ show_expr e ++ write_statement_terminator

-- in show_compound_statement: exactly one statement
abbrev pub single_item : Statements → Bool
single_item Statements.no_statements = false
single_item (Statements.statements s Statements.no_statements) = true
single_item (Statements.statements s (Statements.statements t ts)) = false

-- in show_compound_statement: collapsed or in braces, from the commands of its statements
abbrev pub braced_or_collapsed : (collapsed : Bool) → List Command → List Command
braced_or_collapsed true cs = enter_collapsed_compound_statement ++ (consume_function_definition_statement ∷ cs) ++ exit_collapsed_compound_statement
braced_or_collapsed false cs = enter_compound_statement_block ++ (consume_function_definition_statement ∷ cs) ++ exit_block

-- `collapse` is the one setting that decides which commands there are
module _ (collapse : Bool) where
  -- Inside are: show_expression_statement, show_selection_statement with show_selection_rest_statement (If, IfElse), show_switch_statement,
  -- show_case_label (Default, Case), show_iteration_statement with show_for_rest_statement (While, DoWhile, For). What is no statement flushes all the
  -- same: 000 flushes before it looks.
  unfoldable mutual
    pub show_statement : Statement → List Command
    show_statement Statement.no_statement = flush_line ∷ []
    show_statement (Statement.OfDeclaration d) = flush_line ∷ show_declaration d
    show_statement (Statement.Compound ss) = flush_line ∷ braced_or_collapsed (collapse && single_item ss) (show_statements ss)
    show_statement (Statement.Expression e) = flush_line ∷ optional show_expr e ++ write_statement_terminator
    show_statement (Statement.If e s) =
        flush_line ∷ a_word Word.if ++ write_statement_opening_parenthesis ++ show_expr e ++ write_statement_closing_parenthesis ++ show_statement s
    show_statement (Statement.IfElse e s t) =
        flush_line ∷ a_word Word.if ++ write_statement_opening_parenthesis ++ show_expr e ++ write_statement_closing_parenthesis ++ show_statement s ++ write_else ++ (consume_newline ∷ show_statement t)
    show_statement (Statement.Switch e ss) =
        flush_line ∷ a_word Word.switch ++ write_statement_opening_parenthesis ++ show_expr e ++ a_symbol Symbol.right_paren ++ enter_block ++ show_statements ss ++ exit_block
    show_statement Statement.Default = flush_line ∷ a_word Word.default ++ enter_case_label
    show_statement (Statement.Case e) = flush_line ∷ a_word Word.case ++ a_space ++ show_expr e ++ enter_case_label
    show_statement (Statement.While c s) =
        flush_line ∷ a_word Word.while ++ write_statement_opening_parenthesis ++ show_condition c ++ write_statement_closing_parenthesis ++ show_statement s
    show_statement (Statement.DoWhile s e) =
        flush_line ∷ a_word Word.«do» ++ a_space ++ show_statement s ++ a_space ++ a_word Word.while ++ write_statement_opening_parenthesis ++ show_expr e ++ a_symbol Symbol.right_paren ++ write_statement_terminator
    show_statement (Statement.For i c e s) =
        flush_line ∷ a_word Word.for ++ write_statement_opening_parenthesis ++ show_for_init_statement i ++ (flush_space ∷ optional show_condition c) ++ write_for_statement_separator ++ optional show_expr e ++ write_statement_closing_parenthesis ++ show_statement s
    show_statement (Statement.OfJump j) = flush_line ∷ show_jump_statement j

    pub show_statements : Statements → List Command
    show_statements Statements.no_statements = []
    show_statements (Statements.statements s ss) = show_statement s ++ show_statements ss

  -- 000 collapses where the setting says so, there is one statement, and no function's body begins here; the last is known to whoever asks (within
  -- show_statement, where it is no function's body, the same is written out)
  abbrev pub show_compound_statement : (body : Bool) → Statements → List Command
  show_compound_statement body ss = braced_or_collapsed (not body && collapse && single_item ss) (show_statements ss)

  -- the unit

  unfoldable pub show_function_definition : FunctionPrototype → Statements → List Command
  show_function_definition p ss =
      show_function_prototype p ++ (enter_function_definition_statement ∷ show_compound_statement true ss) ++ (flush_line ∷ write_function_definition_terminator)

  unfoldable pub show_external_declaration : ExternalDeclaration → List Command
  show_external_declaration ExternalDeclaration.no_external = enter_external_declaration
  show_external_declaration (ExternalDeclaration.OfDeclaration d) = enter_external_declaration ++ show_declaration d
  show_external_declaration (ExternalDeclaration.FunctionDefinition p ss) =
      enter_external_declaration ++ show_function_definition p ss

  unfoldable pub show_translation_unit : TranslationUnit → List Command
  show_translation_unit [] = []
  show_translation_unit (d ∷ ds) = show_external_declaration d ++ show_translation_unit ds
