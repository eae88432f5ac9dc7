-- The text of a formed unit is divided into its tokens, under any settings and either collapse choice, if a space stands at each place of its expressions where tokens would be read as one
-- (`KeptUnit`): nothing else in a unit runs together. Assumes nothing.
use mathlib.Core.Path.{refl, subst}
use mathlib.Core.Bool.{Bool, true, false, ◌&&◌}
use mathlib.Core.List.{List, [], ◌∷◌, ◌++◌, append_assoc, append-nil}
use mathlib.Core.Option.{Option, none, some}
use Prim.Native.Nat.{ℕ}
use Rattle.words.proofs.Sorts.{ordinary_name}
use Rattle.words.specs.Letter.{letter, digit, name_byte}
use Rattle.words.specs.Word.{Word}
use Rattle.words.specs.Symbol.{symbol_text}
use Rattle.words.specs.Symbol.Symbol.{semicolon, equal, colon, left_paren, right_paren, left_brace, right_brace}
use Rattle.settings.specs.declared.Settings.{Settings}
use Rattle.settings.specs.declared.FormattingState.{FormattingState}
use Rattle.text.specs.Token.{Token, spell, has}
use Rattle.text.specs.Command.{Command, write_binary_op, write_list_separator, write_statement_opening_parenthesis, write_statement_closing_parenthesis, write_else, enter_case_label}
use Rattle.text.specs.Pen.{text, written}
use Rattle.text.specs.Tree.{Identifier, AssignmentOp, Expr, TypeSpecifier, ArrayedIdentifier, Qualification, FullySpecifiedType, FunctionParameterDeclaration, FunctionPrototype, Initializer, Initializers, SingleDeclaration, SingleDeclarationNoType, InitDeclaratorList, Block, Declaration, Condition, ForInitStatement, JumpStatement, Statement, Statements, ExternalDeclaration, TranslationUnit}
use Rattle.text.specs.Operator.{assignment_symbol}
use Rattle.text.specs.Text.{optional, a_symbol, a_word, show_identifier, show_expr, show_type_specifier, show_arrayed_identifier, show_qualification, show_fully_specified_type, show_function_parameter_declaration, show_parameters, show_function_prototype, show_initializer, show_initializers, show_declared, show_initialized, show_single_declaration, show_single_declaration_no_type, show_tail, show_init_declarator_list, show_block, show_declaration, show_condition, show_for_init_statement, show_jump_statement, single_item, braced_or_collapsed, show_statement, show_statements, show_function_definition, show_external_declaration, show_translation_unit}
use Rattle.text.specs.Visible.{tokens_of}
use Rattle.formed.specs.Formed.{Name, IfThere, Each, FormedExpr, FormedType, FormedIdentifier, FormedQualification, FormedFullType, FormedParameter, FormedPrototype, FormedInitializer, FormedSomeInitializers, FormedInitializers, FormedSingle, FormedDeclarator, FormedDeclarators, FormedBlock, FormedDeclaration, FormedCondition, FormedForInit, FormedJump, FormedStatement, FormedStatements, FormedExternal, FormedUnit}
use Rattle.formed.proofs.Precision.{precision_formed}
use Rattle.formed.proofs.Declared.{parameter_formed}
use Rattle.lexis.specs.Division.{Divides}
use Rattle.lexis.specs.Division.Divides.{at_end}
use Rattle.lexis.proofs.Laws.{symbol_lengthens, lengthens, Spelling}
use Rattle.division.proofs.Clear.{Clear, Ends, ends_wider}
use Rattle.division.proofs.Blank.{Silent}
use Rattle.division.proofs.Parts.{Part, wider, nothing, ◌and◌, blank_part, opened, called, separated, between}
use Rattle.division.proofs.Follow.{Next, Sealed, ◌onto◌, blank_next, space_next, a_gap, regroup, symbol_next, ended, block_inner, block_opens, block_closes}
use Rattle.division.proofs.Kept.{Passes, Kept, KeptType, KeptIdentifier, KeptQualification, KeptFull, KeptParameter, KeptPrototype, KeptInitializer, KeptInitializers, KeptSingle, KeptDeclarator, KeptDeclarators, KeptBlock, KeptDeclaration, KeptCondition, KeptForInit, KeptJump, KeptStatement, KeptStatements, KeptExternal, KeptUnit}
use Rattle.division.proofs.Divided.{Admits, value_clear, name_part, word_part, expr_part, fields_part, type_part, array_part, identifier_part, qualification_part, qualifier_part, spec_part}

module _ (wide : Bool) (passes : List ℕ → Bool) {L : List ℕ → Token → Type 0} {W : List ℕ → Bool} {proper : Token → Bool} (law : Spelling wide spell proper L W) (ok : Admits passes proper) (s : Settings) where
  -- the judgements: what ends in anything, what ends in no number, and what anything may follow
  abbrev Divided : List Command → Type 0
  Divided cs = Part wide L W s (Ends true true) cs

  abbrev Narrow : List Command → Type 0
  Narrow cs = Part wide L W s (Ends false false) cs

  abbrev Over : List Command → Type 0
  Over cs = Sealed wide L W s cs

  loosen : {cs : List Command} → Narrow cs → Divided cs
  loosen p = wider (ends_wider false false) p

  -- the parts of expressions and types that are used most
  an_expr : (e : Expr) → FormedExpr e → Kept wide passes s e → Divided (show_expr e)
  an_expr e f h = expr_part wide passes law ok s e f h

  a_name : (i : Identifier) → Name i → Passes wide passes s i → Narrow (show_identifier i)
  a_name i f h = name_part wide passes law ok s i f h

  the_word : (w : Word) → Narrow (a_word w)
  the_word w = word_part wide passes law ok s w

  qualified_type : (q : Qualification) (t : TypeSpecifier) → FormedQualification q → FormedType t → KeptQualification wide passes s q → KeptType wide passes s t → Narrow (show_qualification q ++ show_type_specifier t)
  qualified_type q t f g h k = qualification_part wide passes law ok s q f h and type_part wide passes law ok s t g k

  optional_expr : (e : Option Expr) → IfThere FormedExpr e → IfThere (Kept wide passes s) e → Divided (optional show_expr e)
  unfolding optional
  optional_expr none f h = nothing
  optional_expr (some e) f h = an_expr e f h

  -- what stands behind a part and closes it: a terminator, parentheses, and a label's colon
  ends : {c : Command} → Silent c → Next wide L W s (λ t. ⊥) (a_symbol semicolon ++ (c ∷ []))
  ends h = ended law ok.symbols h

  paren_opens : Next wide L W s (λ t. ⊥) write_statement_opening_parenthesis
  unfolding symbol_lengthens symbol_text name_byte letter digit
  paren_opens = blank_next refl (symbol_next law ok.symbols left_paren refl refl nothing)

  paren_closes : Next wide L W s (λ t. ⊥) write_statement_closing_parenthesis
  unfolding symbol_lengthens symbol_text name_byte letter digit
  paren_closes = symbol_next law ok.symbols right_paren refl refl (blank_part refl nothing)

  paren_ends : Next wide L W s (λ t. ⊥) (a_symbol right_paren)
  unfolding symbol_lengthens symbol_text name_byte letter digit
  paren_ends = symbol_next law ok.symbols right_paren refl refl nothing

  label_ends : Next wide L W s (λ t. ⊥) enter_case_label
  unfolding symbol_lengthens symbol_text name_byte letter digit
  label_ends = symbol_next law ok.symbols colon refl refl (blank_part refl nothing)

  -- declarations

  full_part : (t : FullySpecifiedType) → FormedFullType t → KeptFull wide passes s t → Narrow (show_fully_specified_type t)
  unfolding FormedFullType KeptFull show_fully_specified_type
  full_part FullySpecifiedType.no_full_type f h = absurd f
  full_part (FullySpecifiedType.full_type q t) f h = qualified_type q t f.0 f.1 h.0 h.1

  parameter_part : (p : FunctionParameterDeclaration) → FormedParameter p → KeptParameter wide passes s p → Narrow (show_function_parameter_declaration p)
  unfolding FormedParameter KeptParameter show_function_parameter_declaration
  parameter_part FunctionParameterDeclaration.no_parameter f h = absurd f
  parameter_part (FunctionParameterDeclaration.Unnamed q t) f h = qualified_type q t f.0 f.1 h.0 h.1
  parameter_part (FunctionParameterDeclaration.Named q t i) f h = qualified_type q t f.0 f.1 h.0 h.1 onto a_gap and identifier_part wide passes law ok s i (parameter_formed i f.2) h.2

  -- behind the parameters before them (so too in the lists below)
  more_parameters : (ps : List FunctionParameterDeclaration) → Each FormedParameter ps → Each (KeptParameter wide passes s) ps → {cs : List Command} → Narrow cs → Narrow (cs ++ show_parameters ps false)
  unfolding Each show_parameters
  more_parameters [] f h {cs = cs} p = rw (append-nil cs) p
  more_parameters (d ∷ ps) f h {cs = cs} p = regroup cs write_list_separator (show_function_parameter_declaration d) (show_parameters ps false) (more_parameters ps f.1 h.1 (separated law ok.symbols p (parameter_part d f.0 h.0)))

  parameters_part : (ps : List FunctionParameterDeclaration) → Each FormedParameter ps → Each (KeptParameter wide passes s) ps → Narrow (show_parameters ps true)
  unfolding Each show_parameters
  parameters_part [] f h = nothing
  parameters_part (d ∷ ps) f h = more_parameters ps f.1 h.1 (parameter_part d f.0 h.0)

  prototype_part : (p : FunctionPrototype) → FormedPrototype p → KeptPrototype wide passes s p → Over (show_function_prototype p)
  unfolding FormedPrototype KeptPrototype show_function_prototype
  prototype_part FunctionPrototype.no_prototype f h = absurd f
  prototype_part (FunctionPrototype.prototype i t ps) f h = called law ok.symbols (full_part t f.1 h.1 onto a_gap and a_name i (ordinary_name i f.0) h.0) (parameters_part ps f.2 h.2)

  -- an initializer stands clear behind its `=`: an expression begins with no `=`, and a list with a brace
  initializer_clear : (i : Initializer) → FormedInitializer i → (x : FormattingState) (rest : List ℕ) → Clear wide (Token.symbol equal) (text s (show_initializer i) x ++ rest)
  unfolding FormedInitializer show_initializer assignment_symbol text written spell symbol_text symbol_lengthens lengthens has
  initializer_clear Initializer.no_initializer f x rest = absurd f
  initializer_clear (Initializer.Simple e) f x rest = value_clear wide passes law ok s AssignmentOp.Equal e f true x rest
  initializer_clear (Initializer.ListOf is) f x rest = refl

  mutual
    unfolding FormedInitializer FormedSomeInitializers FormedInitializers KeptInitializer KeptInitializers show_initializer show_initializers symbol_lengthens symbol_text name_byte letter digit

    initializer_part : (i : Initializer) → FormedInitializer i → KeptInitializer wide passes s i → Divided (show_initializer i)
    initializer_part Initializer.no_initializer f h = absurd f
    initializer_part (Initializer.Simple e) f h = an_expr e f h
    initializer_part (Initializer.ListOf is) f h = opened law ok.symbols left_brace refl (blank_part refl (initializers_part is f h)) onto blank_next refl (symbol_next law ok.symbols right_brace refl refl nothing)

    initializers_part : (is : Initializers) → FormedSomeInitializers is → KeptInitializers wide passes s is → Divided (show_initializers is true)
    initializers_part Initializers.no_initializers f h = absurd f
    initializers_part (Initializers.initializers i is) f h = more_initializers is f.1 h.1 (initializer_part i f.0 h.0)

    more_initializers : (is : Initializers) → FormedInitializers is → KeptInitializers wide passes s is → {cs : List Command} → Divided cs → Divided (cs ++ show_initializers is false)
    more_initializers Initializers.no_initializers f h {cs = cs} p = rw (append-nil cs) p
    more_initializers (Initializers.initializers i is) f h {cs = cs} p = regroup cs write_list_separator (show_initializer i) (show_initializers is false) (more_initializers is f.1 h.1 (separated law ok.symbols p (initializer_part i f.0 h.0)))

  -- `=` and an initializer behind what it initializes; they are there or not
  equals : (i : Initializer) → FormedInitializer i → KeptInitializer wide passes s i → {cs : List Command} → Narrow cs → Divided (cs ++ write_binary_op equal ++ show_initializer i)
  unfolding symbol_text name_byte letter digit
  equals i f h p = between law ok.symbols equal refl (λ off. initializer_clear i f) p (initializer_part i f h)

  initialized : (i : Option Initializer) → IfThere FormedInitializer i → IfThere (KeptInitializer wide passes s) i → {cs : List Command} → Narrow cs → Divided (cs ++ show_initialized i)
  unfolding show_initialized
  initialized none f h {cs = cs} p = rw (append-nil cs) (loosen p)
  initialized (some i) f h {cs = cs} p = subst (λ (ds : List Command). Divided ds) (append_assoc cs (write_binary_op equal) (show_initializer i)) (equals i f h p)

  -- a name behind its type, if it is there
  declared : (n : Option Identifier) → IfThere Name n → IfThere (Passes wide passes s) n → {cs : List Command} → Narrow cs → Narrow (cs ++ show_declared n)
  declared none f h {cs = cs} p = rw (append-nil cs) p
  declared (some i) f h p = p onto space_next (a_name i f h)

  single_part : (d : SingleDeclaration) → FormedSingle d → KeptSingle wide passes s d → Divided (show_single_declaration d)
  unfolding FormedSingle KeptSingle show_single_declaration
  single_part SingleDeclaration.no_single f h = absurd f
  single_part (SingleDeclaration.single t n ds i) f h = initialized i f.3 h.3 (array_part wide passes law ok s ds f.2 h.2 (declared n f.1 h.1 (full_part t f.0 h.0)))

  declarator_part : (d : SingleDeclarationNoType) → FormedDeclarator d → KeptDeclarator wide passes s d → Divided (show_single_declaration_no_type d)
  unfolding FormedDeclarator KeptDeclarator show_single_declaration_no_type
  declarator_part SingleDeclarationNoType.no_declarator f h = absurd f
  declarator_part (SingleDeclarationNoType.declarator x i) f h = initialized i f.1 h.1 (identifier_part wide passes law ok s x f.0 h.0)

  tail_part : (ds : List SingleDeclarationNoType) → Each FormedDeclarator ds → Each (KeptDeclarator wide passes s) ds → {cs : List Command} → Divided cs → Divided (cs ++ show_tail ds)
  unfolding Each show_tail
  tail_part [] f h {cs = cs} p = rw (append-nil cs) p
  tail_part (d ∷ ds) f h {cs = cs} p = regroup cs write_list_separator (show_single_declaration_no_type d) (show_tail ds) (tail_part ds f.1 h.1 (separated law ok.symbols p (declarator_part d f.0 h.0)))

  declarators_part : (l : InitDeclaratorList) → FormedDeclarators l → KeptDeclarators wide passes s l → Divided (show_init_declarator_list l)
  unfolding FormedDeclarators KeptDeclarators show_init_declarator_list
  declarators_part InitDeclaratorList.no_declarators f h = absurd f
  declarators_part (InitDeclaratorList.declarators d ds) f h = tail_part ds f.1 h.1 (single_part d f.0 h.0)

  optional_identifier : (n : Option ArrayedIdentifier) → IfThere FormedIdentifier n → IfThere (KeptIdentifier wide passes s) n → Narrow (optional show_arrayed_identifier n)
  unfolding optional
  optional_identifier none f h = nothing
  optional_identifier (some i) f h = identifier_part wide passes law ok s i f h

  block_part : (b : Block) → FormedBlock b → KeptBlock wide passes s b → Narrow (show_block b)
  unfolding FormedBlock KeptBlock show_block
  block_part Block.no_block f h = absurd f
  block_part (Block.block i q fs n) f h =
      qualifier_part wide passes law ok s q f.1 h.1 onto a_gap and a_name i f.0 h.0 onto block_opens law ok.symbols
      and fields_part wide passes law ok s fs f.2 h.2 and block_closes law ok.symbols and optional_identifier n f.3 h.3

  declaration_part : (d : Declaration) → FormedDeclaration d → KeptDeclaration wide passes s d → Over (show_declaration d)
  unfolding FormedDeclaration KeptDeclaration show_declaration
  declaration_part Declaration.no_declaration f h = absurd f
  declaration_part (Declaration.OfPrototype p) f h = prototype_part p f h and (ends refl).part
  declaration_part (Declaration.OfDeclarators l) f h = declarators_part l f h onto ends refl
  declaration_part (Declaration.Precision q t) f h = the_word Word.precision onto a_gap and spec_part wide passes law ok s q (precision_formed q f.0) h.0 onto a_gap and type_part wide passes law ok s t f.1 h.1 onto ends refl
  declaration_part (Declaration.OfBlock b) f h = block_part b f h onto ends refl
  declaration_part (Declaration.Invariant i) f h = the_word Word.invariant onto a_gap and a_name i f h onto ends refl
  declaration_part (Declaration.TypeOnly q) f h = qualifier_part wide passes law ok s q f h onto ends refl

  -- statements

  condition_part : (c : Condition) → FormedCondition c → KeptCondition wide passes s c → Divided (show_condition c)
  unfolding FormedCondition KeptCondition show_condition
  condition_part Condition.no_condition f h = absurd f
  condition_part (Condition.OfExpr e) f h = an_expr e f h
  condition_part (Condition.Assignment i t e) f h = equals e f.2 h.2 (full_part t f.1 h.1 onto a_gap and a_name i f.0 h.0)

  optional_condition : (c : Option Condition) → IfThere FormedCondition c → IfThere (KeptCondition wide passes s) c → Divided (optional show_condition c)
  unfolding optional
  optional_condition none f h = nothing
  optional_condition (some c) f h = condition_part c f h

  for_init_part : (i : ForInitStatement) → FormedForInit i → KeptForInit wide passes s i → Over (show_for_init_statement i)
  unfolding FormedForInit KeptForInit show_for_init_statement
  for_init_part ForInitStatement.no_for_init f h = absurd f
  for_init_part (ForInitStatement.Expression e) f h = optional_expr e f h onto ends refl
  for_init_part (ForInitStatement.OfDeclaration d) f h = declaration_part d f h

  jump_part : (j : JumpStatement) → FormedJump j → KeptJump wide passes s j → Over (show_jump_statement j)
  unfolding FormedJump KeptJump show_jump_statement
  jump_part JumpStatement.Continue f h = the_word Word.continue onto ends refl
  jump_part JumpStatement.Break f h = the_word Word.break onto ends refl
  jump_part JumpStatement.Discard f h = the_word Word.discard onto ends refl
  jump_part (JumpStatement.Return none) f h = the_word Word.return onto ends refl
  jump_part (JumpStatement.Return (some e)) f h = the_word Word.return onto a_gap and an_expr e f h onto ends refl

  -- collapsed, or in braces
  compound_part : (collapsed : Bool) {cs : List Command} → Over cs → Over (braced_or_collapsed collapsed cs)
  compound_part true p = blank_part refl (blank_part refl (blank_part refl p)) and blank_part refl (blank_part refl nothing)
  compound_part false p = blank_part refl (block_inner law ok.symbols).part and blank_part refl p and block_closes law ok.symbols

  else_part : Over write_else
  else_part = blank_part refl (the_word Word.else onto a_gap)

  module _ (collapse : Bool) where
    -- a flushed line is first in each
    mutual
      unfolding FormedStatement FormedStatements KeptStatement KeptStatements show_statement show_statements

      statement_part : (a : Statement) → FormedStatement a → KeptStatement wide passes s a → Over (show_statement collapse a)
      statement_part Statement.no_statement f h = absurd f
      statement_part (Statement.OfDeclaration d) f h = blank_part refl (declaration_part d f h)
      statement_part (Statement.Compound ss) f h = blank_part refl (compound_part (collapse && single_item ss) (statements_part ss f h))
      statement_part (Statement.Expression e) f h = blank_part refl (optional_expr e f h onto ends refl)
      statement_part (Statement.If e a) f h = blank_part refl (the_word Word.if onto paren_opens and an_expr e f.0 h.0 onto paren_closes and statement_part a f.1 h.1)
      statement_part (Statement.IfElse e a b) f h =
          blank_part refl (the_word Word.if onto paren_opens and an_expr e f.0 h.0 onto paren_closes and statement_part a f.1 h.1 and else_part and blank_part refl (statement_part b f.2 h.2))
      statement_part (Statement.Switch e ss) f h =
          blank_part refl (the_word Word.switch onto paren_opens and an_expr e f.0 h.0 onto paren_ends and (block_opens law ok.symbols).part and statements_part ss f.1 h.1 and block_closes law ok.symbols)
      statement_part Statement.Default f h = blank_part refl (the_word Word.default onto label_ends)
      statement_part (Statement.Case e) f h = blank_part refl (the_word Word.case onto a_gap and an_expr e f h onto label_ends)
      statement_part (Statement.While c a) f h = blank_part refl (the_word Word.while onto paren_opens and condition_part c f.0 h.0 onto paren_closes and statement_part a f.1 h.1)
      statement_part (Statement.DoWhile a e) f h =
          blank_part refl (the_word Word.«do» onto a_gap and statement_part a f.0 h.0 and a_gap.part and the_word Word.while onto paren_opens and an_expr e f.1 h.1 onto paren_ends and (ends refl).part)
      statement_part (Statement.For i c e a) f h =
          blank_part refl (the_word Word.for onto paren_opens and for_init_part i f.0 h.0 and blank_part refl (optional_condition c f.1 h.1) onto ends refl and optional_expr e f.2 h.2 onto paren_closes and statement_part a f.3 h.3)
      statement_part (Statement.OfJump j) f h = blank_part refl (jump_part j f h)

      statements_part : (ss : Statements) → FormedStatements ss → KeptStatements wide passes s ss → Over (show_statements collapse ss)
      statements_part Statements.no_statements f h = nothing
      statements_part (Statements.statements a ss) f h = statement_part a f.0 h.0 and statements_part ss f.1 h.1

    -- the unit

    external_part : (d : ExternalDeclaration) → FormedExternal d → KeptExternal wide passes s d → Over (show_external_declaration collapse d)
    unfolding FormedExternal KeptExternal show_external_declaration show_function_definition
    external_part ExternalDeclaration.no_external f h = absurd f
    external_part (ExternalDeclaration.OfDeclaration d) f h = blank_part refl (declaration_part d f h)
    external_part (ExternalDeclaration.FunctionDefinition p ss) f h = blank_part refl (prototype_part p f.0 h.0 and blank_part refl (compound_part false (statements_part ss f.1 h.1)) and blank_part refl (blank_part refl nothing))

    unit_part : (u : TranslationUnit) → FormedUnit u → KeptUnit wide passes s u → Over (show_translation_unit collapse u)
    unfolding Each show_translation_unit
    unit_part [] f h = nothing
    unit_part (d ∷ ds) f h = external_part d f.0 h.0 and unit_part ds f.1 h.1

    -- the whole text
    pub unit_divided : (u : TranslationUnit) → FormedUnit u → KeptUnit wide passes s u → (x : FormattingState) → Divides L W (text s (show_translation_unit collapse u) x) (tokens_of (show_translation_unit collapse u))
    unit_divided u f h x = simp append-nil at ((unit_part u f h).join x [] [] (λ t e. absurd e) at_end)
