-- The text of a formed unit tells, where it is split into its tokens by GLSL's words, that each place of the joined rule has its space (02, #107): the converse of proofs/Units, over proofs/Told for
-- expressions and types. Assumes nothing.
use mathlib.Core.Path.{refl}
use mathlib.Core.Bool.{Bool, true, false, ◌&&◌}
use mathlib.Core.List.{List, [], ◌∷◌, ◌++◌}
use mathlib.Core.Option.{Option, none, some}
use Rattle.words.specs.Word.{Word}
use Rattle.words.specs.Symbol.Symbol.{left_paren, right_paren, equal}
use Rattle.settings.specs.declared.Settings.{Settings}
use Rattle.text.specs.Command.{Command, enter_compound_statement_block, enter_block, exit_block, enter_collapsed_compound_statement, exit_collapsed_compound_statement, enter_initializer_list, end_initializer_list, write_binary_op, write_for_statement_separator, write_statement_opening_parenthesis, write_list_separator}
use Rattle.text.specs.Command.Command.{flush_line}
use Rattle.text.specs.Tree.{Expr, FullySpecifiedType, FunctionParameterDeclaration, FunctionPrototype, Initializer, Initializers, SingleDeclaration, SingleDeclarationNoType, InitDeclaratorList, Block, Declaration, Condition, ForInitStatement, JumpStatement, Statement, Statements, ExternalDeclaration, TranslationUnit}
use Rattle.text.specs.Text.{optional, a_word, a_space, separator, show_identifier, show_expr, show_arrayed_identifier, show_fully_specified_type, show_function_parameter_declaration, show_parameters, show_function_prototype, show_initializer, show_initializers, show_declared, show_initialized, show_single_declaration, show_single_declaration_no_type, show_tail, show_init_declarator_list, show_block, show_declaration, show_condition, show_for_init_statement, show_jump_statement, single_item, braced_or_collapsed, show_statement, show_statements, show_function_definition, show_external_declaration, show_translation_unit}
use Rattle.formed.specs.Formed.{IfThere, Each, FormedExpr, FormedIdentifier, FormedFullType, FormedParameter, FormedPrototype, FormedInitializer, FormedSomeInitializers, FormedInitializers, FormedSingle, FormedDeclarator, FormedDeclarators, FormedBlock, FormedDeclaration, FormedCondition, FormedForInit, FormedJump, FormedStatement, FormedStatements, FormedExternal, FormedUnit}
use Rattle.formed.proofs.Precision.{precision_formed}
use Rattle.formed.proofs.Declared.{parameter_formed}
use Rattle.lexis.specs.Glsl.{any}
use Rattle.division.proofs.Kept.{any_name, Kept, KeptIdentifier, KeptFull, KeptParameter, KeptPrototype, KeptInitializer, KeptInitializers, KeptSingle, KeptDeclarator, KeptDeclarators, KeptBlock, KeptDeclaration, KeptCondition, KeptForInit, KeptJump, KeptStatement, KeptStatements, KeptExternal, KeptUnit}
use Rattle.division.proofs.Cut.{Tells, always, so_told, first_told, last_told, ◌also◌, past}
use Rattle.division.proofs.Told.{within_told, tells, tells_type, tells_array, tells_fields, tells_identifier, tells_qualification, tells_qualifier, tells_spec}

module _ (s : Settings) where
  -- what is there or not
  optional_told : {A : Type 0} (show : A → List Command) (F P : A → Type 0) → ((a : A) → F a → Tells s (show a) (P a)) → (a : Option A) → IfThere F a → Tells s (optional show a) (IfThere P a)
  unfolding optional
  optional_told show F P t none f = always tt
  optional_told show F P t (some a) f = t a f

  an_expr : (e : Option Expr) → IfThere FormedExpr e → Tells s (optional show_expr e) (IfThere (Kept false any s) e)
  an_expr = optional_told show_expr FormedExpr (Kept false any s) (tells s)

  -- declarations

  tells_full : (t : FullySpecifiedType) → FormedFullType t → Tells s (show_fully_specified_type t) (KeptFull false any s t)
  unfolding FormedFullType KeptFull show_fully_specified_type
  tells_full FullySpecifiedType.no_full_type f = always tt
  tells_full (FullySpecifiedType.full_type q t) f = tells_qualification s q f.0 also tells_type s t f.1

  tells_parameter : (p : FunctionParameterDeclaration) → FormedParameter p → Tells s (show_function_parameter_declaration p) (KeptParameter false any s p)
  unfolding FormedParameter KeptParameter show_function_parameter_declaration
  tells_parameter FunctionParameterDeclaration.no_parameter f = always tt
  tells_parameter (FunctionParameterDeclaration.Unnamed q t) f = tells_qualification s q f.0 also tells_type s t f.1
  tells_parameter (FunctionParameterDeclaration.Named q t i) f = so_told (λ h. (h.0.0, h.0.1, h.1)) (first_told (tells_qualification s q f.0 also tells_type s t f.1) a_space also tells_identifier s i (parameter_formed i f.2))

  tells_parameters : (ps : List FunctionParameterDeclaration) → Each FormedParameter ps → (first : Bool) → Tells s (show_parameters ps first) (Each (KeptParameter false any s) ps)
  unfolding Each show_parameters
  tells_parameters [] f first = always tt
  tells_parameters (p ∷ ps) f first = last_told (separator first) (tells_parameter p f.0) also tells_parameters ps f.1 false

  tells_prototype : (p : FunctionPrototype) → FormedPrototype p → Tells s (show_function_prototype p) (KeptPrototype false any s p)
  unfolding FormedPrototype KeptPrototype show_function_prototype
  tells_prototype FunctionPrototype.no_prototype f = always tt
  tells_prototype (FunctionPrototype.prototype i t ps) f = so_told (λ h. (refl, h.0, h.1)) (first_told (first_told (tells_full t f.1) a_space) (show_identifier i) also within_told s left_paren right_paren (tells_parameters ps f.2 true))

  mutual
    unfolding FormedInitializer KeptInitializer show_initializer

    tells_initializer : (i : Initializer) → FormedInitializer i → Tells s (show_initializer i) (KeptInitializer false any s i)
    tells_initializer Initializer.no_initializer f = always tt
    tells_initializer (Initializer.Simple e) f = tells s e f
    tells_initializer (Initializer.ListOf is) f = first_told (last_told enter_initializer_list (tells_some_initializers is f)) end_initializer_list

    tells_some_initializers : (is : Initializers) → FormedSomeInitializers is → Tells s (show_initializers is true) (KeptInitializers false any s is)
    tells_some_initializers Initializers.no_initializers f = always tt
    tells_some_initializers (Initializers.initializers i is) f = tells_initializer i f.0 also tells_initializers is f.1

    tells_initializers : (is : Initializers) → FormedInitializers is → Tells s (show_initializers is false) (KeptInitializers false any s is)
    tells_initializers Initializers.no_initializers f = always tt
    tells_initializers (Initializers.initializers i is) f = last_told write_list_separator (tells_initializer i f.0) also tells_initializers is f.1

  tells_initialized : (i : Option Initializer) → IfThere FormedInitializer i → Tells s (show_initialized i) (IfThere (KeptInitializer false any s) i)
  unfolding show_initialized
  tells_initialized none f = always tt
  tells_initialized (some i) f = last_told (write_binary_op equal) (tells_initializer i f)

  tells_single : (d : SingleDeclaration) → FormedSingle d → Tells s (show_single_declaration d) (KeptSingle false any s d)
  unfolding FormedSingle KeptSingle show_single_declaration
  tells_single SingleDeclaration.no_single f = always tt
  tells_single (SingleDeclaration.single t n ds i) f =
      so_told (λ h. (h.0.0, any_name n, h.0.1, h.1)) (first_told (tells_full t f.0) (show_declared n) also tells_array s ds f.2 also tells_initialized i f.3)

  tells_declarator : (d : SingleDeclarationNoType) → FormedDeclarator d → Tells s (show_single_declaration_no_type d) (KeptDeclarator false any s d)
  unfolding FormedDeclarator KeptDeclarator show_single_declaration_no_type
  tells_declarator SingleDeclarationNoType.no_declarator f = always tt
  tells_declarator (SingleDeclarationNoType.declarator x i) f = tells_identifier s x f.0 also tells_initialized i f.1

  tells_tail : (ds : List SingleDeclarationNoType) → Each FormedDeclarator ds → Tells s (show_tail ds) (Each (KeptDeclarator false any s) ds)
  unfolding Each show_tail
  tells_tail [] f = always tt
  tells_tail (d ∷ ds) f = last_told write_list_separator (tells_declarator d f.0) also tells_tail ds f.1

  tells_declarators : (l : InitDeclaratorList) → FormedDeclarators l → Tells s (show_init_declarator_list l) (KeptDeclarators false any s l)
  unfolding FormedDeclarators KeptDeclarators show_init_declarator_list
  tells_declarators InitDeclaratorList.no_declarators f = always tt
  tells_declarators (InitDeclaratorList.declarators d ds) f = tells_single d f.0 also tells_tail ds f.1

  tells_block : (b : Block) → FormedBlock b → Tells s (show_block b) (KeptBlock false any s b)
  unfolding FormedBlock KeptBlock show_block
  tells_block Block.no_block f = always tt
  tells_block (Block.block i q fs n) f =
      so_told (λ h. (refl, h.0.0, h.0.1, h.1))
      (first_told (first_told (first_told (first_told (tells_qualifier s q f.1) a_space) (show_identifier i)) enter_block also tells_fields s fs f.2) exit_block
      also optional_told show_arrayed_identifier FormedIdentifier (KeptIdentifier false any s) (tells_identifier s) n f.3)

  tells_declaration : (d : Declaration) → FormedDeclaration d → Tells s (show_declaration d) (KeptDeclaration false any s d)
  unfolding FormedDeclaration KeptDeclaration show_declaration
  tells_declaration Declaration.no_declaration f = always tt
  tells_declaration (Declaration.OfPrototype p) f = first_told (tells_prototype p f) _
  tells_declaration (Declaration.OfDeclarators l) f = first_told (tells_declarators l f) _
  tells_declaration (Declaration.Precision q t) f = first_told (first_told (last_told (a_word Word.precision ++ a_space) (tells_spec s q (precision_formed q f.0))) a_space also tells_type s t f.1) _
  tells_declaration (Declaration.OfBlock b) f = first_told (tells_block b f) _
  tells_declaration (Declaration.Invariant i) f = always refl
  tells_declaration (Declaration.TypeOnly q) f = first_told (tells_qualifier s q f) _

  -- statements

  tells_condition : (c : Condition) → FormedCondition c → Tells s (show_condition c) (KeptCondition false any s c)
  unfolding FormedCondition KeptCondition show_condition
  tells_condition Condition.no_condition f = always tt
  tells_condition (Condition.OfExpr e) f = tells s e f
  tells_condition (Condition.Assignment i t e) f = so_told (λ h. (refl, h.0, h.1)) (first_told (first_told (first_told (tells_full t f.1) a_space) (show_identifier i)) (write_binary_op equal) also tells_initializer e f.2)

  tells_for_init : (i : ForInitStatement) → FormedForInit i → Tells s (show_for_init_statement i) (KeptForInit false any s i)
  unfolding FormedForInit KeptForInit show_for_init_statement
  tells_for_init ForInitStatement.no_for_init f = always tt
  tells_for_init (ForInitStatement.Expression e) f = first_told (an_expr e f) write_for_statement_separator
  tells_for_init (ForInitStatement.OfDeclaration d) f = tells_declaration d f

  tells_jump : (j : JumpStatement) → FormedJump j → Tells s (show_jump_statement j) (KeptJump false any s j)
  unfolding FormedJump KeptJump show_jump_statement
  tells_jump JumpStatement.Continue f = always tt
  tells_jump JumpStatement.Break f = always tt
  tells_jump JumpStatement.Discard f = always tt
  tells_jump (JumpStatement.Return none) f = always tt
  tells_jump (JumpStatement.Return (some e)) f = first_told (last_told (a_word Word.return ++ a_space) (tells s e f)) _

  compound_told : (collapsed : Bool) {cs : List Command} {K : Type 0} → Tells s cs K → Tells s (braced_or_collapsed collapsed cs) K
  compound_told true t = first_told (last_told enter_collapsed_compound_statement (past t)) exit_collapsed_compound_statement
  compound_told false t = first_told (last_told enter_compound_statement_block (past t)) exit_block

  -- a word, and a condition in parentheses
  headed : {cs : List Command} {K : Type 0} (w : Word) → Tells s cs K → Tells s (flush_line ∷ a_word w ++ write_statement_opening_parenthesis ++ cs) K
  headed w t = last_told (flush_line ∷ a_word w ++ write_statement_opening_parenthesis) t

  module _ (collapse : Bool) where
    mutual
      unfolding FormedStatement KeptStatement show_statement

      tells_statement : (a : Statement) → FormedStatement a → Tells s (show_statement collapse a) (KeptStatement false any s a)
      tells_statement Statement.no_statement f = always tt
      tells_statement (Statement.OfDeclaration d) f = past (tells_declaration d f)
      tells_statement (Statement.Compound ss) f = past (compound_told (collapse && single_item ss) (tells_statements ss f))
      tells_statement (Statement.Expression e) f = first_told (past (an_expr e f)) _
      tells_statement (Statement.If e a) f = first_told (headed Word.if (tells s e f.0)) _ also tells_statement a f.1
      tells_statement (Statement.IfElse e a b) f =
          so_told (λ h. (h.0.0, h.0.1, h.1)) (first_told (first_told (headed Word.if (tells s e f.0)) _ also tells_statement a f.1) _ also past (tells_statement b f.2))
      tells_statement (Statement.Switch e ss) f = first_told (first_told (first_told (headed Word.switch (tells s e f.0)) _) _ also tells_statements ss f.1) exit_block
      tells_statement Statement.Default f = always tt
      tells_statement (Statement.Case e) f = first_told (last_told (flush_line ∷ a_word Word.case ++ a_space) (tells s e f)) _
      tells_statement (Statement.While c a) f = first_told (headed Word.while (tells_condition c f.0)) _ also tells_statement a f.1
      tells_statement (Statement.DoWhile a e) f =
          first_told (first_told (first_told (first_told (first_told (last_told (flush_line ∷ a_word Word.«do» ++ a_space) (tells_statement a f.0)) _) _) _ also tells s e f.1) _) _
      tells_statement (Statement.For i c e a) f =
          so_told (λ h. (h.0.0.0, h.0.0.1, h.0.1, h.1))
          (first_told (first_told (headed Word.for (tells_for_init i f.0) also past (optional_told show_condition FormedCondition (KeptCondition false any s) tells_condition c f.1)) _ also an_expr e f.2) _ also tells_statement a f.3)
      tells_statement (Statement.OfJump j) f = past (tells_jump j f)

      tells_statements : (ss : Statements) → FormedStatements ss → Tells s (show_statements collapse ss) (KeptStatements false any s ss)
      tells_statements Statements.no_statements f = always tt
      tells_statements (Statements.statements a ss) f = tells_statement a f.0 also tells_statements ss f.1

    -- the unit

    tells_external : (d : ExternalDeclaration) → FormedExternal d → Tells s (show_external_declaration collapse d) (KeptExternal false any s d)
    unfolding FormedExternal KeptExternal show_external_declaration show_function_definition
    tells_external ExternalDeclaration.no_external f = always tt
    tells_external (ExternalDeclaration.OfDeclaration d) f = past (tells_declaration d f)
    tells_external (ExternalDeclaration.FunctionDefinition p ss) f = past (first_told (tells_prototype p f.0 also past (compound_told false (tells_statements ss f.1))) _)

    pub tells_unit : (u : TranslationUnit) → FormedUnit u → Tells s (show_translation_unit collapse u) (KeptUnit false any s u)
    unfolding Each show_translation_unit
    tells_unit [] f = always tt
    tells_unit (d ∷ ds) f = tells_external d f.0 also tells_unit ds f.1
