-- Declarations (01, kinds 40 to 47). Assumes nothing.
use mathlib.Core.Bool.{Bool, false, cond}
use mathlib.Core.List.{List, [], ◌∷◌}
use mathlib.Core.Option.{Option, none, some}
use Prim.Native.Nat.{ℕ}
use native.Mathlib.Omega.{arith}
use lib.Dec.{eqb}
use Rattle.words.proofs.Sorts.{ordinary_name}
use Rattle.records.specs.declared.Record.{Record}
use Rattle.records.specs.Record.{text_of, bit0, bit1, bit2}
use Rattle.text.specs.Tree.{ArrayedIdentifier, FunctionParameterDeclaration, FunctionPrototype, Initializer, Initializers, SingleDeclaration, SingleDeclarationNoType, InitDeclaratorList, Block, Declaration}
use Rattle.text.specs.Text.{show_function_parameter_declaration, show_parameters, show_function_prototype, show_initializer, show_initializers, show_initialized, show_single_declaration, show_single_declaration_no_type, show_tail, show_init_declarator_list, show_block, show_declaration, show_arrayed_identifier, optional}
use Rattle.text.specs.Reading.{prototype_of, parameter_of, declarators_of, single_of, declarator_of, initializer_of, block_of, declaration_of}
use Rattle.formed.specs.Formed.{Each, FormedParameter, FormedPrototype, FormedInitializer, FormedSomeInitializers, FormedInitializers, FormedSingle, FormedDeclarator, FormedDeclarators, FormedBlock, FormedDeclaration}
use Rattle.formed.proofs.Precision.{precision_formed}
use Rattle.formed.proofs.Declared.{parameter_formed}
use Rattle.bounded.proofs.Weight.{weighs}
use Rattle.bounded.proofs.Texts.{name_short}
use Rattle.bounded.proofs.Fits.{between, own_line, sums}
use Rattle.bounded.proofs.Plan.{Light, Part, parts, row, kind, variant, list, reading, Holds, expr, type, identifier, qualifier, spec, full_type, prototype, parameter, declarators, single, declarator, initializer, block}
use Rattle.bounded.proofs.Plan.Plan.{give, ◌and◌, ◌with◌}
use Rattle.bounded.proofs.Optional.{weighs_declared, array_if, qualification_if, maybe}
use Rattle.bounded.proofs.Types.{fields}

-- a list that must have an item is a list
initializers_formed : (is : Initializers) → FormedSomeInitializers is → FormedInitializers is
unfolding FormedInitializers
initializers_formed Initializers.no_initializers h = absurd h
initializers_formed (Initializers.initializers i is) h = h

module _ {collapse : Bool} where
  -- lists
  unfoldable parameters : ℕ → Part collapse (List FunctionParameterDeclaration)
  unfolding Each show_parameters weighs
  parameters =
      list parameter [] ◌∷◌ (Each FormedParameter) show_parameters (λ f h. omega arith)
      (λ x a y b f h. simp sums (omega (arith, a.weight, (b false).weight h.1)))

  unfoldable initializers : ℕ → Part collapse Initializers
  unfolding FormedInitializers show_initializers weighs
  initializers =
      list initializer Initializers.no_initializers Initializers.initializers FormedInitializers show_initializers (λ f h. omega arith)
      (λ x a y b f h. simp sums (omega (arith, a.weight, (b false).weight h.1)))

  unfoldable next_declarators : ℕ → Part collapse (List SingleDeclarationNoType)
  unfolding Each show_tail weighs
  next_declarators =
      list declarator [] ◌∷◌ (Each FormedDeclarator) (λ ds f. show_tail ds) (λ f h. omega arith)
      (λ x a y b f h. simp sums (omega (arith, a.weight, (b f).weight h.1)))

  -- what may be there
  unfoldable initialized : Bool → Part collapse (Option Initializer)
  unfolding show_initialized weighs
  initialized = maybe initializer show_initialized (omega arith) (λ x. omega arith)

  unfoldable block_name : Bool → Part collapse (Option ArrayedIdentifier)
  unfolding optional weighs
  block_name = maybe identifier (optional show_arrayed_identifier) (omega arith) (λ x. omega arith)

module _ (collapse : Bool) (ns : List ℕ) (r : Record) where
  pub prototypes_fit : Light collapse FormedPrototype show_function_prototype 0 (prototype_of ns r)
  unfolding prototype_of parameters FormedPrototype show_function_prototype weighs reading Holds
  prototypes_fit =
      kind r 40 (row (give (FunctionPrototype.prototype (text_of ns r)) and full_type and parameters r.count)
      (λ x a y b h. simp sums (omega (arith, a.weight h.1, b.weight h.2, name_short (text_of ns r) (ordinary_name (text_of ns r) h.0)))))
      (parts (give FunctionPrototype.no_prototype) (λ h. absurd h))

  pub parameters_fit : Light collapse FormedParameter show_function_parameter_declaration between (parameter_of ns r)
  unfolding parameter_of FormedParameter show_function_parameter_declaration weighs reading Holds
  parameters_fit =
      kind r 41 (variant (bit0 r.variant)
      (row (give FunctionParameterDeclaration.Named and qualification_if (bit1 r.variant) and type and identifier)
      (λ x a y b z c h. simp sums (omega (arith, a.weight, b.weight, c.weight (parameter_formed z.tree h.2)))))
      (row (give FunctionParameterDeclaration.Unnamed and qualification_if (bit1 r.variant) and type)
      (λ x a y b h. simp sums (omega (arith, a.weight, b.weight)))))
      (parts (give FunctionParameterDeclaration.no_parameter) (λ h. absurd h))

  pub declarators_fit : Light collapse FormedDeclarators show_init_declarator_list 0 (declarators_of ns r)
  unfolding declarators_of next_declarators FormedDeclarators show_init_declarator_list weighs reading Holds
  declarators_fit =
      kind r 42 (row (give InitDeclaratorList.declarators and single and next_declarators r.count) (λ x a y b h. simp sums (omega (arith, a.weight, b.weight))))
      (parts (give InitDeclaratorList.no_declarators) (λ h. absurd h))

  pub singles_fit : Light collapse FormedSingle show_single_declaration 0 (single_of ns r)
  unfolding single_of initialized FormedSingle show_single_declaration weighs reading Holds
  singles_fit =
      kind r 43 (row (give SingleDeclaration.single and full_type with cond (bit0 r.variant) (some (text_of ns r)) none and array_if (bit1 r.variant) and initialized (bit2 r.variant))
      (λ x a y b z c h. simp sums (omega (
        arith,
        a.weight h.0,
        weighs_declared (cond (bit0 r.variant) (some (text_of ns r)) none) h.1,
        b.weight h.2,
        c.weight h.3,
      ))))
      (parts (give SingleDeclaration.no_single) (λ h. absurd h))

  pub next_declarators_fit : Light collapse FormedDeclarator show_single_declaration_no_type between (declarator_of ns r)
  unfolding declarator_of initialized FormedDeclarator show_single_declaration_no_type weighs reading Holds
  next_declarators_fit =
      kind r 44 (row (give SingleDeclarationNoType.declarator and identifier and initialized (eqb r.variant 1))
      (λ x a y b h. simp sums (omega (arith, a.weight h.0, b.weight h.1))))
      (parts (give SingleDeclarationNoType.no_declarator) (λ h. absurd h))

  pub initializers_fit : Light collapse FormedInitializer show_initializer between (initializer_of ns r)
  unfolding initializer_of initializers FormedInitializer show_initializer weighs reading Holds
  initializers_fit =
      kind r 45 (variant (eqb r.variant 0) (row (give Initializer.Simple and expr) (λ x a h. omega (arith, a.weight h)))
      (row (give Initializer.ListOf and initializers r.count) (λ x a h. simp sums (omega (arith, a.weight (initializers_formed x.tree h))))))
      (parts (give Initializer.no_initializer) (λ h. absurd h))

  pub blocks_fit : Light collapse FormedBlock show_block 0 (block_of ns r)
  unfolding block_of fields block_name FormedBlock show_block weighs reading Holds
  blocks_fit =
      kind r 46 (row (give (Block.block (text_of ns r)) and qualifier and fields r.count and block_name (eqb r.variant 1))
      (λ x a y b z c h. simp sums (omega (arith, name_short, a.weight h.1, b.weight h.2, c.weight h.3))))
      (parts (give Block.no_block) (λ h. absurd h))

  pub declarations_fit : Light collapse FormedDeclaration show_declaration own_line (declaration_of ns r)
  unfolding declaration_of FormedDeclaration show_declaration weighs reading Holds
  declarations_fit =
      kind r 47 (variant (eqb r.variant 0) (row (give Declaration.OfPrototype and prototype) (λ x a h. simp sums (omega (arith, a.weight h))))
      (variant (eqb r.variant 1) (row (give Declaration.OfDeclarators and declarators) (λ x a h. simp sums (omega (arith, a.weight h))))
      (variant (eqb r.variant 2) (row (give Declaration.Precision and spec and type)
      (λ x a y b h. simp sums (omega (arith, a.weight (precision_formed x.tree h.0), b.weight h.1))))
      (variant (eqb r.variant 3) (row (give Declaration.OfBlock and block) (λ x a h. simp sums (omega (arith, a.weight h))))
      (variant (eqb r.variant 4) (row (give (Declaration.Invariant (text_of ns r))) (λ h. omega (arith, name_short)))
      (row (give Declaration.TypeOnly and qualifier) (λ x a h. simp sums (omega (arith, a.weight h)))))))))
      (parts (give Declaration.no_declaration) (λ h. absurd h))
