-- Statements and the unit (01, kinds 60 to 81). Assumes nothing.
use mathlib.Core.Path.{◌≡◌}
use mathlib.Core.Bool.{Bool, true}
use mathlib.Core.List.{List, [], ◌∷◌}
use mathlib.Core.Option.{Option, none, some}
use Prim.Native.Nat.{ℕ, ◌+◌, ◌≤◌}
use native.Mathlib.Omega.{arith}
use lib.Dec.{eqb}
use Rattle.records.specs.declared.Record.{Record}
use Rattle.records.specs.Record.{text_of, bit0, bit1}
use Rattle.text.specs.Command.{Command}
use Rattle.text.specs.Tree.{Expr, Condition, ForInitStatement, JumpStatement, Statement, Statements, ExternalDeclaration}
use Rattle.text.specs.Text.{show_expr, show_condition, show_for_init_statement, show_jump_statement, show_statement, show_statements, show_function_definition, show_external_declaration, show_translation_unit, optional}
use Rattle.text.specs.Reading.{compound_of, statement_of, condition_of, for_init_of, external_of, unit_of}
use Rattle.formed.specs.Formed.{Each, FormedCondition, FormedForInit, FormedJump, FormedStatement, FormedStatements, FormedExternal, FormedUnit}
use Rattle.bounded.proofs.Weight.{record_weight, weighs}
use Rattle.bounded.proofs.Texts.{name_short}
use Rattle.bounded.proofs.Fits.{fits, sums}
use Rattle.bounded.proofs.Plan.{Light, light, Part, part, parts, row, kind, variant, either, known, knowing, list, reading, Holds, expr, full_type, prototype, initializer, declaration, compound, statement, condition, for_init, external}
use Rattle.bounded.proofs.Plan.Plan.{give, one, ◌and◌}
use Rattle.bounded.proofs.Optional.{maybe}
use Rattle.bounded.proofs.Declarations.{declarations_fit}

module _ {collapse : Bool} where
  -- lists
  unfoldable statements : ℕ → Part collapse Statements
  unfolding FormedStatements show_statements weighs
  statements =
      list statement Statements.no_statements Statements.statements FormedStatements (λ ss f. show_statements collapse ss) (λ f h. omega arith)
      (λ x a y b f h. simp sums (omega (arith, a.weight, (b f).weight h.1)))

  unfoldable externals : ℕ → Part collapse (List ExternalDeclaration)
  unfolding Each show_translation_unit weighs
  externals =
      list external [] ◌∷◌ (Each FormedExternal) (λ ds f. show_translation_unit collapse ds) (λ f h. omega arith)
      (λ x a y b f h. simp sums (omega (arith, a.weight, (b f).weight h.1)))

  -- what may be there
  unfoldable optional_expr : Bool → Part collapse (Option Expr)
  unfolding optional weighs
  optional_expr = maybe expr (optional show_expr) (omega arith) (λ x. omega arith)

  unfoldable optional_condition : Bool → Part collapse (Option Condition)
  unfolding optional weighs
  optional_condition = maybe condition (optional show_condition) (omega arith) (λ x. omega arith)

-- the expression of a jump: its word and its end are the statement's
abbrev returned : JumpStatement → List Command
returned JumpStatement.Continue = []
returned JumpStatement.Break = []
returned JumpStatement.Discard = []
returned (JumpStatement.Return none) = []
returned (JumpStatement.Return (some e)) = show_expr e

weighs_jump : (j : JumpStatement) → weighs (show_jump_statement j) ≤ weighs (returned j) + 100
unfolding show_jump_statement weighs
weighs_jump JumpStatement.Continue = omega arith
weighs_jump JumpStatement.Break = omega arith
weighs_jump JumpStatement.Discard = omega arith
weighs_jump (JumpStatement.Return none) = omega arith
weighs_jump (JumpStatement.Return (some e)) = simp sums (omega arith)

module _ (collapse : Bool) (ns : List ℕ) (r : Record) where
  unfoldable jump : Part collapse JumpStatement
  unfolding FormedJump weighs reading Holds
  jump = part {Formed = FormedJump} {show = returned} {more = 0}
      (either (eqb r.variant 0) (parts (give JumpStatement.Continue) (λ h. omega arith))
      (either (eqb r.variant 1) (parts (give JumpStatement.Break) (λ h. omega arith))
      (either (eqb r.variant 2) (parts (give JumpStatement.Discard) (λ h. omega arith))
      (either (eqb r.variant 3) (parts (give (JumpStatement.Return none)) (λ h. omega arith))
      (parts (give (λ e. JumpStatement.Return (some e)) and expr) (λ x a h. omega (arith, a.weight h)))))))

  pub compounds_fit : Light collapse FormedStatements (show_statements collapse) 0 (compound_of ns r)
  unfolding compound_of statements FormedStatements show_statements weighs reading Holds
  compounds_fit =
      kind r 60 (row (one (statements r.count)) (λ x a h. omega (arith, a.weight h)))
      (parts (give Statements.no_statements) (λ h. omega arith))

  -- as a statement it has a line and a block around it, which its record may weigh
  compound_statement : eqb r.kind 60 ≡ true → Light collapse FormedStatements (show_statements collapse) record_weight (compound_of ns r)
  unfolding compound_of statements reading Holds
  compound_statement e = known _ (eqb r.kind 60) e (row (one (statements r.count)) (λ x a h. omega (arith, a.weight h)))

  pub statements_fit : Light collapse FormedStatement (show_statement collapse) 0 (statement_of ns r)
  unfolding statement_of statements optional_expr optional_condition jump FormedStatement show_statement weighs reading Holds
  statements_fit =
      either (eqb r.kind 47) (light (λ L all. fits (λ h. omega (arith, ((declarations_fit collapse ns r).light L all).weight h))))
      (knowing (eqb r.kind 60) (λ e. light (λ L all. fits (λ h. simp sums (omega (arith, ((compound_statement e).light L all).weight h)))))
      (kind r 61 (row (give Statement.Expression and optional_expr (eqb r.variant 1)) (λ x a h. simp sums (omega (arith, a.weight h))))
      (kind r 62 (variant (eqb r.variant 0) (row (give Statement.If and expr and statement) (λ x a y b h. simp sums (omega (arith, a.weight, b.weight))))
      (row (give Statement.IfElse and expr and statement and statement) (λ x a y b z c h. simp sums (omega (arith, a.weight, b.weight, c.weight)))))
      (kind r 63 (row (give Statement.Switch and expr and statements r.count) (λ x a y b h. simp sums (omega (arith, a.weight, b.weight))))
      (kind r 64 (variant (eqb r.variant 0) (row (give Statement.Default) (λ h. omega arith))
      (row (give Statement.Case and expr) (λ x a h. simp sums (omega (arith, a.weight h)))))
      (kind r 65 (row (give Statement.While and condition and statement) (λ x a y b h. simp sums (omega (arith, a.weight, b.weight))))
      (kind r 66 (row (give Statement.DoWhile and statement and expr) (λ x a y b h. simp sums (omega (arith, a.weight, b.weight))))
      (kind r 67 (row (give Statement.For and for_init and optional_condition (bit0 r.variant) and optional_expr (bit1 r.variant) and statement)
      (λ x a y b z c u d h. simp sums (omega (arith, a.weight h.0, b.weight h.1, c.weight h.2, d.weight h.3))))
      (kind r 68 (row (give Statement.OfJump and jump) (λ x a h. omega (arith, a.weight h, weighs_jump x.tree)))
      (parts (give Statement.no_statement) (λ h. absurd h)))))))))))

  pub conditions_fit : Light collapse FormedCondition show_condition 0 (condition_of ns r)
  unfolding condition_of FormedCondition show_condition weighs reading Holds
  conditions_fit =
      kind r 69 (variant (eqb r.variant 0) (row (give Condition.OfExpr and expr) (λ x a h. omega (arith, a.weight h)))
      (row (give (Condition.Assignment (text_of ns r)) and full_type and initializer)
      (λ x a y b h. simp sums (omega (arith, name_short, a.weight h.1, b.weight h.2)))))
      (parts (give Condition.no_condition) (λ h. absurd h))

  pub for_inits_fit : Light collapse FormedForInit show_for_init_statement 0 (for_init_of ns r)
  unfolding for_init_of FormedForInit show_for_init_statement optional weighs reading Holds
  for_inits_fit =
      kind r 70 (variant (eqb r.variant 0) (row (give (ForInitStatement.Expression none)) (λ h. omega arith))
      (variant (eqb r.variant 1) (row (give (λ e. ForInitStatement.Expression (some e)) and expr) (λ x a h. simp sums (omega (arith, a.weight h))))
      (row (give ForInitStatement.OfDeclaration and declaration) (λ x a h. omega (arith, a.weight h)))))
      (parts (give ForInitStatement.no_for_init) (λ h. absurd h))

  pub externals_fit : Light collapse FormedExternal (show_external_declaration collapse) 0 (external_of ns r)
  unfolding external_of FormedExternal show_external_declaration show_function_definition weighs reading Holds
  externals_fit =
      either (eqb r.kind 47) (light (λ L all. fits (λ h. omega (arith, ((declarations_fit collapse ns r).light L all).weight h))))
      (kind r 81 (row (give ExternalDeclaration.FunctionDefinition and prototype and compound) (λ x a y b h. simp sums (omega (arith, a.weight, b.weight))))
      (parts (give ExternalDeclaration.no_external) (λ h. absurd h)))

  pub units_fit : Light collapse FormedUnit (show_translation_unit collapse) 0 (unit_of ns r)
  unfolding unit_of externals show_translation_unit weighs reading Holds
  units_fit =
      kind r 80 (row (one (externals r.count)) (λ x a h. omega (arith, a.weight h)))
      (parts (give []) (λ h. omega arith))
