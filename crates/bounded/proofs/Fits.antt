-- What it means that a reading fits its records: where its tree is formed, its commands weigh no more than so much a record. Assumes nothing.
use mathlib.Core.Path.{◌≡◌, subst, sym}
use mathlib.Core.Bool.{Bool, true, false, cond}
use mathlib.Core.List.{List, [], ◌∷◌}
use Prim.Native.Nat.{ℕ, ◌+◌, ◌*◌, ◌≤◌, min}
use native.Mathlib.Omega.{arith}
use lib.ListN.{drop}
use lib.Seq.{drop-drop}
use Rattle.words.specs.Symbol.{Symbol}
use Rattle.text.specs.Asked.{Flag}
use Rattle.text.specs.Command.{Command, symbol, exit_block, exit_collapsed_compound_statement}
use Rattle.text.specs.Reading as Reading
use Rattle.text.specs.Reading.{Read, Item}
use Rattle.text.specs.Text.{bare_if, apart, parenthesized, separator, braced_or_collapsed, space_between, show_expr, show_type_specifier, show_type_specifier_non_array, show_array_spec, show_dimension, show_struct_field, show_arrayed_identifier, show_type_qualifier, show_type_qualifier_spec, show_layout_qualifier_spec, show_fully_specified_type, show_function_prototype, show_function_parameter_declaration, show_init_declarator_list, show_single_declaration, show_single_declaration_no_type, show_initializer, show_block, show_declaration, show_statements, show_statement, show_condition, show_for_init_statement, show_external_declaration, show_translation_unit}
use Rattle.formed.specs.Formed.{FormedExpr, FormedType, FormedBase, FormedDimensions, FormedDimension, FormedField, FormedIdentifier, FormedQualifier, FormedSpec, FormedId, FormedFullType, FormedPrototype, FormedParameter, FormedDeclarators, FormedSingle, FormedDeclarator, FormedInitializer, FormedBlock, FormedDeclaration, FormedStatements, FormedStatement, FormedCondition, FormedForInit, FormedExternal, FormedUnit}
use Rattle.bounded.proofs.Weight.{level_weight, record_weight, line_weight, weighs, weighs_append}

-- a formed tree's commands, and so much more for what stands around them, weigh no more than its records may
pub record Fits {A : Type 0} (Formed : A → Type 0) (show : A → List Command) (more : ℕ) (x : Read A) : Type 0 where
  pub weight : Formed x.tree → weighs (show x.tree) + more ≤ record_weight * x.size

abbrev pub fits :
    {A : Type 0} {Formed : A → Type 0} {show : A → List Command} {more : ℕ} {x : Read A}
    → (Formed x.tree → weighs (show x.tree) + more ≤ record_weight * x.size) → Fits Formed show more x
fits h = record { weight = h }

-- around an item of a list stands a separator, around a struct's field a line and its end; a declaration as a statement has a line before it
abbrev pub between : ℕ
between = 10

abbrev pub own_line : ℕ
own_line = line_weight + between

-- what stands first of some records fits as every sort of tree that it can be
pub record Fit (collapse : Bool) (L : List Item) : Type 0 where
  pub expr : Fits FormedExpr show_expr between (Reading.expr L)
  pub type : Fits FormedType show_type_specifier between (Reading.type L)
  pub base : Fits FormedBase show_type_specifier_non_array 0 (Reading.base L)
  pub array : Fits FormedDimensions show_array_spec 0 (Reading.array L)
  pub dimension : Fits FormedDimension show_dimension 0 (Reading.dimension L)
  pub field : Fits FormedField show_struct_field own_line (Reading.field L)
  pub identifier : Fits FormedIdentifier show_arrayed_identifier between (Reading.identifier L)
  pub qualifier : Fits FormedQualifier (λ q. show_type_qualifier q true) between (Reading.qualifier L)
  pub spec : Fits FormedSpec show_type_qualifier_spec between (Reading.spec L)
  pub layout_id : Fits FormedId show_layout_qualifier_spec between (Reading.layout_id L)
  pub full_type : Fits FormedFullType show_fully_specified_type 0 (Reading.full_type L)
  pub prototype : Fits FormedPrototype show_function_prototype 0 (Reading.prototype L)
  pub parameter : Fits FormedParameter show_function_parameter_declaration between (Reading.parameter L)
  pub declarators : Fits FormedDeclarators show_init_declarator_list 0 (Reading.declarators L)
  pub single : Fits FormedSingle show_single_declaration 0 (Reading.single L)
  pub declarator : Fits FormedDeclarator show_single_declaration_no_type between (Reading.declarator L)
  pub initializer : Fits FormedInitializer show_initializer between (Reading.initializer L)
  pub block : Fits FormedBlock show_block 0 (Reading.block L)
  pub declaration : Fits FormedDeclaration show_declaration own_line (Reading.declaration L)
  pub compound : Fits FormedStatements (show_statements collapse) 0 (Reading.compound L)
  pub statement : Fits FormedStatement (show_statement collapse) 0 (Reading.statement L)
  pub condition : Fits FormedCondition show_condition 0 (Reading.condition L)
  pub for_init : Fits FormedForInit show_for_init_statement 0 (Reading.for_init L)
  pub external : Fits FormedExternal (show_external_declaration collapse) 0 (Reading.external L)
  pub unit : Fits FormedUnit (show_translation_unit collapse) 0 (Reading.unit L)

-- each of some records does
abbrev pub AllFit : Bool → List Item → Type 0
AllFit collapse L = (k : ℕ) → Fit collapse (drop k L)

pub behind_fit : (collapse : Bool) (j : ℕ) (L : List Item) → AllFit collapse L → AllFit collapse (drop j L)
behind_fit collapse j L all k = subst (Fit collapse) (sym (drop-drop k j L)) (all (j + k))

-- What may stand around a part, as equations for `simp`; `min` tells `omega` how much it is at most.

abbrev brackets : Bool → ℕ
brackets true = 0
brackets false = 6

pub weighs_bare : (b : Bool) (cs : List Command) → weighs (bare_if b cs) ≡ min 6 (brackets b) + weighs cs
unfolding weighs
weighs_bare true cs = omega arith
weighs_bare false cs = omega (arith, weighs_append cs (symbol Symbol.right_paren ∷ []))

-- a space that is needed
abbrev gaps : Bool → ℕ
gaps true = 1
gaps false = 0

pub weighs_apart : (b : Bool) (f : Flag) (cs : List Command) → weighs (apart b f cs) ≡ min 1 (gaps b) + weighs cs
unfolding weighs
weighs_apart true f cs = omega arith
weighs_apart false f cs = omega arith

-- a list of types that is not there has no brackets
pub weighs_unless : (b : Bool) (cs : List Command) → weighs (cond b [] (parenthesized cs)) ≤ 6 + weighs cs
unfolding weighs
weighs_unless true cs = omega arith
weighs_unless false cs = omega (arith, weighs_append cs (symbol Symbol.right_paren ∷ []))

abbrev separators : Bool → ℕ
separators true = 0
separators false = 4

pub weighs_separator : (b : Bool) → weighs (separator b) ≡ min 4 (separators b)
unfolding weighs
weighs_separator true = omega arith
weighs_separator false = omega arith

pub weighs_space_between : (b : Bool) → weighs (space_between b) ≡ min 1 (separators b)
unfolding weighs
weighs_space_between true = omega arith
weighs_space_between false = omega arith

-- a compound statement, collapsed or not
abbrev block_weight : Bool → ℕ
block_weight true = level_weight
block_weight false = level_weight + line_weight + 7

pub weighs_compound : (b : Bool) (cs : List Command) → weighs (braced_or_collapsed b cs) ≡ min (level_weight + line_weight + 7) (block_weight b) + weighs cs
unfolding weighs
weighs_compound true cs = omega (arith, weighs_append cs exit_collapsed_compound_statement)
weighs_compound false cs = omega (arith, weighs_append cs exit_block)

pub ruleset sums = (weighs_append, weighs_bare, weighs_apart, weighs_separator, weighs_space_between, weighs_compound)
