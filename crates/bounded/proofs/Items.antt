-- Every record fits, as every sort of tree: whatever the records and names. Assumes nothing.
use mathlib.Core.Bool.{Bool}
use mathlib.Core.List.{List, []}
use Prim.Native.Nat.{ℕ, zero, suc, ◌+◌, ◌-◌}
use native.Mathlib.Omega.{arith}
use Rattle.records.specs.declared.Record.{Record}
use Rattle.records.specs.Record.{record_at, record_count}
use Rattle.text.specs.Text.{show_array_spec, show_statements, show_translation_unit}
use Rattle.text.specs.Reading.{Item, first, item_of, onto, items, from}
use Rattle.formed.specs.Formed.{FormedExpr, FormedFullType, FormedPrototype, FormedParameter, FormedDeclarators, FormedSingle, FormedDeclarator, FormedInitializer, FormedBlock, FormedDeclaration, FormedStatement, FormedCondition, FormedForInit, FormedExternal}
use Rattle.bounded.proofs.Weight.{weighs}
use Rattle.bounded.proofs.Fits.{fits, Fit, AllFit}
use Rattle.bounded.proofs.Exprs.{exprs_fit}
use Rattle.bounded.proofs.Types.{types_fit, bases_fit, arrays_fit, dimensions_fit, fields_fit, identifiers_fit, qualifiers_fit, specs_fit, layout_ids_fit, full_types_fit}
use Rattle.bounded.proofs.Declarations.{prototypes_fit, parameters_fit, declarators_fit, singles_fit, next_declarators_fit, initializers_fit, blocks_fit, declarations_fit}
use Rattle.bounded.proofs.Statements.{compounds_fit, statements_fit, conditions_fit, for_inits_fit, externals_fit, units_fit}

module _ (collapse : Bool) where
  -- what is no record is not formed, or writes nothing
  nothing_fits : Fit collapse []
  unfolding first FormedExpr FormedFullType FormedPrototype FormedParameter FormedDeclarators FormedSingle FormedDeclarator FormedInitializer FormedBlock FormedDeclaration FormedStatement FormedCondition FormedForInit FormedExternal show_array_spec show_statements show_translation_unit weighs
  nothing_fits = record {
    expr = fits (λ h. absurd h);
    type = fits (λ h. absurd h);
    base = fits (λ h. absurd h);
    array = fits (λ h. omega arith);
    dimension = fits (λ h. absurd h);
    field = fits (λ h. absurd h);
    identifier = fits (λ h. absurd h);
    qualifier = fits (λ h. absurd h);
    spec = fits (λ h. absurd h);
    layout_id = fits (λ h. absurd h);
    full_type = fits (λ h. absurd h);
    prototype = fits (λ h. absurd h);
    parameter = fits (λ h. absurd h);
    declarators = fits (λ h. absurd h);
    single = fits (λ h. absurd h);
    declarator = fits (λ h. absurd h);
    initializer = fits (λ h. absurd h);
    block = fits (λ h. absurd h);
    declaration = fits (λ h. absurd h);
    compound = fits (λ h. omega arith);
    statement = fits (λ h. absurd h);
    condition = fits (λ h. absurd h);
    for_init = fits (λ h. absurd h);
    external = fits (λ h. absurd h);
    unit = fits (λ h. omega arith);
  }

  module _ (ns : List ℕ) where
    record_fits : (r : Record) (L : List Item) → AllFit collapse L → Fit collapse (onto ns r L)
    unfolding first item_of
    record_fits r L all = record {
      expr = (exprs_fit collapse ns r).light L all;
      type = (types_fit collapse ns r).light L all;
      base = (bases_fit collapse ns r).light L all;
      array = (arrays_fit collapse ns r).light L all;
      dimension = (dimensions_fit collapse ns r).light L all;
      field = (fields_fit collapse ns r).light L all;
      identifier = (identifiers_fit collapse ns r).light L all;
      qualifier = (qualifiers_fit collapse ns r).light L all;
      spec = (specs_fit collapse ns r).light L all;
      layout_id = (layout_ids_fit collapse ns r).light L all;
      full_type = (full_types_fit collapse ns r).light L all;
      prototype = (prototypes_fit collapse ns r).light L all;
      parameter = (parameters_fit collapse ns r).light L all;
      declarators = (declarators_fit collapse ns r).light L all;
      single = (singles_fit collapse ns r).light L all;
      declarator = (next_declarators_fit collapse ns r).light L all;
      initializer = (initializers_fit collapse ns r).light L all;
      block = (blocks_fit collapse ns r).light L all;
      declaration = (declarations_fit collapse ns r).light L all;
      compound = (compounds_fit collapse ns r).light L all;
      statement = (statements_fit collapse ns r).light L all;
      condition = (conditions_fit collapse ns r).light L all;
      for_init = (for_inits_fit collapse ns r).light L all;
      external = (externals_fit collapse ns r).light L all;
      unit = (units_fit collapse ns r).light L all;
    }

    none_fit : AllFit collapse []
    none_fit zero = nothing_fits
    none_fit (suc k) = nothing_fits

    more_fit : (r : Record) (L : List Item) → AllFit collapse L → AllFit collapse (onto ns r L)
    more_fit r L all zero = record_fits r L all
    more_fit r L all (suc k) = all k

    items_fit : (rs : List ℕ) (n i : ℕ) → AllFit collapse (items n rs ns i)
    unfolding items
    items_fit rs zero i = none_fit
    items_fit rs (suc n) i = more_fit (record_at rs i) (items n rs ns (i + 1)) (items_fit rs n (i + 1))

    pub item_fits : (rs : List ℕ) (i : ℕ) → Fit collapse (from rs ns i)
    unfolding from
    item_fits rs i = items_fit rs (record_count rs - i) i 0
