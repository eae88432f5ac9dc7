-- Declarations (01, kinds 40 to 47). Assumes nothing.
use mathlib.Core.Bool.{Bool, true, false}
use mathlib.Core.List.{List, [], ◌∷◌}
use mathlib.Core.Option.{Option, none, some}
use Prim.Native.Nat.{ℕ}
use Rattle.records.specs.Record.{part}
use Rattle.shapes.specs.Class.Class.{expr, type, identifier, parameter_identifier, qualifier, precision, full_type, prototype, parameter, declarators, single, declarator, initializer, block, declaration}
use Rattle.text.specs.Tree.{Identifier, FunctionParameterDeclaration, FunctionPrototype, Initializer, Initializers, SingleDeclaration, SingleDeclarationNoType, InitDeclaratorList, Block, Declaration}
use Rattle.formed.specs.Formed.{Name, IfThere, Each, FormedParameter, FormedDeclarator, FormedInitializers, FormedSingle, FormedBlock}
use Rattle.formed.proofs.Plan.{Items, items, Row, ◌so◌, reads}
use Rattle.formed.proofs.Plan.Plan.{give, one, several, some as SomeOf, ◌and◌}
use Rattle.formed.proofs.Optional.{maybe, maybe_holds, array_if, array_if_holds, qualification_if, qualification_if_holds}
use Rattle.text.proofs.Span.{Span, ◌then◌}
use Rattle.formed.proofs.Kind.{Kind, by_variant}
use Rattle.formed.proofs.Opened.{opened}
use Rattle.formed.proofs.Types.{fields}

-- lists
unfoldable parameters : Items parameter (List FunctionParameterDeclaration)
unfolding opened
parameters = items [] ◌∷◌ (Each FormedParameter) tt (λ x p y q. (p, q))

unfoldable next_declarators : Items declarator (List SingleDeclarationNoType)
unfolding opened
next_declarators = items [] ◌∷◌ (Each FormedDeclarator) tt (λ x p y q. (p, q))

unfoldable initializers : Items initializer Initializers
unfolding opened
initializers = items Initializers.no_initializers Initializers.initializers FormedInitializers tt (λ x p y q. (p, q))

-- what several variants share
unnamed_row : Bool → Row FormedParameter
unfolding opened
unnamed_row b = give FunctionParameterDeclaration.Unnamed and qualification_if b and one type so qualification_if_holds b (λ x p y q. (p, q))

named_row : Bool → Row FormedParameter
unfolding opened
named_row b =
    give FunctionParameterDeclaration.Named and qualification_if b and one type and one parameter_identifier
    so qualification_if_holds b (λ x p y q z r. (p, q, r))

single_row : (s : Option Identifier) → IfThere Name s → Bool → Bool → Row FormedSingle
unfolding opened
single_row s h b d =
    give SingleDeclaration.single and one full_type and give s and array_if b and maybe d initializer
    so λ x p. array_if_holds b (λ y q. maybe_holds d initializer (λ z r. (p, h, q, r)))

declarator_row : Bool → Row FormedDeclarator
unfolding opened
declarator_row b = give SingleDeclarationNoType.declarator and one identifier and maybe b initializer so λ x p. maybe_holds b initializer (λ y q. (p, q))

block_row : (s : Identifier) → Name s → ℕ → Bool → Row FormedBlock
unfolding opened fields
block_row s h n b =
    give (Block.block s) and one qualifier and several n fields and maybe b identifier
    so λ x p y q. maybe_holds b identifier (λ z r. (h, p, q, r))

module _ (rs ns : List ℕ) where
  pub prototype_kind : Kind rs ns prototype 40
  unfolding opened parameters
  prototype_kind v t n a b f =
      reads rs ns (give (FunctionPrototype.prototype (part ns a b)) and one full_type and several n parameters so λ x p y q. (f.text, p, q))

  pub parameter_kind : Kind rs ns parameter 41
  unfolding opened unnamed_row named_row Span
  parameter_kind = by_variant rs ns parameter 41 (
      (λ n a b f. reads rs ns (unnamed_row false))
      then (λ n a b f. reads rs ns (named_row false))
      then (λ n a b f. reads rs ns (unnamed_row true))
      then (λ n a b f. reads rs ns (named_row true))
      then tt)

  pub declarators_kind : Kind rs ns declarators 42
  unfolding opened next_declarators
  declarators_kind v t n a b f = reads rs ns (give InitDeclaratorList.declarators and one single and several n next_declarators so λ x p y q. (p, q))

  pub single_kind : Kind rs ns single 43
  unfolding opened single_row Span
  single_kind = by_variant rs ns single 43 (
      (λ n a b f. reads rs ns (single_row none tt false false))
      then (λ n a b f. reads rs ns (single_row (some (part ns a b)) f.text false false))
      then (λ n a b f. reads rs ns (single_row none tt true false))
      then (λ n a b f. reads rs ns (single_row (some (part ns a b)) f.text true false))
      then (λ n a b f. reads rs ns (single_row none tt false true))
      then (λ n a b f. reads rs ns (single_row (some (part ns a b)) f.text false true))
      then (λ n a b f. reads rs ns (single_row none tt true true))
      then (λ n a b f. reads rs ns (single_row (some (part ns a b)) f.text true true))
      then tt)

  pub declarator_kind : Kind rs ns declarator 44
  unfolding opened declarator_row Span
  declarator_kind = by_variant rs ns declarator 44 ((λ n a b f. reads rs ns (declarator_row false)) then (λ n a b f. reads rs ns (declarator_row true)) then tt)

  pub initializer_kind : Kind rs ns initializer 45
  unfolding opened initializers Span
  initializer_kind = by_variant rs ns initializer 45 (
      (λ n a b f. reads rs ns (give Initializer.Simple and one expr so λ x p. p))
      then (λ n a b f. reads rs ns (give Initializer.ListOf and SomeOf n f.count initializers so λ x p y q. (p, q)))
      then tt)

  pub block_kind : Kind rs ns block 46
  unfolding opened block_row fields Span
  block_kind = by_variant rs ns block 46 (
      (λ n a b f. reads rs ns (block_row (part ns a b) f.text n false))
      then (λ n a b f. reads rs ns (block_row (part ns a b) f.text n true))
      then tt)

  pub declaration_kind : Kind rs ns declaration 47
  unfolding opened Span
  declaration_kind = by_variant rs ns declaration 47 (
      (λ n a b f. reads rs ns (give Declaration.OfPrototype and one prototype so λ x p. p))
      then (λ n a b f. reads rs ns (give Declaration.OfDeclarators and one declarators so λ x p. p))
      then (λ n a b f. reads rs ns (give Declaration.Precision and one precision and one type so λ x p y q. (p, q)))
      then (λ n a b f. reads rs ns (give Declaration.OfBlock and one block so λ x p. p))
      then (λ n a b f. reads rs ns (give (Declaration.Invariant (part ns a b)) so f.text))
      then (λ n a b f. reads rs ns (give Declaration.TypeOnly and one qualifier so λ x p. p))
      then tt)
