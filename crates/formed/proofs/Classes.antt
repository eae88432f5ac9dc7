-- Every class takes only kinds that are read as what it asks for. Assumes nothing.
use mathlib.Core.Path.{◌≡◌}
use mathlib.Core.Bool.{true}
use mathlib.Core.List.{List}
use Prim.Native.Nat.{ℕ, ◌<◌}
use native.Mathlib.Omega.{arith}
use borrow.Author.Tests.{ne_eqb}
use Rattle.shapes.specs.Class.{Class, allowed, takes_kind}
use Rattle.text.specs.Tree.{FunIdentifier}
use Rattle.text.specs.Reading.{Read, applied, nothing}
use Rattle.formed.proofs.As.{Reads}
use Rattle.text.proofs.Span.{Span, map}
use Rattle.formed.proofs.Span.{Taken, taken}
use Rattle.formed.proofs.Kind.{Kind}
use Rattle.formed.proofs.Opened.{opened}
use Rattle.formed.proofs.Exprs.{exprs}
use Rattle.formed.proofs.Types.{type_kind, base_kinds, array_kind, dimension_kind, field_kind, identifier_kind, parameter_identifier_kind, qualifier_kind, spec_kind, precision_kind, layout_id_kind, full_type_kind}
use Rattle.formed.proofs.Declarations.{prototype_kind, parameter_kind, declarators_kind, single_kind, declarator_kind, initializer_kind, block_kind, declaration_kind}
use Rattle.formed.proofs.Statements.{compound_kind, declaration_statement, statement_kinds, condition_kind, for_init_kind, declaration_external, function_kind, unit_kind}

-- a class that takes one kind, or one and another
abbrev either : {A B : Type 0} → A → B → (A × Unit {0}) × B
either x y = ((x, tt), y)

abbrev only : {A : Type 0} → A → (A × Unit {0}) × A
only x = either x x

-- a part that is all there is: `give f and ..`
alone : {A B : Type 0} {P : A → Type 0} {Q : B → Type 0} {x : Read A} {i m : ℕ} (f : A → B)
    → ((a : A) → P a → Q (f a)) → Reads P x i m → Reads Q (applied (nothing f) x) i m
alone f h r = record { formed = h _ r.formed; ends = omega (arith, r.ends) }

module _ (rs ns : List ℕ) where
  -- expressions and types as callees
  callee_expr : (k : ℕ) → k < 17 → Kind rs ns Class.expr k → Kind rs ns Class.callee k
  unfolding opened
  callee_expr k h x v t n a b f i m ps = rw (ne_eqb k 20 (λ e. omega arith)) (alone FunIdentifier.OfExpr (λ y p. p) (x v t n a b f i m ps))

  callee_type : Kind rs ns Class.callee 20
  unfolding opened
  callee_type v t n a b f i m ps = alone FunIdentifier.OfType (λ y p. p) (type_kind rs ns v t n a b f i m ps)

  table : (c : Class) → Taken (allowed c) (Kind rs ns c)
  unfolding allowed Span
  table Class.expr = (exprs rs ns, (exprs rs ns).0)
  table Class.callee = (map {P = Kind rs ns Class.expr} {Q = Kind rs ns Class.callee} 1 16 callee_expr (exprs rs ns), callee_type)
  table Class.type = only (type_kind rs ns)
  table Class.base = (base_kinds rs ns, (base_kinds rs ns).0)
  table Class.array = only (array_kind rs ns)
  table Class.dimension = only (dimension_kind rs ns)
  table Class.field = only (field_kind rs ns)
  table Class.identifier = only (identifier_kind rs ns)
  table Class.parameter_identifier = only (parameter_identifier_kind rs ns)
  table Class.qualifier = only (qualifier_kind rs ns)
  table Class.spec = only (spec_kind rs ns)
  table Class.precision = only (precision_kind rs ns)
  table Class.layout_id = only (layout_id_kind rs ns)
  table Class.full_type = only (full_type_kind rs ns)
  table Class.prototype = only (prototype_kind rs ns)
  table Class.parameter = only (parameter_kind rs ns)
  table Class.declarators = only (declarators_kind rs ns)
  table Class.single = only (single_kind rs ns)
  table Class.declarator = only (declarator_kind rs ns)
  table Class.initializer = only (initializer_kind rs ns)
  table Class.block = only (block_kind rs ns)
  table Class.declaration = only (declaration_kind rs ns)
  table Class.compound = only (compound_kind rs ns)
  table Class.statement = (statement_kinds rs ns, declaration_statement rs ns)
  table Class.condition = only (condition_kind rs ns)
  table Class.for_init = only (for_init_kind rs ns)
  table Class.external = either (function_kind rs ns) (declaration_external rs ns)
  table Class.unit = only (unit_kind rs ns)

  pub kinds : (c : Class) (k : ℕ) → takes_kind (allowed c) k ≡ true → Kind rs ns c k
  kinds c = taken (allowed c) (Kind rs ns c) (table c)
