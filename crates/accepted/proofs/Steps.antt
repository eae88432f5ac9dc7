-- A step of the walk, where the record is known: a fault is refused there, and without one the children are walked. Assumes nothing.
use mathlib.Core.Path.{◌≡◌, refl}
use mathlib.Core.List.{List}
use mathlib.Core.Option.{none, some}
use Prim.Native.Nat.{ℕ, zero, suc, ◌+◌, ◌<◌}
use borrow.Author.Tests.{lt-ltb}
use Rattle.records.specs.declared.Record.{Record}
use Rattle.records.specs.Record.{record_count, record_at}
use Rattle.shapes.specs.Class.{Class}
use Rattle.accept.specs.declared.Refusal.{Refusal}
use Rattle.std.specs.Prelude.{Ok}
use Rattle.accept.specs.Checked.{refused}
use Rattle.accept.specs.Check.{fault_of, each, children_of, alone, node}

module _ (records names : List ℕ) (c : Class) (i : ℕ) (r : Record) (h : i < record_count records) (e : record_at records i ≡ r) where
  alone_passes : (left : ℕ) → fault_of names left c r ≡ none → alone records names left c i ≡ Ok (i + 1)
  unfolding alone
  alone_passes left f = rw (lt-ltb i (record_count records) h, e, f) refl

  alone_refuses : (left : ℕ) (x : Refusal) → fault_of names left c r ≡ some x → alone records names left c i ≡ refused x i
  unfolding alone
  alone_refuses left x f = rw (lt-ltb i (record_count records) h, e, f) refl

  pub passes : (left : ℕ) → fault_of names (suc left) c r ≡ none → node records names (suc left) c i ≡ each (node records names left) (children_of r) (i + 1)
  unfolding node
  passes left f = rw (alone_passes (suc left) f, e) refl

  pub refuses : (left : ℕ) (x : Refusal) → fault_of names left c r ≡ some x → node records names left c i ≡ refused x i
  unfolding node
  refuses zero x f = alone_refuses 0 x f
  refuses (suc left) x f = rw (alone_refuses (suc left) x f) refl
