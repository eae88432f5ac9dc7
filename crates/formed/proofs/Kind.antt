-- What is to be shown of each kind of records. Assumes nothing.
use mathlib.Core.Path.{◌≡◌}
use mathlib.Core.Bool.{true}
use mathlib.Core.List.{List}
use Prim.Native.Nat.{ℕ, suc, ◌+◌}
use native.Mathlib.Omega.{arith}
use Rattle.records.specs.declared.Record.{Record}
use Rattle.shapes.specs.Class.{Class, allowed, takes_variant}
use Rattle.shapes.specs.Shape.{last_variant}
use Rattle.accept.specs.Check.{children_of}
use Rattle.text.specs.Reading.{from, onto}
use Rattle.formed.proofs.As.{reader, Formed, Reads, Parts}
use Rattle.text.proofs.Span.{Span, at}
use Rattle.formed.proofs.Faultless.{Filled}

-- a record's fields in their order
abbrev pub rec : ℕ → ℕ → ℕ → ℕ → ℕ → Record
rec k v n a b = record { kind = k; variant = v; count = n; a = a; b = b }

module _ (rs ns : List ℕ) where
  -- Record r fits class c: with its fields filled, and before children that are what their classes ask for, it is what class c asks for.
  abbrev pub Fits : Class → Record → Type 0
  Fits c r = Filled ns (allowed c).declares r → (i m : ℕ) → Parts rs ns (children_of r) (i + 1) m → Reads (Formed c) (reader c (onto ns r (from rs ns (i + 1)))) i m

  -- the records of kind k and variant v do; those of kind k do, in the variants that the class takes
  abbrev pub Variant : Class → ℕ → ℕ → Type 0
  Variant c k v = (n a b : ℕ) → Fits c (rec k v n a b)

  abbrev pub Kind : Class → ℕ → Type 0
  Kind c k = (v : ℕ) → takes_variant (allowed c) v ≡ true → Variant c k v

  -- each variant by itself
  pub by_variant : (c : Class) (k : ℕ) → Span (Variant c k) 0 (suc (last_variant k)) → Kind c k
  by_variant c k vs v t n a b f = at (Variant c k) 0 (suc (last_variant k)) vs v (omega arith) (omega (arith, f.variant)) n a b f
