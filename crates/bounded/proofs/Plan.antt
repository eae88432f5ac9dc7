-- Readings as plans: a plan is a reading whose parts are known to fit. ONE law serves every kind of record: what is to be shown is only what its own
-- commands weigh. Assumes nothing.
use mathlib.Core.Path.{◌≡◌, refl}
use mathlib.Core.Bool.{Bool, true, false, cond}
use mathlib.Core.List.{List}
use Prim.Native.Nat.{ℕ, zero, suc, ◌+◌, ◌*◌, ◌≤◌}
use native.Mathlib.Omega.{arith}
use lib.Dec.{eqb}
use lib.ListN.{drop}
use Rattle.records.specs.declared.Record.{Record}
use Rattle.text.specs.Command.{Command}
use Rattle.text.specs.Tree.{Expr, TypeSpecifier, TypeSpecifierNonArray, ArraySpecifier, ArraySpecifierDimension, StructFieldSpecifier, ArrayedIdentifier, TypeQualifier, TypeQualifierSpec, LayoutQualifierSpec, FullySpecifiedType, FunctionParameterDeclaration, FunctionPrototype, Initializer, SingleDeclaration, SingleDeclarationNoType, InitDeclaratorList, Block, Declaration, Condition, ForInitStatement, Statement, Statements, ExternalDeclaration}
use Rattle.text.specs.Reading.{Read, Item, Reader, counted, several, give as give_tree, ◌and◌ as ◌and_read◌}
use Rattle.bounded.proofs.Weight.{record_weight, weighs}
use Rattle.bounded.proofs.Fits.{Fits, fits, AllFit, behind_fit}

-- a reading fits, wherever the records fit
pub record Light {A : Type 0} (collapse : Bool) (Formed : A → Type 0) (show : A → List Command) (more : ℕ) (p : Reader A) : Type 0 where
  pub light : (L : List Item) → AllFit collapse L → Fits Formed show more (p L)

abbrev pub light :
    {A : Type 0} {collapse : Bool} {Formed : A → Type 0} {show : A → List Command} {more : ℕ} {p : Reader A}
    → ((L : List Item) → AllFit collapse L → Fits Formed show more (p L)) → Light collapse Formed show more p
light h = record { light = h }

-- so does a record before what it reads
pub record Row {A : Type 0} (collapse : Bool) (Formed : A → Type 0) (show : A → List Command) (more : ℕ) (p : Reader A) : Type 0 where
  pub row : (L : List Item) → AllFit collapse L → Fits Formed show more (counted (p L))

-- a reading that fits, with all that is said of it
pub record Part (collapse : Bool) (A : Type 0) : Type 1 where
  pub reader : Reader A
  pub Formed : A → Type 0
  pub show : A → List Command
  pub more : ℕ
  pub fits : Light collapse Formed show more reader

abbrev pub part :
    {A : Type 0} {collapse : Bool} {Formed : A → Type 0} {show : A → List Command} {more : ℕ} {p : Reader A}
    → Light collapse Formed show more p → Part collapse A
part {Formed = F} {show = s} {more = m} {p = p} h = record { reader = p; Formed = F; show = s; more = m; fits = h }

-- `give` and `_and_` as in text's Reading; `one`: a part that is all there is; `_with_`: a value that the record itself holds
infixl 20 ◌and◌
infixl 20 ◌with◌
pub data Plan (collapse : Bool) : Type 0 → Type 1 where
  give : {A : Type 0} → A → Plan collapse A
  one : {A : Type 0} → Part collapse A → Plan collapse A
  ◌and◌ : {A B : Type 0} → Plan collapse (A → B) → Part collapse A → Plan collapse B
  ◌with◌ : {A B : Type 0} → Plan collapse (A → B) → A → Plan collapse B

unfoldable pub reading : {collapse : Bool} {A : Type 0} → Plan collapse A → Reader A
reading (give a) = give_tree a
reading (one q) = q.reader
reading (p and q) = reading p and_read q.reader
reading (p with a) = reading p and_read give_tree a

-- Q holds of its tree and size, whatever its parts are, if they fit
unfoldable pub Holds : {collapse : Bool} {A : Type 0} → Plan collapse A → (A → ℕ → Type 0) → Type 0
Holds (give a) Q = Q a 0
Holds {A = A} (one q) Q = (x : Read A) → Fits q.Formed q.show q.more x → Q x.tree x.size
Holds (◌and◌ {A} p q) Q = Holds p (λ f n. (x : Read A) → Fits q.Formed q.show q.more x → Q (f x.tree) (n + x.size))
Holds (p with a) Q = Holds p (λ f n. Q (f a) (n + 0))

plan_holds : {collapse : Bool} {A : Type 0} (p : Plan collapse A) (Q : A → ℕ → Type 0) → Holds p Q
    → (L : List Item) → AllFit collapse L → Q (reading p L).tree (reading p L).size
unfolding reading Holds
plan_holds (give a) Q h L all = h
plan_holds (one q) Q h L all = h (q.reader L) (q.fits.light L all)
plan_holds {collapse} (◌and◌ {A} p q) Q h L all =
    let n = (reading p L).size in
    plan_holds p (λ f n. (x : Read A) → Fits q.Formed q.show q.more x → Q (f x.tree) (n + x.size)) h L all
    (q.reader (drop n L)) (q.fits.light (drop n L) (behind_fit collapse n L all))
plan_holds (p with a) Q h L all = plan_holds p (λ f n. Q (f a) (n + 0)) h L all

-- what is to be shown of a tree and its size
abbrev pub Weighs : {A : Type 0} → (A → Type 0) → (A → List Command) → ℕ → (A → ℕ → Type 0)
Weighs Formed show more t n = Formed t → weighs (show t) + more ≤ record_weight * n

module _ {collapse : Bool} {A : Type 0} {Formed : A → Type 0} {show : A → List Command} {more : ℕ} where
  -- parts, without a record before them and with one
  pub parts : (p : Plan collapse A) → Holds p (Weighs Formed show more) → Light collapse Formed show more (reading p)
  parts p h = light (λ L all. fits (plan_holds p (Weighs Formed show more) h L all))

  pub row : (p : Plan collapse A) → Holds p (λ t n. Weighs Formed show more t (1 + n)) → Row collapse Formed show more (reading p)
  row p h = record { row = λ L all. fits (plan_holds p (λ t n. Weighs Formed show more t (1 + n)) h L all) }

  -- by its variant
  pub variant : {p q : Reader A} (b : Bool) → Row collapse Formed show more p → Row collapse Formed show more q → Row collapse Formed show more (cond b p q)
  variant true h k = h
  variant false h k = k

  -- one of two readings, where the first is known to be asked for, and in any case; by its kind
  pub knowing : {p q : Reader A} (b : Bool) → (b ≡ true → Light collapse Formed show more p) → Light collapse Formed show more q
      → Light collapse Formed show more (cond b p q)
  knowing true h k = h refl
  knowing false h k = k

  pub either : {p q : Reader A} (b : Bool) → Light collapse Formed show more p → Light collapse Formed show more q → Light collapse Formed show more (cond b p q)
  either b h k = knowing b (λ e. h) k

  pub kind : {p q : Reader A} (r : Record) (k : ℕ) → Row collapse Formed show more p → Light collapse Formed show more q
      → Light collapse Formed show more (cond (eqb r.kind k) (λ L. counted (p L)) q)
  kind r k h rest = either (eqb r.kind k) (light h.row) rest

  -- by its kind, where that is known
  pub known : {p : Reader A} (q : Reader A) (b : Bool) → b ≡ true → Row collapse Formed show more p
      → Light collapse Formed show more (cond b (λ L. counted (p L)) q)
  known q true e h = light h.row
  known q false e h = let z : ◌≡◌ {A = ℕ} 0 1 = cc in absurd (omega arith)

-- a list, item by item: its first, or one behind it (where there is no difference, `show` does not look)
module _ {A B : Type 0} {collapse : Bool} (item : Part collapse A) (end : B) (more : A → B → B) (Formed : B → Type 0) (show : B → Bool → List Command)
    (at_end : (first : Bool) → Weighs Formed (λ y. show y first) 0 end 0)
    (one_more : (x : Read A) → Fits item.Formed item.show item.more x → (y : Read B) → ((first : Bool) → Fits Formed (λ y. show y first) 0 y)
    → (first : Bool) → Weighs Formed (λ y. show y first) 0 (more x.tree y.tree) (0 + x.size + y.size)) where
  pub each : (n : ℕ) (L : List Item) → AllFit collapse L → (first : Bool) → Fits Formed (λ y. show y first) 0 (several n item.reader end more L)
  unfolding several
  each zero L all first = fits (at_end first)
  each (suc n) L all first =
      let k = 0 + (item.reader L).size in
      fits (one_more (item.reader L) (item.fits.light L all) _ (each n (drop k L) (behind_fit collapse k L all)) first)

  abbrev pub list : ℕ → Part collapse B
  list n = part (light (λ L all. each n L all true))

-- the parts that are one record

abbrev pub expr : {collapse : Bool} → Part collapse Expr
expr = part (light (λ L all. (all 0).expr))

abbrev pub type : {collapse : Bool} → Part collapse TypeSpecifier
type = part (light (λ L all. (all 0).type))

abbrev pub base : {collapse : Bool} → Part collapse TypeSpecifierNonArray
base = part (light (λ L all. (all 0).base))

abbrev pub array : {collapse : Bool} → Part collapse ArraySpecifier
array = part (light (λ L all. (all 0).array))

abbrev pub dimension : {collapse : Bool} → Part collapse ArraySpecifierDimension
dimension = part (light (λ L all. (all 0).dimension))

abbrev pub field : {collapse : Bool} → Part collapse StructFieldSpecifier
field = part (light (λ L all. (all 0).field))

abbrev pub identifier : {collapse : Bool} → Part collapse ArrayedIdentifier
identifier = part (light (λ L all. (all 0).identifier))

abbrev pub qualifier : {collapse : Bool} → Part collapse TypeQualifier
qualifier = part (light (λ L all. (all 0).qualifier))

abbrev pub spec : {collapse : Bool} → Part collapse TypeQualifierSpec
spec = part (light (λ L all. (all 0).spec))

abbrev pub layout_id : {collapse : Bool} → Part collapse LayoutQualifierSpec
layout_id = part (light (λ L all. (all 0).layout_id))

abbrev pub full_type : {collapse : Bool} → Part collapse FullySpecifiedType
full_type = part (light (λ L all. (all 0).full_type))

abbrev pub prototype : {collapse : Bool} → Part collapse FunctionPrototype
prototype = part (light (λ L all. (all 0).prototype))

abbrev pub parameter : {collapse : Bool} → Part collapse FunctionParameterDeclaration
parameter = part (light (λ L all. (all 0).parameter))

abbrev pub declarators : {collapse : Bool} → Part collapse InitDeclaratorList
declarators = part (light (λ L all. (all 0).declarators))

abbrev pub single : {collapse : Bool} → Part collapse SingleDeclaration
single = part (light (λ L all. (all 0).single))

abbrev pub declarator : {collapse : Bool} → Part collapse SingleDeclarationNoType
declarator = part (light (λ L all. (all 0).declarator))

abbrev pub initializer : {collapse : Bool} → Part collapse Initializer
initializer = part (light (λ L all. (all 0).initializer))

abbrev pub block : {collapse : Bool} → Part collapse Block
block = part (light (λ L all. (all 0).block))

abbrev pub declaration : {collapse : Bool} → Part collapse Declaration
declaration = part (light (λ L all. (all 0).declaration))

abbrev pub compound : {collapse : Bool} → Part collapse Statements
compound = part (light (λ L all. (all 0).compound))

abbrev pub statement : {collapse : Bool} → Part collapse Statement
statement = part (light (λ L all. (all 0).statement))

abbrev pub condition : {collapse : Bool} → Part collapse Condition
condition = part (light (λ L all. (all 0).condition))

abbrev pub for_init : {collapse : Bool} → Part collapse ForInitStatement
for_init = part (light (λ L all. (all 0).for_init))

abbrev pub external : {collapse : Bool} → Part collapse ExternalDeclaration
external = part (light (λ L all. (all 0).external))
