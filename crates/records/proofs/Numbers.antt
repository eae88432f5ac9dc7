-- The laws of kinds: the kind of its number is each kind, and a number that has a kind is that kind's. Assumes nothing.
use mathlib.Core.Path.{◌≡◌, refl, sym, ◌∙◌, ap}
use mathlib.Core.Bool.{Bool, true, false, cond}
use mathlib.Core.List.{List, [], ◌∷◌}
use Prim.Native.Nat.{ℕ}
use lib.Dec.{eqb}
use borrow.Author.Tests.{eqb-true, ne_eqb}
use Rattle.std.specs.Prelude.{Option, Some, None, find}
use Rattle.records.specs.declared.kind.Kind.{Kind}
use Rattle.records.specs.declared.kind.Kind.TheVariants.{Variable, IntConst, UIntConst, BoolConst, FloatConst, DoubleConst, Unary, Binary, Ternary, Assignment, Bracket, FunCall, Dot, PostInc, PostDec, Comma, TypeSpecifier, TypeKeyword, TypeName, Struct, ArraySpecifier, ArraySpecifierDimension, StructFieldSpecifier, ArrayedIdentifier, TypeQualifier, TypeQualifierSpec, LayoutQualifierSpec, FullySpecifiedType, FunctionPrototype, FunctionParameterDeclaration, InitDeclaratorList, SingleDeclaration, SingleDeclarationNoType, Initializer, Block, Declaration, Compound, ExprStatement, Selection, Switch, CaseLabel, While, DoWhile, For, Jump, Condition, ForInit, TranslationUnit, FunctionDefinition}
use Rattle.records.specs.Kind.{number, kinds, kind_of}

pub kind_of-number : (x : Kind) → kind_of (number x) ≡ Some x
unfolding kind_of
kind_of-number Variable = refl
kind_of-number IntConst = refl
kind_of-number UIntConst = refl
kind_of-number BoolConst = refl
kind_of-number FloatConst = refl
kind_of-number DoubleConst = refl
kind_of-number Unary = refl
kind_of-number Binary = refl
kind_of-number Ternary = refl
kind_of-number Assignment = refl
kind_of-number Bracket = refl
kind_of-number FunCall = refl
kind_of-number Dot = refl
kind_of-number PostInc = refl
kind_of-number PostDec = refl
kind_of-number Comma = refl
kind_of-number TypeSpecifier = refl
kind_of-number TypeKeyword = refl
kind_of-number TypeName = refl
kind_of-number Struct = refl
kind_of-number ArraySpecifier = refl
kind_of-number ArraySpecifierDimension = refl
kind_of-number StructFieldSpecifier = refl
kind_of-number ArrayedIdentifier = refl
kind_of-number TypeQualifier = refl
kind_of-number TypeQualifierSpec = refl
kind_of-number LayoutQualifierSpec = refl
kind_of-number FullySpecifiedType = refl
kind_of-number FunctionPrototype = refl
kind_of-number FunctionParameterDeclaration = refl
kind_of-number InitDeclaratorList = refl
kind_of-number SingleDeclaration = refl
kind_of-number SingleDeclarationNoType = refl
kind_of-number Initializer = refl
kind_of-number Block = refl
kind_of-number Declaration = refl
kind_of-number Compound = refl
kind_of-number ExprStatement = refl
kind_of-number Selection = refl
kind_of-number Switch = refl
kind_of-number CaseLabel = refl
kind_of-number While = refl
kind_of-number DoWhile = refl
kind_of-number For = refl
kind_of-number Jump = refl
kind_of-number Condition = refl
kind_of-number ForInit = refl
kind_of-number TranslationUnit = refl
kind_of-number FunctionDefinition = refl

pub of_number : (x : Kind) (n : ℕ) → n ≡ number x → kind_of n ≡ Some x
of_number x n e = ap kind_of e ∙ kind_of-number x

here : (k : Kind) (n : ℕ) (b : Bool) → eqb (number k) n ≡ b → (rest : Option Kind) {x : Kind} → (rest ≡ Some x → n ≡ number x) → cond b (Some k) rest ≡ Some x → n ≡ number x
here k n true t rest {x} behind e = let same : k ≡ x = cc in sym (eqb-true _ _ t) ∙ ap number same
here k n false t rest behind e = behind e

found : (ks : List Kind) (n : ℕ) {x : Kind} → find (λ k. eqb (number k) n) ks ≡ Some x → n ≡ number x
found [] n e = absurd cc
found (k ∷ ks) n e = here k n (eqb (number k) n) refl (find (λ k. eqb (number k) n) ks) (found ks n) e

pub number_of : (n : ℕ) (x : Kind) → kind_of n ≡ Some x → n ≡ number x
unfolding kind_of
number_of n x = found kinds n

-- what the code learns of a number n from `let Some(y) = Kind::of(n) else ..`, whose result is o, and from a test of y
module _ {o : Option Kind} (n : ℕ) (is : o ≡ kind_of n) where
  -- in the arm of x
  pub in_arm : {x y : Kind} → o ≡ Some y → y ≡ x → n ≡ number x
  in_arm {x} some e = let h : kind_of n ≡ Some x = cc in number_of n x h

  -- so a function of the number is known there
  pub by_kind : {A : Type 0} (f : ℕ → A) {x y : Kind} → o ≡ Some y → y ≡ x → f (number x) ≡ f n
  by_kind f some e = ap f (sym (in_arm some e))

  -- in the last arm, which is not that of x
  pub not_in_arm : {y : Kind} → o ≡ Some y → (x : Kind) → (y ≡ x → ⊥) → eqb n (number x) ≡ false
  not_in_arm {y} some x ne = ne_eqb _ _ (λ e. let h : Some y ≡ Some x = sym some ∙ is ∙ of_number x n e in ne cc)

  -- in the `else`
  pub no_kind : o ≡ None → (x : Kind) → eqb n (number x) ≡ false
  no_kind none x = ne_eqb _ _ (λ e. let h : None ≡ Some x = sym none ∙ is ∙ of_number x n e in absurd cc)
