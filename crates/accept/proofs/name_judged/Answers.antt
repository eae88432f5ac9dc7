-- `accept::name_judged` meets its contract: each answer by the sort of the name. Assumes nothing.
use mathlib.Core.Path.{◌≡◌, refl, sym, ◌∙◌}
use mathlib.Core.Bool.{Bool, true, false, not, cond, ◌&&◌, and-false}
use mathlib.Core.List.{List}
use mathlib.Core.Option.{none, some}
use Prim.Native.Nat.{ℕ}
use Rattle.words.specs.declared.NameSort.TheVariants.{Ordinary, Reserved, NoName}
use Rattle.words.specs.Form.{name_form, reserved}
use Rattle.words.proofs.Sorts.{told}
use Rattle.shapes.specs.Shape.{Fields}
use Rattle.accept.specs.declared.Refusal.TheVariants.{TextMisformed, ReservedDeclared}
use Rattle.accept.specs.Check.{text_fault}
use Rattle.accept.proofs.name_judged.Goals as goal

fault_found : (declared : Bool) (s : List ℕ) → text_fault declared Fields.name s ≡ cond (not (name_form s)) (some TextMisformed) (cond (declared && reserved s) (some ReservedDeclared) none)
fault_found true s = refl
fault_found false s = refl

pub returns-then-declared : goal.returns-then-declared
returns-then-declared c =
    let sort = told c.args.text.now Reserved (sym c.name_sort.ensures ∙ c.in-Reserved.is) in
    simp (c.at-then-declared.ensures, c.if-declared.true, sort.0, sort.1)

pub returns-in-NoName : goal.returns-in-NoName
returns-in-NoName c =
    simp (c.at.ensures, fault_found c.args.declared c.args.text.now, told c.args.text.now NoName (sym c.name_sort.ensures ∙ c.in-NoName.is))

pub returns-in-Ordinary : goal.returns-in-Ordinary
returns-in-Ordinary c =
    let sort = told c.args.text.now Ordinary (sym c.name_sort.ensures ∙ c.in-Ordinary.is) in
    simp (fault_found c.args.declared c.args.text.now, sort.0, sort.1, and-false)

pub returns-else-declared : goal.returns-else-declared
returns-else-declared c =
    let sort = told c.args.text.now Reserved (sym c.name_sort.ensures ∙ c.in-Reserved.is) in
    simp (c.if-declared.false, sort.0)
