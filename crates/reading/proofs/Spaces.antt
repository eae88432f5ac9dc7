-- Settings are only layout, and joined is exact (specs/Spaces; 02, #107): of the public calls. Assumes nothing.
use Rattle.std.specs.Prelude.{Ok, Err}
use mathlib.Core.Path.{◌≡◌, refl, sym, ap, subst, ◌∙◌}
use mathlib.Core.Bool.{Bool, true, false, cond}
use mathlib.Core.List.{List, [], ◌∷◌}
use Prim.Native.Nat.{ℕ}
use native.Mathlib.Omega.{arith}
use lib.IntN.{ℤ, pos}
use Rattle.settings.specs.Settings.{settings_of, TIGHT}
use Rattle.draft.specs.declared.Root.{Root}
use Rattle.accept.specs.Checked.{Checked}
use Rattle.text.specs.Token.{Token}
use Rattle.text.specs.Visible.{blank, visible}
use Rattle.text.specs.Joined.{joined_answer}
use Rattle.text.proofs.OnlyLayout.{only_layout, only_layout_expr}
use Rattle.lexis.specs.Glsl.{glsl_word, any, Splits}
use Rattle.lexis.specs.Preprocessing.{Between}
use Rattle.lexis.proofs.One.{one_division}
use Rattle.lexis.proofs.Glsl.{vocabulary, glsl_between}
use Rattle.lexis.proofs.Tests.{clash}
use Rattle.division.proofs.Blank.{by_blank, first_blank}
use Rattle.division.proofs.Exact.{needs_joined, joined_needs, places_kept, expr_split, expr_told, unit_split, unit_told}
use Rattle.glsl.specs.Joined.{Whether, whether_joined, joined_outcome, Answers, joined_bits}
use Rattle.glsl.specs.Root.{root_text}
use Rattle.glsl.proofs.Question.{answers}
use Rattle.reading.specs.Call.{Call, UnitCall, ExprCall}
use Rattle.reading.specs.Spaces.{collapse, SamePrinted, DifferInBlanks, OnlyLayout, IsSplit, Unspaced, ExactlyNo, HasNeeded, JoinedIsExact, ApartOrUnjoined, ReadIfUnjoined, Closed}
use Rattle.reading.specs.Spaces.DifferInBlanks.{at_end, same_byte, taken_out, put_in}
use Rattle.reading.specs.Spaces.ApartOrUnjoined.{apart, unjoined}
use Rattle.reading.proofs.Passed.{records_accepted, text_written}
use Rattle.reading.proofs.Calls.{not_length}
use Rattle.reading.proofs.Demand3.{Placed, read_back, apart_placed}

-- settings are only layout

-- what a call writes, by its settings and what another call printed
written_so : {root : Root} (c d : Call root) → SamePrinted c d → c.written ≡ root_text root c.settings d.records d.names
written_so {root = root} c d e =
    text_written c
    ∙ ap (λ (records : List ℕ). root_text root c.settings records c.names) e.0
    ∙ ap (λ (names : List ℕ). root_text root c.settings d.records names) e.1

same_units : (c d : UnitCall) → SamePrinted c d → collapse c ≡ collapse d → visible c.written ≡ visible d.written
same_units c d e k = ap visible (written_so c d e) ∙ only_layout c.settings d.settings d.records d.names k ∙ ap visible (sym (text_written d))

same_expressions : (c d : ExprCall) → SamePrinted c d → visible c.written ≡ visible d.written
same_expressions c d e = ap visible (written_so c d e) ∙ only_layout_expr c.settings d.settings d.records d.names ∙ ap visible (sym (text_written d))

-- equal without blanks: the texts differ in blanks alone

-- blanks alone
all_put_in : (ys : List ℕ) → visible ys ≡ [] → DifferInBlanks [] ys
all_put_in [] e = at_end
all_put_in (b ∷ ys) e = let a = first_blank b ys e in put_in a.0 (all_put_in ys a.1)

-- a byte that is no blank, before xs: blanks are put in until it stands there
up_to : (b : ℕ) (xs : List ℕ) → ((ys : List ℕ) → visible xs ≡ visible ys → DifferInBlanks xs ys) → (ys : List ℕ) → visible ys ≡ b ∷ visible xs → DifferInBlanks (b ∷ xs) ys
unfolding visible
up_to b xs more [] e = let z : ◌≡◌ {A = ℕ} 0 1 = cc in absurd (omega arith)
up_to b xs more (c ∷ ys) e =
    by_blank c ys (b ∷ visible xs) e (λ q t. put_in q (up_to b xs more ys t))
    (λ t. let h : b ≡ c = cc in let v : visible xs ≡ visible ys = cc in subst (λ (d : ℕ). DifferInBlanks (b ∷ xs) (d ∷ ys)) h (same_byte (more ys v)))

blanks_alone : (xs ys : List ℕ) → visible xs ≡ visible ys → DifferInBlanks xs ys
unfolding visible
blanks_alone [] ys e = all_put_in ys (sym e)
blanks_alone (b ∷ xs) ys e = by_blank b xs (visible ys) e (λ q t. taken_out q (blanks_alone xs ys t)) (λ t. up_to b xs (λ zs. blanks_alone xs zs) ys (sym t))

-- and back
same_visible : {xs ys : List ℕ} → DifferInBlanks xs ys → visible xs ≡ visible ys
unfolding visible
same_visible at_end = refl
same_visible (same_byte {b = b} d) = ap (λ (bs : List ℕ). cond (blank b) bs (b ∷ bs)) (same_visible d)
same_visible (taken_out q d) = rw q (same_visible d)
same_visible (put_in q d) = rw q (same_visible d)

pub only_layout_holds : OnlyLayout
only_layout_holds = record { units = same_units; expressions = same_expressions; nothing_else = λ xs ys. (blanks_alone xs ys, same_visible) }

-- joined is exact

-- what is said of the text is said of what is written
of_written : {root : Root} (c : Call root) (ts : List Token) → (Splits glsl_word (root_text root c.settings c.records c.names) ts → Splits glsl_word c.written ts) × (Splits glsl_word c.written ts → Splits glsl_word (root_text root c.settings c.records c.names) ts)
of_written c ts = (subst (λ (bs : List ℕ). Splits glsl_word bs ts) (sym (text_written c)), subst (λ (bs : List ℕ). Splits glsl_word bs ts) (text_written c))

-- of either root, under any settings
split_so : {root : Root} (c : Call root) → HasNeeded c → IsSplit glsl_word c
split_so {root = Root.Unit} c h = let a = records_accepted c in (of_written c _).0 (unit_split c.settings c.records c.names c.lent a.0 a.1 h)
split_so {root = Root.Expr} c h = let a = records_accepted c in (of_written c _).0 (expr_split c.settings c.records c.names c.lent a.0 a.1 h)

told_so : {root : Root} (c : Call root) → IsSplit glsl_word c → HasNeeded c
told_so {root = Root.Unit} c d = let a = records_accepted c in unit_told c.settings c.records c.names c.lent a.0 a.1 ((of_written c _).1 d)
told_so {root = Root.Expr} c d = let a = records_accepted c in expr_told c.settings c.records c.names c.lent a.0 a.1 ((of_written c _).1 d)

-- what is not joined needs nothing
none_needed : {root : Root} (c : Call root) → joined_answer c.records c.names ≡ false → HasNeeded c
none_needed c q n = clash (needs_joined (settings_of c.settings) c.records c.names n) q

-- where neither sort of space stands: exactly where the rule says no
exactly_no : (root : Root) → ExactlyNo glsl_word root joined_answer
exactly_no root c u = (λ d. go (joined_answer c.records c.names) (λ j. told_so c d (joined_needs (settings_of c.settings) c.records c.names u.0 j)), λ q. split_so c (none_needed c q))
  where
    go : (j : Bool) → (j ≡ true → (settings_of c.settings).spaces_where_needed ≡ true) → j ≡ false
    go true h = clash (h refl) u.1
    go false h = refl

-- and the call answers by the rule
answer_no : (j : Bool) (r : Whether) → r ≡ Ok j → (j ≡ false → r ≡ Ok false) × (r ≡ Ok false → j ≡ false)
answer_no true r e = (λ q. clash refl q, λ q. let z : ◌≡◌ {A = ℕ} 0 1 = cc in absurd (omega arith))
answer_no false r e = (λ q. e, λ q. refl)

answered : (c : ExprCall) (r : Whether) → Answers c.records c.names r → r ≡ Ok (joined_answer c.records c.names)
unfolding whether_joined
answered c r a = a.answered ∙ ap (λ (o : Checked). whether_joined o (joined_answer c.records c.names)) (records_accepted c).1

exact_call : (c : ExprCall) → Unspaced (settings_of c.settings) → (r : Whether) → Answers c.records c.names r → (IsSplit glsl_word c → r ≡ Ok false) × (r ≡ Ok false → IsSplit glsl_word c)
exact_call c u r a =
    let no = answer_no (joined_answer c.records c.names) r (answered c r a) in
    let rule = exactly_no Root.Expr c u in
    (λ d. no.0 (rule.0 d), λ q. rule.1 (no.1 q))

tight_unspaced : Unspaced (settings_of TIGHT)
unfolding settings_of
tight_unspaced = (refl, refl)

pub joined_is_exact : JoinedIsExact glsl_word
joined_is_exact = record { tight = tight_unspaced; expressions = exact_call; rule = exactly_no; everywhere = λ c. (told_so c, split_so c); apart = λ c q. split_so c (none_needed c q); one_way = λ bytes ts us d e. one_division (vocabulary any glsl_word glsl_between) d e refl }

-- from C: glsl_joined answers 0
answer_bits : (o : Whether) → (o ≡ Ok false → joined_bits o ≡ pos 0) × (joined_bits o ≡ pos 0 → o ≡ Ok false)
unfolding joined_bits
answer_bits (Ok false) = (λ e. refl, λ e. refl)
answer_bits (Ok true) = (λ e. let z : ◌≡◌ {A = ℕ} 0 1 = cc in absurd (omega arith), λ e. let z : ◌≡◌ {A = ℕ} 0 1 = cc in absurd (omega arith))
answer_bits (Err r) = (λ e. let z : ◌≡◌ {A = ℕ} 0 1 = cc in absurd (omega arith), λ e. absurd (not_length r.refusal r.place 0 e))

pub exact_bits : (c : ExprCall) → Unspaced (settings_of c.settings) → (r : ℤ) → r ≡ joined_bits (joined_outcome c.records c.names) → (IsSplit glsl_word c → r ≡ pos 0) × (r ≡ pos 0 → IsSplit glsl_word c)
exact_bits c u r e =
    let o = joined_outcome c.records c.names in
    let exactly = exact_call c u o (answers c.records c.names o refl) in
    let bits = answer_bits o in
    (λ d. e ∙ bits.0 (exactly.0 d), λ q. exactly.1 (bits.1 (sym e ∙ q)))

-- so what is not joined needs no space

placed : (c : ExprCall) → ApartOrUnjoined c → Placed c
placed c (apart h) = apart_placed c h
placed c (unjoined r a q t) =
    let accepted = records_accepted c in
    let none = (answer_no (joined_answer c.records c.names) r (answered c r a)).1 q in
    record { kept = true; sound = t; places = places_kept c.settings c.records c.names c.lent accepted.0 accepted.1 (none_needed c none) }

pub read_if_unjoined : {W : List ℕ → Bool} → Between W → ReadIfUnjoined W
read_if_unjoined {W = W} between = read_back W between placed

pub closed : Closed
closed = record { layout = only_layout_holds; exact = joined_is_exact; read = λ W between. read_if_unjoined between }
