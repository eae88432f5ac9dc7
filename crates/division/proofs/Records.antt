-- Whether a space is needed is asked of records (specs/Needed), and trees ask for spaces (proofs/Kept). Of what is read from any records, accepted or not, the two agree: it is kept exactly if the needed
-- spaces are there, or none is needed. For every sort of tree at once, by induction on the records that are left. Assumes nothing.
use mathlib.Core.Path.{◌≡◌, refl, sym, subst, ◌∙◌}
use mathlib.Core.Bool.{Bool, true, false, not, ◌&&◌, ◌||◌, cond, and-true, or-false, or_assoc}
use mathlib.Core.List.{List, [], ◌∷◌}
use mathlib.Core.Option.{none, some}
use Prim.Native.Nat.{ℕ, zero, suc, ◌+◌, ◌-◌, ◌≤◌, ◌<◌}
use native.Mathlib.Omega.{arith}
use native.Mathlib.Nat.{zero-add, add-zero}
use lib.Dec.{eqb, ltb}
use borrow.Author.Tests.{not-true}
use Rattle.records.specs.Record.{record_at, record_count, text_of, bit0, bit1, bit2}
use Rattle.records.proofs.Laws.{split}
use Rattle.settings.specs.declared.Settings.{Settings}
use Rattle.text.specs.Asked.{flag}
use Rattle.text.specs.Asked.Flag.{spaces_around_binary_ops, spaces_where_needed, needed_operator_spaces}
use Rattle.text.specs.Tree.{Identifier, Expr, Exprs, FunIdentifier, TypeSpecifier, TypeSpecifiers, TypeSpecifierNonArray, ArraySpecifier, ArraySpecifierDimension, StructFieldSpecifier, StructFieldSpecifiers, ArrayedIdentifier, ArrayedIdentifiers, Qualification, TypeQualifier, TypeQualifierSpec, LayoutQualifier, LayoutQualifierSpec, FullySpecifiedType, FunctionParameterDeclaration, FunctionPrototype, Initializer, Initializers, SingleDeclaration, SingleDeclarationNoType, InitDeclaratorList, Block, Declaration, Condition, ForInitStatement, JumpStatement, Statement, Statements, ExternalDeclaration}
use Rattle.text.specs.Joined.{somewhere}
use Rattle.text.specs.Reading as Reading
use Rattle.text.specs.Reading.{Read, Item, Reader, give, made, counted, ◌and◌, several, maybe, first, first_kind, from, item_of, unary_op_of, binary_op_of, assignment_op, callee, array_if, qualification_if, jump_statement, declaration_of, compound_of}
use Rattle.text.proofs.At.{first_in, first_out, and_at}
use Rattle.text.proofs.ByKind.{of_kind}
use Rattle.lexis.specs.Glsl.{any}
use Rattle.lexis.proofs.Tests.{both, either, or_left, or_right, clash}
use Rattle.formed.specs.Formed.{Each, IfThere}
use Rattle.formed.proofs.Kind.{rec}
use Rattle.formed.proofs.Opened.{opened}
use Rattle.division.specs.Needed.{needs_here}
use Rattle.division.proofs.Kept.{Asked, any_name, Passes, Kept, KeptCallee, KeptArguments, KeptType, KeptTypes, KeptBase, KeptFields, KeptField, KeptIdentifiers, KeptIdentifier, KeptQualification, KeptQualifier, KeptSpec, KeptIds, KeptId, KeptArray, KeptDimension, KeptFull, KeptParameter, KeptPrototype, KeptInitializer, KeptInitializers, KeptSingle, KeptDeclarator, KeptDeclarators, KeptBlock, KeptDeclaration, KeptCondition, KeptForInit, KeptJump, KeptStatement, KeptStatements, KeptExternal, KeptUnit}

module _ (s : Settings) (rs ns : List ℕ) where
  -- the settings put a space where tokens would be read as one; they put none around binary operators
  abbrev Spaced : Type 0
  Spaced = s.spaces_where_needed ≡ true

  -- X says just that what is joined has its space, if j says whether anything is
  record Means (X : Type 0) (j : Bool) : Type 0 where
    forth : (j ≡ true → Spaced) → X
    back : X → j ≡ true → Spaced

  -- nothing is; something is, here or there
  leaf : {X : Type 0} → X → Means X false
  leaf x = record { forth = λ h. x; back = λ y e. clash e refl }

  join : {X Y Z : Type 0} {j k : Bool} → (X → Y → Z) → (Z → X × Y) → Means X j → Means Y k → Means Z (j || k)
  join {j = j} {k = k} f g p q = record {
    forth = λ h. f (p.forth (λ e. h (or_left j k e))) (q.forth (λ e. h (or_right j k e)));
    back = λ z e. either j k e (p.back (g z).0) (q.back (g z).1);
  }

  -- what one place asks for, if c says whether it is joined: at a unary operator or a dot, and behind a binary operator
  asked : {b c : Bool} → c ≡ b → Means (Asked s b spaces_where_needed) c
  unfolding flag
  asked q = record { forth = λ h e. h (q ∙ e); back = λ h e. h (sym q ∙ e) }

  asked_behind : {b : Bool} → Means (flag s spaces_around_binary_ops ≡ false → Asked s b needed_operator_spaces) ((b || false) && not s.spaces_around_binary_ops)
  unfolding flag
  asked_behind {b = b} = record {
    forth = λ h off e. rw (h (rw (e, off) refl), off) refl;
    back = λ h e.
        let k = both (b || false) (not s.spaces_around_binary_ops) e in
        (both s.spaces_where_needed _ (h (not-true s.spaces_around_binary_ops k.1) (sym (or-false b) ∙ k.0))).0;
  }

  -- a part, with what is said of it; what is said of a tree of one part, two, three or four
  record Got {A : Type 0} (P : A → Type 0) : Type 0 where
    tree : A
    joined : Bool
    fact : Means (P tree) joined

  one : {A : Type 0} {P : A → Type 0} (x : Got P) → Means (P x.tree) x.joined
  one x = x.fact

  two : {A B : Type 0} {P : A → Type 0} {Q : B → Type 0} (x : Got P) (y : Got Q) → Means (P x.tree × Q y.tree) (x.joined || y.joined)
  two x y = join (λ p q. (p, q)) (λ t. t) x.fact y.fact

  three : {A B C : Type 0} {P : A → Type 0} {Q : B → Type 0} {R : C → Type 0} (x : Got P) (y : Got Q) (z : Got R) → Means (P x.tree × Q y.tree × R z.tree) (x.joined || y.joined || z.joined)
  three x y z = join (λ p q. (p.0, p.1, q)) (λ t. ((t.0, t.1), t.2)) (two x y) z.fact

  four : {A B C D : Type 0} {P : A → Type 0} {Q : B → Type 0} {R : C → Type 0} {S : D → Type 0} (x : Got P) (y : Got Q) (z : Got R) (w : Got S)
      → Means (P x.tree × Q y.tree × R z.tree × S w.tree) (x.joined || y.joined || z.joined || w.joined)
  four x y z w = join (λ p q. (p.0, p.1, p.2, q)) (λ t. ((t.0, t.1, t.2), t.3)) (three x y z) w.fact

  -- one of n records is joined, from record i on; one of n and of m behind them
  abbrev J : ℕ → ℕ → Bool
  J n i = somewhere (needs_here s) n rs ns i

  JSplit : (n m i : ℕ) → J (n + m) i ≡ J n i || J m (i + n)
  unfolding somewhere
  JSplit zero m i = rw (zero-add, add-zero) refl
  JSplit (suc n) m i =
      let e : suc n + m ≡ suc (n + m) = omega arith in
      let f : i + suc n ≡ i + 1 + n = omega arith in
      rw (e, f, JSplit n m (i + 1)) (sym (or_assoc (needs_here s (record_at rs i) (from rs ns (i + 1))) (J n (i + 1)) (J m (i + 1 + n))))

  -- what is said of a reading at record i, and the part that it is
  abbrev Says : {A : Type 0} → (A → Type 0) → ℕ → Read A → Type 0
  Says P i x = Means (P x.tree) (J x.size i)

  abbrev got : {A : Type 0} {P : A → Type 0} (i : ℕ) (x : Read A) → Says P i x → Got P
  got i x h = record { tree = x.tree; joined = J x.size i; fact = h }

  -- wherever p reads, from record b on, R says what it should of the tree and of whether any of its records is joined
  record Ok {A : Type 0} (R : A → Bool → Type 0) (p : Reader A) (b : ℕ) : Type 0 where
    holds : (i : ℕ) → b ≤ i → R (p (from rs ns i)).tree (J (p (from rs ns i)).size i)

  -- right at b
  there : {A : Type 0} {R : A → Bool → Type 0} {p : Reader A} {b : ℕ} → Ok R p b → R (p (from rs ns b)).tree (J (p (from rs ns b)).size b)
  there {b = b} h = h.holds b (omega arith)

  -- the tree is what P says, or what a family of Kept says, just if what is joined has its space
  abbrev Reads : {A : Type 0} → (A → Type 0) → Reader A → ℕ → Type 0
  Reads P p b = Ok (λ t j. Means (P t) j) p b

  abbrev Part : {A : Type 0} → (Bool → (List ℕ → Bool) → Settings → A → Type 0) → Reader A → ℕ → Type 0
  Part F p b = Reads (F false any s) p b

  -- the readings of Reading: a tree, a part more, a list, by a test, a part that is there or not
  gives : {A : Type 0} {R : A → Bool → Type 0} {b : ℕ} (a : A) → R a false → Ok R (give a) b
  unfolding somewhere
  gives a h = record { holds = λ i l. h }

  infixl 20 ◌with◌
  ◌with◌ : {A B : Type 0} {Q : A → Type 0} {R : B → Bool → Type 0} {f : Reader (A → B)} {p : Reader A} {b : ℕ}
      → Ok (λ (g : A → B) (j : Bool). (x : Got Q) → R (g x.tree) (j || x.joined)) f b → Reads Q p b → Ok R (f and p) b
  ◌with◌ {B = B} {R = R} {f = f} {p = p} h q = record {
    holds = λ i l.
        let n = (f (from rs ns i)).size in
        let x = p (from rs ns (i + n)) in
        subst (λ (y : Read B). R y.tree (J y.size i)) (sym (and_at rs ns f p i))
        (subst (R ((f (from rs ns i)).tree x.tree)) (sym (JSplit n x.size i)) (h.holds i l (got (i + n) x (q.holds (i + n) (omega arith)))));
  }

  list : {A B : Type 0} {P : A → Type 0} {p : Reader A} {b : ℕ} (Q : B → Type 0) (n : ℕ) (end : B) (more : A → B → B) → Q end
      → ((x : Got P) (y : Got Q) → Means (Q (more x.tree y.tree)) (x.joined || y.joined)) → Reads P p b → Reads Q (several n p end more) b
  unfolding several
  list Q zero end more e m q = gives end (leaf e)
  list Q (suc n) end more e m q = gives more m with q with list Q n end more e m q

  by_test : {A : Type 0} {R : A → Bool → Type 0} {f g : Reader A} {b : ℕ} (c : Bool) → Ok R f b → Ok R g b → Ok R (cond c f g) b
  by_test true h k = h
  by_test false h k = k

  optional : {A : Type 0} {P : A → Type 0} {p : Reader A} {b : ℕ} (c : Bool) → Reads P p b → Reads (IfThere P) (maybe c p) b
  optional true q = gives some one with q
  optional false q = gives none (leaf tt)

  array_ok : {b : ℕ} (c : Bool) → Part KeptArray Reading.array b → Part KeptArray (array_if c) b
  unfolding Kept
  array_ok true q = q
  array_ok false q = gives ArraySpecifier.no_dimensions (leaf tt)

  qualification_ok : {b : ℕ} (c : Bool) → Part KeptQualifier Reading.qualifier b → Part KeptQualification (qualification_if c) b
  unfolding Kept
  qualification_ok true q = gives Qualification.qualified one with q
  qualification_ok false q = gives Qualification.unqualified (leaf tt)

  callee_ok : {b : ℕ} → Part KeptType Reading.type b → Part Kept Reading.expr b → Part KeptCallee callee b
  unfolding Kept
  callee_ok t e = record {
    holds = λ i l. (by_test {R = λ t j. Means (KeptCallee false any s t) j} (eqb (first_kind (from rs ns i)) 20) (gives FunIdentifier.OfType one with t) (gives FunIdentifier.OfExpr one with e)).holds i l;
  }

  jump_ok : {b : ℕ} (v : ℕ) → Part Kept Reading.expr b → Part KeptJump (jump_statement v) b
  unfolding KeptJump
  jump_ok v e =
      by_test (eqb v 0) (gives JumpStatement.Continue (leaf tt))
      (by_test (eqb v 1) (gives JumpStatement.Break (leaf tt))
      (by_test (eqb v 2) (gives JumpStatement.Discard (leaf tt))
      (by_test (eqb v 3) (gives (JumpStatement.Return none) (leaf tt))
      (gives (λ (e : Expr). JumpStatement.Return (some e)) one with e))))

  -- names ask for nothing
  abbrev name : (t : Identifier) → Got (Passes false any s)
  name t = record { tree = t; joined = false; fact = leaf refl }

  abbrev name_if : (c : Bool) (t : Identifier) → Got (IfThere (Passes false any s))
  name_if c t = record { tree = cond c (some t) none; joined = false; fact = leaf (any_name (cond c (some t) none)) }

  -- the operands of a binary operator, without it
  operands : {b : ℕ} → Part Kept Reading.expr b → Reads (λ (t : Expr × Expr). Kept false any s t.0 × Kept false any s t.1) (give (λ (x y : Expr). (x, y)) and Reading.expr and Reading.expr) b
  operands e = gives (λ (x y : Expr). (x, y)) two with e with e

  -- what is read of record i and those behind it; the same if it is of kind m
  record Own {A : Type 0} (P : A → Type 0) (p : Reader A) (i : ℕ) : Type 0 where
    holds : Says P i (p (from rs ns (i + 1)))

  abbrev IfKind : {A : Type 0} → (A → Type 0) → ℕ → Reader A → ℕ → Type 0
  IfKind P m p i = (record_at rs i).kind ≡ m → Own P p i

  -- its variant, its count and its text
  abbrev v : ℕ → ℕ
  v i = (record_at rs i).variant

  abbrev n : ℕ → ℕ
  n i = (record_at rs i).count

  abbrev T : ℕ → Identifier
  T i = text_of ns (record_at rs i)

  -- whether it is joined, if it is of kind m: of a numeral m this computes, to false unless m is 7, 8 or 13
  abbrev here : ℕ → ℕ → Bool
  here m i = needs_here s (rec m (v i) 0 0 0) (from rs ns (i + 1))

  -- a record of kind m, before its parts
  own : {A : Type 0} {i : ℕ} (P : A → Type 0) (m : ℕ) (p : Reader A) → Means (P (p (from rs ns (i + 1))).tree) (here m i || J (p (from rs ns (i + 1))).size (i + 1)) → IfKind P m (λ L. counted (p L)) i
  unfolding somewhere
  own {i = i} P m p h e =
      let x = p (from rs ns (i + 1)) in
      let q : 1 + x.size ≡ suc x.size = omega arith in
      record { holds = rw (q, e) h }

  -- the rows of a sort's table: a kind, a kind as another sort; a row before others; what is none of the sort
  kind : {A : Type 0} {P : A → Type 0} {p : Reader A} {i : ℕ} (m : ℕ) → Ok (λ t j. Means (P t) (here m i || j)) p (i + 1) → IfKind P m (λ L. counted (p L)) i
  kind {P = P} {p = p} m h = own P m p (there h)

  as_sort : {A B : Type 0} {P : A → Type 0} {Q : B → Type 0} {p : Reader A} {i : ℕ} (m : ℕ) (f : A → B) → ((x : Got P) → Means (Q (f x.tree)) x.joined) → Own P p i → IfKind Q m (λ L. made f (p L)) i
  as_sort {p = p} {i = i} m f h k e = record { holds = h (got i (p (from rs ns (i + 1))) k.holds) }

  infixr 10 ◌else◌
  ◌else◌ : {A : Type 0} {P : A → Type 0} {m : ℕ} {p q : Reader A} {i : ℕ} → IfKind P m p i → Own P q i → Own P (cond (eqb (record_at rs i).kind m) p q) i
  ◌else◌ {P = P} {m = m} {p = p} {q = q} {i = i} h k = record {
    holds = of_kind (λ n y. (record_at rs i).kind ≡ n → Says P i y) (from rs ns (i + 1)) (record_at rs i).kind m p q (λ e. (h e).holds) (λ d e. k.holds) refl;
  }

  junk : {A : Type 0} {P : A → Type 0} {a : A} {i : ℕ} → P a → Own P (give a) i
  unfolding somewhere
  junk h = record { holds = leaf h }

  -- what is read from record b on, as each sort
  record All (b : ℕ) : Type 0 where
    expr : Part Kept Reading.expr b
    type : Part KeptType Reading.type b
    base : Part KeptBase Reading.base b
    array : Part KeptArray Reading.array b
    dimension : Part KeptDimension Reading.dimension b
    field : Part KeptField Reading.field b
    identifier : Part KeptIdentifier Reading.identifier b
    qualifier : Part KeptQualifier Reading.qualifier b
    spec : Part KeptSpec Reading.spec b
    layout_id : Part KeptId Reading.layout_id b
    full_type : Part KeptFull Reading.full_type b
    prototype : Part KeptPrototype Reading.prototype b
    parameter : Part KeptParameter Reading.parameter b
    declarators : Part KeptDeclarators Reading.declarators b
    single : Part KeptSingle Reading.single b
    declarator : Part KeptDeclarator Reading.declarator b
    initializer : Part KeptInitializer Reading.initializer b
    block : Part KeptBlock Reading.block b
    declaration : Part KeptDeclaration Reading.declaration b
    compound : Part KeptStatements Reading.compound b
    statement : Part KeptStatement Reading.statement b
    condition : Part KeptCondition Reading.condition b
    for_init : Part KeptForInit Reading.for_init b
    external : Part KeptExternal Reading.external b
    unit : Part KeptUnit Reading.unit b

  -- the two sorts that are rows of others too
  declaration_row : (i : ℕ) → All (i + 1) → Own (KeptDeclaration false any s) (declaration_of ns (record_at rs i)) i
  unfolding opened KeptDeclaration
  declaration_row i o =
      kind 47
      (by_test (eqb (v i) 0) (gives Declaration.OfPrototype one with o.prototype)
      (by_test (eqb (v i) 1) (gives Declaration.OfDeclarators one with o.declarators)
      (by_test (eqb (v i) 2) (gives Declaration.Precision two with o.spec with o.type)
      (by_test (eqb (v i) 3) (gives Declaration.OfBlock one with o.block)
      (by_test (eqb (v i) 4) (gives (Declaration.Invariant (T i)) (leaf refl))
      (gives Declaration.TypeOnly one with o.qualifier))))))
      else junk tt

  compound_row : (i : ℕ) → All (i + 1) → Own (KeptStatements false any s) (compound_of ns (record_at rs i)) i
  unfolding opened KeptStatement
  compound_row i o = kind 60 (list (KeptStatements false any s) (n i) Statements.no_statements Statements.statements tt two o.statement) else junk tt

  -- from record b on, where what stands behind each record is known
  module _ (b : ℕ) (later : (i : ℕ) → b ≤ i → i < record_count rs → All (i + 1)) where
    -- a sort by its row for a record that stands there; where none is left it is the sort's `no-..`
    place : {A : Type 0} {P : A → Type 0} (sort : Item → Read A) (a : A) → P a → ((i : ℕ) → All (i + 1) → Own P (λ L. sort (item_of ns (record_at rs i) L)) i) → Reads P (first sort a) b
    unfolding somewhere
    place {P = P} sort a e row = record {
      holds = λ i l. split i (record_count rs)
          (λ h. subst (Says P i) (sym (first_in rs ns sort a i h)) (row i (later i l h)).holds)
          (λ h. subst (Says P i) (sym (first_out rs ns sort a i h)) (leaf e));
    }

    -- the tables of Reading, row by row. What is asked for at a record of kind 7, 8 or 13 itself stands before what its operands ask for.
    step : All b
    unfolding opened Kept KeptFull KeptParameter KeptPrototype KeptInitializer KeptSingle KeptDeclarator KeptDeclarators KeptBlock KeptDeclaration KeptCondition KeptForInit KeptStatement KeptExternal
    step = record {
      expr = place (λ x. x.expr) Expr.no_expr tt (λ i o.
          kind 1 (gives (Expr.Variable (T i)) (leaf refl))
          else kind 2 (gives (Expr.IntConst (record_at rs i).a) (leaf tt))
          else kind 3 (gives (Expr.UIntConst (record_at rs i).a) (leaf tt))
          else kind 4 (gives (Expr.BoolConst (eqb (v i) 1)) (leaf tt))
          else kind 5 (gives (Expr.FloatConst (T i)) (leaf tt))
          else kind 6 (gives (Expr.DoubleConst (T i)) (leaf tt))
          else own (Kept false any s) 7 (give (Expr.Unary (unary_op_of (v i))) and Reading.expr) (rw zero-add (join (λ p q. (p, q)) (λ t. t) (asked (and-true _ ∙ or-false _ ∙ or-false _)) (there o.expr)))
          else own (Kept false any s) 8 (give (Expr.Binary (binary_op_of (v i))) and Reading.expr and Reading.expr) (join (λ p q. (p, q.0, q.1)) (λ t. (t.0, (t.1, t.2))) asked_behind (there (operands o.expr)))
          else kind 9 (gives Expr.Ternary three with o.expr with o.expr with o.expr)
          else kind 10 (gives (Expr.Assignment (assignment_op (v i))) two with o.expr with o.expr)
          else kind 11 (gives Expr.Bracket two with o.expr with o.expr)
          else kind 12 (gives Expr.FunCall two with callee_ok o.type o.expr with list (KeptArguments false any s) (n i) Exprs.no_exprs Exprs.exprs tt two o.expr)
          else own (Kept false any s) 13 (give (Expr.Dot (T i)) and Reading.expr) (rw zero-add (join (λ p q. (p, refl, refl, q)) (λ t. (t.0, t.3)) (asked (and-true _)) (there o.expr)))
          else kind 14 (gives Expr.PostInc one with o.expr)
          else kind 15 (gives Expr.PostDec one with o.expr)
          else kind 16 (gives Expr.Comma two with o.expr with o.expr)
          else junk tt);
      type = place (λ x. x.type) TypeSpecifier.no_type tt (λ i o. kind 20 (gives TypeSpecifier.type two with o.base with array_ok (eqb (v i) 1) o.array) else junk tt);
      base = place (λ x. x.base) TypeSpecifierNonArray.no_base tt (λ i o.
          kind 21 (gives (TypeSpecifierNonArray.Keyword (v i)) (leaf tt))
          else kind 22 (gives (TypeSpecifierNonArray.TypeName (T i)) (leaf refl))
          else kind 23 (gives (TypeSpecifierNonArray.Struct (cond (eqb (v i) 1) (some (T i)) none)) (two (name_if (eqb (v i) 1) (T i))) with list (KeptFields false any s) (n i) StructFieldSpecifiers.no_fields StructFieldSpecifiers.fields tt two o.field)
          else junk tt);
      array = place (λ x. x.array) ArraySpecifier.no_dimensions tt (λ i o. kind 24 (list (KeptArray false any s) (n i) ArraySpecifier.no_dimensions ArraySpecifier.dimensions tt two o.dimension) else junk tt);
      dimension = place (λ x. x.dimension) ArraySpecifierDimension.no_dimension tt (λ i o.
          kind 25 (by_test (eqb (v i) 0) (gives ArraySpecifierDimension.Unsized (leaf tt)) (gives ArraySpecifierDimension.ExplicitlySized one with o.expr)) else junk tt);
      field = place (λ x. x.field) StructFieldSpecifier.no_field tt (λ i o.
          kind 26 (gives StructFieldSpecifier.field three with qualification_ok (eqb (v i) 1) o.qualifier with o.type with list (KeptIdentifiers false any s) (n i) ArrayedIdentifiers.no_identifiers ArrayedIdentifiers.identifiers tt two o.identifier) else junk tt);
      identifier = place (λ x. x.identifier) ArrayedIdentifier.no_identifier tt (λ i o. kind 27 (gives (ArrayedIdentifier.arrayed (T i)) (two (name (T i))) with array_ok (eqb (v i) 1) o.array) else junk tt);
      qualifier = place (λ x. x.qualifier) TypeQualifier.no_specs tt (λ i o. kind 28 (list (KeptQualifier false any s) (n i) TypeQualifier.no_specs TypeQualifier.specs tt two o.spec) else junk tt);
      spec = place (λ x. x.spec) TypeQualifierSpec.no_spec tt (λ i o. kind 29
          (by_test (ltb (v i) 17) (gives (TypeQualifierSpec.Storage (Reading.storage_of (v i))) (leaf tt))
          (by_test (eqb (v i) 17) (gives TypeQualifierSpec.Subroutine one with list (KeptTypes false any s) (n i) TypeSpecifiers.no_types TypeSpecifiers.types tt two o.type)
          (by_test (eqb (v i) 18) (gives TypeQualifierSpec.Layout one with list (KeptIds false any s) (n i) LayoutQualifier.no_ids LayoutQualifier.ids tt two o.layout_id)
          (by_test (ltb (v i) 22) (gives (TypeQualifierSpec.Precision (Reading.precision_of (v i - 19))) (leaf tt))
          (by_test (ltb (v i) 25) (gives (TypeQualifierSpec.Interpolation (Reading.interpolation_of (v i - 22))) (leaf tt))
          (by_test (eqb (v i) 25) (gives TypeQualifierSpec.Invariant (leaf tt)) (gives TypeQualifierSpec.Precise (leaf tt))))))))
          else junk tt);
      layout_id = place (λ x. x.layout_id) LayoutQualifierSpec.no_id tt (λ i o. kind 30
          (by_test (eqb (v i) 0) (gives (LayoutQualifierSpec.Ident (T i)) (leaf refl))
          (by_test (eqb (v i) 1) (gives (LayoutQualifierSpec.IdentIs (T i)) (two (name (T i))) with o.expr) (gives LayoutQualifierSpec.Shared (leaf tt))))
          else junk tt);
      full_type = place (λ x. x.full_type) FullySpecifiedType.no_full_type tt (λ i o. kind 31 (gives FullySpecifiedType.full_type two with qualification_ok (eqb (v i) 1) o.qualifier with o.type) else junk tt);
      prototype = place (λ x. x.prototype) FunctionPrototype.no_prototype tt (λ i o.
          kind 40 (gives (FunctionPrototype.prototype (T i)) (three (name (T i))) with o.full_type with list (Each (KeptParameter false any s)) (n i) [] ◌∷◌ tt two o.parameter) else junk tt);
      parameter = place (λ x. x.parameter) FunctionParameterDeclaration.no_parameter tt (λ i o. kind 41
          (by_test (bit0 (v i)) (gives FunctionParameterDeclaration.Named three with qualification_ok (bit1 (v i)) o.qualifier with o.type with o.identifier)
          (gives FunctionParameterDeclaration.Unnamed two with qualification_ok (bit1 (v i)) o.qualifier with o.type))
          else junk tt);
      declarators = place (λ x. x.declarators) InitDeclaratorList.no_declarators tt (λ i o.
          kind 42 (gives InitDeclaratorList.declarators two with o.single with list (Each (KeptDeclarator false any s)) (n i) [] ◌∷◌ tt two o.declarator) else junk tt);
      single = place (λ x. x.single) SingleDeclaration.no_single tt (λ i o.
          kind 43 (gives SingleDeclaration.single four with o.full_type with gives (cond (bit0 (v i)) (some (T i)) none) (leaf (any_name (cond (bit0 (v i)) (some (T i)) none))) with array_ok (bit1 (v i)) o.array with optional (bit2 (v i)) o.initializer) else junk tt);
      declarator = place (λ x. x.declarator) SingleDeclarationNoType.no_declarator tt (λ i o.
          kind 44 (gives SingleDeclarationNoType.declarator two with o.identifier with optional (eqb (v i) 1) o.initializer) else junk tt);
      initializer = place (λ x. x.initializer) Initializer.no_initializer tt (λ i o. kind 45
          (by_test (eqb (v i) 0) (gives Initializer.Simple one with o.expr)
          (gives Initializer.ListOf one with list (KeptInitializers false any s) (n i) Initializers.no_initializers Initializers.initializers tt two o.initializer))
          else junk tt);
      block = place (λ x. x.block) Block.no_block tt (λ i o.
          kind 46 (gives (Block.block (T i)) (four (name (T i))) with o.qualifier with list (KeptFields false any s) (n i) StructFieldSpecifiers.no_fields StructFieldSpecifiers.fields tt two o.field with optional (eqb (v i) 1) o.identifier) else junk tt);
      declaration = place (λ x. x.declaration) Declaration.no_declaration tt declaration_row;
      compound = place (λ x. x.compound) Statements.no_statements tt compound_row;
      statement = place (λ x. x.statement) Statement.no_statement tt (λ i o.
          as_sort 47 Statement.OfDeclaration one (declaration_row i o)
          else as_sort 60 Statement.Compound one (compound_row i o)
          else kind 61 (gives Statement.Expression one with optional (eqb (v i) 1) o.expr)
          else kind 62 (by_test (eqb (v i) 0) (gives Statement.If two with o.expr with o.statement) (gives Statement.IfElse three with o.expr with o.statement with o.statement))
          else kind 63 (gives Statement.Switch two with o.expr with list (KeptStatements false any s) (n i) Statements.no_statements Statements.statements tt two o.statement)
          else kind 64 (by_test (eqb (v i) 0) (gives Statement.Default (leaf tt)) (gives Statement.Case one with o.expr))
          else kind 65 (gives Statement.While two with o.condition with o.statement)
          else kind 66 (gives Statement.DoWhile two with o.statement with o.expr)
          else kind 67 (gives Statement.For four with o.for_init with optional (bit0 (v i)) o.condition with optional (bit1 (v i)) o.expr with o.statement)
          else kind 68 (gives Statement.OfJump one with jump_ok (v i) o.expr)
          else junk tt);
      condition = place (λ x. x.condition) Condition.no_condition tt (λ i o. kind 69
          (by_test (eqb (v i) 0) (gives Condition.OfExpr one with o.expr)
          (gives (Condition.Assignment (T i)) (three (name (T i))) with o.full_type with o.initializer))
          else junk tt);
      for_init = place (λ x. x.for_init) ForInitStatement.no_for_init tt (λ i o. kind 70
          (by_test (eqb (v i) 0) (gives (ForInitStatement.Expression none) (leaf tt))
          (by_test (eqb (v i) 1) (gives (λ (e : Expr). ForInitStatement.Expression (some e)) one with o.expr)
          (gives ForInitStatement.OfDeclaration one with o.declaration)))
          else junk tt);
      external = place (λ x. x.external) ExternalDeclaration.no_external tt (λ i o.
          as_sort 47 ExternalDeclaration.OfDeclaration one (declaration_row i o)
          else kind 81 (gives ExternalDeclaration.FunctionDefinition two with o.prototype with o.compound)
          else junk tt);
      unit = place (λ x. x.unit) [] tt (λ i o. kind 80 (list (KeptUnit false any s) (n i) [] ◌∷◌ tt two o.external) else junk tt);
    }

  -- by induction on the records that are left
  all : (left b : ℕ) → record_count rs ≤ b + left → All b
  all zero b h = step b (λ i l k. absurd (omega arith))
  all (suc left) b h = step b (λ i l k. all left (i + 1) (omega arith))

  whole : All 0
  whole = all (record_count rs) 0 (omega arith)

  -- what is read from the first record on, as a unit and as an expression
  pub unit_kept : (somewhere (needs_here s) (Reading.unit (from rs ns 0)).size rs ns 0 ≡ true → s.spaces_where_needed ≡ true) → KeptUnit false any s (Reading.unit (from rs ns 0)).tree
  unit_kept = (there whole.unit).forth

  pub unit_spaced : KeptUnit false any s (Reading.unit (from rs ns 0)).tree → somewhere (needs_here s) (Reading.unit (from rs ns 0)).size rs ns 0 ≡ true → s.spaces_where_needed ≡ true
  unit_spaced = (there whole.unit).back

  pub expr_kept : (somewhere (needs_here s) (Reading.expr (from rs ns 0)).size rs ns 0 ≡ true → s.spaces_where_needed ≡ true) → Kept false any s (Reading.expr (from rs ns 0)).tree
  expr_kept = (there whole.expr).forth

  pub expr_spaced : Kept false any s (Reading.expr (from rs ns 0)).tree → somewhere (needs_here s) (Reading.expr (from rs ns 0)).size rs ns 0 ≡ true → s.spaces_where_needed ≡ true
  expr_spaced = (there whole.expr).back
