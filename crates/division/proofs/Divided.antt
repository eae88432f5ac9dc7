-- The text of a formed expression, structs in its callees included, is divided into its tokens, under any settings, if a space stands at each place where tokens would be read as one (`Kept`).
-- Assumes nothing.
use mathlib.Core.Path.{◌≡◌, refl, sym, ap, subst}
use mathlib.Core.Bool.{Bool, true, false, not, ◌&&◌, ◌||◌, cond}
use mathlib.Core.List.{List, [], ◌∷◌, ◌++◌, append_assoc, append-nil}
use mathlib.Core.Option.{Option, none, some}
use Prim.Native.Nat.{ℕ, ◌<◌, ◌^◌}
use native.Mathlib.Omega.{arith}
use lib.Dec.{leb, ltb}
use lib.ListN.{length}
use borrow.Author.Tests.{lt-leb}
use Rattle.words.specs.Form.{all, name_form, float_form}
use Rattle.words.specs.Letter.{letter, digit, name_byte}
use Rattle.words.specs.Symbol.{Symbol, symbol_text}
use Rattle.words.specs.Symbol.Symbol.{dot, dash, inc_op, dec_op, question, colon, equal}
use Rattle.words.specs.Keyword.{type_keywords}
use Rattle.words.specs.Word.{Word, StorageQualifier}
use Rattle.decimal.specs.Decimal.{negative, magnitude}
use Rattle.settings.specs.declared.Settings.{Settings}
use Rattle.settings.specs.declared.FormattingState.{FormattingState}
use Rattle.text.specs.Token.{Token, spell}
use Rattle.text.specs.Asked.Flag.{spaces_where_needed, needed_operator_spaces}
use Rattle.text.specs.Command.{Command, write_list_separator}
use Rattle.text.specs.Command.Command.{token}
use Rattle.text.specs.Pen.{written, text}
use Rattle.text.specs.Tree.{Identifier, UnaryOp, BinaryOp, AssignmentOp, Expr, Exprs, FunIdentifier, TypeSpecifier, TypeSpecifiers, TypeSpecifierNonArray, ArraySpecifier, ArraySpecifierDimension, StructFieldSpecifier, StructFieldSpecifiers, ArrayedIdentifier, ArrayedIdentifiers, Qualification, TypeQualifier, TypeQualifierSpec, LayoutQualifier, LayoutQualifierSpec}
use Rattle.text.specs.Tree.Expr.{no_expr, Variable, IntConst, UIntConst, BoolConst, FloatConst, DoubleConst, Unary, Binary, Ternary, Assignment, Bracket, FunCall, Dot, PostInc, PostDec, Comma}
use Rattle.text.specs.Tree.Exprs.{no_exprs, exprs}
use Rattle.text.specs.Tree.FunIdentifier.{OfType, OfExpr}
use Rattle.text.specs.Tree.TypeSpecifier.{no_type, type}
use Rattle.text.specs.Tree.TypeSpecifierNonArray.{no_base, Keyword, TypeName, Struct}
use Rattle.text.specs.Tree.ArraySpecifier.{no_dimensions, dimensions}
use Rattle.text.specs.Tree.ArraySpecifierDimension.{no_dimension, Unsized, ExplicitlySized}
use Rattle.text.specs.Operator.{postfix_precedence, ternary_precedence, assignment_precedence, comma_precedence, binary_precedence, precedence, unary_symbol, binary_symbol, assignment_symbol, bare_operand, bare_right}
use Rattle.text.specs.Joins.{sign_if, sign, joins, joins_under, joins_right, is_int}
use Rattle.text.specs.Text.{bool_word, a_token, a_word, a_space, a_symbol, bare_if, apart, optional, show_identifier, show_int, show_expr, show_exprs, show_function_identifier, show_type_specifier, show_type_specifiers, show_type_specifier_non_array, show_struct_fields, show_struct_field, show_arrayed_identifiers, show_arrayed_identifier, show_qualification, show_type_qualifier, show_type_qualifier_spec, show_layout_ids, show_layout_qualifier_spec, show_array_spec, show_dimension}
use Rattle.text.specs.Visible.{tokens_of}
use Rattle.formed.specs.Formed.{Name, IfThere, FormedExpr, FormedExprs, FormedCallee, FormedType, FormedTypes, FormedBase, FormedFields, FormedField, FormedSomeIdentifiers, FormedIdentifiers, FormedIdentifier, FormedQualification, FormedQualifier, FormedSpecs, FormedSpec, FormedLayout, FormedIds, FormedId, FormedDimensions, FormedDimension}
use Rattle.formed.proofs.Signs.{Starts, starts_bare, expr_starts}
use Rattle.formed.proofs.Declared.{if_declared}
use Rattle.grammar.proofs.Ladder.{ladder}
use Rattle.grammar.proofs.Strengths.{same_strength}
use Rattle.lexis.specs.Division.{Divides}
use Rattle.lexis.specs.Division.Divides.{at_end}
use Rattle.lexis.proofs.Laws.{symbol_lengthens, opens, Spelling}
use Rattle.division.proofs.Clear.{Clear, clear_of, Ends, ends_wider, point_clear, field_clear, unary_behind, binary_behind, assignment_clear, binary_operator, assignment_operator, never_longer}
use Rattle.division.proofs.Parts.{Part, then, wider, nothing, ◌and◌, blank_part, begins_token, a_part, a_symbol_part, behind, indexed, called, operand, separated, between, apart_clear, apart_part}
use Rattle.division.proofs.Follow.{Sealed, ◌onto◌, a_gap, regroup, ended, block_opens, block_closes}
use Rattle.division.proofs.Kept.{is_other, Asked, Passes, Kept, KeptCallee, KeptArguments, KeptType, KeptBase, KeptTypes, KeptFields, KeptField, KeptIdentifiers, KeptIdentifier, KeptQualification, KeptQualifier, KeptSpec, KeptIds, KeptId, KeptArray, KeptDimension}

-- which tokens a spelling must call proper: those of formed trees whose names pass a test
pub record Admits (passes : List ℕ → Bool) (proper : Token → Bool) : Type 0 where
  pub names : (n : Identifier) → name_form n ≡ true → passes n ≡ true → proper (Token.name n) ≡ true
  pub types : (v : ℕ) → v < length type_keywords → proper (Token.type v) ≡ true
  pub ints : (n : ℕ) → n < 2 ^ 32 → proper (Token.int (magnitude n)) ≡ true
  pub uints : (n : ℕ) → n < 2 ^ 32 → proper (Token.uint n) ≡ true
  pub floats : (t : List ℕ) → float_form t ≡ true → proper (Token.float t) ≡ true
  pub doubles : (t : List ℕ) → float_form t ≡ true → proper (Token.double t) ≡ true
  pub words : (w : Word) → proper (Token.word w) ≡ true
  pub symbols : (y : Symbol) → proper (Token.symbol y) ≡ true

-- can its text, without parentheses around it, end in a whole number, or in another?
abbrev loosely : Expr → Bool
loosely e = not (leb (precedence e) 2)

abbrev ends_whole : Expr → Bool
ends_whole e = is_int e || loosely e

abbrev ends_other : Expr → Bool
ends_other e = is_other e || loosely e

or_false_is : (a b : Bool) → b ≡ false → a || b ≡ a
or_false_is true b e = refl
or_false_is false b e = e

-- only what binds loosely ends in numbers that it is not
tight_ends : (e : Expr) → leb (precedence e) 2 ≡ true → (t : Token) → Ends (ends_whole e) (ends_other e) t → Ends (is_int e) (is_other e) t
tight_ends e h t k = subst (λ (o : Bool). Ends (is_int e) o t) (or_false_is (is_other e) (loosely e) (ap not h)) (subst (λ (i : Bool). Ends i (ends_other e) t) (or_false_is (is_int e) (loosely e) (ap not h)) k)

-- as every binary operator does
loose : (o : BinaryOp) → leb (binary_precedence o) 2 ≡ false
loose o = lt-leb (binary_precedence o) 2 (omega (arith, same_strength o, (ladder o).0))

-- what starts with a byte b has it first, whatever stands behind
module _ {c : ℕ} {cs : List Command} (h : Starts c cs) (s : Settings) (P : List ℕ → Type 0) (k : (bs : List ℕ) → P (h.byte ∷ bs)) where
  started : (x : FormattingState) (rest : List ℕ) → P (text s cs x ++ rest)
  started x rest = subst (λ (bs : List ℕ). P (bs ++ rest)) (sym (h.starts s x).1) (k ((h.starts s x).0 ++ rest))

module _ (wide : Bool) (passes : List ℕ → Bool) {L : List ℕ → Token → Type 0} {W : List ℕ → Bool} {proper : Token → Bool} (law : Spelling wide spell proper L W) (ok : Admits passes proper) (s : Settings) where
  -- the judgement, for these settings and this spelling
  abbrev Divided : (whole other : Bool) → List Command → Type 0
  Divided i o cs = Part wide L W s (Ends i o) cs

  -- an operand, bare or not, begins with the sign of its expression
  operand_starts : (e : Expr) → FormedExpr e → (bare : Bool) → Starts (sign_if bare (sign e)) (bare_if bare (show_expr e))
  operand_starts e f bare = starts_bare bare (expr_starts e f)

  -- so where the two are not read as one the operand stands clear behind its operator, and behind an assignment's it always does
  unary_clear : (op : UnaryOp) (e : Expr) → FormedExpr e → joins_under op e ≡ false → (x : FormattingState) (rest : List ℕ) → Clear wide (Token.symbol (unary_symbol op)) (text s (bare_if (bare_operand op e) (show_expr e)) x ++ rest)
  unfolding joins
  unary_clear op e f j =
      let h = operand_starts e f (bare_operand op e) in
      started h s (λ bs. Clear wide (Token.symbol (unary_symbol op)) bs) (λ bs. unary_behind wide (sign_if (bare_operand op e) (sign e)) h.byte bs h.fronts h.same op j)

  binary_clear : (op : BinaryOp) (r : Expr) → FormedExpr r → joins_right op r ≡ false → (x : FormattingState) (rest : List ℕ) → Clear wide (Token.symbol (binary_symbol op)) (text s (bare_if (bare_right op r) (show_expr r)) x ++ rest)
  unfolding joins
  binary_clear op r f j =
      let h = operand_starts r f (bare_right op r) in
      started h s (λ bs. Clear wide (Token.symbol (binary_symbol op)) bs) (λ bs. binary_behind wide (sign_if (bare_right op r) (sign r)) h.byte bs h.fronts h.same op j)

  pub value_clear : (op : AssignmentOp) (e : Expr) → FormedExpr e → (bare : Bool) → (x : FormattingState) (rest : List ℕ) → Clear wide (Token.symbol (assignment_symbol op)) (text s (bare_if bare (show_expr e)) x ++ rest)
  value_clear op e f bare =
      let h = operand_starts e f bare in
      started h s (λ bs. Clear wide (Token.symbol (assignment_symbol op)) bs) (λ bs. assignment_clear wide op h.byte bs h.fronts)

  -- a field's name behind its dot
  selected : (i : Identifier) → proper (Token.name i) ≡ true → (x : FormattingState) (rest : List ℕ) → Clear wide (Token.symbol dot) (text s (a_token (Token.name i)) x ++ rest)
  unfolding opens
  selected i v x rest = field_clear wide (text s (a_token (Token.name i)) x ++ rest) (begins_token law s (Token.name i) v x rest)

  -- the dot behind what it selects from
  dotted : (e : Expr) → Asked s (is_int e) spaces_where_needed → wide && is_other e ≡ false → (t : Token) → Ends (is_int e) (is_other e) t → (x : FormattingState) (rest : List ℕ) → Clear wide t (text s (apart (is_int e) spaces_where_needed (a_symbol dot)) x ++ rest)
  unfolding text written spell symbol_text
  dotted e k w t h = apart_clear wide s (is_int e) spaces_where_needed t (a_symbol dot) k (λ q x rest. point_clear wide (is_other e) w t (subst (λ (i : Bool). Ends i (is_other e) t) q h))

  -- whatever it ends in
  loosen : {i o : Bool} {cs : List Command} → Divided i o cs → Divided true true cs
  loosen {i = i} {o = o} p = wider (ends_wider i o) p

  -- a whole number, with its sign
  int_part : (n : ℕ) → n < 2 ^ 32 → Divided true false (show_int n)
  unfolding opens all symbol_lengthens digit
  int_part n b = go (negative n)
    where
      number : Divided true false (a_token (Token.int (magnitude n)))
      number = wider (λ u q. rw q refl) (a_part law (Token.int (magnitude n)) (ok.ints n b))

      go : (m : Bool) → Divided true false (cond m (token (Token.symbol dash) ∷ a_token (Token.int (magnitude n))) (a_token (Token.int (magnitude n))))
      go true = then (a_symbol_part law ok.symbols dash) (λ u q x rest. rw q (clear_of wide digit dash (text s (a_token (Token.int (magnitude n))) x ++ rest) refl (begins_token law s (Token.int (magnitude n)) (ok.ints n b) x rest))) number
      go false = number

  -- names and words
  pub name_part : (i : Identifier) → Name i → Passes wide passes s i → Divided false false (show_identifier i)
  name_part i f h = wider (λ u q. rw q tt) (a_part law (Token.name i) (ok.names i f h))

  optional_name : (n : Option Identifier) → IfThere Name n → IfThere (Passes wide passes s) n → Divided false false (optional show_identifier n)
  unfolding optional
  optional_name none f h = nothing
  optional_name (some i) f h = name_part i f h

  pub word_part : (w : Word) → Divided false false (a_word w)
  word_part w = wider (λ u q. rw q tt) (a_part law (Token.word w) (ok.words w))

  -- a subroutine qualifier, with its types or without
  subroutine_part : (ts : TypeSpecifiers) → Divided false false (show_type_specifiers ts true) → Divided false false (show_type_qualifier_spec (TypeQualifierSpec.Subroutine ts))
  unfolding show_type_qualifier_spec
  subroutine_part TypeSpecifiers.no_types p = word_part Word.subroutine
  subroutine_part (TypeSpecifiers.types t ts) p = called law ok.symbols (word_part Word.subroutine) p

  -- an operand
  bare : {i o : Bool} {cs : List Command} (b : Bool) → Divided i o cs → Divided true true (bare_if b cs)
  bare {i = i} {o = o} b p = operand law ok.symbols b (λ q t. ends_wider i o t) p

  -- one part for each printer
  mutual
    unfolding FormedExpr Kept show_expr assignment_symbol precedence is_int is_other text written spell symbol_text symbol_lengthens name_byte letter digit

    part : (e : Expr) → FormedExpr e → Kept wide passes s e → Divided (ends_whole e) (ends_other e) (show_expr e)
    part no_expr f t = absurd f
    part (Variable n) f t = name_part n f t
    part (IntConst n) f t = int_part n f
    part (UIntConst n) f t = wider (λ u q. rw q refl) (a_part law (Token.uint n) (ok.uints n f))
    part (BoolConst b) f t = word_part (bool_word b)
    part (FloatConst x) f t = wider (λ u q. rw q refl) (a_part law (Token.float x) (ok.floats x f))
    part (DoubleConst x) f t = wider (λ u q. rw q refl) (a_part law (Token.double x) (ok.doubles x f))
    part (Unary op e) f t =
        then (a_symbol_part law ok.symbols (unary_symbol op))
        (λ u q x rest. rw q (apart_clear wide s (joins_under op e) spaces_where_needed (Token.symbol (unary_symbol op)) (bare_if (bare_operand op e) (show_expr e)) t.0 (unary_clear op e f) x rest))
        (apart_part (joins_under op e) spaces_where_needed (bare (bare_operand op e) (part e f t.1)))
    part (Binary op l r) f t =
        rw (loose op)
        (between law ok.symbols (binary_symbol op) (binary_operator op)
        (λ off. apart_clear wide s (joins_right op r) needed_operator_spaces (Token.symbol (binary_symbol op)) (bare_if (bare_right op r) (show_expr r)) (t.0 off) (binary_clear op r f.1))
        (bare (leb (precedence l) (binary_precedence op)) (part l f.0 t.1))
        (apart_part (joins_right op r) needed_operator_spaces (bare (bare_right op r) (part r f.1 t.2))))
    part (Ternary c a b) f t =
        between law ok.symbols colon refl (λ off x rest. never_longer wide colon (text s (bare_if (leb (precedence b) ternary_precedence) (show_expr b)) x ++ rest) refl)
        (between law ok.symbols question refl (λ off x rest. never_longer wide question (text s (show_expr a) x ++ rest) refl) (bare (ltb (precedence c) ternary_precedence) (part c f.0 t.0)) (part a f.1 t.1))
        (bare (leb (precedence b) ternary_precedence) (part b f.2 t.2))
    part (Assignment op v e) f t =
        between law ok.symbols (assignment_symbol op) (assignment_operator op) (λ off. value_clear op e f.1 (leb (precedence e) assignment_precedence))
        (bare (ltb (precedence v) assignment_precedence) (part v f.0 t.0)) (bare (leb (precedence e) assignment_precedence) (part e f.1 t.1))
    part (Bracket e a) f t = indexed law ok.symbols (bare (leb (precedence e) postfix_precedence) (part e f.0 t.0)) (part a f.1 t.1)
    part (FunCall c es) f t = called law ok.symbols (callee_part c f.0 t.0) (arguments es f.1 t.1)
    part (Dot i e) f t =
        then (then (operand law ok.symbols (leb (precedence e) 2) (tight_ends e) (part e f.1 t.3)) (λ u q x rest. dotted e t.0 t.1 u q x rest) (apart_part (is_int e) spaces_where_needed (a_symbol_part law ok.symbols dot)))
        (λ u q x rest. rw q (selected i (ok.names i f.0 t.2) x rest)) (name_part i f.0 t.2)
    part (PostInc e) f t = behind law ok.symbols inc_op refl refl (bare (ltb (precedence e) postfix_precedence) (part e f t))
    part (PostDec e) f t = behind law ok.symbols dec_op refl refl (bare (ltb (precedence e) postfix_precedence) (part e f t))
    part (Comma a b) f t = separated law ok.symbols (bare (leb (precedence a) comma_precedence) (part a f.0 t.0)) (bare (ltb (precedence b) comma_precedence) (part b f.1 t.1))

    arguments : (es : Exprs) → FormedExprs es → KeptArguments wide passes s es → Divided true true (show_exprs es true)
    arguments no_exprs f t = nothing
    arguments (exprs e es) f t = more_arguments es f.1 t.1 (loosen (part e f.0 t.0))

    -- behind the arguments before them (so too in the lists below)
    more_arguments : (es : Exprs) → FormedExprs es → KeptArguments wide passes s es → {cs : List Command} → Divided true true cs → Divided true true (cs ++ show_exprs es false)
    more_arguments no_exprs f t {cs = cs} p = rw (append-nil cs) p
    more_arguments (exprs e es) f t {cs = cs} p = regroup cs write_list_separator (show_expr e) (show_exprs es false) (more_arguments es f.1 t.1 (separated law ok.symbols p (loosen (part e f.0 t.0))))

    callee_part : (c : FunIdentifier) → FormedCallee c → KeptCallee wide passes s c → Divided true true (show_function_identifier c)
    callee_part (OfType t) f h = loosen (type_part t f h)
    callee_part (OfExpr e) f h = loosen (part e f h)

    pub type_part : (t : TypeSpecifier) → FormedType t → KeptType wide passes s t → Divided false false (show_type_specifier t)
    type_part no_type f h = absurd f
    type_part (type b ds) f h = array_part ds f.1 h.1 (base_part b f.0 h.0)

    base_part : (b : TypeSpecifierNonArray) → FormedBase b → KeptBase wide passes s b → Divided false false (show_type_specifier_non_array b)
    base_part no_base f h = absurd f
    base_part (Keyword v) f h = wider (λ u q. rw q tt) (a_part law (Token.type v) (ok.types v f))
    base_part (TypeName n) f h = name_part n f h
    base_part (Struct n fs) f h =
        word_part Word.struct onto a_gap and optional_name n (if_declared n f.0) h.0 onto block_opens law ok.symbols and fields_part fs f.1 h.1 and block_closes law ok.symbols

    types_part : (ts : TypeSpecifiers) → FormedTypes ts → KeptTypes wide passes s ts → Divided false false (show_type_specifiers ts true)
    types_part TypeSpecifiers.no_types f h = nothing
    types_part (TypeSpecifiers.types t ts) f h = more_types ts f.1 h.1 (type_part t f.0 h.0)

    more_types : (ts : TypeSpecifiers) → FormedTypes ts → KeptTypes wide passes s ts → {cs : List Command} → Divided false false cs → Divided false false (cs ++ show_type_specifiers ts false)
    more_types TypeSpecifiers.no_types f h {cs = cs} p = rw (append-nil cs) p
    more_types (TypeSpecifiers.types t ts) f h {cs = cs} p = regroup cs write_list_separator (show_type_specifier t) (show_type_specifiers ts false) (more_types ts f.1 h.1 (separated law ok.symbols p (type_part t f.0 h.0)))

    pub fields_part : (fs : StructFieldSpecifiers) → FormedFields fs → KeptFields wide passes s fs → Sealed wide L W s (show_struct_fields fs)
    fields_part StructFieldSpecifiers.no_fields f h = nothing
    fields_part (StructFieldSpecifiers.fields d fs) f h = blank_part refl (field_part d f.0 h.0) onto ended law ok.symbols refl and fields_part fs f.1 h.1

    field_part : (d : StructFieldSpecifier) → FormedField d → KeptField wide passes s d → Divided false false (show_struct_field d)
    field_part StructFieldSpecifier.no_field f h = absurd f
    field_part (StructFieldSpecifier.field q t is) f h = qualification_part q f.0 h.0 and type_part t f.1 h.1 onto a_gap and some_identifiers_part is f.2 h.2

    some_identifiers_part : (is : ArrayedIdentifiers) → FormedSomeIdentifiers is → KeptIdentifiers wide passes s is → Divided false false (show_arrayed_identifiers is true)
    some_identifiers_part ArrayedIdentifiers.no_identifiers f h = absurd f
    some_identifiers_part (ArrayedIdentifiers.identifiers i is) f h = more_identifiers is f.1 h.1 (identifier_part i f.0 h.0)

    more_identifiers : (is : ArrayedIdentifiers) → FormedIdentifiers is → KeptIdentifiers wide passes s is → {cs : List Command} → Divided false false cs → Divided false false (cs ++ show_arrayed_identifiers is false)
    more_identifiers ArrayedIdentifiers.no_identifiers f h {cs = cs} p = rw (append-nil cs) p
    more_identifiers (ArrayedIdentifiers.identifiers i is) f h {cs = cs} p = regroup cs write_list_separator (show_arrayed_identifier i) (show_arrayed_identifiers is false) (more_identifiers is f.1 h.1 (separated law ok.symbols p (identifier_part i f.0 h.0)))

    pub identifier_part : (i : ArrayedIdentifier) → FormedIdentifier i → KeptIdentifier wide passes s i → Divided false false (show_arrayed_identifier i)
    identifier_part ArrayedIdentifier.no_identifier f h = absurd f
    identifier_part (ArrayedIdentifier.arrayed i ds) f h = array_part ds f.1 h.1 (name_part i f.0 h.0)

    pub qualification_part : (q : Qualification) → FormedQualification q → KeptQualification wide passes s q → Sealed wide L W s (show_qualification q)
    qualification_part Qualification.unqualified f h = nothing
    qualification_part (Qualification.qualified q) f h = qualifier_part q f h onto a_gap

    pub qualifier_part : (q : TypeQualifier) → FormedQualifier q → KeptQualifier wide passes s q → Divided false false (show_type_qualifier q true)
    qualifier_part TypeQualifier.no_specs f h = absurd f
    qualifier_part (TypeQualifier.specs q qs) f h = more_specs qs f.1 h.1 (spec_part q f.0 h.0)

    more_specs : (qs : TypeQualifier) → FormedSpecs qs → KeptQualifier wide passes s qs → {cs : List Command} → Divided false false cs → Divided false false (cs ++ show_type_qualifier qs false)
    more_specs TypeQualifier.no_specs f h {cs = cs} p = rw (append-nil cs) p
    more_specs (TypeQualifier.specs q qs) f h {cs = cs} p = regroup cs a_space (show_type_qualifier_spec q) (show_type_qualifier qs false) (more_specs qs f.1 h.1 (p onto a_gap and spec_part q f.0 h.0))

    pub spec_part : (q : TypeQualifierSpec) → FormedSpec q → KeptSpec wide passes s q → Divided false false (show_type_qualifier_spec q)
    spec_part TypeQualifierSpec.no_spec f h = absurd f
    spec_part (TypeQualifierSpec.Storage q) f h = word_part (Word.storage q)
    spec_part (TypeQualifierSpec.Subroutine ts) f h = subroutine_part ts (types_part ts f h)
    spec_part (TypeQualifierSpec.Layout is) f h = called law ok.symbols (word_part Word.layout) (layout_part is f h)
    spec_part (TypeQualifierSpec.Precision p) f h = word_part (Word.precision_qualifier p)
    spec_part (TypeQualifierSpec.Interpolation i) f h = word_part (Word.interpolation i)
    spec_part TypeQualifierSpec.Invariant f h = word_part Word.invariant
    spec_part TypeQualifierSpec.Precise f h = word_part Word.precise

    layout_part : (is : LayoutQualifier) → FormedLayout is → KeptIds wide passes s is → Divided true true (show_layout_ids is true)
    layout_part LayoutQualifier.no_ids f h = absurd f
    layout_part (LayoutQualifier.ids i is) f h = more_ids is f.1 h.1 (id_part i f.0 h.0)

    more_ids : (is : LayoutQualifier) → FormedIds is → KeptIds wide passes s is → {cs : List Command} → Divided true true cs → Divided true true (cs ++ show_layout_ids is false)
    more_ids LayoutQualifier.no_ids f h {cs = cs} p = rw (append-nil cs) p
    more_ids (LayoutQualifier.ids i is) f h {cs = cs} p = regroup cs write_list_separator (show_layout_qualifier_spec i) (show_layout_ids is false) (more_ids is f.1 h.1 (separated law ok.symbols p (id_part i f.0 h.0)))

    id_part : (i : LayoutQualifierSpec) → FormedId i → KeptId wide passes s i → Divided true true (show_layout_qualifier_spec i)
    id_part LayoutQualifierSpec.no_id f h = absurd f
    id_part (LayoutQualifierSpec.Ident i) f h = loosen (name_part i f h)
    id_part (LayoutQualifierSpec.IdentIs i e) f h = loosen (between law ok.symbols equal refl (λ off. value_clear AssignmentOp.Equal e f.1 true) (name_part i f.0 h.0) (part e f.1 h.1))
    id_part LayoutQualifierSpec.Shared f h = loosen (word_part (Word.storage StorageQualifier.shared))

    -- the dimensions, behind what is before them
    pub array_part : (ds : ArraySpecifier) → FormedDimensions ds → KeptArray wide passes s ds → {cs : List Command} → Divided false false cs → Divided false false (cs ++ show_array_spec ds)
    array_part no_dimensions f h {cs = cs} p = rw (append-nil cs) p
    array_part (dimensions d ds) f h {cs = cs} p = rw (sym (append_assoc cs (show_dimension d) (show_array_spec ds))) (array_part ds f.1 h.1 (dimension_part d f.0 h.0 p))

    dimension_part : (d : ArraySpecifierDimension) → FormedDimension d → KeptDimension wide passes s d → {cs : List Command} → Divided false false cs → Divided false false (cs ++ show_dimension d)
    dimension_part no_dimension f h p = absurd f
    dimension_part Unsized f h p = indexed law ok.symbols p (nothing {E = Ends false false})
    dimension_part (ExplicitlySized e) f h p = indexed law ok.symbols p (part e f h)

  pub expr_part : (e : Expr) → FormedExpr e → Kept wide passes s e → Divided true true (show_expr e)
  expr_part e f t = loosen (part e f t)

  -- the whole text
  pub divided : (e : Expr) → FormedExpr e → Kept wide passes s e → (x : FormattingState) → Divides L W (text s (show_expr e) x) (tokens_of (show_expr e))
  divided e f t x = simp append-nil at ((expr_part e f t).join x [] [] (λ u q. tt) at_end)
