-- The text of a formed expression, or of what else stands in a type, tells where it is split into its tokens by GLSL's words that each place of the joined rule has its space (02, #107): the converse of
-- proofs/Divided. Assumes nothing.
use mathlib.Core.Path.{◌≡◌, refl, sym, ap, subst, ◌∙◌}
use mathlib.Core.Bool.{Bool, true, false, ◌||◌, cond}
use mathlib.Core.List.{List, [], ◌∷◌, ◌++◌, append_assoc}
use Prim.Native.Nat.{ℕ}
use lib.Dec.{leb, ltb}
use Rattle.words.specs.Bytes.{bytes}
use Rattle.words.specs.Form.{same, one_of}
use Rattle.words.specs.Symbol.{Symbol, symbol_text}
use Rattle.words.specs.Symbol.Symbol.{left_paren, right_paren, left_bracket, right_bracket, dash, dot, equal}
use Rattle.words.specs.Word.{Word}
use Rattle.words.proofs.Search.{every_word}
use Rattle.decimal.specs.Decimal.{negative, magnitude}
use Rattle.settings.specs.declared.Settings.{Settings}
use Rattle.settings.specs.declared.FormattingState.{FormattingState}
use Rattle.text.specs.Token.{Token, spell, point}
use Rattle.text.specs.Asked.{Flag, flag}
use Rattle.text.specs.Asked.Flag.{spaces_around_binary_ops, spaces_where_needed, needed_operator_spaces}
use Rattle.text.specs.Command.{Command, write_binary_op, enter_block, exit_block}
use Rattle.text.specs.Command.Command.{token, space_if}
use Rattle.text.specs.Pen.{written, after, text}
use Rattle.text.specs.Tree.{Identifier, Expr, Exprs, FunIdentifier, TypeSpecifier, TypeSpecifiers, TypeSpecifierNonArray, ArraySpecifier, ArraySpecifierDimension, StructFieldSpecifier, StructFieldSpecifiers, ArrayedIdentifier, ArrayedIdentifiers, Qualification, TypeQualifier, TypeQualifierSpec, LayoutQualifier, LayoutQualifierSpec}
use Rattle.text.specs.Tree.Expr.{no_expr, Variable, IntConst, UIntConst, BoolConst, FloatConst, DoubleConst, Unary, Binary, Ternary, Assignment, Bracket, FunCall, Dot, PostInc, PostDec, Comma}
use Rattle.text.specs.Tree.Exprs.{no_exprs, exprs}
use Rattle.text.specs.Tree.FunIdentifier.{OfType, OfExpr}
use Rattle.text.specs.Tree.TypeSpecifier.{no_type, type}
use Rattle.text.specs.Tree.TypeSpecifierNonArray.{no_base, Keyword, TypeName, Struct}
use Rattle.text.specs.Tree.ArraySpecifier.{no_dimensions, dimensions}
use Rattle.text.specs.Tree.ArraySpecifierDimension.{no_dimension, Unsized, ExplicitlySized}
use Rattle.text.specs.Operator.{postfix_precedence, ternary_precedence, assignment_precedence, comma_precedence, binary_precedence, precedence, unary_symbol, binary_symbol, reads_as_one, bare_operand, bare_right}
use Rattle.text.specs.Joins.{sign_if, sign, joins, joins_under, joins_right, is_int}
use Rattle.text.specs.Text.{a_token, a_word, a_symbol, a_space, bare_if, apart, separator, space_between, show_int, show_identifier, optional, show_expr, show_exprs, show_function_identifier, show_type_specifier, show_type_specifiers, show_type_specifier_non_array, show_array_spec, show_dimension, show_struct_fields, show_struct_field, show_arrayed_identifier, show_arrayed_identifiers, show_qualification, show_type_qualifier, show_type_qualifier_spec, show_layout_ids, show_layout_qualifier_spec}
use Rattle.formed.specs.Formed.{Each, FormedExpr, FormedExprs, FormedCallee, FormedType, FormedTypes, FormedBase, FormedDimensions, FormedDimension, FormedField, FormedFields, FormedIdentifier, FormedIdentifiers, FormedSomeIdentifiers, FormedQualification, FormedQualifier, FormedSpecs, FormedSpec, FormedLayout, FormedIds, FormedId}
use Rattle.formed.proofs.Doubled.{reads_by_sign}
use Rattle.formed.proofs.Signs.{Starts, starts_bare, expr_starts}
use Rattle.lexis.specs.Division.{Longest}
use Rattle.lexis.specs.Glsl.{glsl_word, identifier_word, symbol_words, any}
use Rattle.lexis.specs.Number.{number_word}
use Rattle.lexis.proofs.Tests.{or_right, clash, passes}
use Rattle.lexis.proofs.Exact.{int_point}
use Rattle.division.proofs.Kept.{Asked, any_name, Kept, KeptCallee, KeptArguments, KeptType, KeptTypes, KeptBase, KeptFields, KeptField, KeptIdentifiers, KeptIdentifier, KeptQualification, KeptQualifier, KeptSpec, KeptIds, KeptId, KeptArray, KeptDimension}
use Rattle.division.proofs.Cut.{Tells, always, so_told, first_told, last_told, ◌also◌, past, bare_told, apart_told}

-- ++ and -- are words

doubled_word : (w : List ℕ) → reads_as_one w ≡ true → glsl_word w ≡ true
unfolding every_word glsl_word identifier_word number_word same one_of symbol_words
doubled_word w h = or_right (identifier_word w || number_word w) (one_of symbol_words w) (passes (one_of symbol_words) ("++" ∷ "--" ∷ []) w refl h)

module _ (s : Settings) where
  -- behind a longest word a needed space is asked for: without it the text behind would make the word longer
  spaced_out : (w : List ℕ) (f : Flag) (cs : List Command) (x : FormattingState) (rest : List ℕ) → (Longest glsl_word w (text s cs x ++ rest) → ⊥) → Longest glsl_word w (text s (space_if f ∷ cs) x ++ rest) → flag s f ≡ true
  unfolding text written after
  spaced_out w f cs x rest longer = go (flag s f)
    where
      go : (p : Bool) → Longest glsl_word w ((cond p (bytes " ") [] ++ text s cs x) ++ rest) → p ≡ true
      go true k = refl
      go false k = absurd (longer k)

  -- an operator that is a longest word before an operand, which it joins or not
  operator_told : (y : Symbol) (c : ℕ) (cs : List Command) (f : Flag) → Starts c cs → (x : FormattingState) (rest : List ℕ)
      → Longest glsl_word (bytes (symbol_text y)) (text s (apart (reads_as_one (bytes (symbol_text y) ++ (c ∷ []))) f cs) x ++ rest) → Asked s (reads_as_one (bytes (symbol_text y) ++ (c ∷ []))) f
  operator_told y c cs f h x rest k j =
      spaced_out w f cs x rest (λ l. l h.byte [] ((h.starts s x).0 ++ rest) (ap (λ (bs : List ℕ). bs ++ rest) (h.starts s x).1) (doubled_word (w ++ (h.byte ∷ [])) (sym (reads_by_sign w h.byte) ∙ ap (λ (b : ℕ). reads_as_one (w ++ (b ∷ []))) h.same ∙ j)))
      (subst (λ (p : Bool). Longest glsl_word w (text s (apart p f cs) x ++ rest)) j k)
    where
      w : List ℕ
      w = bytes (symbol_text y)

  unary_told : (y : Symbol) (c : ℕ) (cs : List Command) (f : Flag) → Starts c cs → Tells s (a_symbol y ++ apart (reads_as_one (bytes (symbol_text y) ++ (c ∷ []))) f cs) (Asked s (reads_as_one (bytes (symbol_text y) ++ (c ∷ []))) f)
  unfolding Each spell after
  unary_told y c cs f h = record { told = λ x rest a. operator_told y c cs f h x rest a.0.0 }

  -- where no operator space stands
  binary_told : (y : Symbol) (c : ℕ) (cs : List Command) (f : Flag) → Starts c cs
      → Tells s (write_binary_op y ++ apart (reads_as_one (bytes (symbol_text y) ++ (c ∷ []))) f cs) (flag s spaces_around_binary_ops ≡ false → Asked s (reads_as_one (bytes (symbol_text y) ++ (c ∷ []))) f)
  unfolding Each spell after text written
  binary_told y c cs f h = record {
    told = λ x rest a off. operator_told y c cs f h x rest
        (subst (λ (p : Bool). Longest glsl_word (bytes (symbol_text y)) ((cond p (bytes " ") [] ++ text s (apart (reads_as_one (bytes (symbol_text y) ++ (c ∷ []))) f cs) x) ++ rest)) off a.1.0.0);
  }

  -- a whole number before the dot: `1.` is a word
  number_told : (n : ℕ) (f : Flag) (ds : List Command) → Tells s (a_token (Token.int n) ++ (apart true f (a_symbol dot) ++ ds)) (flag s f ≡ true)
  unfolding Each after text written spell symbol_text
  number_told n f ds = record {
    told = λ x rest a. spaced_out (spell (Token.int n)) f (a_symbol dot ++ ds) x rest (λ l. l point [] (text s ds x ++ rest) refl (int_point n)) a.0.0;
  }

  int_told : (n : ℕ) (f : Flag) (i : Identifier) → Tells s (show_int n ++ apart true f (a_symbol dot) ++ show_identifier i) (flag s f ≡ true)
  int_told n f i = go (negative n)
    where
      go : (b : Bool) → Tells s (cond b (token (Token.symbol dash) ∷ a_token (Token.int (magnitude n))) (a_token (Token.int (magnitude n))) ++ apart true f (a_symbol dot) ++ show_identifier i) (flag s f ≡ true)
      go true = past (number_told (magnitude n) f (show_identifier i))
      go false = number_told (magnitude n) f (show_identifier i)

  dot_told : (i : Identifier) (e : Expr) → Tells s (bare_if (leb (precedence e) postfix_precedence) (show_expr e) ++ apart (is_int e) spaces_where_needed (a_symbol dot) ++ show_identifier i) (Asked s (is_int e) spaces_where_needed)
  unfolding is_int precedence show_expr
  dot_told i no_expr = always (λ j. clash j refl)
  dot_told i (Variable n) = always (λ j. clash j refl)
  dot_told i (IntConst n) = so_told (λ k j. k) (int_told n spaces_where_needed i)
  dot_told i (UIntConst n) = always (λ j. clash j refl)
  dot_told i (BoolConst b) = always (λ j. clash j refl)
  dot_told i (FloatConst t) = always (λ j. clash j refl)
  dot_told i (DoubleConst t) = always (λ j. clash j refl)
  dot_told i (Unary op e) = always (λ j. clash j refl)
  dot_told i (Binary op l r) = always (λ j. clash j refl)
  dot_told i (Ternary c a b) = always (λ j. clash j refl)
  dot_told i (Assignment op v e) = always (λ j. clash j refl)
  dot_told i (Bracket e a) = always (λ j. clash j refl)
  dot_told i (FunCall f es) = always (λ j. clash j refl)
  dot_told i (Dot k e) = always (λ j. clash j refl)
  dot_told i (PostInc e) = always (λ j. clash j refl)
  dot_told i (PostDec e) = always (λ j. clash j refl)
  dot_told i (Comma a b) = always (λ j. clash j refl)

  -- both of two facts about one list
  both_told : {cs : List Command} {K M : Type 0} → Tells s cs K → Tells s cs M → Tells s cs (K × M)
  both_told t u = record { told = λ x rest a. (t.told x rest a, u.told x rest a) }

  -- between brackets, or in parentheses
  pub within_told : {cs : List Command} {K : Type 0} (y z : Symbol) → Tells s cs K → Tells s (a_symbol y ++ cs ++ a_symbol z) K
  within_told y z t = first_told (last_told (a_symbol y) t) (a_symbol z)

  -- a subroutine's types, if there are any
  subroutine_told : (ts : TypeSpecifiers) → Tells s (show_type_specifiers ts true) (KeptTypes false any s ts) → Tells s (show_type_qualifier_spec (TypeQualifierSpec.Subroutine ts)) (KeptTypes false any s ts)
  unfolding show_type_qualifier_spec KeptTypes
  subroutine_told TypeSpecifiers.no_types t = always tt
  subroutine_told (TypeSpecifiers.types x xs) t = last_told (a_word Word.subroutine) (within_told left_paren right_paren t)

  mutual
    unfolding FormedExpr Kept show_expr joins

    pub tells : (e : Expr) → FormedExpr e → Tells s (show_expr e) (Kept false any s e)
    tells no_expr f = always tt
    tells (Variable n) f = always refl
    tells (IntConst n) f = always tt
    tells (UIntConst n) f = always tt
    tells (BoolConst b) f = always tt
    tells (FloatConst t) f = always tt
    tells (DoubleConst t) f = always tt
    tells (Unary op e) f =
        let b = bare_operand op e in
        both_told (unary_told (unary_symbol op) (sign_if b (sign e)) (bare_if b (show_expr e)) spaces_where_needed (starts_bare b (expr_starts e f)))
        (last_told (a_symbol (unary_symbol op)) (apart_told (joins_under op e) spaces_where_needed (bare_told b (tells e f))))
    tells (Binary op l r) f =
        let b = bare_right op r in
        let left = bare_if (leb (precedence l) (binary_precedence op)) (show_expr l) in
        let right = apart (joins_right op r) needed_operator_spaces (bare_if b (show_expr r)) in
        let place = binary_told (binary_symbol op) (sign_if b (sign r)) (bare_if b (show_expr r)) needed_operator_spaces (starts_bare b (expr_starts r f.1)) in
        so_told (λ h. (h.0, h.1.0, h.1.1))
        (both_told (subst (λ (cs : List Command). Tells s cs (flag s spaces_around_binary_ops ≡ false → Asked s (joins_right op r) needed_operator_spaces)) (sym (append_assoc left (write_binary_op (binary_symbol op)) right)) (last_told left place))
        (first_told (bare_told (leb (precedence l) (binary_precedence op)) (tells l f.0)) _ also apart_told (joins_right op r) needed_operator_spaces (bare_told b (tells r f.1))))
    tells (Ternary c a b) f =
        so_told (λ h. (h.0.0, h.0.1, h.1))
        (first_told (first_told (bare_told (ltb (precedence c) ternary_precedence) (tells c f.0)) _ also tells a f.1) _ also bare_told (leb (precedence b) ternary_precedence) (tells b f.2))
    tells (Assignment op v e) f = first_told (bare_told (ltb (precedence v) assignment_precedence) (tells v f.0)) _ also bare_told (leb (precedence e) assignment_precedence) (tells e f.1)
    tells (Bracket e a) f = bare_told (leb (precedence e) postfix_precedence) (tells e f.0) also within_told left_bracket right_bracket (tells a f.1)
    tells (FunCall c es) f = tells_callee c f.0 also within_told left_paren right_paren (tells_exprs es f.1 true)
    tells (Dot i e) f = so_told (λ h. (h.0, refl, refl, h.1)) (both_told (dot_told i e) (first_told (first_told (bare_told (leb (precedence e) postfix_precedence) (tells e f.1)) _) _))
    tells (PostInc e) f = first_told (bare_told (ltb (precedence e) postfix_precedence) (tells e f)) _
    tells (PostDec e) f = first_told (bare_told (ltb (precedence e) postfix_precedence) (tells e f)) _
    tells (Comma a b) f = first_told (bare_told (leb (precedence a) comma_precedence) (tells a f.0)) _ also bare_told (ltb (precedence b) comma_precedence) (tells b f.1)

    tells_callee : (c : FunIdentifier) → FormedCallee c → Tells s (show_function_identifier c) (KeptCallee false any s c)
    tells_callee (OfType t) f = tells_type t f
    tells_callee (OfExpr e) f = tells e f

    tells_exprs : (es : Exprs) → FormedExprs es → (first : Bool) → Tells s (show_exprs es first) (KeptArguments false any s es)
    tells_exprs no_exprs f first = always tt
    tells_exprs (exprs e es) f first = last_told (separator first) (tells e f.0) also tells_exprs es f.1 false

    pub tells_type : (t : TypeSpecifier) → FormedType t → Tells s (show_type_specifier t) (KeptType false any s t)
    tells_type no_type f = always tt
    tells_type (type b ds) f = tells_base b f.0 also tells_array ds f.1

    tells_types : (ts : TypeSpecifiers) → FormedTypes ts → (first : Bool) → Tells s (show_type_specifiers ts first) (KeptTypes false any s ts)
    tells_types TypeSpecifiers.no_types f first = always tt
    tells_types (TypeSpecifiers.types t ts) f first = last_told (separator first) (tells_type t f.0) also tells_types ts f.1 false

    tells_base : (b : TypeSpecifierNonArray) → FormedBase b → Tells s (show_type_specifier_non_array b) (KeptBase false any s b)
    tells_base no_base f = always tt
    tells_base (Keyword v) f = always tt
    tells_base (TypeName n) f = always refl
    tells_base (Struct n fs) f = so_told (λ h. (any_name n, h)) (first_told (last_told (a_word Word.struct ++ a_space ++ optional show_identifier n ++ enter_block) (tells_fields fs f.1)) exit_block)

    pub tells_array : (ds : ArraySpecifier) → FormedDimensions ds → Tells s (show_array_spec ds) (KeptArray false any s ds)
    tells_array no_dimensions f = always tt
    tells_array (dimensions d ds) f = tells_dimension d f.0 also tells_array ds f.1

    tells_dimension : (d : ArraySpecifierDimension) → FormedDimension d → Tells s (show_dimension d) (KeptDimension false any s d)
    tells_dimension no_dimension f = always tt
    tells_dimension Unsized f = always tt
    tells_dimension (ExplicitlySized e) f = within_told left_bracket right_bracket (tells e f)

    pub tells_fields : (fs : StructFieldSpecifiers) → FormedFields fs → Tells s (show_struct_fields fs) (KeptFields false any s fs)
    tells_fields StructFieldSpecifiers.no_fields f = always tt
    tells_fields (StructFieldSpecifiers.fields d fs) f = first_told (past (tells_field d f.0)) _ also tells_fields fs f.1

    tells_field : (d : StructFieldSpecifier) → FormedField d → Tells s (show_struct_field d) (KeptField false any s d)
    tells_field StructFieldSpecifier.no_field f = always tt
    tells_field (StructFieldSpecifier.field q t is) f = so_told (λ h. (h.0.0, h.0.1, h.1)) (first_told (tells_qualification q f.0 also tells_type t f.1) _ also tells_some_identifiers is f.2)

    tells_some_identifiers : (is : ArrayedIdentifiers) → FormedSomeIdentifiers is → Tells s (show_arrayed_identifiers is true) (KeptIdentifiers false any s is)
    tells_some_identifiers ArrayedIdentifiers.no_identifiers f = always tt
    tells_some_identifiers (ArrayedIdentifiers.identifiers i is) f = tells_identifier i f.0 also tells_identifiers is f.1

    tells_identifiers : (is : ArrayedIdentifiers) → FormedIdentifiers is → Tells s (show_arrayed_identifiers is false) (KeptIdentifiers false any s is)
    tells_identifiers ArrayedIdentifiers.no_identifiers f = always tt
    tells_identifiers (ArrayedIdentifiers.identifiers i is) f = last_told (separator false) (tells_identifier i f.0) also tells_identifiers is f.1

    pub tells_identifier : (i : ArrayedIdentifier) → FormedIdentifier i → Tells s (show_arrayed_identifier i) (KeptIdentifier false any s i)
    tells_identifier ArrayedIdentifier.no_identifier f = always tt
    tells_identifier (ArrayedIdentifier.arrayed i ds) f = so_told (λ h. (refl, h)) (last_told (show_identifier i) (tells_array ds f.1))

    pub tells_qualification : (q : Qualification) → FormedQualification q → Tells s (show_qualification q) (KeptQualification false any s q)
    tells_qualification Qualification.unqualified f = always tt
    tells_qualification (Qualification.qualified q) f = first_told (tells_qualifier q f) a_space

    pub tells_qualifier : (q : TypeQualifier) → FormedQualifier q → Tells s (show_type_qualifier q true) (KeptQualifier false any s q)
    tells_qualifier TypeQualifier.no_specs f = always tt
    tells_qualifier (TypeQualifier.specs q qs) f = tells_spec q f.0 also tells_specs qs f.1

    tells_specs : (qs : TypeQualifier) → FormedSpecs qs → Tells s (show_type_qualifier qs false) (KeptQualifier false any s qs)
    tells_specs TypeQualifier.no_specs f = always tt
    tells_specs (TypeQualifier.specs q qs) f = last_told (space_between false) (tells_spec q f.0) also tells_specs qs f.1

    pub tells_spec : (q : TypeQualifierSpec) → FormedSpec q → Tells s (show_type_qualifier_spec q) (KeptSpec false any s q)
    tells_spec TypeQualifierSpec.no_spec f = always tt
    tells_spec (TypeQualifierSpec.Storage q) f = always tt
    tells_spec (TypeQualifierSpec.Subroutine ts) f = subroutine_told ts (tells_types ts f true)
    tells_spec (TypeQualifierSpec.Layout is) f = last_told (a_word Word.layout) (within_told left_paren right_paren (tells_layout is f))
    tells_spec (TypeQualifierSpec.Precision p) f = always tt
    tells_spec (TypeQualifierSpec.Interpolation i) f = always tt
    tells_spec TypeQualifierSpec.Invariant f = always tt
    tells_spec TypeQualifierSpec.Precise f = always tt

    tells_layout : (is : LayoutQualifier) → FormedLayout is → Tells s (show_layout_ids is true) (KeptIds false any s is)
    tells_layout LayoutQualifier.no_ids f = always tt
    tells_layout (LayoutQualifier.ids i is) f = tells_id i f.0 also tells_ids is f.1

    tells_ids : (is : LayoutQualifier) → FormedIds is → Tells s (show_layout_ids is false) (KeptIds false any s is)
    tells_ids LayoutQualifier.no_ids f = always tt
    tells_ids (LayoutQualifier.ids i is) f = last_told (separator false) (tells_id i f.0) also tells_ids is f.1

    tells_id : (i : LayoutQualifierSpec) → FormedId i → Tells s (show_layout_qualifier_spec i) (KeptId false any s i)
    tells_id LayoutQualifierSpec.no_id f = always tt
    tells_id (LayoutQualifierSpec.Ident i) f = always refl
    tells_id (LayoutQualifierSpec.IdentIs i e) f = so_told (λ h. (refl, h)) (last_told (show_identifier i ++ write_binary_op equal) (tells e f.1))
    tells_id LayoutQualifierSpec.Shared f = always tt
