-- One law a printer, and one for all that only enter a record: what the calls promise, in the order of the code, is what the printer promises. Assumes nothing.
use mathlib.Core.Path.{◌≡◌, refl, sym, ap, ◌∙◌}
use mathlib.Core.Bool.{Bool, true, false, not, ◌&&◌, cond}
use mathlib.Core.List.{List, [], ◌∷◌, ◌++◌, append_assoc}
use mathlib.Core.Option.{none, some}
use Prim.Native.Char.{code}
use Prim.Native.Nat.{ℕ, zero, suc, ◌+◌, ◌-◌, ◌<◌, ◌≤◌}
use native.Mathlib.Omega.{arith}
use native.Mathlib.Nat.{add-zero}
use lib.Dec.{leb, ltb, eqb}
use borrow.Author.Tests.{not-true, le-leb, ne_eqb}
use Rattle.words.specs.Bytes.{bytes}
use Rattle.words.specs.Word.{Word, word_text}
use Rattle.words.specs.Symbol.{Symbol, symbol_text}
use Rattle.records.specs.declared.Record.{Record}
use Rattle.records.specs.Record.{record_at, record_count, part, text_of}
use Rattle.records.proofs.Laws.{split, if_not}
use Rattle.settings.specs.declared.Settings.{Settings}
use Rattle.text.specs.Token.{Token, spell}
use Rattle.text.specs.Asked.{Flag}
use Rattle.text.specs.Asked.Flag.{spaces_where_needed, needed_operator_spaces}
use Rattle.text.specs.Command.{Command, write_binary_op, write_binary_token, write_list_separator, write_struct_field_separator, enter_block, exit_block}
use Rattle.text.specs.Command.Command.{space_if, flush_line}
use Rattle.text.specs.Tree.{Expr, Exprs, FunIdentifier, TypeSpecifier, TypeSpecifierNonArray, TypeSpecifiers, ArraySpecifierDimension, StructFieldSpecifier, StructFieldSpecifiers, ArrayedIdentifier, ArrayedIdentifiers, Qualification, TypeQualifierSpec, LayoutQualifier, LayoutQualifierSpec}
use Rattle.text.specs.Operator.{precedence, binary_precedence, unary_precedence, doubles, unary_symbol, binary_symbol, assignment_symbol}
use Rattle.text.specs.Joins.{joins_under, joins_right, is_int}
use Rattle.text.specs.Text.{apart, a_token, a_word, a_symbol, a_space, bare_if, without_types, show_type_specifier_non_array, show_type_specifier, show_type_specifiers, show_struct_fields, show_struct_field, show_array_spec, show_dimension, show_arrayed_identifier, show_arrayed_identifiers, show_qualification, show_type_qualifier, show_type_qualifier_spec, show_layout_ids, show_layout_qualifier_spec, show_expr, show_exprs, show_function_identifier, show_identifier, optional}
use Rattle.text.specs.Reading.{Item, Read, Reader, first, nothing, made, give, counted, ◌and◌, several, from, item_of, type_of, dimension_of, field_of, identifier_of, spec_of, layout_id_of, unary_op_of, binary_op_of, assignment_op, storage_of, expr, type, base, array, dimension, field, identifier, qualifier, spec, layout_id, callee, array_if, qualification_if}
use Rattle.text.proofs.At.{expr_at, first_out}
use Rattle.pen.specs.declared.Pen.{Pen}
use Rattle.pen.specs.Promise.{Wrote, Ran}
use Rattle.pen.proofs.Chain.{by_token, by_space}
use Rattle.precedence.specs.Precedence.{precedence_of}
use Rattle.precedence.proofs.Tree.{precedence_at}
use Rattle.leaves.specs.Shown.{past, Shown, Shows}
use Rattle.leaves.specs.Operand.{most_under}
use Rattle.leaves.specs.Qualifier.{qualifier_word}
use Rattle.leaves.proofs.Rows.{by_operator}
use Rattle.leaves.proofs.Operand.{under_sign}
use Rattle.leaves.proofs.Shown.{◌thus◌, nothing_shown, wrote, told, reads, opened, passed, standing, entered}
use Rattle.show_expr.specs.Rest.{Choice, choice, show_question, show_choice}
use Rattle.show_expr.proofs.Grouped.{ternary_of, ternary_grouped}
use Rattle.show_expr.proofs.Most.{operand, below, bracketed}
use Rattle.show_expr.proofs.Parts.{Partway, piece, begin, ◌writes◌, ◌shows◌, so, plain, only}
use Rattle.show_expr.proofs.At.{as_kind, word_spec, word_row, word_shown, called_type, called_expr}

-- a token was written
pub put : {s : Settings} {bs room room' : List ℕ} {p p' : Pen} (t : Token) → bs ≡ spell t → Wrote bs room p room' p' → Shown s (a_token t) 0 room p room' p'
put t e w = wrote (by_token t e w)

pub space : {s : Settings} {room room' : List ℕ} {p p' : Pen} → Wrote (code " " ∷ []) room p room' p' → Shown s a_space 0 room p room' p'
space w = wrote (by_space w)

-- brackets around what stands behind a part
pub enclosed : (a b c d : List Command) → a ++ b ++ c ++ d ≡ a ++ (b ++ c ++ d)
enclosed a b c d = ap (λ (l : List Command). l ++ d) (append_assoc a b c) ∙ append_assoc a (b ++ c) d

-- a ternary by its two parts
ternary_shown : (x : Expr) (c : Choice) → show_question x ++ show_choice c ≡ show_expr (ternary_of x c)
unfolding show_expr
ternary_shown x (Choice.either y z) = sym (enclosed (show_question x) (show_expr y) (write_binary_op Symbol.colon) (operand 15 z))

-- the operand of a unary operator, read where the operator stood
sign_at : (rs ns : List ℕ) (i j v most : ℕ) → most ≡ most_under v (record_at rs i) → j ≡ i
    → leb (precedence (expr (from rs ns j)).tree) most ≡ leb (precedence (expr (from rs ns j)).tree) unary_precedence && not (doubles (unary_op_of v) (expr (from rs ns j)).tree)
sign_at rs ns i j v most m h =
    rw (h, m, expr_at rs ns i) (under_sign ns (record_at rs i) (from rs ns (i + 1)) v)

-- a space that is needed stands before what follows
seam : (cs : List Command) (j : Bool) (f : Flag) (ds : List Command) → cs ++ apart j f [] ++ ds ≡ cs ++ apart j f ds
seam cs true f ds = append_assoc cs (space_if f ∷ []) ds
seam cs false f ds = append_assoc cs [] ds

long_seam : (bs cs : List Command) (j : Bool) (f : Flag) (ds : List Command) → bs ++ (cs ++ apart j f []) ++ ds ≡ bs ++ cs ++ apart j f ds
long_seam bs cs j f ds = append_assoc bs (cs ++ apart j f []) ds ∙ ap (λ (l : List Command). bs ++ l) (seam cs j f ds) ∙ sym (append_assoc bs cs (apart j f ds))

-- how strongly the expression binds that is read where its record was read
precedence_here : (rs ns : List ℕ) (i j : ℕ) {k v q : ℕ} → i ≡ j → k ≡ (record_at rs i).kind → v ≡ (record_at rs i).variant → q ≡ precedence_of k v → precedence (expr (from rs ns j)).tree ≡ q
precedence_here rs ns i j h hk hv hq =
    rw (sym h) (ap (λ (x : Read Expr). precedence x.tree) (expr_at rs ns i) ∙ precedence_at ns (record_at rs i) (from rs ns (i + 1)) ∙ sym (rw (sym hk, sym hv) hq))

-- a list that counts some is not empty
some_types : (n : ℕ) → 0 < n → (L : List Item) → without_types (several n type TypeSpecifiers.no_types TypeSpecifiers.types L).tree ≡ false
unfolding several
some_types zero h L = absurd (omega arith)
some_types (suc n) h L = refl

-- what is not 0 counts some
pub positive : {n : ℕ} → (n ≡ 0 → ⊥) → 0 < n
positive {n = zero} h = absurd (h refl)
positive {n = suc n} h = omega arith

-- the parts of a struct whose record is r
abbrev pub struct_parts : List ℕ → Record → Reader TypeSpecifierNonArray
struct_parts ns r =
    give (TypeSpecifierNonArray.Struct (cond (eqb r.variant 1) (some (part ns r.a r.b)) none)) and several r.count field StructFieldSpecifiers.no_fields StructFieldSpecifiers.fields

-- a record of kind k, and the pen behind it
pub inside : (s : Settings) (rs : List ℕ) (p₀ : Pen) {r : Record} {p : Pen} (k : ℕ) → r ≡ record_at rs p₀.next → r.kind ≡ k → 0 < k → p ≡ past rs p₀ → (p₀.next < record_count rs) × (p.next ≡ p₀.next + 1)
inside s rs p₀ k e f h g =
    let stands = standing rs k e f h in
    (stands, (passed {s = s} {room = []} rs stands g).next)

module _ (rs ns : List ℕ) {s : Settings} where
  -- a record that is none of its sort
  pub none_there : {A : Type 0} (show : A → List Command) (q : Reader A) (x : A) {room : List ℕ} {p : Pen} → q (from rs ns p.next) ≡ nothing x → [] ≡ show x
      → Shows show q s rs ns room p room p
  none_there show q x e f = reads show q rs ns (nothing x) e f refl nothing_shown

  -- a record of another kind, where the sort has one kind; what the sort's table says is `refl` where it is unfolded
  pub no_row : {A : Type 0} (sort : Item → Read A) (show : A → List Command) (k : ℕ) (row : Reader A) (x : A) {r : Record} {room : List ℕ} {p : Pen} → r ≡ record_at rs p.next
      → sort (item_of ns r (from rs ns (p.next + 1))) ≡ cond (eqb r.kind k) row (give x) (from rs ns (p.next + 1)) → (r.kind ≡ k → ⊥) → [] ≡ show x
      → Shows show (first sort x) s rs ns room p room p
  no_row sort show k row x {r = r} {p = p} e h d =
      none_there show (first sort x) x
      (split p.next (record_count rs)
      (λ i. opened rs ns sort x p.next i e ∙ h ∙ ap (λ (b : Bool). cond b row (give x) (from rs ns (p.next + 1))) (ne_eqb r.kind k d))
      (first_out rs ns sort x p.next))

  -- no record is left for an operand
  pub none_left : (most : ℕ) {stands : Bool} {room : List ℕ} {p : Pen} → stands ≡ ltb p.next (record_count rs) → not stands ≡ true → Shows (operand most) expr s rs ns room p room p
  unfolding show_expr precedence
  none_left most {stands = stands} {p = p} e f =
      none_there (operand most) expr Expr.no_expr (first_out rs ns _ Expr.no_expr p.next (if_not rs p.next e (not-true stands f)))
      (sym (ap (λ (b : Bool). bare_if b []) (le-leb 0 most (omega arith))))

  module _ {r : Record} {room₀ room₁ : List ℕ} {p₀ p₁ : Pen} (e : r ≡ record_at rs p₀.next) where
    -- a record of kind k, read as another sort and shown as that; what the row says is `refl` where the tables are unfolded
    pub as_sort_row : {A B : Type 0} (sub : Item → Read A) (a : A) (sort : Item → Read B) (b : B) (f : A → B) (show : A → List Command) (show' : B → List Command) (k : ℕ)
        → sort (item_of ns (as_kind k r) (from rs ns (p₀.next + 1))) ≡ made f (sub (item_of ns (as_kind k r) (from rs ns (p₀.next + 1)))) → ((x : A) → show x ≡ show' (f x)) → 0 < k → r.kind ≡ k
        → Shows show (first sub a) s rs ns room₀ p₀ room₁ p₁ → Shows show' (first sort b) s rs ns room₀ p₀ room₁ p₁
    as_sort_row {A = A} {B = B} sub a sort b f show show' k row h l i shown =
        let L = from rs ns (p₀.next + 1) in
        let x = first sub a (from rs ns p₀.next) in
        let stands = standing rs k e i l in
        let as_sub = opened rs ns sub a p₀.next stands e ∙ ap (λ (n : ℕ). sub (item_of ns (as_kind n r) L)) i in
        reads show' (first sort b) rs ns (made f x) (opened rs ns sort b p₀.next stands e ∙ ap (λ (n : ℕ). sort (item_of ns (as_kind n r) L)) i ∙ row ∙ ap (made f) (sym as_sub)) (h x.tree) refl shown

  module _ {r : Record} {room₀ room₁ : List ℕ} {p₀ p p₁ : Pen} (e : r ≡ record_at rs p₀.next) where
    -- a record of kind k, whose parts were shown; what its row says is `refl` where the sort's table is unfolded
    pub of_row : {A : Type 0} (sort : Item → Read A) (a : A) (show : A → List Command) (k : ℕ) (parts : Reader A) → sort (item_of ns (as_kind k r) (from rs ns (p₀.next + 1))) ≡ counted (parts (from rs ns (p₀.next + 1)))
        → 0 < k → r.kind ≡ k → p ≡ past rs p₀ → Shows show parts s rs ns room₀ p room₁ p₁ → Shows show (first sort a) s rs ns room₀ p₀ room₁ p₁
    of_row sort a show k parts row h f g shown =
        let stands = standing rs k e f h in
        entered rs ns show (first sort a) parts (opened rs ns sort a p₀.next stands e ∙ ap (λ (n : ℕ). sort (item_of ns (as_kind n r) (from rs ns (p₀.next + 1)))) f ∙ row) stands g shown

    -- a record of kind k, its parts shown one behind the other; what its row says is `refl` where the sort's table is unfolded, and the commands where the printer's definition is
    pub of_parts : {A : Type 0} (sort : Item → Read A) (a : A) (show : A → List Command) (k : ℕ) {f : Reader A} {x : Read A} {cs : List Command} → 0 < k → r.kind ≡ k → p ≡ past rs p₀
        → Partway rs ns s room₀ p f x cs room₁ p₁ → sort (item_of ns (as_kind k r) (from rs ns (p₀.next + 1))) ≡ counted (f (from rs ns (p₀.next + 1))) → cs ≡ show x.tree
        → Shows show (first sort a) s rs ns room₀ p₀ room₁ p₁
    of_parts sort a show k {f = f} h i g b row q = of_row sort a show k f row h i g (so show b q)

    -- a dimension without a size
    pub unsized : r.kind ≡ 25 → r.variant ≡ 0 → {room₂ : List ℕ} {p₂ : Pen} → p ≡ past rs p₀ → Wrote (bytes "[") room₀ p room₂ p₂ → Wrote (bytes "]") room₂ p₂ room₁ p₁
        → Shows show_dimension dimension s rs ns room₀ p₀ room₁ p₁
    unfolding show_dimension spell symbol_text item_of dimension_of
    unsized k v f a b =
        of_parts (λ (x : Item). x.dimension) _ show_dimension 25 (omega arith) k f
        (begin ArraySpecifierDimension.Unsized writes put (Token.symbol Symbol.left_bracket) refl a writes put (Token.symbol Symbol.right_bracket) refl b) (rw v refl) refl

    pub sized : r.kind ≡ 25 → (r.variant ≡ 0 → ⊥) → {room₂ room₃ : List ℕ} {p₂ p₃ : Pen} → p ≡ past rs p₀ → Wrote (bytes "[") room₀ p room₂ p₂
        → Shows (operand 17) expr s rs ns room₂ p₂ room₃ p₃ → Wrote (bytes "]") room₃ p₃ room₁ p₁ → Shows show_dimension dimension s rs ns room₀ p₀ room₁ p₁
    unfolding show_dimension spell symbol_text item_of dimension_of
    sized k v f a x b =
        of_parts (λ (x : Item). x.dimension) _ show_dimension 25 (omega arith) k f
        (begin ArraySpecifierDimension.ExplicitlySized writes put (Token.symbol Symbol.left_bracket) refl a shows piece show_expr expr (plain rs ns x) writes put (Token.symbol Symbol.right_bracket) refl b)
        (rw (ne_eqb r.variant 0 v) refl) refl

    -- a layout's ids
    pub id : r.kind ≡ 30 → r.variant ≡ 0 → p ≡ past rs p₀ → Wrote (part ns r.a r.b) room₀ p room₁ p₁ → Shows show_layout_qualifier_spec layout_id s rs ns room₀ p₀ room₁ p₁
    unfolding show_layout_qualifier_spec spell item_of layout_id_of
    id k v f w =
        of_parts (λ (x : Item). x.layout_id) _ show_layout_qualifier_spec 30 (omega arith) k f (begin (LayoutQualifierSpec.Ident (text_of ns r)) writes put (Token.name (text_of ns r)) refl w) (rw v refl) refl

    pub id_is : r.kind ≡ 30 → r.variant ≡ 1 → {room₂ room₃ : List ℕ} {p₂ p₃ : Pen} → p ≡ past rs p₀ → Wrote (part ns r.a r.b) room₀ p room₂ p₂
        → Ran s (write_binary_token (Token.name (bytes "="))) room₂ p₂ room₃ p₃ → Shows (operand 17) expr s rs ns room₃ p₃ room₁ p₁ → Shows show_layout_qualifier_spec layout_id s rs ns room₀ p₀ room₁ p₁
    unfolding show_layout_qualifier_spec spell symbol_text item_of layout_id_of
    id_is k v f w o x =
        of_parts (λ (x : Item). x.layout_id) _ show_layout_qualifier_spec 30 (omega arith) k f
        (begin (LayoutQualifierSpec.IdentIs (text_of ns r)) writes put (Token.name (text_of ns r)) refl w writes wrote (by_operator Symbol.equal refl o) shows piece show_expr expr (plain rs ns x)) (rw v refl) refl

    pub shared : r.kind ≡ 30 → (r.variant ≡ 0 → ⊥) → (r.variant ≡ 1 → ⊥) → p ≡ past rs p₀ → Ran s (a_word (qualifier_word 9)) room₀ p room₁ p₁
        → Shows show_layout_qualifier_spec layout_id s rs ns room₀ p₀ room₁ p₁
    unfolding show_layout_qualifier_spec qualifier_word storage_of item_of layout_id_of
    shared k v u f w =
        of_parts (λ (x : Item). x.layout_id) _ show_layout_qualifier_spec 30 (omega arith) k f (begin LayoutQualifierSpec.Shared writes wrote w) (rw (ne_eqb r.variant 0 v, ne_eqb r.variant 1 u) refl) refl

    -- one kind a sort
    pub ty : r.kind ≡ 20 → {room₂ : List ℕ} {p₂ : Pen} → p ≡ past rs p₀ → Shows show_type_specifier_non_array base s rs ns room₀ p room₂ p₂
        → Shows show_array_spec (array_if (eqb r.variant 1)) s rs ns room₂ p₂ room₁ p₁ → Shows show_type_specifier type s rs ns room₀ p₀ room₁ p₁
    unfolding show_type_specifier item_of type_of
    ty k f a b =
        of_parts (λ (x : Item). x.type) _ show_type_specifier 20 (omega arith) k f
        (begin TypeSpecifier.type shows piece show_type_specifier_non_array base a shows piece show_array_spec (array_if (eqb r.variant 1)) b) refl refl

    pub ident : r.kind ≡ 27 → {room₂ : List ℕ} {p₂ : Pen} → p ≡ past rs p₀ → Wrote (part ns r.a r.b) room₀ p room₂ p₂
        → Shows show_array_spec (array_if (eqb r.variant 1)) s rs ns room₂ p₂ room₁ p₁ → Shows show_arrayed_identifier identifier s rs ns room₀ p₀ room₁ p₁
    unfolding show_arrayed_identifier spell item_of identifier_of
    ident k f w b =
        of_parts (λ (x : Item). x.identifier) _ show_arrayed_identifier 27 (omega arith) k f
        (begin (ArrayedIdentifier.arrayed (text_of ns r)) writes put (Token.name (text_of ns r)) refl w shows piece show_array_spec (array_if (eqb r.variant 1)) b) refl refl

    pub field_of_lem : r.kind ≡ 26 → {room₂ room₃ room₄ : List ℕ} {p₂ p₃ p₄ : Pen} → p ≡ past rs p₀ → Shows show_qualification (qualification_if (eqb r.variant 1)) s rs ns room₀ p room₂ p₂
        → Shows show_type_specifier type s rs ns room₂ p₂ room₃ p₃ → Wrote (bytes " ") room₃ p₃ room₄ p₄
        → Shows (λ is. show_arrayed_identifiers is true) (several r.count identifier ArrayedIdentifiers.no_identifiers ArrayedIdentifiers.identifiers) s rs ns room₄ p₄ room₁ p₁ → Shows show_struct_field field s rs ns room₀ p₀ room₁ p₁
    unfolding show_struct_field item_of field_of
    field_of_lem k f a b w c =
        of_parts (λ (x : Item). x.field) _ show_struct_field 26 (omega arith) k f
        (begin StructFieldSpecifier.field shows piece show_qualification (qualification_if (eqb r.variant 1)) a shows piece show_type_specifier type b writes space w
        shows piece (λ is. show_arrayed_identifiers is true) (several r.count identifier ArrayedIdentifiers.no_identifiers ArrayedIdentifiers.identifiers) c) refl refl

    pub subroutine : r.kind ≡ 29 → r.variant ≡ 17 → p ≡ past rs p₀
        → Shows show_type_qualifier_spec (give TypeQualifierSpec.Subroutine and several r.count type TypeSpecifiers.no_types TypeSpecifiers.types) s rs ns room₀ p room₁ p₁
        → Shows show_type_qualifier_spec spec s rs ns room₀ p₀ room₁ p₁
    unfolding item_of spec_of
    subroutine k v f a =
        of_row (λ (x : Item). x.spec) _ show_type_qualifier_spec 29 (give TypeQualifierSpec.Subroutine and several r.count type TypeSpecifiers.no_types TypeSpecifiers.types) (rw v refl) (omega arith) k f a

    pub layout : r.kind ≡ 29 → r.variant ≡ 18 → p ≡ past rs p₀
        → Shows show_type_qualifier_spec (give TypeQualifierSpec.Layout and several r.count layout_id LayoutQualifier.no_ids LayoutQualifier.ids) s rs ns room₀ p room₁ p₁
        → Shows show_type_qualifier_spec spec s rs ns room₀ p₀ room₁ p₁
    unfolding item_of spec_of
    layout k v f a =
        of_row (λ (x : Item). x.spec) _ show_type_qualifier_spec 29 (give TypeQualifierSpec.Layout and several r.count layout_id LayoutQualifier.no_ids LayoutQualifier.ids) (rw v refl) (omega arith) k f a

    pub qualifier_word_lem : r.kind ≡ 29 → (r.variant ≡ 17 → ⊥) → (r.variant ≡ 18 → ⊥) → p ≡ past rs p₀ → Ran s (a_word (qualifier_word r.variant)) room₀ p room₁ p₁
        → Shows show_type_qualifier_spec spec s rs ns room₀ p₀ room₁ p₁
    unfolding item_of
    qualifier_word_lem k v u f w =
        of_row (λ (x : Item). x.spec) _ show_type_qualifier_spec 29 (give (word_spec r.variant)) (word_row ns r (from rs ns (p₀.next + 1)) v u) (omega arith) k f (told (word_shown r.variant v u) refl (wrote w))

  -- those that work behind their record, or before no record of their own
  module _ {room₀ room₁ : List ℕ} {p₀ p₁ : Pen} where
    pub dims_on : {on : Bool} → on ≡ true → Shows show_array_spec array s rs ns room₀ p₀ room₁ p₁ → Shows show_array_spec (array_if on) s rs ns room₀ p₀ room₁ p₁
    dims_on h a = rw h a

    pub called : {k : ℕ} → k ≡ (record_at rs p₀.next).kind → k ≡ 20 → Shows show_type_specifier type s rs ns room₀ p₀ room₁ p₁ → Shows show_function_identifier callee s rs ns room₀ p₀ room₁ p₁
    unfolding show_function_identifier
    called h k a =
        reads show_function_identifier callee rs ns _ (called_type rs ns p₀.next refl h k) refl refl (only rs ns FunIdentifier.OfType type show_type_specifier show_function_identifier (λ x. refl) a)

    pub called_by : {k : ℕ} → k ≡ (record_at rs p₀.next).kind → (k ≡ 20 → ⊥) → Shows (operand 17) expr s rs ns room₀ p₀ room₁ p₁ → Shows show_function_identifier callee s rs ns room₀ p₀ room₁ p₁
    unfolding show_function_identifier
    called_by h k a =
        reads show_function_identifier callee rs ns _ (called_expr rs ns p₀.next refl h k) refl refl (only rs ns FunIdentifier.OfExpr expr show_expr show_function_identifier (λ x. refl) (plain rs ns a))

    -- a unary operator and its operand
    pub unary_parts : (v : ℕ) {most : ℕ} {room₂ : List ℕ} {p₂ : Pen}
        → ((names : List ℕ) → Ran s (a_symbol (unary_symbol (unary_op_of v)) ++ apart (joins_under (unary_op_of v) (expr (from rs names p₀.next)).tree) spaces_where_needed []) room₀ p₀ room₂ p₂)
        → most ≡ most_under v (record_at rs p₀.next)
        → Shows (operand most) expr s rs ns room₂ p₂ room₁ p₁ → Shows show_expr (give (Expr.Unary (unary_op_of v)) and expr) s rs ns room₀ p₀ room₁ p₁
    unfolding show_expr
    unary_parts v {most = most} {p₂ = p₂} o m a =
        let y = unary_symbol (unary_op_of v) in
        let e = (expr (from rs ns p₂.next)).tree in
        let same : p₂.next ≡ p₀.next = omega (arith, (wrote (o ns)).next) in
        so show_expr (begin (Expr.Unary (unary_op_of v)) writes wrote (o ns) shows piece (operand most) expr a)
        (seam (a_symbol y) (joins_under (unary_op_of v) (expr (from rs ns p₀.next)).tree) spaces_where_needed (operand most e)
        ∙ ap (λ (i : ℕ). a_symbol y ++ apart (joins_under (unary_op_of v) (expr (from rs ns i)).tree) spaces_where_needed (operand most e)) (sym same)
        ∙ ap (λ (b : Bool). a_symbol y ++ apart (joins_under (unary_op_of v) e) spaces_where_needed (bare_if b (show_expr e))) (sign_at rs ns p₀.next p₂.next v most m same))

    module _ {room₂ : List ℕ} {p₂ : Pen} where
      pub post_parts : (down : Bool) → Shows (operand 1) expr s rs ns room₀ p₀ room₂ p₂ → Ran s (a_symbol (cond down Symbol.dec_op Symbol.inc_op)) room₂ p₂ room₁ p₁
          → Shows show_expr (give (cond down Expr.PostDec Expr.PostInc) and expr) s rs ns room₀ p₀ room₁ p₁
      unfolding show_expr
      post_parts true a o =
          let e = (expr (from rs ns p₀.next)).tree in
          so show_expr (begin Expr.PostDec shows piece (operand 1) expr a writes wrote o) (ap (λ (b : Bool). bare_if b (show_expr e) ++ a_symbol Symbol.dec_op) (below (precedence e) 2 (omega arith)))
      post_parts false a o =
          let e = (expr (from rs ns p₀.next)).tree in
          so show_expr (begin Expr.PostInc shows piece (operand 1) expr a writes wrote o) (ap (λ (b : Bool). bare_if b (show_expr e) ++ a_symbol Symbol.inc_op) (below (precedence e) 2 (omega arith)))

      pub comma_parts : {room₃ : List ℕ} {p₃ : Pen} → Shows (operand 17) expr s rs ns room₀ p₀ room₂ p₂ → Ran s write_list_separator room₂ p₂ room₃ p₃ → Shows (operand 16) expr s rs ns room₃ p₃ room₁ p₁
          → Shows show_expr (give Expr.Comma and expr and expr) s rs ns room₀ p₀ room₁ p₁
      unfolding show_expr
      comma_parts {p₃ = p₃} a o b =
          let x = (expr (from rs ns p₀.next)).tree in
          let y = (expr (from rs ns p₃.next)).tree in
          so show_expr (begin Expr.Comma shows piece (operand 17) expr a writes wrote o shows piece (operand 16) expr b)
          (ap (λ (c : Bool). operand 17 x ++ write_list_separator ++ bare_if c (show_expr y)) (below (precedence y) 17 (omega arith)))

      pub binary_parts : (v : ℕ) {q : ℕ} {room₃ : List ℕ} {p₃ : Pen} → (q ≡ binary_precedence (binary_op_of v)) × (1 ≤ q) × (q ≤ 14) → Shows (operand q) expr s rs ns room₀ p₀ room₂ p₂
          → ((names : List ℕ) → Ran s (write_binary_op (binary_symbol (binary_op_of v)) ++ apart (joins_right (binary_op_of v) (expr (from rs names p₂.next)).tree) needed_operator_spaces []) room₂ p₂ room₃ p₃)
          → Shows (operand (q - 1)) expr s rs ns room₃ p₃ room₁ p₁
          → Shows show_expr (give (Expr.Binary (binary_op_of v)) and expr and expr) s rs ns room₀ p₀ room₁ p₁
      unfolding show_expr
      binary_parts v {q = q} {p₃ = p₃} h a o b =
          let op = write_binary_op (binary_symbol (binary_op_of v)) in
          let x = (expr (from rs ns p₀.next)).tree in
          let y = (expr (from rs ns p₃.next)).tree in
          let same : p₃.next ≡ p₂.next = omega (arith, (wrote (o ns)).next) in
          so show_expr (begin (Expr.Binary (binary_op_of v)) shows piece (operand q) expr a writes wrote (o ns) shows piece (operand (q - 1)) expr b)
          (long_seam (operand q x) op (joins_right (binary_op_of v) (expr (from rs ns p₂.next)).tree) needed_operator_spaces (operand (q - 1) y)
          ∙ ap (λ (i : ℕ). operand q x ++ op ++ apart (joins_right (binary_op_of v) (expr (from rs ns i)).tree) needed_operator_spaces (operand (q - 1) y)) (sym same)
          ∙ ap (λ (c : Bool). operand q x ++ op ++ apart (joins_right (binary_op_of v) y) needed_operator_spaces (bare_if c (show_expr y))) (below (precedence y) q h.1)
          ∙ ap (λ (n : ℕ). operand n x ++ op ++ apart (joins_right (binary_op_of v) y) needed_operator_spaces (bare_if (ltb (precedence y) n) (show_expr y))) h.0)

      pub assign_parts : (v : ℕ) {room₃ : List ℕ} {p₃ : Pen} → Shows (operand 15) expr s rs ns room₀ p₀ room₂ p₂
          → Ran s (write_binary_op (assignment_symbol (assignment_op v))) room₂ p₂ room₃ p₃ → Shows (operand 16) expr s rs ns room₃ p₃ room₁ p₁
          → Shows show_expr (give (Expr.Assignment (assignment_op v)) and expr and expr) s rs ns room₀ p₀ room₁ p₁
      unfolding show_expr
      assign_parts v {p₃ = p₃} a o b =
          let x = (expr (from rs ns p₀.next)).tree in
          let y = (expr (from rs ns p₃.next)).tree in
          so show_expr (begin (Expr.Assignment (assignment_op v)) shows piece (operand 15) expr a writes wrote o shows piece (operand 16) expr b)
          (ap (λ (c : Bool). bare_if c (show_expr x) ++ write_binary_op (assignment_symbol (assignment_op v)) ++ operand 16 y) (below (precedence x) 16 (omega arith)))

      pub index_parts : {room₃ room₄ : List ℕ} {p₃ p₄ : Pen} → Shows (operand 2) expr s rs ns room₀ p₀ room₂ p₂ → Wrote (bytes "[") room₂ p₂ room₃ p₃
          → Shows (operand 17) expr s rs ns room₃ p₃ room₄ p₄ → Wrote (bytes "]") room₄ p₄ room₁ p₁ → Shows show_expr (give Expr.Bracket and expr and expr) s rs ns room₀ p₀ room₁ p₁
      unfolding show_expr spell symbol_text
      index_parts {p₃ = p₃} a o b c =
          so show_expr
          (begin Expr.Bracket shows piece (operand 2) expr a writes put (Token.symbol Symbol.left_bracket) refl o shows piece show_expr expr (plain rs ns b) writes put (Token.symbol Symbol.right_bracket) refl c)
          (enclosed (operand 2 (expr (from rs ns p₀.next)).tree) (a_symbol Symbol.left_bracket) (show_expr (expr (from rs ns p₃.next)).tree) (a_symbol Symbol.right_bracket))

      pub dot_parts : (a b : ℕ) {room₃ : List ℕ} {p₃ : Pen} → Shows (operand 2) expr s rs ns room₀ p₀ room₂ p₂
          → ((names : List ℕ) → Ran s (apart (is_int (expr (from rs names p₀.next)).tree) spaces_where_needed (a_symbol Symbol.dot)) room₂ p₂ room₃ p₃)
          → Wrote (part ns a b) room₃ p₃ room₁ p₁
          → Shows show_expr (give (Expr.Dot (part ns a b)) and expr) s rs ns room₀ p₀ room₁ p₁
      unfolding show_expr spell
      dot_parts a b x o w = so show_expr (begin (Expr.Dot (part ns a b)) shows piece (operand 2) expr x writes wrote (o ns) writes put (Token.name (part ns a b)) refl w) refl

      pub question_parts : Shows (operand 14) expr s rs ns room₀ p₀ room₂ p₂ → Ran s (write_binary_token (Token.name (bytes "?"))) room₂ p₂ room₁ p₁ → Shows show_question expr s rs ns room₀ p₀ room₁ p₁
      unfolding spell symbol_text
      question_parts a o =
          let x = (expr (from rs ns p₀.next)).tree in
          told (ap (λ (e : Bool). bare_if e (show_expr x) ++ write_binary_op Symbol.question) (below (precedence x) 15 (omega arith))) (add-zero _) (a thus wrote (by_operator Symbol.question refl o))

      pub choice_parts : {room₃ : List ℕ} {p₃ : Pen} → Shows (operand 17) expr s rs ns room₀ p₀ room₂ p₂ → Ran s (write_binary_token (Token.name (bytes ":"))) room₂ p₂ room₃ p₃
          → Shows (operand 15) expr s rs ns room₃ p₃ room₁ p₁ → Shows show_choice choice s rs ns room₀ p₀ room₁ p₁
      unfolding spell symbol_text
      choice_parts a o b = so show_choice (begin Choice.either shows piece show_expr expr (plain rs ns a) writes wrote (by_operator Symbol.colon refl o) shows piece (operand 15) expr b) refl

      pub ternary_parts : Shows show_question expr s rs ns room₀ p₀ room₂ p₂ → Shows show_choice choice s rs ns room₂ p₂ room₁ p₁ → Shows show_expr (give Expr.Ternary and expr and expr and expr) s rs ns room₀ p₀ room₁ p₁
      ternary_parts a b =
          reads show_expr (give Expr.Ternary and expr and expr and expr) rs ns _ (ternary_grouped rs ns p₀.next) refl refl
          (so show_expr (begin ternary_of shows piece show_question expr a shows piece show_choice choice b) (ternary_shown (expr (from rs ns p₀.next)).tree (choice (from rs ns p₂.next)).tree))

      pub call_parts : (n : ℕ) {room₃ room₄ : List ℕ} {p₃ p₄ : Pen} → Shows show_function_identifier callee s rs ns room₀ p₀ room₂ p₂ → Wrote (bytes "(") room₂ p₂ room₃ p₃
          → Shows (λ es. show_exprs es true) (several n expr Exprs.no_exprs Exprs.exprs) s rs ns room₃ p₃ room₄ p₄ → Wrote (bytes ")") room₄ p₄ room₁ p₁
          → Shows show_expr (give Expr.FunCall and callee and several n expr Exprs.no_exprs Exprs.exprs) s rs ns room₀ p₀ room₁ p₁
      unfolding show_expr spell symbol_text
      call_parts n {p₃ = p₃} a o b c =
          so show_expr
          (begin Expr.FunCall shows piece show_function_identifier callee a writes put (Token.symbol Symbol.left_paren) refl o
          shows piece (λ es. show_exprs es true) (several n expr Exprs.no_exprs Exprs.exprs) b writes put (Token.symbol Symbol.right_paren) refl c)
          (enclosed (show_function_identifier (callee (from rs ns p₀.next)).tree) (a_symbol Symbol.left_paren) (show_exprs (several n expr Exprs.no_exprs Exprs.exprs (from rs ns p₃.next)).tree true) (a_symbol Symbol.right_paren))

      -- a separator or a space before an item
      pub item_behind : {A : Type 0} (show : A → List Command) (q : Reader A) {cs : List Command} → Ran s cs room₀ p₀ room₂ p₂ → Shows show q s rs ns room₂ p₂ room₁ p₁
          → Shows (λ x. cs ++ show x) q s rs ns room₀ p₀ room₁ p₁
      item_behind show q {cs = cs} o a =
          let i : p₀.next ≡ p₂.next = omega (arith, (wrote o).next) in
          reads (λ x. cs ++ show x) q rs ns (q (from rs ns p₂.next)) (ap (λ (k : ℕ). q (from rs ns k)) i) refl (omega arith) (wrote o thus a)

      pub qualif_on : {on : Bool} → on ≡ true → Shows (λ q. show_type_qualifier q true) qualifier s rs ns room₀ p₀ room₂ p₂ → Wrote (bytes " ") room₂ p₂ room₁ p₁
          → Shows show_qualification (qualification_if on) s rs ns room₀ p₀ room₁ p₁
      unfolding show_qualification
      qualif_on h a w = rw h (so show_qualification (begin Qualification.qualified shows piece (λ q. show_type_qualifier q true) qualifier a writes space w) refl)

      module _ {room₃ : List ℕ} {p₃ : Pen} where
        pub field_item : Ran s (flush_line ∷ []) room₀ p₀ room₂ p₂ → Shows show_struct_field field s rs ns room₂ p₂ room₃ p₃ → Ran s write_struct_field_separator room₃ p₃ room₁ p₁
            → Shows (λ x. flush_line ∷ show_struct_field x ++ write_struct_field_separator) field s rs ns room₀ p₀ room₁ p₁
        field_item o a c =
            let i : p₀.next ≡ p₂.next = omega (arith, (wrote o).next) in
            reads (λ x. flush_line ∷ show_struct_field x ++ write_struct_field_separator) field rs ns (field (from rs ns p₂.next)) (ap (λ (k : ℕ). field (from rs ns k)) i) refl (omega arith) (wrote o thus a thus wrote c)

        -- an operand, in brackets where it binds too weakly
        pub in_brackets : (most : ℕ) {k v q : ℕ} → k ≡ (record_at rs p₀.next).kind → v ≡ (record_at rs p₀.next).variant → q ≡ precedence_of k v
            → Ran s (cond (ltb most q) (a_symbol Symbol.left_paren) []) room₀ p₀ room₂ p₂ → Shows show_expr expr s rs ns room₂ p₂ room₃ p₃
            → Ran s (cond (ltb most q) (a_symbol Symbol.right_paren) []) room₃ p₃ room₁ p₁ → Shows (operand most) expr s rs ns room₀ p₀ room₁ p₁
        in_brackets most {q = q} hk hv hq o a c =
            let i : p₀.next ≡ p₂.next = omega (arith, (wrote o).next) in
            reads (operand most) expr rs ns (expr (from rs ns p₂.next)) (ap (λ (k : ℕ). expr (from rs ns k)) i)
            (bracketed (expr (from rs ns p₂.next)).tree most q (precedence_here rs ns p₀.next p₂.next i hk hv hq)) (omega arith) (wrote o thus a thus wrote c)

        pub layout_parts : (n : ℕ) {room₄ : List ℕ} {p₄ : Pen} → Ran s (a_word (qualifier_word 18)) room₀ p₀ room₂ p₂ → Wrote (bytes "(") room₂ p₂ room₃ p₃
            → Shows (λ is. show_layout_ids is true) (several n layout_id LayoutQualifier.no_ids LayoutQualifier.ids) s rs ns room₃ p₃ room₄ p₄ → Wrote (bytes ")") room₄ p₄ room₁ p₁
            → Shows show_type_qualifier_spec (give TypeQualifierSpec.Layout and several n layout_id LayoutQualifier.no_ids LayoutQualifier.ids) s rs ns room₀ p₀ room₁ p₁
        unfolding show_type_qualifier_spec qualifier_word spell symbol_text
        layout_parts n w o a c =
            let is = (several n layout_id LayoutQualifier.no_ids LayoutQualifier.ids (from rs ns p₃.next)).tree in
            so show_type_qualifier_spec
            (begin TypeQualifierSpec.Layout writes wrote w writes put (Token.symbol Symbol.left_paren) refl o shows piece (λ is. show_layout_ids is true) (several n layout_id LayoutQualifier.no_ids LayoutQualifier.ids) a
            writes put (Token.symbol Symbol.right_paren) refl c)
            (enclosed (a_word Word.layout) (a_symbol Symbol.left_paren) (show_layout_ids is true) (a_symbol Symbol.right_paren))

        pub subr_parts : (n : ℕ) → 0 < n → {room₄ : List ℕ} {p₄ : Pen} → Ran s (a_word (qualifier_word 17)) room₀ p₀ room₂ p₂ → Wrote (bytes "(") room₂ p₂ room₃ p₃
            → Shows (λ ts. show_type_specifiers ts true) (several n type TypeSpecifiers.no_types TypeSpecifiers.types) s rs ns room₃ p₃ room₄ p₄ → Wrote (bytes ")") room₄ p₄ room₁ p₁
            → Shows show_type_qualifier_spec (give TypeQualifierSpec.Subroutine and several n type TypeSpecifiers.no_types TypeSpecifiers.types) s rs ns room₀ p₀ room₁ p₁
        unfolding show_type_qualifier_spec qualifier_word spell symbol_text
        subr_parts n h w o a c =
            let ts = (several n type TypeSpecifiers.no_types TypeSpecifiers.types (from rs ns p₃.next)).tree in
            so show_type_qualifier_spec
            (begin TypeQualifierSpec.Subroutine writes wrote w writes put (Token.symbol Symbol.left_paren) refl o shows piece (λ ts. show_type_specifiers ts true) (several n type TypeSpecifiers.no_types TypeSpecifiers.types) a
            writes put (Token.symbol Symbol.right_paren) refl c)
            (enclosed (a_word Word.subroutine) (a_symbol Symbol.left_paren) (show_type_specifiers ts true) (a_symbol Symbol.right_paren)
            ∙ ap (λ (b : Bool). a_word Word.subroutine ++ cond b [] (a_symbol Symbol.left_paren ++ show_type_specifiers ts true ++ a_symbol Symbol.right_paren)) (sym (some_types n h (from rs ns p₃.next))))

        pub strukt_parts : (r : Record) {room₄ room₅ room₆ : List ℕ} {p₄ p₅ p₆ : Pen} → Wrote (bytes "struct") room₀ p₀ room₂ p₂ → Wrote (bytes " ") room₂ p₂ room₃ p₃
            → Ran s (optional show_identifier (cond (eqb r.variant 1) (some (part ns r.a r.b)) none)) room₃ p₃ room₄ p₄ → Ran s enter_block room₄ p₄ room₅ p₅
            → Shows show_struct_fields (several r.count field StructFieldSpecifiers.no_fields StructFieldSpecifiers.fields) s rs ns room₅ p₅ room₆ p₆ → Ran s exit_block room₆ p₆ room₁ p₁
            → Shows show_type_specifier_non_array (struct_parts ns r) s rs ns room₀ p₀ room₁ p₁
        unfolding show_type_specifier_non_array spell word_text
        strukt_parts r w b n o a c =
            so show_type_specifier_non_array
            (begin (TypeSpecifierNonArray.Struct (cond (eqb r.variant 1) (some (part ns r.a r.b)) none)) writes put (Token.word Word.struct) refl w writes space b writes wrote n writes wrote o
            shows piece show_struct_fields (several r.count field StructFieldSpecifiers.no_fields StructFieldSpecifiers.fields) a writes wrote c) refl

    pub no_types : (n : ℕ) → n ≡ 0 → Ran s (a_word (qualifier_word 17)) room₀ p₀ room₁ p₁
        → Shows show_type_qualifier_spec (give TypeQualifierSpec.Subroutine and several n type TypeSpecifiers.no_types TypeSpecifiers.types) s rs ns room₀ p₀ room₁ p₁
    unfolding show_type_qualifier_spec qualifier_word several
    no_types n h w = rw h (wrote w)
