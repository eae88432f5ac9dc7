-- One law a printer of declarations: what the calls promise, in the order of the code, is what the printer promises. Assumes nothing.
use mathlib.Core.Path.{◌≡◌, refl}
use mathlib.Core.Bool.{Bool, true, cond}
use mathlib.Core.List.{List, [], ◌∷◌, ◌++◌}
use mathlib.Core.Option.{none, some}
use Prim.Native.Nat.{ℕ, ◌+◌, ◌%◌}
use native.Mathlib.Omega.{arith}
use lib.Dec.{eqb}
use borrow.Author.Tests.{eq-eqb, ne_eqb}
use Rattle.words.specs.Bytes.{bytes}
use Rattle.words.specs.Word.{Word, word_text}
use Rattle.words.specs.Symbol.{Symbol, symbol_text}
use Rattle.records.specs.declared.Record.{Record}
use Rattle.records.specs.Record.{record_at, part, text_of, bit0, bit1, bit2}
use Rattle.records.proofs.Arms.{NoneFrom}
use Rattle.settings.specs.declared.Settings.{Settings}
use Rattle.text.specs.Token.{Token, spell}
use Rattle.text.specs.Command.{Command, write_binary_token, write_declaration_terminator, enter_block, exit_block, enter_initializer_list, end_initializer_list}
use Rattle.text.specs.Tree.{FullySpecifiedType, FunctionPrototype, FunctionParameterDeclaration, InitDeclaratorList, SingleDeclaration, SingleDeclarationNoType, Initializer, Initializers, Block, Declaration, StructFieldSpecifiers}
use Rattle.text.specs.Text.{a_symbol, a_space, show_identifier, show_type_specifier, show_struct_fields, show_array_spec, show_arrayed_identifier, show_qualification, show_type_qualifier, show_type_qualifier_spec, show_expr, show_fully_specified_type, show_function_parameter_declaration, show_parameters, show_function_prototype, show_initializer, show_initializers, show_declared, show_initialized, show_single_declaration, show_single_declaration_no_type, show_tail, show_init_declarator_list, show_block, show_declaration, optional}
use Rattle.text.specs.Reading.{Item, Reader, give, counted, ◌and◌, several, maybe, from, item_of, full_type_of, prototype_of, parameter_of, declarators_of, single_of, declarator_of, initializer_of, block_of, declaration_of, expr, type, field, identifier, qualifier, spec, full_type, prototype, parameter, declarators, single, declarator, initializer, block, declaration, array_if, qualification_if}
use Rattle.pen.specs.declared.Pen.{Pen}
use Rattle.pen.specs.Promise.{Wrote, Ran}
use Rattle.leaves.specs.Shown.{past, Shows}
use Rattle.leaves.proofs.Rows.{by_operator}
use Rattle.leaves.proofs.Shown.{wrote}
use Rattle.show_expr.proofs.At.{as_kind}
use Rattle.show_expr.proofs.Parts.{piece, begin, ◌writes◌, ◌shows◌, ◌given◌, so}
use Rattle.show_expr.proofs.Printers.{put, space, enclosed, of_parts}

-- a declaration of none of the variants before it is a qualifier alone
pub alone : (ns : List ℕ) (r : Record) (L : List Item) → NoneFrom 0 5 r.variant → declaration_of ns (as_kind 47 r) L ≡ counted ((give Declaration.TypeOnly and qualifier) L)
unfolding declaration_of
alone ns r L h =
    rw (ne_eqb r.variant 0 h.0.0.0.0.1, ne_eqb r.variant 1 h.0.0.0.1, ne_eqb r.variant 2 h.0.0.1, ne_eqb r.variant 3 h.0.1, ne_eqb r.variant 4 h.1) refl

module _ (rs ns : List ℕ) {s : Settings} where
  module _ {r : Record} {room₀ room₁ : List ℕ} {p₀ p p₁ : Pen} (e : r ≡ record_at rs p₀.next) where
    pub full_type_of_lem : r.kind ≡ 31 → {room₂ : List ℕ} {p₂ : Pen} → p ≡ past rs p₀ → Shows show_qualification (qualification_if (eqb r.variant 1)) s rs ns room₀ p room₂ p₂
        → Shows show_type_specifier type s rs ns room₂ p₂ room₁ p₁ → Shows show_fully_specified_type full_type s rs ns room₀ p₀ room₁ p₁
    unfolding show_fully_specified_type item_of full_type_of
    full_type_of_lem k f a b =
        of_parts rs ns e (λ (x : Item). x.full_type) _ show_fully_specified_type 31 (omega arith) k f
        (begin FullySpecifiedType.full_type shows piece show_qualification (qualification_if (eqb r.variant 1)) a shows piece show_type_specifier type b) refl refl

    pub prototype_of_lem : r.kind ≡ 40 → {room₂ room₃ room₄ room₅ room₆ : List ℕ} {p₂ p₃ p₄ p₅ p₆ : Pen} → p ≡ past rs p₀
        → Shows show_fully_specified_type full_type s rs ns room₀ p room₂ p₂ → Wrote (bytes " ") room₂ p₂ room₃ p₃ → Wrote (part ns r.a r.b) room₃ p₃ room₄ p₄
        → Wrote (bytes "(") room₄ p₄ room₅ p₅ → Shows (λ ps. show_parameters ps true) (several r.count parameter [] ◌∷◌) s rs ns room₅ p₅ room₆ p₆ → Wrote (bytes ")") room₆ p₆ room₁ p₁
        → Shows show_function_prototype prototype s rs ns room₀ p₀ room₁ p₁
    unfolding show_function_prototype spell symbol_text item_of prototype_of
    prototype_of_lem k {p₂ = p₂} {p₅ = p₅} f a w n o b c =
        of_parts rs ns e (λ (x : Item). x.prototype) _ show_function_prototype 40 (omega arith) k f
        (begin (FunctionPrototype.prototype (text_of ns r)) shows piece show_fully_specified_type full_type a writes space w writes put (Token.name (text_of ns r)) refl n
        writes put (Token.symbol Symbol.left_paren) refl o shows piece (λ ps. show_parameters ps true) (several r.count parameter [] ◌∷◌) b writes put (Token.symbol Symbol.right_paren) refl c) refl
        (enclosed (show_fully_specified_type (full_type (from rs ns p.next)).tree ++ a_space ++ show_identifier (text_of ns r)) (a_symbol Symbol.left_paren)
        (show_parameters (several r.count parameter [] ◌∷◌ (from rs ns p₅.next)).tree true) (a_symbol Symbol.right_paren))

    -- a parameter, with a name or without
    pub unnamed : r.kind ≡ 41 → (r.variant % 2 ≡ 1 → ⊥) → {room₂ : List ℕ} {p₂ : Pen} → p ≡ past rs p₀ → Shows show_qualification (qualification_if (bit1 r.variant)) s rs ns room₀ p room₂ p₂
        → Shows show_type_specifier type s rs ns room₂ p₂ room₁ p₁ → Shows show_function_parameter_declaration parameter s rs ns room₀ p₀ room₁ p₁
    unfolding show_function_parameter_declaration item_of parameter_of
    unnamed k v f a b =
        of_parts rs ns e (λ (x : Item). x.parameter) _ show_function_parameter_declaration 41 (omega arith) k f
        (begin FunctionParameterDeclaration.Unnamed shows piece show_qualification (qualification_if (bit1 r.variant)) a shows piece show_type_specifier type b) (rw (ne_eqb (r.variant % 2) 1 v) refl) refl

    pub named : r.kind ≡ 41 → r.variant % 2 ≡ 1 → {room₂ room₃ room₄ : List ℕ} {p₂ p₃ p₄ : Pen} → p ≡ past rs p₀ → Shows show_qualification (qualification_if (bit1 r.variant)) s rs ns room₀ p room₂ p₂
        → Shows show_type_specifier type s rs ns room₂ p₂ room₃ p₃ → Wrote (bytes " ") room₃ p₃ room₄ p₄ → Shows show_arrayed_identifier identifier s rs ns room₄ p₄ room₁ p₁
        → Shows show_function_parameter_declaration parameter s rs ns room₀ p₀ room₁ p₁
    unfolding show_function_parameter_declaration item_of parameter_of
    named k v f a b w c =
        of_parts rs ns e (λ (x : Item). x.parameter) _ show_function_parameter_declaration 41 (omega arith) k f
        (begin FunctionParameterDeclaration.Named shows piece show_qualification (qualification_if (bit1 r.variant)) a shows piece show_type_specifier type b writes space w
        shows piece show_arrayed_identifier identifier c) (rw (eq-eqb (r.variant % 2) 1 v) refl) refl

    pub declarators_of_lem : r.kind ≡ 42 → {room₂ : List ℕ} {p₂ : Pen} → p ≡ past rs p₀ → Shows show_single_declaration single s rs ns room₀ p room₂ p₂
        → Shows show_tail (several r.count declarator [] ◌∷◌) s rs ns room₂ p₂ room₁ p₁ → Shows show_init_declarator_list declarators s rs ns room₀ p₀ room₁ p₁
    unfolding show_init_declarator_list item_of declarators_of
    declarators_of_lem k f a b =
        of_parts rs ns e (λ (x : Item). x.declarators) _ show_init_declarator_list 42 (omega arith) k f
        (begin InitDeclaratorList.declarators shows piece show_single_declaration single a shows piece show_tail (several r.count declarator [] ◌∷◌) b) refl refl

    pub single_of_lem : r.kind ≡ 43 → {room₂ room₃ room₄ : List ℕ} {p₂ p₃ p₄ : Pen} → p ≡ past rs p₀ → Shows show_fully_specified_type full_type s rs ns room₀ p room₂ p₂
        → Ran s (show_declared (cond (bit0 r.variant) (some (part ns r.a r.b)) none)) room₂ p₂ room₃ p₃ → Shows show_array_spec (array_if (bit1 r.variant)) s rs ns room₃ p₃ room₄ p₄
        → Shows show_initialized (maybe (bit2 r.variant) initializer) s rs ns room₄ p₄ room₁ p₁ → Shows show_single_declaration single s rs ns room₀ p₀ room₁ p₁
    unfolding show_single_declaration item_of single_of
    single_of_lem k f a n b c =
        of_parts rs ns e (λ (x : Item). x.single) _ show_single_declaration 43 (omega arith) k f
        (begin SingleDeclaration.single shows piece show_fully_specified_type full_type a given cond (bit0 r.variant) (some (text_of ns r)) none writes wrote n
        shows piece show_array_spec (array_if (bit1 r.variant)) b shows piece show_initialized (maybe (bit2 r.variant) initializer) c) refl refl

    pub declarator_of_lem : r.kind ≡ 44 → {room₂ : List ℕ} {p₂ : Pen} → p ≡ past rs p₀ → Shows show_arrayed_identifier identifier s rs ns room₀ p room₂ p₂
        → Shows show_initialized (maybe (eqb r.variant 1) initializer) s rs ns room₂ p₂ room₁ p₁ → Shows show_single_declaration_no_type declarator s rs ns room₀ p₀ room₁ p₁
    unfolding show_single_declaration_no_type item_of declarator_of
    declarator_of_lem k f a b =
        of_parts rs ns e (λ (x : Item). x.declarator) _ show_single_declaration_no_type 44 (omega arith) k f
        (begin SingleDeclarationNoType.declarator shows piece show_arrayed_identifier identifier a shows piece show_initialized (maybe (eqb r.variant 1) initializer) b) refl refl

    -- an initializer: an expression, or a list
    pub simple : r.kind ≡ 45 → r.variant ≡ 0 → p ≡ past rs p₀ → Shows show_expr expr s rs ns room₀ p room₁ p₁ → Shows show_initializer initializer s rs ns room₀ p₀ room₁ p₁
    unfolding show_initializer item_of initializer_of
    simple k v f a =
        of_parts rs ns e (λ (x : Item). x.initializer) _ show_initializer 45 (omega arith) k f (begin Initializer.Simple shows piece show_expr expr a) (rw v refl) refl

    pub list_of : r.kind ≡ 45 → (r.variant ≡ 0 → ⊥) → {room₂ room₃ : List ℕ} {p₂ p₃ : Pen} → p ≡ past rs p₀ → Ran s enter_initializer_list room₀ p room₂ p₂
        → Shows (λ is. show_initializers is true) (several r.count initializer Initializers.no_initializers Initializers.initializers) s rs ns room₂ p₂ room₃ p₃
        → Ran s end_initializer_list room₃ p₃ room₁ p₁ → Shows show_initializer initializer s rs ns room₀ p₀ room₁ p₁
    unfolding show_initializer item_of initializer_of
    list_of k v f o a c =
        of_parts rs ns e (λ (x : Item). x.initializer) _ show_initializer 45 (omega arith) k f
        (begin Initializer.ListOf writes wrote o shows piece (λ is. show_initializers is true) (several r.count initializer Initializers.no_initializers Initializers.initializers) a writes wrote c)
        (rw (ne_eqb r.variant 0 v) refl) refl

    pub block_of_lem : r.kind ≡ 46 → {room₂ room₃ room₄ room₅ room₆ room₇ : List ℕ} {p₂ p₃ p₄ p₅ p₆ p₇ : Pen} → p ≡ past rs p₀ → Shows (λ q. show_type_qualifier q true) qualifier s rs ns room₀ p room₂ p₂
        → Wrote (bytes " ") room₂ p₂ room₃ p₃ → Wrote (part ns r.a r.b) room₃ p₃ room₄ p₄ → Ran s enter_block room₄ p₄ room₅ p₅
        → Shows show_struct_fields (several r.count field StructFieldSpecifiers.no_fields StructFieldSpecifiers.fields) s rs ns room₅ p₅ room₆ p₆ → Ran s exit_block room₆ p₆ room₇ p₇
        → Shows (optional show_arrayed_identifier) (maybe (eqb r.variant 1) identifier) s rs ns room₇ p₇ room₁ p₁ → Shows show_block block s rs ns room₀ p₀ room₁ p₁
    unfolding show_block spell item_of block_of
    block_of_lem k f a w n o b c d =
        of_parts rs ns e (λ (x : Item). x.block) _ show_block 46 (omega arith) k f
        (begin (Block.block (text_of ns r)) shows piece (λ q. show_type_qualifier q true) qualifier a writes space w writes put (Token.name (text_of ns r)) refl n writes wrote o
        shows piece show_struct_fields (several r.count field StructFieldSpecifiers.no_fields StructFieldSpecifiers.fields) b writes wrote c shows piece (optional show_arrayed_identifier) (maybe (eqb r.variant 1) identifier) d) refl refl

    -- a declaration that has one part only
    pub declaration_of_lem : {A : Type 0} (f : A → Declaration) (q : Reader A) (show : A → List Command) → r.kind ≡ 47 → {room₂ : List ℕ} {p₂ : Pen} → p ≡ past rs p₀
        → declaration_of ns (as_kind 47 r) (from rs ns (p₀.next + 1)) ≡ counted ((give f and q) (from rs ns (p₀.next + 1))) → ((x : A) → show x ++ write_declaration_terminator ≡ show_declaration (f x))
        → Shows show q s rs ns room₀ p room₂ p₂ → Ran s write_declaration_terminator room₂ p₂ room₁ p₁ → Shows show_declaration declaration s rs ns room₀ p₀ room₁ p₁
    unfolding item_of
    declaration_of_lem f q show k g row h a t = of_parts rs ns e (λ (x : Item). x.declaration) _ show_declaration 47 (omega arith) k g (begin f shows piece show q a writes wrote t) row (h _)

    pub precision_of : r.kind ≡ 47 → r.variant ≡ 2 → {room₂ room₃ room₄ room₅ room₆ : List ℕ} {p₂ p₃ p₄ p₅ p₆ : Pen} → p ≡ past rs p₀ → Wrote (bytes "precision") room₀ p room₂ p₂
        → Wrote (bytes " ") room₂ p₂ room₃ p₃ → Shows show_type_qualifier_spec spec s rs ns room₃ p₃ room₄ p₄ → Wrote (bytes " ") room₄ p₄ room₅ p₅ → Shows show_type_specifier type s rs ns room₅ p₅ room₆ p₆
        → Ran s write_declaration_terminator room₆ p₆ room₁ p₁ → Shows show_declaration declaration s rs ns room₀ p₀ room₁ p₁
    unfolding show_declaration spell word_text item_of declaration_of
    precision_of k v f o w a x b t =
        of_parts rs ns e (λ (x : Item). x.declaration) _ show_declaration 47 (omega arith) k f
        (begin Declaration.Precision writes put (Token.word Word.precision) refl o writes space w shows piece show_type_qualifier_spec spec a writes space x shows piece show_type_specifier type b writes wrote t)
        (rw v refl) refl

    pub invariant_of : r.kind ≡ 47 → r.variant ≡ 4 → {room₂ room₃ room₄ : List ℕ} {p₂ p₃ p₄ : Pen} → p ≡ past rs p₀ → Wrote (bytes "invariant") room₀ p room₂ p₂ → Wrote (bytes " ") room₂ p₂ room₃ p₃
        → Wrote (part ns r.a r.b) room₃ p₃ room₄ p₄ → Ran s write_declaration_terminator room₄ p₄ room₁ p₁ → Shows show_declaration declaration s rs ns room₀ p₀ room₁ p₁
    unfolding show_declaration spell word_text item_of declaration_of
    invariant_of k v f o w n t =
        of_parts rs ns e (λ (x : Item). x.declaration) _ show_declaration 47 (omega arith) k f
        (begin (Declaration.Invariant (text_of ns r)) writes put (Token.word Word.invariant) refl o writes space w writes put (Token.name (text_of ns r)) refl n writes wrote t) (rw v refl) refl

  -- an initializer that is there
  module _ {room₀ room₁ : List ℕ} {p₀ p₁ : Pen} {on : Bool} (h : on ≡ true) where
    pub initialized : {room₂ : List ℕ} {p₂ : Pen} → Ran s (write_binary_token (Token.name (bytes "="))) room₀ p₀ room₂ p₂ → Shows show_initializer initializer s rs ns room₂ p₂ room₁ p₁
        → Shows show_initialized (maybe on initializer) s rs ns room₀ p₀ room₁ p₁
    unfolding show_initialized spell symbol_text
    initialized o a = rw h (so show_initialized (begin (λ (i : Initializer). some i) writes wrote (by_operator Symbol.equal refl o) shows piece show_initializer initializer a) refl)
