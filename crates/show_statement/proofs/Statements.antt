-- One law a printer of statements and of what stands in them: what the calls promise, in the order of the code, is what the printer promises. Assumes nothing.
use mathlib.Core.Path.{◌≡◌, refl, sym, ap, ◌∙◌}
use mathlib.Core.Bool.{Bool, true, false, not, ◌&&◌}
use mathlib.Core.List.{List, [], ◌∷◌, ◌++◌, append_assoc}
use Prim.Native.Nat.{ℕ, ◌+◌, ◌<◌}
use native.Mathlib.Nat.{add-zero}
use native.Mathlib.Omega.{arith}
use lib.Dec.{eqb}
use borrow.Author.Tests.{ne_eqb}
use Rattle.words.specs.Bytes.{bytes}
use Rattle.words.specs.Word.{Word, word_text}
use Rattle.words.specs.Symbol.{Symbol, symbol_text}
use Rattle.records.specs.declared.Record.{Record}
use Rattle.records.specs.Record.{record_at}
use Rattle.settings.specs.declared.Settings.{Settings}
use Rattle.text.specs.Token.{Token, spell}
use Rattle.text.specs.Pen.{pend, at_body}
use Rattle.text.specs.Command.{Command, write_else, write_statement_terminator, write_for_statement_separator, write_statement_opening_parenthesis, write_statement_closing_parenthesis, enter_block, exit_block}
use Rattle.text.specs.Command.Command.{flush_line, flush_space, consume_newline, consume_function_definition_statement}
use Rattle.text.specs.Tree.{Expr, Statement}
use Rattle.text.specs.Text.{a_word, braced_or_collapsed, show_compound_statement, show_expr, show_declaration, show_condition, show_for_init_statement, show_jump_statement, show_statement, show_statements, optional}
use Rattle.text.specs.Reading.{Item, Reader, give, made, counted, ◌and◌, from, item_of, statement_of, compound_of, expr, declaration, condition, for_init, statement, statements, jump_statement}
use Rattle.text.proofs.At.{single_item_count}
use Rattle.pen.specs.declared.Pen.{Pen}
use Rattle.pen.specs.Sheet.{leave}
use Rattle.pen.specs.Promise.{Wrote, Ran}
use Rattle.pen.proofs.Chain.{◌then◌, by_consume_newline, by_consume_function_definition_statement}
use Rattle.leaves.specs.Shown.{past, Shows}
use Rattle.leaves.proofs.Shown.{◌thus◌, wrote, told, reads, opened_any}
use Rattle.show_expr.proofs.At.{as_kind}
use Rattle.show_expr.proofs.Parts.{piece, begin, ◌writes◌, ◌shows◌, so, only}
use Rattle.show_expr.proofs.Printers.{put, space, enclosed, none_there, of_row, as_sort_row, item_behind}
use Rattle.show_simple.specs.Flushed.{behind_flush}
use Rattle.show_simple.specs.Parts.{selection_statement, switch_statement, while_statement, do_while_statement, for_statement}
use Rattle.show_simple.specs.Rest.{for_rest, show_for_rest_statement}
use Rattle.show_statement.specs.Around.{before_statements, behind_statements}
use Rattle.show_statement.specs.Rest.{SelectionRestStatement, selection_rest, show_selection_rest_statement}
use Rattle.show_statement.proofs.Grouped.{if_of, for_of, selection_grouped, for_grouped}

-- every statement begins with the flush
pub flush_first : (collapse : Bool) (x : Statement) → flush_line ∷ behind_flush (show_statement collapse) x ≡ show_statement collapse x
unfolding show_statement
flush_first collapse Statement.no_statement = refl
flush_first collapse (Statement.OfDeclaration d) = refl
flush_first collapse (Statement.Compound ss) = refl
flush_first collapse (Statement.Expression e) = refl
flush_first collapse (Statement.If e s) = refl
flush_first collapse (Statement.IfElse e s t) = refl
flush_first collapse (Statement.Switch e ss) = refl
flush_first collapse Statement.Default = refl
flush_first collapse (Statement.Case e) = refl
flush_first collapse (Statement.While c s) = refl
flush_first collapse (Statement.DoWhile s e) = refl
flush_first collapse (Statement.For i c e s) = refl
flush_first collapse (Statement.OfJump j) = refl

-- what stands around the statements of a compound statement, with these between, is the statement
between : (collapsed : Bool) (cs : List Command) → before_statements collapsed ++ (consume_function_definition_statement ∷ []) ++ cs ++ behind_statements collapsed ≡ braced_or_collapsed collapsed cs
between true cs = refl
between false cs = refl

-- an if statement is its condition and what stands behind it
if_shown : (collapse : Bool) (e : Expr) (r : SelectionRestStatement)
    → a_word Word.if ++ write_statement_opening_parenthesis ++ show_expr e ++ write_statement_closing_parenthesis ++ show_selection_rest_statement collapse r ≡ behind_flush (show_statement collapse) (if_of e r)
unfolding show_statement
if_shown collapse e (SelectionRestStatement.Statement s) = refl
if_shown collapse e (SelectionRestStatement.Else s t) =
    sym (enclosed (a_word Word.if ++ write_statement_opening_parenthesis ++ show_expr e ++ write_statement_closing_parenthesis) (show_statement collapse s) write_else (consume_newline ∷ show_statement collapse t))

-- the last arm of a match: none of the numbers, of which the last stands first
abbrev pub NoneOf : List ℕ → ℕ → Type 0
NoneOf [] v = Unit {0}
NoneOf (k ∷ ks) v = NoneOf ks v × (v ≡ k → ⊥)

-- the kinds that are statements
abbrev pub statement_kinds : List ℕ
statement_kinds = 68 ∷ 67 ∷ 66 ∷ 65 ∷ 64 ∷ 63 ∷ 62 ∷ 61 ∷ 60 ∷ 47 ∷ []

-- a flush, and what stands behind it, of whatever begins with a flush
pub flushed : (rs ns : List ℕ) {A : Type 0} (show : A → List Command) (q : Reader A) → ((x : A) → flush_line ∷ behind_flush show x ≡ show x) → {s : Settings} {room₀ room₁ room₂ : List ℕ} {p₀ p₁ p₂ : Pen}
    → Ran s (flush_line ∷ []) room₀ p₀ room₂ p₂ → Shows (behind_flush show) q s rs ns room₂ p₂ room₁ p₁ → Shows show q s rs ns room₀ p₀ room₁ p₁
flushed rs ns show q h o a = told (h _) refl (item_behind rs ns (behind_flush show) q o a)

abbrev collapse : Settings → Bool
collapse s = s.collapse_single_item_compound_statements

-- what the functions that show_statement calls write of a statement
abbrev show_behind : Settings → Statement → List Command
show_behind s = behind_flush (show_statement (collapse s))

module _ (rs ns : List ℕ) {s : Settings} where
  -- no statement: the line is flushed all the same
  pub no_statement_row : {r : Record} {room : List ℕ} {p : Pen} → r ≡ record_at rs p.next → NoneOf statement_kinds r.kind → Shows (show_behind s) statement s rs ns room p room p
  unfolding show_statement item_of statement_of
  no_statement_row {r = r} {p = p} e h =
      none_there rs ns (show_behind s) statement Statement.no_statement
      (opened_any rs ns (λ (x : Item). x.statement) Statement.no_statement p.next (λ L. refl) e
      ∙ rw (ne_eqb r.kind 47 h.0.0.0.0.0.0.0.0.0.1, ne_eqb r.kind 60 h.0.0.0.0.0.0.0.0.1, ne_eqb r.kind 61 h.0.0.0.0.0.0.0.1, ne_eqb r.kind 62 h.0.0.0.0.0.0.1, ne_eqb r.kind 63 h.0.0.0.0.0.1, ne_eqb r.kind 64 h.0.0.0.0.1, ne_eqb r.kind 65 h.0.0.0.1, ne_eqb r.kind 66 h.0.0.1, ne_eqb r.kind 67 h.0.1, ne_eqb r.kind 68 h.1) refl) refl

  module _ {room₀ room₁ : List ℕ} {p₀ p₁ : Pen} where
    -- records
    module _ {r : Record} {p : Pen} (e : r ≡ record_at rs p₀.next) where
      -- a statement's record by its kind: what was shown behind it; a declaration is one by itself
      pub of_kind : (k : ℕ) (parts : Reader Statement) → (item_of ns (as_kind k r) (from rs ns (p₀.next + 1))).statement ≡ counted (parts (from rs ns (p₀.next + 1))) → 0 < k → r.kind ≡ k → p ≡ past rs p₀
          → Shows (show_behind s) parts s rs ns room₀ p room₁ p₁ → Shows (show_behind s) statement s rs ns room₀ p₀ room₁ p₁
      of_kind k parts row h f g a = of_row rs ns e (λ (x : Item). x.statement) _ (show_behind s) k parts row h f g a

      pub compound_row : r.kind ≡ 60 → p ≡ past rs p₀
          → Shows (show_compound_statement (collapse s) false) (statements r.count) s rs ns room₀ p room₁ p₁
          → Shows (show_behind s) statement s rs ns room₀ p₀ room₁ p₁
      unfolding show_statement item_of statement_of compound_of
      compound_row k f a = of_kind 60 (λ L. made Statement.Compound (statements r.count L)) refl (omega arith) k f a

      pub jump_row : r.kind ≡ 68 → p ≡ past rs p₀ → Shows show_jump_statement (jump_statement r.variant) s rs ns room₀ p room₁ p₁ → Shows (show_behind s) statement s rs ns room₀ p₀ room₁ p₁
      unfolding show_statement item_of statement_of
      jump_row k f a = of_kind 68 (give Statement.OfJump and jump_statement r.variant) refl (omega arith) k f (only rs ns Statement.OfJump (jump_statement r.variant) show_jump_statement (show_behind s) (λ x. refl) a)

    pub declaration_row : {r : Record} → r ≡ record_at rs p₀.next → r.kind ≡ 47 → Shows show_declaration declaration s rs ns room₀ p₀ room₁ p₁ → Shows (show_behind s) statement s rs ns room₀ p₀ room₁ p₁
    unfolding show_statement item_of statement_of
    declaration_row e k a = as_sort_row rs ns e (λ (x : Item). x.declaration) _ (λ (x : Item). x.statement) _ Statement.OfDeclaration show_declaration (show_behind s) 47 refl (λ d. refl) (omega arith) k a

    -- behind their records
    pub then_parts : (v : ℕ) → v ≡ 0 → Shows (show_statement (collapse s)) statement s rs ns room₀ p₀ room₁ p₁ → Shows (show_selection_rest_statement (collapse s)) (selection_rest v) s rs ns room₀ p₀ room₁ p₁
    then_parts v h a = rw h (only rs ns SelectionRestStatement.Statement statement (show_statement (collapse s)) (show_selection_rest_statement (collapse s)) (λ x. refl) a)

    -- the second statement stands where else's newline was
    pub else_parts : (v : ℕ) {room₂ room₃ : List ℕ} {p₂ p₃ p₄ : Pen} → (v ≡ 0 → ⊥) → Shows (show_statement (collapse s)) statement s rs ns room₀ p₀ room₂ p₂ → Ran s write_else room₂ p₂ room₃ p₃ → p₄ ≡ leave (pend false p₃.state) p₃
        → Shows (show_statement (collapse s)) statement s rs ns room₃ p₄ room₁ p₁ → Shows (show_selection_rest_statement (collapse s)) (selection_rest v) s rs ns room₀ p₀ room₁ p₁
    else_parts v {p₄ = p₄} h a o n b =
        let x = show_statement (collapse s) (statement (from rs ns p₀.next)).tree in
        let y = show_statement (collapse s) (statement (from rs ns p₄.next)).tree in
        rw (ne_eqb v 0 h)
        (so (show_selection_rest_statement (collapse s))
        (begin SelectionRestStatement.Else shows (piece (show_statement (collapse s)) statement a) writes wrote o writes wrote (by_consume_newline n) shows (piece (show_statement (collapse s)) statement b))
        (append_assoc (x ++ write_else) (consume_newline ∷ []) y))

    -- a compound statement between what enters and what leaves it, collapsed or in braces: whether it holds one statement is what its record counts
    pub compound_parts : (b body : Bool) (n : ℕ) {room₂ room₃ : List ℕ} {p₂ p₃ p₄ : Pen} → not body && collapse s && eqb n 1 ≡ b → Ran s (before_statements b) room₀ p₀ room₂ p₂
        → p₃ ≡ leave (at_body false p₂.state) p₂ → Shows (show_statements (collapse s)) (statements n) s rs ns room₂ p₃ room₃ p₄ → Ran s (behind_statements b) room₃ p₄ room₁ p₁
        → Shows (show_compound_statement (collapse s) body) (statements n) s rs ns room₀ p₀ room₁ p₁
    compound_parts b body n t o c a x =
        let L = from rs ns p₀.next in
        let ss = (statements n L).tree in
        told
        (between b (show_statements (collapse s) ss) ∙ ap (λ (y : Bool). braced_or_collapsed y (show_statements (collapse s) ss)) (sym (ap (λ (y : Bool). not body && collapse s && y) (single_item_count n L) ∙ t)))
        (add-zero _) (item_behind rs ns (show_statements (collapse s)) (statements n) (o then by_consume_function_definition_statement c) a thus wrote x)

    module _ {room₂ room₃ room₄ room₅ : List ℕ} {p₂ p₃ p₄ p₅ : Pen} where
      pub if_parts : (v : ℕ) → Wrote (bytes "if") room₀ p₀ room₂ p₂ → Ran s write_statement_opening_parenthesis room₂ p₂ room₃ p₃ → Shows show_expr expr s rs ns room₃ p₃ room₄ p₄
          → Ran s write_statement_closing_parenthesis room₄ p₄ room₅ p₅ → Shows (show_selection_rest_statement (collapse s)) (selection_rest v) s rs ns room₅ p₅ room₁ p₁
          → Shows (show_behind s) (selection_statement v) s rs ns room₀ p₀ room₁ p₁
      unfolding spell word_text
      if_parts v w o a c b =
          reads (show_behind s) (selection_statement v) rs ns _ (selection_grouped rs ns v p₀.next) refl refl
          (so (show_behind s)
          (begin if_of writes put (Token.word Word.if) refl w writes wrote o shows (piece show_expr expr a) writes wrote c shows (piece (show_selection_rest_statement (collapse s)) (selection_rest v) b))
          (if_shown (collapse s) (expr (from rs ns p₃.next)).tree (selection_rest v (from rs ns p₅.next)).tree))

      pub while_parts : Wrote (bytes "while") room₀ p₀ room₂ p₂ → Ran s write_statement_opening_parenthesis room₂ p₂ room₃ p₃ → Shows show_condition condition s rs ns room₃ p₃ room₄ p₄
          → Ran s write_statement_closing_parenthesis room₄ p₄ room₅ p₅ → Shows (show_statement (collapse s)) statement s rs ns room₅ p₅ room₁ p₁ → Shows (show_behind s) while_statement s rs ns room₀ p₀ room₁ p₁
      unfolding show_statement spell word_text
      while_parts w o a c b =
          so (show_behind s) (begin Statement.While writes put (Token.word Word.while) refl w writes wrote o shows (piece show_condition condition a) writes wrote c shows (piece (show_statement (collapse s)) statement b)) refl

      module _ {room₆ room₇ : List ℕ} {p₆ p₇ : Pen} where
        pub switch_parts : (n : ℕ) → Wrote (bytes "switch") room₀ p₀ room₂ p₂ → Ran s write_statement_opening_parenthesis room₂ p₂ room₃ p₃ → Shows show_expr expr s rs ns room₃ p₃ room₄ p₄
            → Wrote (bytes ")") room₄ p₄ room₅ p₅ → Ran s enter_block room₅ p₅ room₆ p₆ → Shows (show_statements (collapse s)) (statements n) s rs ns room₆ p₆ room₇ p₇
            → Ran s exit_block room₇ p₇ room₁ p₁ → Shows (show_behind s) (switch_statement n) s rs ns room₀ p₀ room₁ p₁
        unfolding show_statement spell word_text symbol_text
        switch_parts n w o a c b d x =
            so (show_behind s)
            (begin Statement.Switch writes put (Token.word Word.switch) refl w writes wrote o shows (piece show_expr expr a) writes put (Token.symbol Symbol.right_paren) refl c writes wrote b
            shows (piece (show_statements (collapse s)) (statements n) d) writes wrote x) refl

        pub for_parts : (v : ℕ) → Wrote (bytes "for") room₀ p₀ room₂ p₂ → Ran s write_statement_opening_parenthesis room₂ p₂ room₃ p₃ → Shows show_for_init_statement for_init s rs ns room₃ p₃ room₄ p₄
            → Ran s (flush_space ∷ []) room₄ p₄ room₅ p₅ → Shows show_for_rest_statement (for_rest v) s rs ns room₅ p₅ room₆ p₆ → Ran s write_statement_closing_parenthesis room₆ p₆ room₇ p₇
            → Shows (show_statement (collapse s)) statement s rs ns room₇ p₇ room₁ p₁ → Shows (show_behind s) (for_statement v) s rs ns room₀ p₀ room₁ p₁
        unfolding show_statement spell word_text
        for_parts v w o a f b c d =
            let i = show_for_init_statement (for_init (from rs ns p₃.next)).tree in
            let r = (for_rest v (from rs ns p₅.next)).tree in
            let t = show_statement (collapse s) (statement (from rs ns p₇.next)).tree in
            let before = a_word Word.for ++ write_statement_opening_parenthesis ++ i in
            reads (show_behind s) (for_statement v) rs ns _ (for_grouped rs ns v p₀.next) refl refl
            (so (show_behind s)
            (begin for_of writes put (Token.word Word.for) refl w writes wrote o shows (piece show_for_init_statement for_init a) writes wrote f shows (piece show_for_rest_statement (for_rest v) b) writes wrote c
            shows (piece (show_statement (collapse s)) statement d))
            (ap (λ (l : List Command). l ++ write_statement_closing_parenthesis ++ t)
            (sym (enclosed (before ++ (flush_space ∷ [])) (optional show_condition r.condition) write_for_statement_separator (optional show_expr r.post_expr))
            ∙ ap (λ (l : List Command). l ++ write_for_statement_separator ++ optional show_expr r.post_expr) (append_assoc before (flush_space ∷ []) (optional show_condition r.condition)))))

        pub do_while_parts : {room₈ room₉ : List ℕ} {p₈ p₉ : Pen} → Wrote (bytes "do") room₀ p₀ room₂ p₂ → Wrote (bytes " ") room₂ p₂ room₃ p₃ → Shows (show_statement (collapse s)) statement s rs ns room₃ p₃ room₄ p₄
            → Wrote (bytes " ") room₄ p₄ room₅ p₅ → Wrote (bytes "while") room₅ p₅ room₆ p₆ → Ran s write_statement_opening_parenthesis room₆ p₆ room₇ p₇ → Shows show_expr expr s rs ns room₇ p₇ room₈ p₈
            → Wrote (bytes ")") room₈ p₈ room₉ p₉ → Ran s write_statement_terminator room₉ p₉ room₁ p₁ → Shows (show_behind s) do_while_statement s rs ns room₀ p₀ room₁ p₁
        unfolding show_statement spell word_text symbol_text
        do_while_parts w b a c d o x e y =
            so (show_behind s)
            (begin Statement.DoWhile writes put (Token.word Word.«do») refl w writes space b shows (piece (show_statement (collapse s)) statement a) writes space c writes put (Token.word Word.while) refl d writes wrote o
            shows (piece show_expr expr x) writes put (Token.symbol Symbol.right_paren) refl e writes wrote y) refl
