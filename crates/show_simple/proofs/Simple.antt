-- One law a printer of a statement that holds no statement, and of what stands in statements: what the calls promise, in the order of the code, is what the
-- printer promises. Assumes nothing.
use mathlib.Core.Path.{◌≡◌, refl}
use mathlib.Core.Bool.{Bool}
use mathlib.Core.List.{List}
use mathlib.Core.Option.{Option, none, some}
use Prim.Native.Nat.{ℕ, zero, suc, ◌<◌, ◌≤◌}
use native.Mathlib.Omega.{arith}
use lib.Dec.{eqb}
use lib.ListN.{get_or-eq_default}
use borrow.Author.Tests.{ne_eqb}
use Rattle.words.specs.Bytes.{bytes}
use Rattle.words.specs.Word.{Word, word_text, jump_words}
use Rattle.words.specs.Symbol.{Symbol, symbol_text}
use Rattle.records.specs.declared.Record.{Record}
use Rattle.records.specs.Record.{record_at, text_of, bit0, bit1}
use Rattle.settings.specs.declared.Settings.{Settings}
use Rattle.text.specs.Token.{Token, spell}
use Rattle.text.specs.Command.{Command, write_binary_token, write_statement_terminator, write_for_statement_separator, enter_case_label}
use Rattle.text.specs.Tree.{Expr, Condition, ForInitStatement, JumpStatement, Statement}
use Rattle.text.specs.Text.{a_word, show_expr, show_fully_specified_type, show_initializer, show_declaration, show_condition, show_for_init_statement, show_jump_statement, show_statement, optional}
use Rattle.text.specs.Reading.{Item, maybe, item_of, condition_of, for_init_of, expr, full_type, initializer, declaration, condition, for_init, jump_statement}
use Rattle.pen.specs.declared.Pen.{Pen}
use Rattle.pen.specs.Promise.{Wrote, Ran}
use Rattle.leaves.specs.Shown.{past, Shows}
use Rattle.leaves.specs.Jump.{jump_word}
use Rattle.leaves.proofs.Rows.{by_operator}
use Rattle.leaves.proofs.Shown.{◌thus◌, wrote}
use Rattle.show_expr.proofs.Parts.{piece, begin, ◌writes◌, ◌shows◌, so}
use Rattle.show_expr.proofs.Printers.{put, space, of_parts}
use Rattle.show_simple.specs.Flushed.{behind_flush}
use Rattle.show_simple.specs.Parts.{expression_statement, case_label}
use Rattle.show_simple.specs.Rest.{ForRestStatement, for_rest, show_for_rest_statement}

-- a for's rest, from its parts
abbrev pub rest_of : Option Condition → Option Expr → ForRestStatement
rest_of c e = record { condition = c; post_expr = e }

-- a jump behind the last word returns, too
return_word : (v : ℕ) → 4 ≤ v → jump_word v ≡ Word.return
unfolding jump_words
return_word v h = get_or-eq_default jump_words Word.return h

abbrev collapse : Settings → Bool
collapse s = s.collapse_single_item_compound_statements

-- what the functions that show_statement calls write of a statement
abbrev show_behind : Settings → Statement → List Command
show_behind s = behind_flush (show_statement (collapse s))

module _ (rs ns : List ℕ) {s : Settings} {room₀ room₁ : List ℕ} {p₀ p₁ : Pen} where
  -- records
  module _ {r : Record} {p : Pen} (e : r ≡ record_at rs p₀.next) where
    pub asked : r.kind ≡ 69 → r.variant ≡ 0 → p ≡ past rs p₀ → Shows show_expr expr s rs ns room₀ p room₁ p₁ → Shows show_condition condition s rs ns room₀ p₀ room₁ p₁
    unfolding show_condition item_of condition_of
    asked k v f a =
        of_parts rs ns e (λ (x : Item). x.condition) _ show_condition 69 (omega arith) k f (begin Condition.OfExpr shows piece show_expr expr a) (rw v refl) refl

    pub declared : r.kind ≡ 69 → (r.variant ≡ 0 → ⊥) → {room₂ room₃ room₄ room₅ : List ℕ} {p₂ p₃ p₄ p₅ : Pen} → p ≡ past rs p₀ → Shows show_fully_specified_type full_type s rs ns room₀ p room₂ p₂
        → Wrote (bytes " ") room₂ p₂ room₃ p₃ → Wrote (text_of ns r) room₃ p₃ room₄ p₄ → Ran s (write_binary_token (Token.name (bytes "="))) room₄ p₄ room₅ p₅
        → Shows show_initializer initializer s rs ns room₅ p₅ room₁ p₁ → Shows show_condition condition s rs ns room₀ p₀ room₁ p₁
    unfolding show_condition spell symbol_text item_of condition_of
    declared k v f a w n o b =
        of_parts rs ns e (λ (x : Item). x.condition) _ show_condition 69 (omega arith) k f
        (begin (Condition.Assignment (text_of ns r)) shows piece show_fully_specified_type full_type a writes space w writes put (Token.name (text_of ns r)) refl n writes wrote (by_operator Symbol.equal refl o)
        shows piece show_initializer initializer b) (rw (ne_eqb r.variant 0 v) refl) refl

    -- how a for starts: with nothing, an expression, a declaration
    pub starts_empty : r.kind ≡ 70 → r.variant ≡ 0 → p ≡ past rs p₀ → Ran s write_for_statement_separator room₀ p room₁ p₁ → Shows show_for_init_statement for_init s rs ns room₀ p₀ room₁ p₁
    unfolding show_for_init_statement optional item_of for_init_of
    starts_empty k v f o =
        of_parts rs ns e (λ (x : Item). x.for_init) _ show_for_init_statement 70 (omega arith) k f (begin (ForInitStatement.Expression none) writes wrote o) (rw v refl) refl

    pub starts_expr : r.kind ≡ 70 → r.variant ≡ 1 → {room₂ : List ℕ} {p₂ : Pen} → p ≡ past rs p₀ → Shows show_expr expr s rs ns room₀ p room₂ p₂ → Ran s write_for_statement_separator room₂ p₂ room₁ p₁
        → Shows show_for_init_statement for_init s rs ns room₀ p₀ room₁ p₁
    unfolding show_for_init_statement optional item_of for_init_of
    starts_expr k v f a o =
        of_parts rs ns e (λ (x : Item). x.for_init) _ show_for_init_statement 70 (omega arith) k f (begin (λ (e : Expr). ForInitStatement.Expression (some e)) shows piece show_expr expr a writes wrote o) (rw v refl) refl

    pub starts_declared : r.kind ≡ 70 → (r.variant ≡ 0 → ⊥) → (r.variant ≡ 1 → ⊥) → p ≡ past rs p₀ → Shows show_declaration declaration s rs ns room₀ p room₁ p₁
        → Shows show_for_init_statement for_init s rs ns room₀ p₀ room₁ p₁
    unfolding show_for_init_statement item_of for_init_of
    starts_declared k v u f a =
        of_parts rs ns e (λ (x : Item). x.for_init) _ show_for_init_statement 70 (omega arith) k f (begin ForInitStatement.OfDeclaration shows piece show_declaration declaration a)
        (rw (ne_eqb r.variant 0 v, ne_eqb r.variant 1 u) refl) refl

  -- behind their records
  pub jump : (v : ℕ) → v < 4 → {room₂ : List ℕ} {p₂ : Pen} → Ran s (a_word (jump_word v)) room₀ p₀ room₂ p₂ → Ran s write_statement_terminator room₂ p₂ room₁ p₁
      → Shows show_jump_statement (jump_statement v) s rs ns room₀ p₀ room₁ p₁
  unfolding show_jump_statement jump_words
  jump zero h w o = wrote w thus wrote o
  jump (suc zero) h w o = wrote w thus wrote o
  jump (suc (suc zero)) h w o = wrote w thus wrote o
  jump (suc (suc (suc zero))) h w o = wrote w thus wrote o
  jump (suc (suc (suc (suc v)))) h w o = absurd (omega arith)

  module _ {room₂ : List ℕ} {p₂ : Pen} where
    pub expression_parts : (v : ℕ) → Shows (optional show_expr) (maybe (eqb v 1) expr) s rs ns room₀ p₀ room₂ p₂ → Ran s write_statement_terminator room₂ p₂ room₁ p₁
        → Shows (show_behind s) (expression_statement v) s rs ns room₀ p₀ room₁ p₁
    unfolding show_statement
    expression_parts v a o = so (show_behind s) (begin Statement.Expression shows (piece (optional show_expr) (maybe (eqb v 1) expr) a) writes wrote o) refl

    pub default_parts : (v : ℕ) → v ≡ 0 → Wrote (bytes "default") room₀ p₀ room₂ p₂ → Ran s enter_case_label room₂ p₂ room₁ p₁ → Shows (show_behind s) (case_label v) s rs ns room₀ p₀ room₁ p₁
    unfolding show_statement spell word_text
    default_parts v h w o = rw h (put (Token.word Word.default) refl w thus wrote o)

    pub rest_parts : (v : ℕ) {room₃ : List ℕ} {p₃ : Pen} → Shows (optional show_condition) (maybe (bit0 v) condition) s rs ns room₀ p₀ room₂ p₂ → Ran s write_for_statement_separator room₂ p₂ room₃ p₃
        → Shows (optional show_expr) (maybe (bit1 v) expr) s rs ns room₃ p₃ room₁ p₁ → Shows show_for_rest_statement (for_rest v) s rs ns room₀ p₀ room₁ p₁
    rest_parts v a o b =
        so show_for_rest_statement (begin rest_of shows (piece (optional show_condition) (maybe (bit0 v) condition) a) writes wrote o shows (piece (optional show_expr) (maybe (bit1 v) expr) b)) refl

    module _ {room₃ room₄ : List ℕ} {p₃ p₄ : Pen} where
      pub return_parts : (v : ℕ) → 4 ≤ v → Ran s (a_word (jump_word v)) room₀ p₀ room₂ p₂ → Wrote (bytes " ") room₂ p₂ room₃ p₃ → Shows show_expr expr s rs ns room₃ p₃ room₄ p₄
          → Ran s write_statement_terminator room₄ p₄ room₁ p₁ → Shows show_jump_statement (jump_statement v) s rs ns room₀ p₀ room₁ p₁
      unfolding show_jump_statement
      return_parts v h w b a o =
          let returned : Ran s (a_word Word.return) room₀ p₀ room₂ p₂ = rw (return_word v (omega arith)) at w in
          rw (ne_eqb v 0 (λ e. omega (arith, h, e)), ne_eqb v 1 (λ e. omega (arith, h, e)), ne_eqb v 2 (λ e. omega (arith, h, e)), ne_eqb v 3 (λ e. omega (arith, h, e)))
          (so show_jump_statement (begin (λ (x : Expr). JumpStatement.Return (some x)) writes wrote returned writes space b shows (piece show_expr expr a) writes wrote o) refl)

      pub case_parts : (v : ℕ) → (v ≡ 0 → ⊥) → Wrote (bytes "case") room₀ p₀ room₂ p₂ → Wrote (bytes " ") room₂ p₂ room₃ p₃ → Shows show_expr expr s rs ns room₃ p₃ room₄ p₄
          → Ran s enter_case_label room₄ p₄ room₁ p₁ → Shows (show_behind s) (case_label v) s rs ns room₀ p₀ room₁ p₁
      unfolding show_statement spell word_text
      case_parts v h w b a o =
          rw (ne_eqb v 0 h) (so (show_behind s) (begin Statement.Case writes put (Token.word Word.case) refl w writes space b shows (piece show_expr expr a) writes wrote o) refl)
