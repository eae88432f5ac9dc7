-- The laws of the printers of a unit: what the calls promise, in the order of the code, is what the printer promises. Assumes nothing.
use mathlib.Core.Path.{◌≡◌, refl, sym, ap, ◌∙◌}
use mathlib.Core.Bool.{Bool, true}
use mathlib.Core.List.{List, [], ◌∷◌, ◌++◌, append_assoc}
use Prim.Native.Nat.{ℕ}
use native.Mathlib.Omega.{arith}
use borrow.Author.Tests.{ne_eqb}
use Rattle.records.specs.declared.Record.{Record}
use Rattle.records.specs.Record.{record_at}
use Rattle.settings.specs.declared.Settings.{Settings}
use Rattle.text.specs.Command.{Command, write_function_definition_terminator}
use Rattle.text.specs.Command.Command.{flush_line, enter_function_definition_statement}
use Rattle.text.specs.Tree.{Statements, ExternalDeclaration, TranslationUnit}
use Rattle.text.specs.Text.{show_compound_statement, show_declaration, show_function_prototype, show_function_definition, show_external_declaration, show_translation_unit}
use Rattle.text.specs.Reading.{Item, nothing, several, from, item_of, compound_of, external_of, declaration, prototype, external, statements}
use Rattle.text.specs.Reading.{compound as body}
use Rattle.pen.specs.declared.Pen.{Pen}
use Rattle.pen.specs.Promise.{Ran}
use Rattle.leaves.specs.Shown.{past, Shows}
use Rattle.leaves.proofs.Shown.{Listed, wrote, reads, opened_any}
use Rattle.show_expr.proofs.Parts.{begin, ◌writes◌, ◌shows◌, piece, so}
use Rattle.show_expr.proofs.Printers.{of_row, as_sort_row, none_there}
use Rattle.show_simple.specs.Flushed.{behind_flush}
use Rattle.show_simple.specs.Parts.{function_definition}
use Rattle.show_statement.proofs.Statements.{flushed as behind_a_flush}

-- the declarations of a unit
module _ (collapse : Bool) where
  pub none : (f : Bool) → show_translation_unit collapse [] ≡ []
  unfolding show_translation_unit
  none f = refl

  pub some : (f : Bool) (x : ExternalDeclaration) (xs : TranslationUnit) → show_translation_unit collapse (x ∷ xs) ≡ show_external_declaration collapse x ++ show_translation_unit collapse xs
  unfolding show_translation_unit
  some f x xs = refl

  abbrev pub externals : Listed ExternalDeclaration TranslationUnit
  externals = record {
    q = external;
    end = [];
    more = ◌∷◌;
    item = λ f x. show_external_declaration collapse x;
    list = λ f xs. show_translation_unit collapse xs;
    none = none;
    some = some;
  }

  -- each begins with a flush
  flushes : (x : ExternalDeclaration) → flush_line ∷ behind_flush (show_external_declaration collapse) x ≡ show_external_declaration collapse x
  unfolding show_external_declaration
  flushes ExternalDeclaration.no_external = refl
  flushes (ExternalDeclaration.OfDeclaration d) = refl
  flushes (ExternalDeclaration.FunctionDefinition p ss) = refl

module _ (rs ns : List ℕ) (collapse : Bool) {s : Settings} {room₀ : List ℕ} {p₀ : Pen} {k : ℕ} (read : k ≡ (record_at rs p₀.next).kind) where
  -- neither a declaration nor a function
  pub undeclared : (k ≡ 47 → ⊥) → (k ≡ 81 → ⊥) → Shows (behind_flush (show_external_declaration collapse)) external s rs ns room₀ p₀ room₀ p₀
  unfolding show_external_declaration item_of external_of
  undeclared d f =
      none_there rs ns (behind_flush (show_external_declaration collapse)) external ExternalDeclaration.no_external
      (opened_any rs ns (λ (x : Item). x.external) ExternalDeclaration.no_external p₀.next (λ L. refl) refl
      ∙ rw (ne_eqb (record_at rs p₀.next).kind 47 (λ e. d (read ∙ e)), ne_eqb (record_at rs p₀.next).kind 81 (λ e. f (read ∙ e))) refl) refl

module _ (rs ns : List ℕ) (collapse : Bool) {s : Settings} {room₀ room₁ : List ℕ} {p₀ p₁ : Pen} where
  module _ {k : ℕ} (read : k ≡ (record_at rs p₀.next).kind) where
    -- a declaration
    pub declared : k ≡ 47 → Shows show_declaration declaration s rs ns room₀ p₀ room₁ p₁ → Shows (behind_flush (show_external_declaration collapse)) external s rs ns room₀ p₀ room₁ p₁
    unfolding show_external_declaration item_of external_of
    declared e a =
        as_sort_row rs ns refl (λ (x : Item). x.declaration) _ (λ (x : Item). x.external) _ ExternalDeclaration.OfDeclaration show_declaration (behind_flush (show_external_declaration collapse)) 47 refl (λ d. refl) (omega arith) (sym read ∙ e) a

    -- a function
    pub defined : k ≡ 81 → {p : Pen} → p ≡ past rs p₀ → Shows (behind_flush (show_external_declaration collapse)) function_definition s rs ns room₀ p room₁ p₁ → Shows (behind_flush (show_external_declaration collapse)) external s rs ns room₀ p₀ room₁ p₁
    unfolding item_of external_of
    defined e g a = of_row rs ns refl (λ (x : Item). x.external) _ (behind_flush (show_external_declaration collapse)) 81 function_definition refl (omega arith) (sym read ∙ e) g a

  -- the flush before it
  pub flushed : {room₂ : List ℕ} {p₂ : Pen} → Ran s (flush_line ∷ []) room₀ p₀ room₂ p₂ → Shows (behind_flush (show_external_declaration collapse)) external s rs ns room₂ p₂ room₁ p₁
      → Shows (show_external_declaration collapse) external s rs ns room₀ p₀ room₁ p₁
  flushed o a = behind_a_flush rs ns (show_external_declaration collapse) external (flushes collapse) o a

  -- a function: its prototype, its body, and the end of the line
  pub function_parts : {room₂ room₃ room₄ : List ℕ} {p₂ p₃ p₄ p₅ : Pen} → Shows show_function_prototype prototype s rs ns room₀ p₀ room₂ p₂
      → Ran s (enter_function_definition_statement ∷ []) room₂ p₂ room₂ p₃ → Shows (show_compound_statement collapse true) body s rs ns room₂ p₃ room₃ p₄
      → Ran s (flush_line ∷ []) room₃ p₄ room₄ p₅ → Ran s write_function_definition_terminator room₄ p₅ room₁ p₁
      → Shows (behind_flush (show_external_declaration collapse)) function_definition s rs ns room₀ p₀ room₁ p₁
  unfolding show_external_declaration show_function_definition
  function_parts {p₃ = p₃} a o b c d =
      let cs = show_function_prototype (prototype (from rs ns p₀.next)).tree in
      let ds = show_compound_statement collapse true (body (from rs ns p₃.next)).tree in
      so (behind_flush (show_external_declaration collapse))
      (begin ExternalDeclaration.FunctionDefinition shows (piece show_function_prototype prototype a) writes wrote o shows (piece (show_compound_statement collapse true) body b) writes wrote c writes wrote d)
      (ap (λ (l : List Command). l ++ (flush_line ∷ []) ++ write_function_definition_terminator) (append_assoc cs (enter_function_definition_statement ∷ []) ds)
      ∙ append_assoc (cs ++ (enter_function_definition_statement ∷ ds)) (flush_line ∷ []) write_function_definition_terminator)

  -- what is no compound statement is a body without statements
  pub no_body : {r : Record} → r ≡ record_at rs p₀.next → (r.kind ≡ 60 → ⊥) → (show : Statements → List Command)
      → Shows show (statements 0) s rs ns room₀ p₀ room₁ p₁ → Shows show body s rs ns room₀ p₀ room₁ p₁
  unfolding item_of compound_of several
  no_body {r = r} e d show a =
      reads show body rs ns (nothing Statements.no_statements) (opened_any rs ns (λ (x : Item). x.compound) Statements.no_statements p₀.next (λ L. refl) e ∙ rw (ne_eqb r.kind 60 d) refl) refl refl a
