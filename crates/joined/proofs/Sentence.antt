-- The answer to the joined question is document 02's sentence (specs/Sentence), for every accepted expression. Assumes nothing.
use mathlib.Core.Path.{◌≡◌, refl, sym, ◌∙◌, ap}
use mathlib.Core.Bool.{Bool, true, false, ◌||◌}
use mathlib.Core.List.{List}
use Prim.Native.Nat.{ℕ, zero, suc, ◌+◌, ◌<◌}
use native.Mathlib.Omega.{arith}
use native.Mathlib.Nat.{zero-add}
use lib.ListN.{get_or}
use Rattle.words.specs.Bytes.{bytes}
use Rattle.words.specs.Symbol.{Symbol, symbol_text}
use Rattle.settings.specs.Settings.{settings_of, TIGHT}
use Rattle.settings.specs.State.{fresh}
use Rattle.records.specs.declared.Record.{Record}
use Rattle.records.specs.Record.{record_at, record_count}
use Rattle.shapes.specs.Class.{Class}
use Rattle.std.specs.Prelude.{Ok}
use Rattle.accept.specs.Check.{node, check}
use Rattle.accepted.proofs.Each.{each_record}
use Rattle.text.specs.Tree.{Expr}
use Rattle.text.specs.Operator.{unary_symbol, binary_symbol, bare_operand, bare_right}
use Rattle.text.specs.Joins.{sign, joins, joins_right}
use Rattle.text.specs.Reading.{Item, from, expr, unary_op_of, binary_op_of}
use Rattle.text.specs.Joined.{joins_here, somewhere, joined_answer}
use Rattle.formed.specs.Formed.{FormedExpr}
use Rattle.formed.proofs.Kind.{rec}
use Rattle.formed.proofs.Signs.{expr_starts}
use Rattle.formed.proofs.Doubled.{spelled, reads_spelled, neither, as_sign}
use Rattle.joined.specs.Sentence.{begins, same_sign, in_words}
use Rattle.joined.proofs.Operands.{Right, of_record}

-- the rule is the sentence about the text of an operand that is formed
pub worded : (op : Symbol) (bare : Bool) (e : Expr) → FormedExpr e → joins op bare e ≡ same_sign op bare e
unfolding joins
worded op false e f = reads_spelled (bytes (symbol_text op)) 0 ∙ neither (bytes (symbol_text op)) 0 refl refl
worded op true e f =
    let w = bytes (symbol_text op) in
    let h = expr_starts e f in
    let first : begins e ≡ h.byte = ap (λ (bs : List ℕ). get_or bs 0 0) (h.starts (settings_of TIGHT) fresh).1 in
    reads_spelled w (sign e) ∙ ap (spelled w) (sym h.same) ∙ as_sign w h.byte ∙ ap (spelled w) (sym first)

module _ (rs ns : List ℕ) (byte : (p : ℕ) → get_or rs p 0 < 256) where
  abbrev Worded : ℕ → Record → Type 0
  Worded i r = joins_here r (from rs ns (i + 1)) ≡ in_words r (from rs ns (i + 1))

  unary_here : (i v n a b : ℕ) → FormedExpr (expr (from rs ns (i + 1))).tree → Worded i (rec 7 v n a b)
  unary_here i v n a b formed =
      let x = (expr (from rs ns (i + 1))).tree in
      ap (λ (t : Bool). t || false || false) (worded (unary_symbol (unary_op_of v)) (bare_operand (unary_op_of v) x) x formed)

  binary_here : (i v n a b : ℕ) → Right rs ns i → Worded i (rec 8 v n a b)
  binary_here i v n a b r =
      let x = (expr (from rs ns r.at)).tree in
      ap (λ (L : List Item). joins_right (binary_op_of v) (expr L).tree || false) r.there
      ∙ ap (λ (t : Bool). t || false) (worded (binary_symbol (binary_op_of v)) (bare_right (binary_op_of v) x) x r.formed)
      ∙ ap (λ (L : List Item). same_sign (binary_symbol (binary_op_of v)) (bare_right (binary_op_of v) (expr L).tree) (expr L).tree || false) (sym r.there)

  record_here : (left : ℕ) (c : Class) (i m : ℕ) → node rs ns left c i ≡ Ok m → Worded i (record_at rs i)
  record_here = of_record rs ns byte Worded unary_here binary_here (λ i k v n a b e7 e8. rw (e7, e8) refl)

  module _ (m : ℕ) (accepted : check rs ns Class.expr ≡ Ok m) where
    from_here : (n i : ℕ) → i + n ≡ record_count rs → somewhere joins_here n rs ns i ≡ somewhere in_words n rs ns i
    unfolding somewhere
    from_here zero i e = refl
    from_here (suc n) i e =
        let x = each_record rs ns Class.expr m accepted i (omega arith) in
        ap (λ (t : Bool). t || somewhere joins_here n rs ns (i + 1)) (record_here x.left x.class i x.next x.accepted)
        ∙ ap (λ (t : Bool). in_words (record_at rs i) (from rs ns (i + 1)) || t) (from_here n (i + 1) (omega arith))

    pub sentence : joined_answer rs ns ≡ somewhere in_words (record_count rs) rs ns 0
    unfolding joined_answer
    sentence = from_here (record_count rs) 0 (zero-add (record_count rs))
