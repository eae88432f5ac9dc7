-- THE theorem: for records that are accepted as an expression, the walk's answer is the definition's. Assumes nothing.
use mathlib.Core.Path.{◌≡◌, refl, sym, ◌∙◌, ap}
use mathlib.Core.Bool.{Bool, false, ◌||◌, cond, or-false}
use mathlib.Core.List.{List}
use Prim.Native.Nat.{ℕ, zero, suc, ◌+◌, ◌-◌, ◌<◌}
use Prim.Native.Char.{code}
use native.Mathlib.Omega.{arith}
use native.Mathlib.Nat.{zero-add}
use lib.Dec.{eqb}
use lib.ListN.{get_or}
use borrow.Author.Tests.{le-ltb}
use Rattle.records.specs.declared.Record.{Record}
use Rattle.records.specs.Record.{record_at, record_count}
use Rattle.shapes.specs.Class.{Class}
use Rattle.std.specs.Prelude.{Ok}
use Rattle.accept.specs.Check.{node, check, most_records}
use Rattle.accepted.proofs.Each.{each_record}
use Rattle.accepted.proofs.Sizes.{few_records}
use Rattle.text.specs.Reading.{Item, from, expr, binary_op_of}
use Rattle.text.specs.Joined.{joins_here, somewhere, joined_answer}
use Rattle.text.specs.Joins.{joins_right}
use Rattle.text.proofs.ByKind.{at_kind}
use Rattle.formed.specs.Formed.{FormedExpr}
use Rattle.formed.proofs.Kind.{rec}
use Rattle.signs.specs.Sign.{of_unary, of_binary, joins_with, additive}
use Rattle.joined.specs.Stack.{Head, State, walk, bare_sign, under_sign, own_of, joins_at, any_joined}
use Rattle.joined.proofs.Heads.{head_at}
use Rattle.joined.proofs.Operands.{Right, of_record}
use Rattle.joined.proofs.Own.{own_int}
use Rattle.joined.proofs.Pairs.{right, under}
use Rattle.joined.proofs.Stacked.{before, before_in, node_stack}

module _ (rs ns : List ℕ) (byte : (p : ℕ) → get_or rs p 0 < 256) where
  -- the walk's test of a record at i, and whether the expression read there joins its operand, have one answer
  abbrev Alike : ℕ → Record → Type 0
  Alike i r = joins_at r (before rs (i + 1)).head (get_or (before rs (i + 1)).stack 1 0) ≡ joins_here r (from rs ns (i + 1))

  -- a unary operator and a Dot: the operand stands right behind
  unary_here : (i v n a b : ℕ) → FormedExpr (expr (from rs ns (i + 1))).tree → Alike i (rec 7 v n a b)
  unfolding joins_at own_of
  unary_here i v n a b formed =
      let op = of_unary v in
      ap (λ (x : Head). joins_with op (under_sign x op)) (head_at rs ns (i + 1)) ∙ under (expr (from rs ns (i + 1))).tree v ∙ sym (or-false _ ∙ or-false _)

  dot_here : (i v n a b : ℕ) → Alike i (rec 13 v n a b)
  unfolding joins_at
  dot_here i v n a b = ap (λ (x : Head). eqb x.own (code ".")) (head_at rs ns (i + 1)) ∙ own_int (expr (from rs ns (i + 1))).tree

  -- a binary operator: its right operand's byte is the second of the stack
  binary_here : (i v n a b : ℕ) → Right rs ns i → Alike i (rec 8 v n a b)
  unfolding joins_at
  binary_here i v n a b r =
      let op = of_binary v in
      ap (λ (t : List ℕ). joins_with op (get_or t 1 0)) (node_stack rs ns r.left Class.expr (i + 1) r.at r.first)
      ∙ ap (λ (t : List ℕ). joins_with op (get_or t 0 0)) (node_stack rs ns r.left Class.expr r.at r.next r.second)
      ∙ ap (λ (x : Head). joins_with op (bare_sign x additive)) (head_at rs ns r.at)
      ∙ right (expr (from rs ns r.at)).tree v
      ∙ ap (λ (L : List Item). joins_right (binary_op_of v) (expr L).tree) (sym r.there)
      ∙ sym (or-false _)

  other_here : (i k v n a b : ℕ) → eqb k 7 ≡ false → eqb k 8 ≡ false → Alike i (rec k v n a b)
  unfolding joins_at
  other_here i k v n a b e7 e8 = at_kind (λ k. Alike i (rec k v n a b)) k 13 (dot_here i v n a b) (λ e13. rw (e7, e8, e13) refl)

  joins_record : (left : ℕ) (c : Class) (i m : ℕ) → node rs ns left c i ≡ Ok m → Alike i (record_at rs i)
  joins_record = of_record rs ns byte Alike unary_here binary_here other_here

  module _ (m : ℕ) (accepted : check rs ns Class.expr ≡ Ok m) where
    -- what is found from record i on, n records before the end
    found_from : (n i : ℕ) → i + n ≡ record_count rs → (before rs i).found ≡ somewhere joins_here n rs ns i
    unfolding walk somewhere
    found_from zero i e = let z : record_count rs - i ≡ 0 = omega arith in rw z refl
    found_from (suc n) i e =
        let h : i < record_count rs = omega arith in
        let x = each_record rs ns Class.expr m accepted i h in
        ap (λ (s : State). s.found) (before_in rs i h)
        ∙ ap (λ (b : Bool). b || (before rs (i + 1)).found) (joins_record x.left x.class i x.next x.accepted)
        ∙ ap (λ (b : Bool). joins_here (record_at rs i) (from rs ns (i + 1)) || b) (found_from n (i + 1) (omega arith))

    pub answer : any_joined rs ≡ joined_answer rs ns
    unfolding any_joined joined_answer
    answer =
        let whole : record_count rs ≡ record_count rs - 0 = omega arith in
        ap (λ (b : Bool). cond b false (walk rs (record_count rs) 0).found) (le-ltb most_records (record_count rs) (few_records rs ns Class.expr m accepted))
        ∙ ap (λ (n : ℕ). (walk rs n 0).found) whole
        ∙ found_from (record_count rs) 0 (zero-add (record_count rs))
