-- Depth, by a chain of records: 200 levels pass, and whatever is below them is refused at the record (01, "Texts to match": depth 200 passes, 201 is
-- 6). Assumes nothing.
use mathlib.Core.Bool.{false}
use mathlib.Core.Path.{◌≡◌, refl, sym, ◌∙◌, ap}
use mathlib.Core.List.{List, ◌++◌}
use Prim.Native.Nat.{ℕ, zero, suc, ◌+◌, ◌*◌, ◌<◌, ◌≤◌}
use native.Mathlib.Omega.{arith}
use lib.Dec.{eqb-suc-zero}
use lib.ListN.{length}
use Rattle.words.specs.Bytes.{bytes}
use Rattle.records.specs.Record.{record_size, record_in, record_at}
use Rattle.records.proofs.Laws.{record_here, count_whole}
use Rattle.records.proofs.Made.{plain, named}
use Rattle.shapes.specs.Class.{Class}
use Rattle.accept.specs.declared.Refusal.TheVariants as Why
use Rattle.accept.specs.Checked.{Checked, refused}
use Rattle.std.specs.Prelude.{Ok, Err}
use Rattle.accept.specs.Check.{bind, node, records_out_of_size, deepest, most_records, check}
use Rattle.accepted.proofs.Case.{computing}
use Rattle.accepted.proofs.Sizes.{so_many, sizes_pass, accepts}
use Rattle.accepted.proofs.Front.{later, count_behind, node_later}
use Rattle.accepted.proofs.Steps.{passes, refuses}

abbrev names : List ℕ
names = bytes "x"

abbrev variable : List ℕ
variable = named 1 0 0

abbrev unary : List ℕ
unary = plain 7 4

-- a Variable under n Unary records
unfoldable pub chain : ℕ → List ℕ
chain zero = variable
chain (suc n) = unary ++ chain n

chain_length : (n : ℕ) → length (chain n) ≡ record_size * suc n
unfolding chain
chain_length zero = refl
chain_length (suc n) = let e = chain_length n in omega arith

-- the first record of the chain
unary_here : (bs : List ℕ) → record_at (unary ++ bs) 0 ≡ record { kind = 7; variant = 4; count = 0; a = 0; b = 0 }
unfolding record_in
unary_here bs = let n = count_behind unary bs refl in record_here (unary ++ bs) 0 (omega arith)

bind_done : (x : Checked) → bind x (λ m. Ok m) ≡ x
bind_done (Ok m) = refl
bind_done (Err r) = refl

-- it takes a level and a record
over : (bs : List ℕ) (left : ℕ) → node (unary ++ bs) names (suc left) Class.expr 0 ≡ later (node bs names left Class.expr 0)
unfolding computing
over bs left =
    let n = count_behind unary bs refl in
    passes (unary ++ bs) names Class.expr 0 _ (omega arith) (unary_here bs) left (rw (eqb-suc-zero left) refl)
    ∙ bind_done (node (unary ++ bs) names left Class.expr 1)
    ∙ node_later unary bs refl names left Class.expr 0

no_level : (n : ℕ) → node (chain n) names 0 Class.expr 0 ≡ refused Why.TooDeep 0
unfolding chain computing
no_level zero = refl
no_level (suc n) =
    let k = count_behind unary (chain n) refl in
    refuses (unary ++ chain n) names Class.expr 0 _ (omega arith) (unary_here (chain n)) 0 Why.TooDeep refl

last_level : (left : ℕ) → node variable names (suc left) Class.expr 0 ≡ Ok 1
unfolding computing
last_level left = passes variable names Class.expr 0 _ (omega arith) refl left (rw (eqb-suc-zero left) refl)

-- with a level for each record, and with too few
shallow : (n left : ℕ) → n < left → node (chain n) names left Class.expr 0 ≡ Ok (suc n)
unfolding chain
shallow n zero h = absurd (omega arith)
shallow zero (suc left) h = last_level left
shallow (suc n) (suc left) h = over (chain n) left ∙ ap later (shallow n left (omega arith))

too_deep : (n left : ℕ) → left ≤ n → node (chain n) names left Class.expr 0 ≡ refused Why.TooDeep left
unfolding chain
too_deep n zero h = no_level n
too_deep zero (suc left) h = absurd (omega arith)
too_deep (suc n) (suc left) h = over (chain n) left ∙ ap later (too_deep n left (omega arith))

sized : (n : ℕ) → n + 1 ≤ most_records → records_out_of_size (chain n) ≡ false
sized n few = so_many (chain n) names (suc n) (chain_length n) (omega arith) (omega arith)

-- the Variable's depth is n + 1: up to 200 it passes, and beyond them the record of depth 201 is refused
pub depth_passes : (n : ℕ) → n + 1 ≤ deepest → check (chain n) names Class.expr ≡ Ok (suc n)
depth_passes n h =
    let all = count_whole (chain n) (suc n) (chain_length n) in
    accepts (chain n) names Class.expr (suc n) (sized n (omega arith)) (omega arith) (shallow n deepest (omega arith)) (sym all)

pub depth_refused : (n : ℕ) → deepest < n + 1 → n + 1 ≤ most_records → check (chain n) names Class.expr ≡ refused Why.TooDeep deepest
depth_refused n h few = sizes_pass (chain n) names Class.expr (sized n few) (omega arith) ∙ rw (too_deep n deepest (omega arith)) refl
