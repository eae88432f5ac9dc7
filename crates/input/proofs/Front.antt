-- The laws of a front that is read part by part: what a reader has lost stands in it. Assumes nothing.
use Rattle.std.proofs.Common.{◌≡◌, ℕ, ◌+◌, ◌≤◌, List, ◌++◌, length, take, Option, None, Some, Result, Ok, Err, sym, ap, ◌∙◌, append_assoc, length-take-le}
use Rattle.std.proofs.lemmas.List.{take-append-le}
use Rattle.std.proofs.Math.Seq.{take-append-add}
use Rattle.std.specs.Io.{ReadsAtMost}
use Rattle.std.specs.Io.KnownBytes.{Consumes, ReadConsumes}
use Rattle.std.specs.Result.{result_unwrap_or}

-- one read behind another loses the bytes of both
pub both : (a b c : Option (List ℕ)) (xs ys : List ℕ) → Consumes a b xs → Consumes b c ys → Consumes a c (xs ++ ys)
both None b c xs ys g h = tt
both (Some us) None c xs ys g h = absurd g
both (Some us) (Some vs) None xs ys g h = absurd h
both (Some us) (Some vs) (Some ws) xs ys g h = g ∙ ap (λ (l : List ℕ). xs ++ l) h ∙ sym (append_assoc xs ys ws)

-- the front with what was put behind it
pub longer : (done n : ℕ) (buf new rest : List ℕ) → done ≤ length buf → n ≤ length new → take (done + n) (take done buf ++ (new ++ rest)) ≡ take done buf ++ take n new
longer done n buf new rest g h =
    ap (λ (k : ℕ). take (k + n) (take done buf ++ (new ++ rest))) (sym (length-take-le done buf g))
    ∙ take-append-add (take done buf) (new ++ rest) n
    ∙ ap (λ (l : List ℕ). take done buf ++ l) (take-append-le n new rest h)

-- a read that gave some bytes puts them behind the front
pub read_behind : {E : Type 0} (a b c : Option (List ℕ)) (r : Result ℕ E) (done n : ℕ) (buf new rest : List ℕ) → done ≤ length buf → Consumes a b (take done buf) → ReadsAtMost r new → ReadConsumes b c r new
    → n ≡ result_unwrap_or r 0 → (n ≡ 0 → ⊥) → Consumes a c (take (done + n) (take done buf ++ (new ++ rest)))
read_behind a b c (Ok k) done n buf new rest fits front most gave is some =
    rw is (rw (longer done k buf new rest fits most.0) (both a b c (take done buf) (take k new) front gave.0))
read_behind a b c (Err e) done n buf new rest fits front most gave is some = absurd (some is)
