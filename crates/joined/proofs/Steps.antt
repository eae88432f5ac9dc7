-- A step of the walk over the records, in the form in which the code's loop asks for it. Assumes nothing.
use mathlib.Core.Path.{◌≡◌, refl, sym, ◌∙◌, ap}
use mathlib.Core.Bool.{Bool, false, ◌||◌, or_comm}
use mathlib.Core.List.{List, [], ◌∷◌, map}
use Prim.Native.Nat.{ℕ, suc, ◌+◌, ◌-◌, ◌<◌, ◌≤◌}
use native.Mathlib.Omega.{arith}
use lib.ListN.{get_or, drop, get_or-map}
use Rattle.std.proofs.lemmas.List.{drop-map}
use Rattle.records.specs.declared.Record.{Record}
use Rattle.records.specs.Record.{record_at}
use Rattle.std.specs.Prelude.{Option, None}
use Rattle.signs.specs.Sign.{byte_of, additive}
use Rattle.signs.specs.declared.Sign.{Sign}
use Rattle.joined.specs.declared.Head as Code
use Rattle.joined.specs.Stack.{Head, seen, State, no_head, step, walk, head_of, bare_sign, joins_at, child_count}

same_state : {h k : Head} {s t : List ℕ} {f g : Bool} → h ≡ k → s ≡ t → f ≡ g → ◌≡◌ {A = State} (record { head = h; stack = s; found = f }) (record { head = k; stack = t; found = g })
same_state a b c = cc

module _ (records : List ℕ) (n i : ℕ) where
  one_more : {s : State} → 0 < i → i ≤ n → walk records (n - i) i ≡ s → walk records (n - (i - 1)) (i - 1) ≡ step (record_at records (i - 1)) s
  unfolding walk
  one_more h k e =
      let a : n - (i - 1) ≡ suc (n - i) = omega arith in
      let b : i - 1 + 1 ≡ i = omega arith in
      ap (λ (m : ℕ). walk records m (i - 1)) a
      ∙ ap (λ (p : ℕ). step (record_at records (i - 1)) (walk records (n - i) p)) b
      ∙ ap (step (record_at records (i - 1))) e

  -- the walk before the next record, by what the code knows of it
  pub again : (stack : List (Option Sign)) (head h : Code.Head) (found : Bool) (b : Option Sign) {r : Record} {right : Option Sign} {k : ℕ} {j : Bool} {left after : List (Option Sign)}
      → 0 < i → i ≤ n → walk records (n - i) i ≡ record { head = seen head; stack = map byte_of stack; found = found }
      → r ≡ record_at records (i - 1) → right ≡ get_or stack 1 None → j ≡ joins_at r (seen head) (byte_of right) → seen h ≡ head_of r (seen head) → k ≡ child_count r → left ≡ drop k stack → byte_of b ≡ bare_sign (seen h) additive → after ≡ b ∷ left
      → walk records (n - (i - 1)) (i - 1) ≡ record { head = seen h; stack = map byte_of after; found = found || j }
  again stack head h found b {r} {right} {k} {j} {left} some within e er eright ej eh ek eleft eb eafter =
      let next = record_at records (i - 1) in
      let heads : head_of next (seen head) ≡ seen h = cc in
      let taken : drop (child_count next) (map byte_of stack) ≡ map byte_of left = rw (← er, ← ek, drop-map byte_of k stack, ← eleft) refl in
      let second : get_or (map byte_of stack) 1 0 ≡ byte_of right = get_or-map byte_of stack 1 None ∙ ap byte_of (sym eright) in
      let here : joins_at next (seen head) (get_or (map byte_of stack) 1 0) ≡ j = rw (second, ← er) (sym ej) in
      let sign : bare_sign (head_of next (seen head)) additive ≡ byte_of b = rw heads (sym eb) in
      let on : bare_sign (head_of next (seen head)) additive ∷ drop (child_count next) (map byte_of stack) ≡ map byte_of (b ∷ left) = cc (sign, taken) in
      one_more some within e ∙ same_state heads (on ∙ ap (map byte_of) (sym eafter)) (ap (λ (x : Bool). x || found) here ∙ or_comm j found)

-- where the walk begins
pub begins : (records : List ℕ) (n : ℕ) → walk records (n - n) n ≡ record { head = no_head; stack = []; found = false }
unfolding walk
begins records n = let a : n - n ≡ 0 = omega arith in ap (λ (m : ℕ). walk records m n) a
