-- Printers' promises one behind the other, and the loops over lists. Assumes nothing.
use mathlib.Core.Path.{◌≡◌, refl, sym, ap, ◌∙◌, subst}
use mathlib.Core.Bool.{Bool, true, false, cond}
use mathlib.Core.List.{List, [], ◌++◌}
use Prim.Native.Nat.{ℕ, suc, ◌+◌, ◌-◌, ◌<◌, ◌≤◌}
use native.Mathlib.Nat.{zero-add, add-zero}
use native.Mathlib.Omega.{arith}
use lib.ListN.{length}
use lib.Dec.{eqb}
use borrow.Author.Tests.{lt-ltb, ne_eqb}
use Rattle.records.specs.declared.Record.{Record}
use Rattle.records.specs.Record.{record_at, record_count, no_record}
use Rattle.records.proofs.Laws.{kind_stands}
use Rattle.settings.specs.declared.Settings.{Settings}
use Rattle.text.specs.Token.{Token, spell}
use Rattle.text.specs.Command.{Command}
use Rattle.text.specs.Reading.{Item, Read, Reader, nothing, first, give, applied, counted, ◌and◌, several, item_of, from}
use Rattle.text.proofs.At.{first_in, item_at, and_at, several_at}
use Rattle.pen.specs.declared.Pen.{Pen}
use Rattle.pen.specs.Sheet.{Sheet}
use Rattle.pen.specs.Run.{run}
use Rattle.pen.specs.Promise.{sheet, Wrote, Ran}
use Rattle.pen.proofs.Chain.{run_append, nothing_ran, ◌then◌, by_token}
use Rattle.pen.proofs.Written.{ran_length}
use Rattle.leaves.specs.Shown.{before, past, Shown, Shows}
use Rattle.leaves.proofs.Frame.{onto, run_onto}

module _ {s : Settings} {room : List ℕ} {p : Pen} where
  pub nothing_shown : Shown s [] 0 room p room p
  nothing_shown = record { ran = nothing_ran; next = sym (add-zero p.next) }

  infixl 20 ◌thus◌
  pub ◌thus◌ : {cs ds : List Command} {m n : ℕ} {room₁ room₂ : List ℕ} {p₁ p₂ : Pen} → Shown s cs m room p room₁ p₁ → Shown s ds n room₁ p₁ room₂ p₂
      → Shown s (cs ++ ds) (m + n) room p room₂ p₂
  ◌thus◌ a b = record { ran = a.ran then b.ran; next = omega (arith, a.next, b.next) }

  -- what a writer ran, it showed, and no record was read
  pub wrote : {cs : List Command} {room' : List ℕ} {p' : Pen} → Ran s cs room p room' p' → Shown s cs 0 room p room' p'
  wrote {cs = cs} {room' = room'} {p' = p'} a = record {
    ran = record { ran = run_onto 0 s cs (sheet room p) ∙ ap (onto 0) a.ran };
    next = ap (λ (x : Sheet). x.pen.next) (sym a.ran ∙ run_onto p.next s cs (sheet room p)) ∙ sym (add-zero p.next);
  }

  -- the same, told in another way
  pub told : {cs ds : List Command} {m n : ℕ} {room' : List ℕ} {p' : Pen} → cs ≡ ds → m ≡ n → Shown s cs m room p room' p' → Shown s ds n room p room' p'
  told {m = m} {n = n} {room' = room'} {p' = p'} e f a = record { ran = subst (λ (l : List Command). Ran s l room (before 0 p) room' (before 0 p')) e a.ran; next = omega (arith, f, a.next) }

  -- a record that stands there was passed
  pub passed : (records : List ℕ) {p' : Pen} → p.next < record_count records → p' ≡ past records p → Shown s [] 1 room p room p'
  passed records {p' = p'} h e = record {
    ran = record { ran = nothing_ran.ran ∙ ap (λ (q : Pen). sheet room (before 0 q)) (sym e) };
    next = ap (λ (q : Pen). q.next) e ∙ ap (λ (b : Bool). cond b (p.next + 1) p.next) (lt-ltb p.next (record_count records) h);
  }

-- bytes were laid: the record is the same
pub same_record : {bs room room' : List ℕ} {p p' : Pen} (s : Settings) → Wrote bs room p room' p' → p'.next ≡ p.next
unfolding spell
same_record {bs = bs} s w = (wrote (by_token {s = s} (Token.name bs) refl w)).next ∙ add-zero _

-- a record of a kind other than 0 stands there; behind it is the next
module _ (records : List ℕ) {r : Record} {i : ℕ} (k : ℕ) where
  pub standing : r ≡ record_at records i → r.kind ≡ k → 0 < k → i < record_count records
  standing e f h = kind_stands records i (λ z. let d : k ≡ 0 = sym f ∙ ap (λ (x : Record). x.kind) e ∙ z in omega arith)

pub shown_length : {s : Settings} {cs : List Command} {n : ℕ} {room room' : List ℕ} {p p' : Pen} → Shown s cs n room p room' p' → length room' ≡ length room
shown_length a = ran_length a.ran

-- what was shown is what is read from the pen's record on
module _ {A : Type 0} (show : A → List Command) (q : Reader A) {s : Settings} (records names : List ℕ) {room room' : List ℕ} {p p' : Pen} where
  pub reads : {cs : List Command} {n : ℕ} (x : Read A) → q (from records names p.next) ≡ x → cs ≡ show x.tree → n ≡ x.size → Shown s cs n room p room' p'
      → Shows show q s records names room p room' p'
  reads x e f g a = told (f ∙ ap (λ (y : Read A). show y.tree) (sym e)) (g ∙ ap (λ (y : Read A). y.size) (sym e)) a

module _ (records names : List ℕ) where
  -- one part more, read where those before it end
  pub part_more : {A B : Type 0} (f : Reader (A → B)) (q : Reader A) (x : Read (A → B)) (i j : ℕ) → f (from records names i) ≡ x → j ≡ i + x.size
      → (f and q) (from records names i) ≡ applied x (q (from records names j))
  part_more {A = A} {B = B} f q x i j e h =
      and_at records names f q i ∙ ap (λ (y : Read (A → B)). applied y (q (from records names (i + y.size)))) e ∙ ap (λ (k : ℕ). applied x (q (from records names k))) (sym h)

  -- what a record is, told by the record that was read: one that stands there, or any, where a record of zeros is none of the sort
  pub opened : {A : Type 0} (sort : Item → Read A) (a : A) {r : Record} (i : ℕ) → i < record_count records → r ≡ record_at records i
      → first sort a (from records names i) ≡ sort (item_of names r (from records names (i + 1)))
  opened sort a i h e = first_in records names sort a i h ∙ ap (λ (x : Record). sort (item_of names x (from records names (i + 1)))) (sym e)

  pub opened_any : {A : Type 0} (sort : Item → Read A) (a : A) {r : Record} (i : ℕ) → ((L : List Item) → sort (item_of names no_record L) ≡ nothing a) → r ≡ record_at records i
      → first sort a (from records names i) ≡ sort (item_of names r (from records names (i + 1)))
  opened_any sort a i h e = item_at records names sort a i h ∙ ap (λ (x : Record). sort (item_of names x (from records names (i + 1)))) (sym e)

  -- a record and its parts
  pub entered : {A : Type 0} (show : A → List Command) (q parts : Reader A) {s : Settings} {room room' : List ℕ} {p p₁ p' : Pen}
      → q (from records names p.next) ≡ counted (parts (from records names (p.next + 1))) → p.next < record_count records → p₁ ≡ past records p
      → Shows show parts s records names room p₁ room' p' → Shows show q s records names room p room' p'
  entered show q parts {s = s} {room = room} {room' = room'} {p = p} {p₁ = p₁} {p' = p'} e h f a =
      let one = passed {s = s} {room = room} records h f in
      let x = parts (from records names (p.next + 1)) in
      reads show q records names (counted x) e refl refl
      (one thus subst (λ (i : ℕ). Shown s (show (parts (from records names i)).tree) (parts (from records names i)).size room p₁ room' p') one.next a)

-- commands behind those that were run
run_after : (s : Settings) (cs ds : List Command) {room room' : List ℕ} {p p' : Pen} → Ran s cs room p room' p' → run s ds (sheet room' p') ≡ run s (cs ++ ds) (sheet room p)
run_after s cs ds {room = room} {p = p} a = ap (run s ds) (sym a.ran) ∙ sym (run_append s cs ds (sheet room p))

-- the records of a list: those of an item, and of the items behind it
several_size : (records names : List ℕ) {A B : Type 0} (q : Reader A) (end : B) (more : A → B → B) (n i j : ℕ) → 0 < n → j ≡ i + (q (from records names i)).size
    → (several n q end more (from records names i)).size ≡ (q (from records names i)).size + (several (n - 1) q end more (from records names j)).size
unfolding several
several_size records names {B = B} q end more n i j h e =
    let z : n ≡ suc (n - 1) = omega arith in
    ap (λ (k : ℕ). (several k q end more (from records names i)).size) z
    ∙ ap (λ (x : Read B). x.size) (and_at records names (give more and q) (several (n - 1) q end more) i)
    ∙ ap (λ (k : ℕ). k + (several (n - 1) q end more (from records names (i + k))).size) (zero-add (q (from records names i)).size)
    ∙ ap (λ (k : ℕ). (q (from records names i)).size + (several (n - 1) q end more (from records names k)).size) (sym e)

-- How a list is read and shown: its items, none of them, one more; the commands of an item and of a list, the first of them or not.
pub record Listed (A B : Type 0) : Type 0 where
  pub q : Reader A
  pub end : B
  pub more : A → B → B
  pub item : Bool → A → List Command
  pub list : Bool → B → List Command
  pub none : (f : Bool) → list f end ≡ []
  pub some : (f : Bool) (x : A) (xs : B) → list f (more x xs) ≡ item f x ++ list false xs

-- a loop over a list
module _ {A B : Type 0} (of : Listed A B) (s : Settings) (records names : List ℕ) where
  abbrev q : Reader A
  q = of.q

  abbrev end : B
  end = of.end

  abbrev more : A → B → B
  more = of.more

  abbrev list : Bool → B → List Command
  list = of.list

  -- the items that are left, from a pen's record on
  abbrev left_at : ℕ → Pen → Read B
  left_at n p = several n q end more (from records names p.next)

  -- what is left from here is all of it from the start
  pub record Loop (n₀ : ℕ) (f₀ : Bool) (room₀ : List ℕ) (p₀ : Pen) (n : ℕ) (f : Bool) (room : List ℕ) (p : Pen) : Type 0 where
    pub text : run s (list f (left_at n p).tree) (sheet room (before 0 p)) ≡ run s (list f₀ (left_at n₀ p₀).tree) (sheet room₀ (before 0 p₀))
    pub next : p.next + (left_at n p).size ≡ p₀.next + (left_at n₀ p₀).size
    pub ahead : p₀.next ≤ p.next

  abbrev shown_at : (n₀ : ℕ) (f₀ : Bool) (room₀ : List ℕ) (p₀ : Pen) (room : List ℕ) (p : Pen) → Type 0
  shown_at n₀ f₀ room₀ p₀ room p = Shows (list f₀) (several n₀ q end more) s records names room₀ p₀ room p

  one_more : (n : ℕ) (p : Pen) → 0 < n → (left_at n p).tree ≡ more (q (from records names p.next)).tree (several (n - 1) q end more (from records names (p.next + (q (from records names p.next)).size))).tree
  one_more n p h =
      let e : n ≡ suc (n - 1) = omega arith in
      ap (λ (k : ℕ). (left_at k p).tree) e ∙ several_at records names (n - 1) q end more p.next

  module _ {n₀ : ℕ} {f₀ : Bool} {room₀ : List ℕ} {p₀ : Pen} where
    pub start : Loop n₀ f₀ room₀ p₀ (n₀ - 0) f₀ room₀ p₀
    start =
        let e : n₀ ≡ n₀ - 0 = omega arith in
        subst (λ (n : ℕ). Loop n₀ f₀ room₀ p₀ n f₀ room₀ p₀) e (record { text = refl; next = refl; ahead = omega arith })

    pub turn : {n : ℕ} {f : Bool} {room room₁ : List ℕ} {p p₁ : Pen} → Loop n₀ f₀ room₀ p₀ n f room p → 0 < n
        → Shows (of.item f) q s records names room p room₁ p₁ → Loop n₀ f₀ room₀ p₀ (n - 1) false room₁ p₁
    turn {n = n} {f = f} {room = room} {room₁ = room₁} {p = p} {p₁ = p₁} l h a =
        let x = q (from records names p.next) in
        let tree = one_more n p h ∙ ap (λ (i : ℕ). more x.tree (several (n - 1) q end more (from records names i)).tree) (sym a.next) in
        record {
          text = run_after s (of.item f x.tree) (list false (left_at (n - 1) p₁).tree) a.ran ∙ ap (λ (l : List Command). run s l (sheet room (before 0 p))) (sym (ap (list f) tree ∙ of.some f x.tree (left_at (n - 1) p₁).tree)) ∙ l.text;
          next = omega (arith, a.next, l.next, several_size records names q end more n p.next p₁.next h a.next);
          ahead = omega (arith, a.next, l.ahead);
        }

    -- the same for a loop over k from 0 on: the item k is the first where k is 0
    pub step : {n k : ℕ} {room room₁ : List ℕ} {p p₁ : Pen} → Loop n₀ f₀ room₀ p₀ (n - k) (eqb k 0) room p → k < n
        → Shows (of.item (eqb k 0)) q s records names room p room₁ p₁ → Loop n₀ f₀ room₀ p₀ (n - (k + 1)) (eqb (k + 1) 0) room₁ p₁
    step {n = n} {k = k} {room₁ = room₁} {p₁ = p₁} l h a =
        let e : n - k - 1 ≡ n - (k + 1) = omega arith in
        let f : false ≡ eqb (k + 1) 0 = sym (ne_eqb (k + 1) 0 (omega arith)) in
        subst (λ (m : ℕ). Loop n₀ f₀ room₀ p₀ m (eqb (k + 1) 0) room₁ p₁) e (subst (λ (g : Bool). Loop n₀ f₀ room₀ p₀ (n - k - 1) g room₁ p₁) f (turn l (omega arith) a))

    pub done : {n : ℕ} {f : Bool} {room : List ℕ} {p : Pen} → Loop n₀ f₀ room₀ p₀ n f room p → n ≤ 0 → shown_at n₀ f₀ room₀ p₀ room p
    unfolding several run
    done {n = n} {f = f} {room = room} {p = p} l h =
        let z : n ≡ 0 = omega arith in
        let nothing = ap (λ (k : ℕ). list f (left_at k p).tree) z ∙ of.none f in
        let size : (left_at n p).size ≡ 0 = ap (λ (k : ℕ). (left_at k p).size) z in
        record {
          ran = record { ran = sym l.text ∙ ap (λ (l : List Command). run s l (sheet room (before 0 p))) nothing };
          next = omega (arith, l.next, size);
        }

    -- where the first item is as the others
    pub alike : ((f : Bool) (xs : B) → list f xs ≡ list true xs) → {n : ℕ} {f : Bool} {room : List ℕ} {p : Pen} → Loop n₀ f₀ room₀ p₀ n f room p → Loop n₀ f₀ room₀ p₀ n true room p
    alike h {n = n} {f = f} {room = room} {p = p} l = record {
      text = ap (λ (k : List Command). run s k (sheet room (before 0 p))) (sym (h f (left_at n p).tree)) ∙ l.text;
      next = l.next;
      ahead = l.ahead;
    }

    pub step_alike : ((f : Bool) (xs : B) → list f xs ≡ list true xs) → {n k : ℕ} {room room₁ : List ℕ} {p p₁ : Pen} → Loop n₀ f₀ room₀ p₀ (n - k) true room p → k < n
        → Shows (of.item true) q s records names room p room₁ p₁ → Loop n₀ f₀ room₀ p₀ (n - (k + 1)) true room₁ p₁
    step_alike e {n = n} {k = k} {room₁ = room₁} {p₁ = p₁} l h a =
        let f : n - k - 1 ≡ n - (k + 1) = omega arith in
        subst (λ (m : ℕ). Loop n₀ f₀ room₀ p₀ m true room₁ p₁) f (alike e (turn l (omega arith) a))
