-- A kind's parts one behind the other, with what is written before, between and behind them: `so show (begin f writes a shows (piece show₁ q b) writes ..) e`, in the order of
-- the code. Assumes nothing.
use mathlib.Core.Path.{◌≡◌, refl, sym, ap}
use mathlib.Core.Bool.{Bool, true}
use mathlib.Core.List.{List, [], ◌++◌}
use mathlib.Core.Option.{Option, some}
use Prim.Native.Nat.{ℕ}
use native.Mathlib.Nat.{add-zero}
use Rattle.settings.specs.declared.Settings.{Settings}
use Rattle.text.specs.Command.{Command}
use Rattle.text.specs.Text.{bare_if, show_expr}
use Rattle.text.specs.Reading.{Read, Reader, nothing, give, applied, ◌and◌, maybe, from, expr}
use Rattle.pen.specs.declared.Pen.{Pen}
use Rattle.leaves.specs.Shown.{Shown, Shows}
use Rattle.leaves.proofs.Shown.{◌thus◌, nothing_shown, told, reads, part_more}
use Rattle.show_expr.proofs.Most.{operand, any_bare}

-- a part that was shown, with how it is read and shown
pub record Piece (rs ns : List ℕ) (s : Settings) (A : Type 0) (room : List ℕ) (p : Pen) (room' : List ℕ) (p' : Pen) : Type 0 where
  pub show : A → List Command
  pub q : Reader A
  pub shown : Shows show q s rs ns room p room' p'

-- from a pen on: what was read so far, and the commands that were run
pub record Partway (rs ns : List ℕ) (s : Settings) (room₀ : List ℕ) (p₀ : Pen) {A : Type 0} (f : Reader A) (x : Read A) (cs : List Command) (room : List ℕ) (p : Pen) : Type 0 where
  pub read : f (from rs ns p₀.next) ≡ x
  pub shown : Shown s cs x.size room₀ p₀ room p

module _ {rs ns : List ℕ} {s : Settings} where
  abbrev pub piece : {A : Type 0} (show : A → List Command) (q : Reader A) {room room' : List ℕ} {p p' : Pen} → Shows show q s rs ns room p room' p' → Piece rs ns s A room p room' p'
  piece show q a = record { show = show; q = q; shown = a }

  module _ {room₀ : List ℕ} {p₀ : Pen} where
    pub begin : {A : Type 0} (f : A) → Partway rs ns s room₀ p₀ (give f) (nothing f) [] room₀ p₀
    begin f = record { read = refl; shown = nothing_shown }

    infixl 20 ◌writes◌
    pub ◌writes◌ : {A : Type 0} {f : Reader A} {x : Read A} {cs ds : List Command} {room room' : List ℕ} {p p' : Pen} → Partway rs ns s room₀ p₀ f x cs room p → Shown s ds 0 room p room' p'
        → Partway rs ns s room₀ p₀ f x (cs ++ ds) room' p'
    ◌writes◌ {x = x} a w = record { read = a.read; shown = told refl (add-zero x.size) (a.shown thus w) }

    infixl 20 ◌shows◌
    pub ◌shows◌ : {A B : Type 0} {f : Reader (A → B)} {x : Read (A → B)} {cs : List Command} {room room' : List ℕ} {p p' : Pen} → Partway rs ns s room₀ p₀ f x cs room p → (b : Piece rs ns s A room p room' p')
        → Partway rs ns s room₀ p₀ (f and b.q) (applied x (b.q (from rs ns p.next))) (cs ++ b.show (b.q (from rs ns p.next)).tree) room' p'
    ◌shows◌ {f = f} {x = x} {p = p} a b = record { read = part_more rs ns f b.q x p₀.next p.next a.read a.shown.next; shown = a.shown thus b.shown }

    -- a part for which no record is read
    infixl 20 ◌given◌
    pub ◌given◌ : {A B : Type 0} {f : Reader (A → B)} {x : Read (A → B)} {cs : List Command} {room : List ℕ} {p : Pen} → Partway rs ns s room₀ p₀ f x cs room p → (b : A)
        → Partway rs ns s room₀ p₀ (f and give b) (applied x (nothing b)) cs room p
    ◌given◌ {f = f} {x = x} {p = p} a b = record { read = part_more rs ns f (give b) x p₀.next p.next a.read a.shown.next; shown = told refl (sym (add-zero x.size)) a.shown }

    -- all parts: the commands are those of what was read
    pub so : {A : Type 0} (show : A → List Command) {f : Reader A} {x : Read A} {cs : List Command} {room : List ℕ} {p : Pen} → Partway rs ns s room₀ p₀ f x cs room p → cs ≡ show x.tree
        → Shows show f s rs ns room₀ p₀ room p
    so show {f = f} {x = x} a e = reads show f rs ns x a.read e refl a.shown

module _ (rs ns : List ℕ) {s : Settings} {room₀ room₁ : List ℕ} {p₀ p₁ : Pen} where
  -- an operand that is always bare
  pub plain : Shows (operand 17) expr s rs ns room₀ p₀ room₁ p₁ → Shows show_expr expr s rs ns room₀ p₀ room₁ p₁
  plain a = let e = (expr (from rs ns p₀.next)).tree in told (ap (λ (b : Bool). bare_if b (show_expr e)) (any_bare e)) refl a

  -- one part and nothing else: the same records as another tree
  pub only : {A B : Type 0} (f : A → B) (q : Reader A) (show : A → List Command) (show' : B → List Command) → ((x : A) → show x ≡ show' (f x)) → Shows show q s rs ns room₀ p₀ room₁ p₁
      → Shows show' (give f and q) s rs ns room₀ p₀ room₁ p₁
  only f q show show' h a = so show' (begin f shows piece show q a) (h _)

  -- a part that is there
  pub there : {A : Type 0} (q : Reader A) (show : A → List Command) (show' : Option A → List Command) → ((x : A) → show x ≡ show' (some x)) → {on : Bool} → on ≡ true
      → Shows show q s rs ns room₀ p₀ room₁ p₁ → Shows show' (maybe on q) s rs ns room₀ p₀ room₁ p₁
  there q show show' h e a = rw e (only some q show show' h a)
