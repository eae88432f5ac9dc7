-- The reader stops at the first token that cannot go on: what it has read until then can be continued to an expression, and what it stopped at cannot. Assumes nothing.
use native.Mathlib.Omega.{arith}
use mathlib.Core.Path.{◌≡◌, refl, ◌∙◌, ap}
use mathlib.Core.Bool.{Bool, true, false}
use mathlib.Core.List.{List, [], ◌∷◌, ◌++◌}
use mathlib.Core.Option.{Option, none, some}
use lib.Dec.{leb}
use borrow.Author.Tests.{leb-false}
use Prim.Native.Nat.{ℕ, ◌≤◌}
use Rattle.words.specs.Symbol.Symbol.{left_paren, right_paren, right_bracket, colon}
use Rattle.text.specs.Token.{Token}
use Rattle.text.specs.Token.Token.{name, symbol}
use Rattle.text.specs.Tree.{Identifier, Expr}
use Rattle.text.specs.Tree.Expr.{Variable, Ternary, Bracket, Dot}
use Rattle.text.specs.Tree.Exprs.{no_exprs}
use Rattle.text.specs.Tree.ArraySpecifier.{no_dimensions}
use Rattle.text.specs.Tree.ArraySpecifierDimension.{ExplicitlySized}
use Rattle.grammar.specs.Last.{last_expr, last_dimension}
use Rattle.grammar.proofs.Settled.{Operand, indexed, as_expr, called, constant, D}
use Rattle.grammar.proofs.Settled.Head.{named}
use Rattle.grammar.proofs.Settled.Operand.{val, typed}
use Rattle.grammar.proofs.Settled.NT.{up}
use Rattle.grammar.proofs.Settled.Node.{n_e}
use Rattle.grammar.proofs.Ladder.{ladder}
use Rattle.grammar.proofs.Roles.{start, role}
use Rattle.grammar.proofs.Reader.{Operator, Stack, filled, gives, makes, subscript_room, frame_room, room, reduce, strength, State, and_then, settle, put_else, close_parens, subscript, close_subscript, empty_call, begin, go_on, take, step, run, finish, ended, read}
use Rattle.grammar.proofs.Reader.Enclosure.{choice, parens, index, call}
use Rattle.grammar.proofs.Reader.Frame.{behind, within}
use Rattle.grammar.proofs.Reader.State.{want, have, field}
use Rattle.grammar.proofs.Complete.{fills, reads}
use Rattle.grammar.proofs.Faithful.{Open, Good, room_3, good_run, no_some, faithful}

-- a name to go on with
abbrev some_name : Identifier
some_name = 120 ∷ []

-- one way to close what is open
unfoldable closers : Stack → List Token
closers [] = []
closers (behind o ∷ s) = closers s
closers (within (choice c) ∷ s) = symbol colon ∷ name some_name ∷ closers s
closers (within parens ∷ s) = symbol right_paren ∷ closers s
closers (within (index x) ∷ s) = symbol right_bracket ∷ symbol left_paren ∷ symbol right_paren ∷ closers s
closers (within (call x es) ∷ s) = symbol right_paren ∷ closers s

-- the tokens us lead from the state q to an expression
record Ends (q : State) (us : List Token) : Type 0 where
  final : State
  expr : Expr
  runs : run q us ≡ some final
  answers : ended final ≡ some expr

stepped : (p q : State) (t : Token) (us : List Token) → step p t ≡ some q → Ends q us → Ends p (t ∷ us)
unfolding run
stepped p q t us e n = record { final = n.final; expr = n.expr; runs = rw (e, run) n.runs; answers = n.answers }

-- behind an operand, `()` makes a value of it
called_ends : (x : Operand) (s : Stack) (us : List Token) → Ends (have (val (called x no_exprs)) s) us → Ends (have x s) (symbol left_paren ∷ symbol right_paren ∷ us)
unfolding step go_on role take constant begin start empty_call
called_ends x s us n =
    stepped (have x s) (want (within (call x no_exprs) ∷ s)) (symbol left_paren) (symbol right_paren ∷ us) refl
    (stepped (want (within (call x no_exprs) ∷ s)) (have (val (called x no_exprs)) s) (symbol right_paren) us refl n)

-- x over s₀ stands for the value a, of strength n, over s
abbrev Stands : Operand → Stack → Expr → ℕ → Stack → Type 0
Stands x s₀ a n s = (settle 17 x s₀ ≡ some (reduce 17 a s)) × (strength s₀ 2 ≡ strength s n)

itself : (a : Expr) (s : Stack) → Stands (val a) s a 2 s
unfolding settle as_expr
itself a s = (refl, refl)

-- square brackets close where there was room for what stands in them
record Subscripted (x : Operand) (a : Expr) (n : ℕ) (s : Stack) : Type 0 where
  y : Operand
  is : subscript (leb n 15) x a s ≡ some (have y s)

subscripted : (x : Operand) (a : Expr) (n : ℕ) (s : Stack) → n ≤ subscript_room (as_expr x) → Subscripted x a n s
unfolding subscript subscript_room
subscripted (val c) a n s h = record { y = val (Bracket c a); is = refl }
subscripted (typed v ds) a n s h = go (leb n 15) refl
  where
    wide : (o : Option Expr) → as_expr (typed v ds) ≡ o → leb n 15 ≡ false → n ≤ subscript_room o → Subscripted (typed v ds) a n s
    wide none i l m = absurd (omega (arith, leb-false n 15 l))
    wide (some b) i l m = record { y = val (Bracket b a); is = rw (l, i) }

    go : (b : Bool) → leb n 15 ≡ b → Subscripted (typed v ds) a n s
    go true l = record { y = typed v (last_dimension ds (ExplicitlySized a)); is = rw l }
    go false l = wide (as_expr (typed v ds)) refl l h

gives_17 : (o : Operator) → gives o ≤ 17
unfolding gives
gives_17 (Operator.unary u) = omega arith
gives_17 (Operator.binary o a) = omega (arith, (ladder o).1)
gives_17 (Operator.ternary c a) = omega arith
gives_17 (Operator.assignment o a) = omega arith
gives_17 (Operator.comma a) = omega arith

closes : (s : Stack) (ts : List Token) → Open s ts → (x : Operand) (s₀ : Stack) (a : Expr) (n : ℕ) → n ≤ room s → Stands x s₀ a n s → Ends (have x s₀) (closers s)
unfolding closers run ended finish reduce gives filled strength room frame_room makes step take constant go_on role close_parens put_else close_subscript settle as_expr indexed
closes [] ts o x s₀ a n l h = record { final = have x s₀; expr = a; runs = refl; answers = rw h.0 }
closes (behind f ∷ s) ts o x s₀ a n l h = closes s o.0 o.2 x s₀ (filled f a) (gives f) o.3 (h.0 ∙ ap some (fills 17 a f s (gives_17 f)), h.1)
closes (within (choice c) ∷ s) ts o x s₀ a n l h =
    let q : State = have (typed (named some_name) no_dimensions) (behind (Operator.ternary c a) ∷ s) in
    stepped (have x s₀) (want (behind (Operator.ternary c a) ∷ s)) (symbol colon) (name some_name ∷ closers s) (rw h.0)
    (stepped (want (behind (Operator.ternary c a) ∷ s)) q (name some_name) (closers s) refl
    (closes s o.0 o.2 (typed (named some_name) no_dimensions) (behind (Operator.ternary c a) ∷ s) (Ternary c a (Variable some_name)) 15 o.3 (refl, refl)))
closes (within parens ∷ s) ts o x s₀ a n l h =
    stepped (have x s₀) (have (val a) s) (symbol right_paren) (closers s) (rw h.0) (closes s o.0 o.2 (val a) s a 2 (omega (arith, room_3 s)) (itself a s))
closes (within (index y) ∷ s) ts o x s₀ a n l h =
    let v : Subscripted y a n s = subscripted y a n s l in
    let b : Expr = called v.y no_exprs in
    stepped (have x s₀) (have v.y s) (symbol right_bracket) (symbol left_paren ∷ symbol right_paren ∷ closers s) (rw (h.0, h.1) v.is)
    (called_ends v.y s (closers s) (closes s o.0 o.2 (val b) s b 2 (omega (arith, room_3 s)) (itself b s)))
closes (within (call y es) ∷ s) ts o x s₀ a n l h =
    let b : Expr = called y (last_expr es a) in
    stepped (have x s₀) (have (val b) s) (symbol right_paren) (closers s) (rw h.0) (closes s o.0 o.2 (val b) s b 2 (omega (arith, room_3 s)) (itself b s))

-- every state that is reached
reached : (q : State) (ts : List Token) → Good q ts → (us : List Token) × Ends q us
unfolding step take constant settle as_expr indexed
reached (want s) ts g =
    let x : Operand = typed (named some_name) no_dimensions in
    (name some_name ∷ closers s, stepped (want s) (have x s) (name some_name) (closers s) refl (closes s ts g x s (Variable some_name) 2 (omega (arith, room_3 s)) (refl, refl)))
reached (have x s) ts g =
    let b : Expr = called x no_exprs in
    (symbol left_paren ∷ symbol right_paren ∷ closers s, called_ends x s (closers s) (closes s g.before g.opened (val b) s b 2 (omega (arith, room_3 s)) (itself b s)))
reached (field e s) ts g =
    let b : Expr = Dot some_name e in (
      name some_name ∷ closers s,
      stepped (field e s) (have (val b) s) (name some_name) (closers s) refl
          (closes s g.before g.opened (val b) s b 2 (omega (arith, room_3 s)) (itself b s)),
    )

-- a run in two parts
run_on : (ts us : List Token) (p : State) → run p (ts ++ us) ≡ and_then (run p ts) (λ q. run q us)
unfolding run
run_on [] us p = refl
run_on (t ∷ ts) us p = go (step p t) refl (λ r. run_on ts us r)
  where
    go : (o : Option State) → step p t ≡ o → ((r : State) → run r (ts ++ us) ≡ and_then (run r ts) (λ q. run q us))
        → run p (t ∷ (ts ++ us)) ≡ and_then (run p (t ∷ ts)) (λ q. run q us)
    go none i k = rw (i, run)
    go (some r) i k = rw (i, run) (k r)

pub record Continued (ts : List Token) : Type 0 where
  pub rest : List Token
  pub expr : Expr
  pub derives : D (up 17) (ts ++ rest) (n_e expr)

pub viable : (ts : List Token) (q : State) → run (want []) ts ≡ some q → Continued ts
unfolding read
viable ts q e =
    let v : (us : List Token) × Ends q us = reached q ts (good_run ts [] (want []) q refl e) in
    record { rest = v.0; expr = v.1.expr; derives = faithful (ts ++ v.0) v.1.expr (rw (run_on ts v.0 (want []), e, v.1.runs) v.1.answers) }

pub stopped : (ts : List Token) → run (want []) ts ≡ none → Continued ts → ⊥
unfolding read
stopped ts e c = let q : read (ts ++ c.rest) ≡ some c.expr = reads (ts ++ c.rest) c.expr c.derives in no_some (rw (run_on ts c.rest (want []), e) at q)
