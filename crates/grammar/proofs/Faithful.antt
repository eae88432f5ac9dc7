-- What the reader answers is a reading of the settled grammar. Assumes nothing.
use native.Mathlib.Omega.{arith}
use mathlib.Core.Path.{◌≡◌, refl, sym, ◌∙◌}
use mathlib.Core.Bool.{Bool, true, false}
use mathlib.Core.List.{List, [], ◌∷◌, ◌++◌, append_assoc, append-nil}
use mathlib.Core.Option.{Option, none, some}
use lib.Dec.{leb}
use borrow.Author.Tests.{leb-true, leb-false}
use Prim.Native.Nat.{ℕ, zero, suc, ◌≤◌}
use Rattle.words.specs.Symbol.{Symbol}
use Rattle.words.specs.Symbol.Symbol.{left_paren, right_paren, left_bracket, right_bracket, dot, comma, question, colon}
use Rattle.text.specs.Token.{Token}
use Rattle.text.specs.Token.Token.{name, int, uint, float, double, word, symbol}
use Rattle.text.specs.Tree.{Expr, Exprs, ArraySpecifier, ArraySpecifierDimension}
use Rattle.text.specs.Tree.Expr.{Bracket, Dot}
use Rattle.text.specs.Tree.Exprs.{no_exprs, exprs}
use Rattle.text.specs.Tree.ArraySpecifier.{no_dimensions, dimensions}
use Rattle.text.specs.Tree.ArraySpecifierDimension.{Unsized, ExplicitlySized}
use Rattle.text.specs.Operator.{unary_symbol, binary_symbol, assignment_symbol}
use Rattle.grammar.specs.Last.{last_expr, last_dimension}
use Rattle.grammar.specs.Strength.{under}
use Rattle.grammar.proofs.Settled.{Head, head_token, Operand, as_expr, called, constant, posted, postfix_symbol, NT, Node, D}
use Rattle.grammar.proofs.Settled.Head.{named, keyword}
use Rattle.grammar.proofs.Settled.Operand.{val, typed}
use Rattle.grammar.proofs.Settled.NT.{ex, up, operand, args, args1}
use Rattle.grammar.proofs.Settled.Node.{n_e, n_o, n_a}
use Rattle.grammar.proofs.Settled.D.{d-up, d-head, d-const, d-paren, d-empty, d-length, d-wide, d-idx, d-dot, d-post, d-call, d-no_args, d-void, d-args, d-arg, d-more, d-operand, d-un, d-bin, d-tern, d-asg, d-com}
use Rattle.grammar.proofs.Ladder.{ladder}
use Rattle.grammar.proofs.Roles.{Start, Role, start, role, StartOf, start_of, RoleOf, role_of}
use Rattle.grammar.proofs.Reader.{Operator, Frame, Stack, filled, gives, makes, frame_room, room, Reduced, reduced, reduce, strength, State, and_then, or_else, settle, put, put_else, put_comma_operator, put_comma, close_parens, subscript, close_subscript, empty_subscript, empty_call, void_call, begin, go_on, take, step, run, finish, ended, read}
use Rattle.grammar.proofs.Reader.Enclosure.{choice, parens, index, call}
use Rattle.grammar.proofs.Reader.Frame.{behind, within}
use Rattle.grammar.proofs.Reader.State.{want, have, field}
use Rattle.grammar.proofs.Complete.{subscript_room_15}

-- what n derives, and the symbol behind it
abbrev pub Led : NT → Node → Symbol → List Token → Type 0
Led n v y ts = (us : List Token) × D n us v × (ts ≡ us ++ (symbol y ∷ []))

-- the tokens of a frame
abbrev pub Framed : Frame → List Token → Type 0
Framed (behind (Operator.unary u)) ts = ts ≡ symbol (unary_symbol u) ∷ []
Framed (behind (Operator.binary o a)) ts = Led (up (suc (under o))) (n_e a) (binary_symbol o) ts
Framed (behind (Operator.ternary c a)) ts =
    (us : List Token) × (vs : List Token) × D (up 14) us (n_e c) × D (up 17) vs (n_e a) × (ts ≡ us ++ (symbol question ∷ (vs ++ (symbol colon ∷ []))))
Framed (behind (Operator.assignment o a)) ts = Led (up 3) (n_e a) (assignment_symbol o) ts
Framed (behind (Operator.comma a)) ts = Led (up 17) (n_e a) comma ts
Framed (within (choice c)) ts = Led (up 14) (n_e c) question ts
Framed (within parens) ts = ts ≡ symbol left_paren ∷ []
Framed (within (index x)) ts = Led operand (n_o x) left_bracket ts
Framed (within (call x no_exprs)) ts = Led operand (n_o x) left_paren ts
Framed (within (call x (exprs e es))) ts =
    (us : List Token) × (vs : List Token) × D operand us (n_o x) × D args1 vs (n_a (exprs e es)) × (ts ≡ us ++ (symbol left_paren ∷ (vs ++ (symbol comma ∷ []))))

-- the tokens that led to a stack
abbrev pub Open : Stack → List Token → Type 0
Open [] ts = ts ≡ []
Open (f ∷ s) ts = (t : List Token) × (m : List Token) × Open s t × (makes f ≤ room s) × Framed f m × (ts ≡ t ++ m)

-- an expression e of strength m stands on the stack s, where all of strength k is filled in
record Standing (k m : ℕ) (e : Expr) (s : Stack) (ts : List Token) : Type 0 where
  before : List Token
  own : List Token
  opened : Open s before
  means : D (ex m) own (n_e e)
  fits : m ≤ room s
  low : m ≤ k
  whole : ts ≡ before ++ own

-- a type without dimensions is its first token alone
abbrev pub Bare : Operand → List Token → Type 0
Bare (val e) us = Unit
Bare (typed h no_dimensions) us = us ≡ head_token h ∷ []
Bare (typed h (dimensions d ds)) us = Unit

-- an operand stands there
pub record Holding (x : Operand) (s : Stack) (ts : List Token) : Type 0 where
  pub before : List Token
  pub own : List Token
  pub opened : Open s before
  pub means : D operand own (n_o x)
  pub bare : Bare x own
  pub whole : ts ≡ before ++ own

pub record Dotted (e : Expr) (s : Stack) (ts : List Token) : Type 0 where
  pub x : Operand
  pub value : as_expr x ≡ some e
  pub before : List Token
  pub own : List Token
  pub opened : Open s before
  pub means : D operand own (n_o x)
  pub whole : ts ≡ before ++ (own ++ (symbol dot ∷ []))

-- the tokens that led to a state
abbrev pub Good : State → List Token → Type 0
Good (want s) ts = Open s ts
Good (have x s) ts = Holding x s ts
Good (field e s) ts = Dotted e s ts

pub room_3 : (s : Stack) → 3 ≤ room s
unfolding room frame_room
room_3 [] = omega arith
room_3 (behind (Operator.unary u) ∷ s) = omega arith
room_3 (behind (Operator.binary o a) ∷ s) = (ladder o).0
room_3 (behind (Operator.ternary c a) ∷ s) = omega arith
room_3 (behind (Operator.assignment o a) ∷ s) = omega arith
room_3 (behind (Operator.comma a) ∷ s) = omega arith
room_3 (within (choice c) ∷ s) = omega arith
room_3 (within parens ∷ s) = omega arith
room_3 (within (index x) ∷ s) = omega (arith, subscript_room_15 (as_expr x))
room_3 (within (call x es) ∷ s) = omega arith

-- an operator filled in
filled_derives : (o : Operator) (m us : List Token) (n : ℕ) (e : Expr) → Framed (behind o) m → D (ex n) us (n_e e) → n ≤ frame_room (behind o)
    → D (ex (gives o)) (m ++ us) (n_e (filled o e))
unfolding frame_room gives filled
filled_derives (Operator.unary u) m us n e h d l = rw h (d-un u (d-up l d))
filled_derives (Operator.binary o a) m us n e h d l = rw (h.2, append_assoc h.0) (d-bin o h.1 (d-up l d))
filled_derives (Operator.ternary c a) m us n e h d l = rw (h.4, append_assoc h.0, append_assoc h.1) (d-tern h.2 h.3 (d-up l d))
filled_derives (Operator.assignment o a) m us n e h d l = rw (h.2, append_assoc h.0) (d-asg o h.1 (d-up l d))
filled_derives (Operator.comma a) m us n e h d l = rw (h.2, append_assoc h.0) (d-com h.1 (d-up l d))

fill_in : (o : Operator) (s : Stack) (k n : ℕ) (e : Expr) (ts : List Token) → gives o ≤ k → Standing k n e (behind o ∷ s) ts → Standing k (gives o) (filled o e) s ts
unfolding room makes
fill_in o s k n e ts l r = record {
  before = r.opened.0;
  own = r.opened.1 ++ r.own;
  opened = r.opened.2;
  means = filled_derives o r.opened.1 r.own n e r.opened.4 r.means r.fits;
  fits = r.opened.3;
  low = l;
  whole = rw (r.whole, r.opened.5) (append_assoc r.opened.0 r.opened.1 r.own);
}

record Reduction (k n : ℕ) (e : Expr) (s : Stack) (ts : List Token) : Type 0 where
  e' : Expr
  s' : Stack
  m : ℕ
  is : reduce k e s ≡ reduced e' s'
  stands : Standing k m e' s' ts
  strong : strength s n ≡ strength s' m

reduction : (s : Stack) (k n : ℕ) (e : Expr) (ts : List Token) → Standing k n e s ts → Reduction k n e s ts
unfolding reduce strength
reduction [] k n e ts r = record { e' = e; s' = []; m = n; is = refl; stands = r; strong = refl }
reduction (within b ∷ s) k n e ts r = record { e' = e; s' = within b ∷ s; m = n; is = refl; stands = r; strong = refl }
reduction (behind o ∷ s) k n e ts r = go (leb (gives o) k) refl (λ l. reduction s k (gives o) (filled o e) ts (fill_in o s k n e ts l r))
  where
    go : (b : Bool) → leb (gives o) k ≡ b → (gives o ≤ k → Reduction k (gives o) (filled o e) s ts) → Reduction k n e (behind o ∷ s) ts
    go true q c = let v : Reduction k (gives o) (filled o e) s ts = c (leb-true (gives o) k q) in
        record { e' = v.e'; s' = v.s'; m = v.m; is = rw q v.is; stands = v.stands; strong = v.strong }
    go false q c = record { e' = e; s' = behind o ∷ s; m = n; is = rw q; stands = r; strong = refl }

pub no_some : {A C : Type 0} {a : A} → none ≡ some a → C
no_some q = let z : ◌≡◌ {A = ℕ} 0 1 = cc in absurd (omega arith)

then_some : {A B : Type 0} (o : Option A) (f : A → Option B) (b : B) → and_then o f ≡ some b → (a : A) × (o ≡ some a) × (f a ≡ some b)
then_some none f b q = no_some q
then_some (some a) f b q = (a, refl, q)

-- an operand settled, and what was made of that
record Settling {R : Type 0} (k : ℕ) (s : Stack) (ts : List Token) (f : Reduced → Option R) (q : R) : Type 0 where
  e' : Expr
  s' : Stack
  m : ℕ
  stands : Standing k m e' s' ts
  strong : strength s 2 ≡ strength s' m
  result : f (reduced e' s') ≡ some q

settling : {R : Type 0} (k : ℕ) (x : Operand) (s : Stack) (ts : List Token) (f : Reduced → Option R) (q : R) → 2 ≤ k → Holding x s ts → and_then (settle k x s) f ≡ some q
    → Settling k s ts f q
unfolding settle
settling k x s ts f q h g p =
    let v : (r : Reduced) × (settle k x s ≡ some r) × (f r ≡ some q) = then_some (settle k x s) f q p in
    let w : (a : Expr) × (as_expr x ≡ some a) × (◌≡◌ {A = Option Reduced} (some (reduce k a s)) (some v.0)) = then_some (as_expr x) (λ e. some (reduce k e s)) v.0 v.1 in
    let c : Reduction k 2 w.0 s ts = reduction s k 2 w.0 ts
    (record { before = g.before; own = g.own; opened = g.opened; means = d-operand g.means w.1; fits = omega (arith, room_3 s); low = h; whole = g.whole }) in
    let i : v.0 ≡ reduced c.e' c.s' =
    (let j : reduce k w.0 s ≡ reduced c.e' c.s' = c.is in let l : ◌≡◌ {A = Option Reduced} (some (reduce k w.0 s)) (some v.0) = w.2 in cc) in
    record { e' = c.e'; s' = c.s'; m = c.m; stands = c.stands; strong = c.strong; result = rw i at v.2 }

is_state : (q r : State) (ts : List Token) → ◌≡◌ {A = Option State} (some q) (some r) → Good q ts → Good r ts
is_state q r ts p g = let e : q ≡ r = cc in rw e at g

-- a frame that begins with an expression
put_at : (f : Expr → Frame) (y : Symbol) (k : ℕ) (s : Stack) (e : Expr) (m : ℕ) (ts : List Token) (q : State)
    → ((us : List Token) → D (up k) us (n_e e) → Framed (f e) (us ++ (symbol y ∷ [])))
    → Standing k m e s ts → put f (reduced e s) ≡ some q → Good q (ts ++ (symbol y ∷ []))
unfolding put
put_at f y k s e m ts q framed r p = go (leb (makes (f e)) (room s)) refl
  where
    go : (b : Bool) → leb (makes (f e)) (room s) ≡ b → Good q (ts ++ (symbol y ∷ []))
    go true l = is_state (want (f e ∷ s)) q (ts ++ (symbol y ∷ [])) (rw l at p) (
      r.before,
      r.own ++ (symbol y ∷ []),
      r.opened,
      leb-true (makes (f e)) (room s) l,
      framed r.own (d-up r.low r.means),
      rw r.whole (append_assoc r.before r.own (symbol y ∷ [])),
    )
    go false l = no_some (rw l at p)

good_put : (f : Expr → Frame) (y : Symbol) (k : ℕ) (x : Operand) (s : Stack) (ts : List Token) (q : State) → 2 ≤ k
    → ((e : Expr) (us : List Token) → D (up k) us (n_e e) → Framed (f e) (us ++ (symbol y ∷ [])))
    → Holding x s ts → and_then (settle k x s) (put f) ≡ some q → Good q (ts ++ (symbol y ∷ []))
good_put f y k x s ts q h framed g p =
    let c : Settling k s ts (put f) q = settling k x s ts (put f) q h g p in put_at f y k c.s' c.e' c.m ts q (framed c.e') c.stands c.result

else_at : (s : Stack) (e : Expr) (m : ℕ) (ts : List Token) (q : State) → Standing 17 m e s ts → put_else (reduced e s) ≡ some q → Good q (ts ++ (symbol colon ∷ []))
unfolding put_else makes gives
else_at [] e m ts q r p = no_some p
else_at (behind o ∷ s) e m ts q r p = no_some p
else_at (within (choice c) ∷ s) e m ts q r p =
    let o : Open (within (choice c) ∷ s) r.before = r.opened in is_state (want (behind (Operator.ternary c e) ∷ s)) q (ts ++ (symbol colon ∷ [])) p (
      o.0,
      o.4.0 ++ (symbol question ∷ (r.own ++ (symbol colon ∷ []))),
      o.2,
      o.3,
      (o.4.0, r.own, o.4.1, d-up r.low r.means, refl),
      rw (r.whole, o.5, o.4.2) (simp append_assoc),
    )
else_at (within parens ∷ s) e m ts q r p = no_some p
else_at (within (index x) ∷ s) e m ts q r p = no_some p
else_at (within (call x es) ∷ s) e m ts q r p = no_some p

-- a comma: behind an argument, or an operator
next_argument : (x : Operand) (es : Exprs) (e : Expr) (m : ℕ) (ts us : List Token) → Framed (within (call x es)) ts → D (ex m) us (n_e e) → m ≤ 16
    → Framed (within (call x (last_expr es e))) (ts ++ (us ++ (symbol comma ∷ [])))
unfolding last_expr
next_argument x no_exprs e m ts us h d l = (h.0, us, h.1, d-arg (d-up l d), rw h.2 (simp append_assoc))
next_argument x (exprs f es) e m ts us h d l = (h.0, h.1 ++ (symbol comma ∷ us), h.2, d-more h.3 (d-up l d), rw h.4 (simp append_assoc))

comma_operator_at : (s : Stack) (e : Expr) (m : ℕ) (ts : List Token) (q : State) → Standing 17 m e s ts → put_comma_operator (reduced e s) ≡ some q
    → Good q (ts ++ (symbol comma ∷ []))
comma_operator_at s e m ts q r p = put_at (λ a. behind (Operator.comma a)) comma 17 s e m ts q (λ us d. (us, d, refl)) r p

comma_at : (s : Stack) (e : Expr) (m : ℕ) (ts : List Token) (q : State) → Standing 17 m e s ts → put_comma (reduced e s) ≡ some q → Good q (ts ++ (symbol comma ∷ []))
unfolding put_comma room frame_room makes
comma_at [] e m ts q r p = comma_operator_at [] e m ts q r p
comma_at (behind o ∷ s) e m ts q r p = comma_operator_at (behind o ∷ s) e m ts q r p
comma_at (within (choice c) ∷ s) e m ts q r p = comma_operator_at (within (choice c) ∷ s) e m ts q r p
comma_at (within parens ∷ s) e m ts q r p = comma_operator_at (within parens ∷ s) e m ts q r p
comma_at (within (index x) ∷ s) e m ts q r p = comma_operator_at (within (index x) ∷ s) e m ts q r p
comma_at (within (call x es) ∷ s) e m ts q r p =
    let o : Open (within (call x es) ∷ s) r.before = r.opened in is_state (want (within (call x (last_expr es e)) ∷ s)) q (ts ++ (symbol comma ∷ [])) p
    (o.0, o.1 ++ (r.own ++ (symbol comma ∷ [])), o.2, o.3, next_argument x es e m o.1 r.own o.4 r.means r.fits, rw (r.whole, o.5) (simp append_assoc))

-- what closes brackets
last_argument : (x : Operand) (es : Exprs) (e : Expr) (m : ℕ) (ts us : List Token) → Framed (within (call x es)) ts → D (ex m) us (n_e e) → m ≤ 16
    → D operand (ts ++ (us ++ (symbol right_paren ∷ []))) (n_o (val (called x (last_expr es e))))
last_argument x no_exprs e m ts us h d l = rw (h.2, append_assoc h.0) (d-call h.1 (d-args (d-arg (d-up l d))))
last_argument x (exprs f es) e m ts us h d l = rw h.4 (simp append_assoc (simp append_assoc at (d-call h.2 (d-args (d-more h.3 (d-up l d))))))

close_parens_at : (s : Stack) (e : Expr) (m : ℕ) (ts : List Token) (q : State) → Standing 17 m e s ts → close_parens (reduced e s) ≡ some q
    → Good q (ts ++ (symbol right_paren ∷ []))
unfolding close_parens room frame_room
close_parens_at [] e m ts q r p = no_some p
close_parens_at (behind o ∷ s) e m ts q r p = no_some p
close_parens_at (within (choice c) ∷ s) e m ts q r p = no_some p
close_parens_at (within parens ∷ s) e m ts q r p =
    let o : Open (within parens ∷ s) r.before = r.opened in is_state (have (val e) s) q (ts ++ (symbol right_paren ∷ [])) p (record {
      before = o.0;
      own = symbol left_paren ∷ (r.own ++ (symbol right_paren ∷ []));
      opened = o.2;
      means = d-paren (d-up r.low r.means);
      bare = tt;
      whole = rw (r.whole, o.5, o.4) (simp append_assoc);
    })
close_parens_at (within (index x) ∷ s) e m ts q r p = no_some p
close_parens_at (within (call x es) ∷ s) e m ts q r p =
    let o : Open (within (call x es) ∷ s) r.before = r.opened in is_state (have (val (called x (last_expr es e))) s) q (ts ++ (symbol right_paren ∷ [])) p (record {
      before = o.0;
      own = o.1 ++ (r.own ++ (symbol right_paren ∷ []));
      opened = o.2;
      means = last_argument x es e m o.1 r.own o.4 r.means r.fits;
      bare = tt;
      whole = rw (r.whole, o.5) (simp append_assoc);
    })

bare_and : (h : Head) (ds : ArraySpecifier) (d : ArraySpecifierDimension) (us : List Token) → Bare (typed h (last_dimension ds d)) us
unfolding last_dimension
bare_and h no_dimensions d us = tt
bare_and h (dimensions c cs) d us = tt

subscript_at : (b : Bool) (x : Operand) (s : Stack) (e : Expr) (m : ℕ) (t k u ts : List Token) (q : State) → Open s t → D operand k (n_o x) → D (ex m) u (n_e e) → m ≤ 17
    → leb m 15 ≡ b
    → ts ≡ t ++ (k ++ (symbol left_bracket ∷ (u ++ (symbol right_bracket ∷ [])))) → subscript b x e s ≡ some q → Good q ts
unfolding subscript
subscript_at b (val a) s e m t k u ts q o c d l h w p =
    is_state (have (val (Bracket a e)) s) q ts p
    (record { before = t; own = k ++ (symbol left_bracket ∷ (u ++ (symbol right_bracket ∷ []))); opened = o; means = d-idx c (d-up l d); bare = tt; whole = w })
subscript_at true (typed v ds) s e m t k u ts q o c d l h w p =
    let us : List Token = k ++ (symbol left_bracket ∷ (u ++ (symbol right_bracket ∷ []))) in
    is_state (have (typed v (last_dimension ds (ExplicitlySized e))) s) q ts p
    (record { before = t; own = us; opened = o; means = d-length c (d-up (leb-true m 15 h) d); bare = bare_and v ds (ExplicitlySized e) us; whole = w })
subscript_at false (typed v ds) s e m t k u ts q o c d l h w p =
    let r : (a : Expr) × (as_expr (typed v ds) ≡ some a) × (◌≡◌ {A = Option State} (some (have (val (Bracket a e)) s)) (some q)) =
    then_some (as_expr (typed v ds)) (λ a. some (have (val (Bracket a e)) s)) q p in
    is_state (have (val (Bracket r.0 e)) s) q ts r.2
    (record { before = t; own = k ++ (symbol left_bracket ∷ (u ++ (symbol right_bracket ∷ []))); opened = o; means = d-wide c r.1 (leb-false m 15 h) l d; bare = tt; whole = w })

close_subscript_at : (s : Stack) (e : Expr) (m n : ℕ) (ts : List Token) (q : State) → Standing 17 m e s ts → n ≡ strength s m → close_subscript (leb n 15) (reduced e s) ≡ some q
    → Good q (ts ++ (symbol right_bracket ∷ []))
unfolding close_subscript strength
close_subscript_at [] e m n ts q r f p = no_some p
close_subscript_at (behind o ∷ s) e m n ts q r f p = no_some p
close_subscript_at (within (choice c) ∷ s) e m n ts q r f p = no_some p
close_subscript_at (within parens ∷ s) e m n ts q r f p = no_some p
close_subscript_at (within (index x) ∷ s) e m n ts q r f p = let o : Open (within (index x) ∷ s) r.before = r.opened in
    subscript_at (leb n 15) x s e m o.0 o.4.0 r.own (ts ++ (symbol right_bracket ∷ [])) q
    o.2 o.4.1 r.means r.low (rw f) (rw (r.whole, o.5, o.4.2) (simp append_assoc)) p
close_subscript_at (within (call x es) ∷ s) e m n ts q r f p = no_some p

-- empty brackets
empty_subscript_at : (s : Stack) (ts : List Token) (q : State) → Open s ts → empty_subscript s ≡ some q → Good q (ts ++ (symbol right_bracket ∷ []))
unfolding empty_subscript
empty_subscript_at [] ts q o p = no_some p
empty_subscript_at (behind f ∷ s) ts q o p = no_some p
empty_subscript_at (within (choice c) ∷ s) ts q o p = no_some p
empty_subscript_at (within parens ∷ s) ts q o p = no_some p
empty_subscript_at (within (index (val a)) ∷ s) ts q o p = no_some p
empty_subscript_at (within (index (typed h ds)) ∷ s) ts q o p =
    let us : List Token = o.4.0 ++ (symbol left_bracket ∷ symbol right_bracket ∷ []) in
    is_state (have (typed h (last_dimension ds Unsized)) s) q (ts ++ (symbol right_bracket ∷ [])) p
    (record { before = o.0; own = us; opened = o.2; means = d-empty o.4.1; bare = bare_and h ds Unsized us; whole = rw (o.5, o.4.2) (simp append_assoc) })
empty_subscript_at (within (call x es) ∷ s) ts q o p = no_some p

-- an empty list of arguments, written as the tokens us
empty_call_at : (s : Stack) (t us ts : List Token) (q : State) → Open s t → D args us (n_a no_exprs) → ts ≡ t ++ us → empty_call s ≡ some q
    → Good q (ts ++ (symbol right_paren ∷ []))
unfolding empty_call
empty_call_at [] t us ts q o d w p = no_some p
empty_call_at (behind f ∷ s) t us ts q o d w p = no_some p
empty_call_at (within (choice c) ∷ s) t us ts q o d w p = no_some p
empty_call_at (within parens ∷ s) t us ts q o d w p = no_some p
empty_call_at (within (index x) ∷ s) t us ts q o d w p = no_some p
empty_call_at (within (call x no_exprs) ∷ s) t us ts q o d w p = is_state (have (val (called x no_exprs)) s) q (ts ++ (symbol right_paren ∷ [])) p
    (record {
      before = o.0;
      own = o.4.0 ++ (symbol left_paren ∷ (us ++ (symbol right_paren ∷ [])));
      opened = o.2;
      means = d-call o.4.1 d;
      bare = tt;
      whole = rw (w, o.5, o.4.2) (simp append_assoc);
    })
empty_call_at (within (call x (exprs e es)) ∷ s) t us ts q o d w p = no_some p

void_call_at : (x : Operand) (s : Stack) (ts : List Token) (q : State) → Holding x s ts → void_call x s ≡ some q → Good q (ts ++ (symbol right_paren ∷ []))
unfolding void_call head_token
void_call_at (val e) s ts q g p = no_some p
void_call_at (typed (named n) ds) s ts q g p = no_some p
void_call_at (typed (keyword zero) no_dimensions) s ts q g p = empty_call_at s g.before g.own ts q g.opened (rw g.bare d-void) g.whole p
void_call_at (typed (keyword zero) (dimensions d ds)) s ts q g p = no_some p
void_call_at (typed (keyword (suc k)) ds) s ts q g p = no_some p

-- behind an operand
good_on : (y : Symbol) (r : Role) → RoleOf y r → (x : Operand) (s : Stack) (ts : List Token) (q : State) → Holding x s ts → go_on r x s ≡ some q → Good q (ts ++ (symbol y ∷ []))
unfolding go_on makes
good_on y (Role.binary o) h x s ts q g p =
    let l : (3 ≤ under o) × (under o ≤ 13) = ladder o in
    rw h (good_put (λ a. behind (Operator.binary o a)) (binary_symbol o) (suc (under o)) x s ts q (omega arith) (λ e us d. (us, d, refl)) g p)
good_on y (Role.assignment o) h x s ts q g p = rw h (good_put (λ a. behind (Operator.assignment o a)) (assignment_symbol o) 3 x s ts q (omega arith) (λ e us d. (us, d, refl)) g p)
good_on y (Role.postfix o) h x s ts q g p =
    let v : (a : Expr) × (as_expr x ≡ some a) × (◌≡◌ {A = Option State} (some (have (val (posted o a)) s)) (some q)) =
    then_some (as_expr x) (λ a. some (have (val (posted o a)) s)) q p in
    let us : List Token = symbol (postfix_symbol o) ∷ [] in
    rw h (is_state (have (val (posted o v.0)) s) q (ts ++ us) v.2
    (record {
      before = g.before;
      own = g.own ++ us;
      opened = g.opened;
      means = d-post g.means v.1 o;
      bare = tt;
      whole = rw g.whole (append_assoc g.before g.own us);
    }))
good_on y Role.question h x s ts q g p = rw h (good_put (λ a. within (choice a)) question 14 x s ts q (omega arith) (λ e us d. (us, d, refl)) g p)
good_on y Role.colon h x s ts q g p =
    let c : Settling 17 s ts put_else q = settling 17 x s ts put_else q (omega arith) g p in rw h (else_at c.s' c.e' c.m ts q c.stands c.result)
good_on y Role.comma h x s ts q g p =
    let c : Settling 17 s ts put_comma q = settling 17 x s ts put_comma q (omega arith) g p in rw h (comma_at c.s' c.e' c.m ts q c.stands c.result)
good_on y Role.open_paren h x s ts q g p =
    let us : List Token = symbol left_paren ∷ [] in
    rw h (is_state (want (within (call x no_exprs) ∷ s)) q (ts ++ us) p
    (g.before, g.own ++ us, g.opened, omega (arith, room_3 s), (g.own, g.means, refl), rw g.whole (append_assoc g.before g.own us)))
good_on y Role.close_paren h x s ts q g p = rw h (go (and_then (settle 17 x s) close_parens) refl p)
  where
    go : (o : Option State) → and_then (settle 17 x s) close_parens ≡ o → or_else o (void_call x s) ≡ some q → Good q (ts ++ (symbol right_paren ∷ []))
    go none i j = void_call_at x s ts q g j
    go (some z) i j =
        let c : Settling 17 s ts close_parens z = settling 17 x s ts close_parens z (omega arith) g i in
        is_state z q (ts ++ (symbol right_paren ∷ [])) j (close_parens_at c.s' c.e' c.m ts z c.stands c.result)
good_on y Role.open_bracket h x s ts q g p =
    let us : List Token = symbol left_bracket ∷ [] in
    rw h (is_state (want (within (index x) ∷ s)) q (ts ++ us) p
    (g.before, g.own ++ us, g.opened, omega (arith, room_3 s), (g.own, g.means, refl), rw g.whole (append_assoc g.before g.own us)))
good_on y Role.close_bracket h x s ts q g p =
    let c : Settling 17 s ts (close_subscript (leb (strength s 2) 15)) q = settling 17 x s ts (close_subscript (leb (strength s 2) 15)) q (omega arith) g p in
    rw h (close_subscript_at c.s' c.e' c.m (strength s 2) ts q c.stands c.strong c.result)
good_on y Role.dot h x s ts q g p =
    let v : (a : Expr) × (as_expr x ≡ some a) × (◌≡◌ {A = Option State} (some (field a s)) (some q)) = then_some (as_expr x) (λ a. some (field a s)) q p in
    rw h (is_state (field v.0 s) q (ts ++ (symbol dot ∷ [])) v.2
    (record {
      x = x;
      value = v.1;
      before = g.before;
      own = g.own;
      opened = g.opened;
      means = g.means;
      whole = rw g.whole (append_assoc g.before g.own (symbol dot ∷ []));
    }))
good_on y Role.nothing h x s ts q g p = no_some p

-- where an operand is wanted
good_begin : (y : Symbol) (r : Start) → StartOf y r → (s : Stack) (ts : List Token) (q : State) → Open s ts → begin r s ≡ some q → Good q (ts ++ (symbol y ∷ []))
unfolding begin makes gives
good_begin y (Start.unary u) h s ts q o p =
    rw h (is_state (want (behind (Operator.unary u) ∷ s)) q (ts ++ (symbol (unary_symbol u) ∷ [])) p (ts, symbol (unary_symbol u) ∷ [], o, room_3 s, refl, refl))
good_begin y Start.open_paren h s ts q o p =
    rw h (is_state (want (within parens ∷ s)) q (ts ++ (symbol left_paren ∷ [])) p (ts, symbol left_paren ∷ [], o, omega (arith, room_3 s), refl, refl))
good_begin y Start.close_paren h s ts q o p = rw h (empty_call_at s ts [] ts q o d-no_args (sym (append-nil ts)) p)
good_begin y Start.close_bracket h s ts q o p = rw h (empty_subscript_at s ts q o p)
good_begin y Start.nothing h s ts q o p = no_some p

good_take : (c : Option Expr) (t : Token) → constant t ≡ c → (s : Stack) (ts : List Token) (q : State) → Open s ts → take c t s ≡ some q → Good q (ts ++ (t ∷ []))
unfolding take head_token
good_take (some e) t i s ts q o p =
    is_state (have (val e) s) q (ts ++ (t ∷ [])) p (record { before = ts; own = t ∷ []; opened = o; means = d-const t e i; bare = tt; whole = refl })
good_take none (name n) i s ts q o p =
    is_state (have (typed (named n) no_dimensions) s) q (ts ++ (name n ∷ [])) p
    (record { before = ts; own = name n ∷ []; opened = o; means = d-head (named n); bare = refl; whole = refl })
good_take none (Token.type v) i s ts q o p =
    is_state (have (typed (keyword v) no_dimensions) s) q (ts ++ (Token.type v ∷ [])) p
    (record { before = ts; own = Token.type v ∷ []; opened = o; means = d-head (keyword v); bare = refl; whole = refl })
good_take none (int n) i s ts q o p = no_some p
good_take none (uint n) i s ts q o p = no_some p
good_take none (float t) i s ts q o p = no_some p
good_take none (double t) i s ts q o p = no_some p
good_take none (word w) i s ts q o p = no_some p
good_take none (symbol y) i s ts q o p = good_begin y (start y) (start_of y) s ts q o p

good_step : (r : State) (t : Token) (ts : List Token) (q : State) → Good r ts → step r t ≡ some q → Good q (ts ++ (t ∷ []))
unfolding step
good_step (want s) t ts q g p = good_take (constant t) t refl s ts q g p
good_step (have x s) (name n) ts q g p = no_some p
good_step (have x s) (Token.type v) ts q g p = no_some p
good_step (have x s) (int n) ts q g p = no_some p
good_step (have x s) (uint n) ts q g p = no_some p
good_step (have x s) (float t) ts q g p = no_some p
good_step (have x s) (double t) ts q g p = no_some p
good_step (have x s) (word w) ts q g p = no_some p
good_step (have x s) (symbol y) ts q g p = good_on y (role y) (role_of y) x s ts q g p
good_step (field e s) (name n) ts q g p = is_state (have (val (Dot n e)) s) q (ts ++ (name n ∷ [])) p
    (record {
      before = g.before;
      own = g.own ++ (symbol dot ∷ name n ∷ []);
      opened = g.opened;
      means = d-dot g.means g.value n;
      bare = tt;
      whole = rw g.whole (simp append_assoc);
    })
good_step (field e s) (Token.type v) ts q g p = no_some p
good_step (field e s) (int n) ts q g p = no_some p
good_step (field e s) (uint n) ts q g p = no_some p
good_step (field e s) (float t) ts q g p = no_some p
good_step (field e s) (double t) ts q g p = no_some p
good_step (field e s) (word w) ts q g p = no_some p
good_step (field e s) (symbol y) ts q g p = no_some p

pub good_run : (us ts : List Token) (p q : State) → Good p ts → run p us ≡ some q → Good q (ts ++ us)
unfolding run
good_run [] ts p q g e = rw (append-nil ts) (is_state p q ts e g)
good_run (u ∷ us) ts p q g e = go (step p u) refl (λ r h i. good_run us (ts ++ (u ∷ [])) r q h i)
  where
    go : (o : Option State) → step p u ≡ o → ((r : State) → Good r (ts ++ (u ∷ [])) → run r us ≡ some q → Good q ((ts ++ (u ∷ [])) ++ us)) → Good q (ts ++ (u ∷ us))
    go none i k = no_some (rw (i, run) at e)
    go (some r) i k = let z : run r us ≡ some q = rw (i, run) at e in rw append_assoc at (k r (good_step p u ts r g i) z)

finished : (s : Stack) (a e : Expr) (m : ℕ) (ts : List Token) → Standing 17 m a s ts → finish (reduced a s) ≡ some e → D (up 17) ts (n_e e)
unfolding finish
finished [] a e m ts r p = let z : a ≡ e = cc in let w : ts ≡ r.own = r.whole ∙ rw r.opened in rw (w, ← z) (d-up r.low r.means)
finished (f ∷ s) a e m ts r p = no_some p

good_end : (q : State) (ts : List Token) (e : Expr) → Good q ts → ended q ≡ some e → D (up 17) ts (n_e e)
unfolding ended
good_end (want s) ts e g p = no_some p
good_end (have x s) ts e g p = let c : Settling 17 s ts finish e = settling 17 x s ts finish e (omega arith) g p in finished c.s' c.e' e c.m ts c.stands c.result
good_end (field a s) ts e g p = no_some p

-- the reader answers with readings only
pub faithful : (ts : List Token) (e : Expr) → read ts ≡ some e → D (up 17) ts (n_e e)
unfolding read
faithful ts e p =
    let v : (q : State) × (run (want []) ts ≡ some q) × (ended q ≡ some e) = then_some (run (want []) ts) ended e p in
    good_end v.0 ts e (good_run ts [] (want []) v.0 refl v.1) v.2
