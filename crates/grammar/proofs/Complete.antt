-- The reader answers every derivation of the settled grammar with its expression, so that a token list has one reading at most. Assumes nothing.
use native.Mathlib.Omega.{arith}
use mathlib.Core.Path.{◌≡◌, refl, ◌∙◌, ap}
use mathlib.Core.Logic.{◌≢◌}
use mathlib.Core.List.{List, [], ◌∷◌, ◌++◌, append_assoc, append-nil}
use mathlib.Core.Option.{Option, none, some}
use lib.Dec.{leb}
use borrow.Author.Tests.{le-leb, lt-leb}
use Prim.Native.Nat.{ℕ, suc, ◌≤◌, ◌<◌}
use Rattle.words.specs.Symbol.{Symbol}
use Rattle.words.specs.Symbol.Symbol.{left_paren, right_paren, left_bracket, right_bracket, dot, comma, question, colon}
use Rattle.text.specs.Token.{Token}
use Rattle.text.specs.Token.Token.{name, symbol}
use Rattle.text.specs.Tree.{Identifier, UnaryOp, BinaryOp, AssignmentOp, Expr, Exprs, ArraySpecifier}
use Rattle.text.specs.Tree.Expr.{Unary, Binary, Ternary, Assignment, Bracket, Dot, Comma}
use Rattle.text.specs.Tree.Exprs.{no_exprs}
use Rattle.text.specs.Tree.ArraySpecifier.{no_dimensions}
use Rattle.text.specs.Tree.ArraySpecifierDimension.{Unsized, ExplicitlySized}
use Rattle.text.specs.Operator.{unary_symbol, binary_symbol, assignment_symbol}
use Rattle.grammar.specs.Chapter9.{void}
use Rattle.grammar.specs.Last.{last_expr, last_dimension}
use Rattle.grammar.specs.Strength.{under}
use Rattle.grammar.proofs.Settled.{Head, head_token, Operand, as_expr, called, constant, PostfixOp, postfix_symbol, posted, NT, Node, D}
use Rattle.grammar.proofs.Settled.Head.{named, keyword}
use Rattle.grammar.proofs.Settled.Operand.{val, typed}
use Rattle.grammar.proofs.Settled.NT.{ex, up, operand, args, args1}
use Rattle.grammar.proofs.Settled.Node.{n_e, n_o, n_a}
use Rattle.grammar.proofs.Settled.D.{d-up, d-head, d-const, d-paren, d-empty, d-length, d-wide, d-idx, d-dot, d-post, d-call, d-no_args, d-void, d-args, d-arg, d-more, d-operand, d-un, d-bin, d-tern, d-asg, d-com}
use Rattle.grammar.proofs.Ladder.{ladder}
use Rattle.grammar.proofs.Roles.{start, role, unary_starts, postfix_role, binary_role, assignment_role}
use Rattle.grammar.proofs.Reader.{Operator, Enclosure, Frame, Stack, filled, gives, makes, subscript_room, frame_room, room, reduced, reduce, strength, State, settle, put, put_else, put_comma_operator, put_comma, close_parens, subscript, close_subscript, empty_subscript, empty_call, void_call, begin, go_on, take, step, run, finish, ended, read}
use Rattle.grammar.proofs.Reader.Enclosure.{choice, parens, index, call}
use Rattle.grammar.proofs.Reader.Frame.{behind, within}
use Rattle.grammar.proofs.Reader.State.{want, have, field}

-- one step
ran : (q r : State) (t : Token) (ts : List Token) → step q t ≡ some r → run q (t ∷ ts) ≡ run r ts
unfolding run
ran q r t ts e = rw (e, run)

-- an operator is filled in where the strength reaches it
pub fills : (k : ℕ) (e : Expr) (o : Operator) (s : Stack) → gives o ≤ k → reduce k e (behind o ∷ s) ≡ reduce k (filled o e) s
unfolding reduce
fills k e o s h = rw (reduce, le-leb (gives o) k h)

-- it is left alone where it is weaker than what comes
keeps : (k n : ℕ) (e : Expr) (s : Stack) → k ≤ n → k ≢ 15 → k ≢ 16 → 3 < n → n ≤ room s → reduce k e s ≡ reduced e s
unfolding reduce gives room frame_room
keeps k n e [] a b c d h = refl
keeps k n e (behind (Operator.unary u) ∷ s) a b c d h = absurd (omega arith)
keeps k n e (behind (Operator.binary o x) ∷ s) a b c d h = rw (lt-leb (suc (under o)) k (omega arith))
keeps k n e (behind (Operator.ternary x y) ∷ s) a b c d h = rw (lt-leb 15 k (omega arith))
keeps k n e (behind (Operator.assignment o x) ∷ s) a b c d h = rw (lt-leb 16 k (omega arith))
keeps k n e (behind (Operator.comma x) ∷ s) a b c d h = rw (lt-leb 17 k (omega arith))
keeps k n e (within b' ∷ s) a b c d h = refl

-- an operator's last operand is no weaker than its whole, but for a condition's, and no settling is of such a strength
operand_fits : (o : Operator) (k : ℕ) → gives o ≤ k → k ≢ 15 → k ≢ 16 → frame_room (behind o) ≤ k
unfolding gives frame_room
operand_fits (Operator.unary u) k h i j = h
operand_fits (Operator.binary o x) k h i j = omega arith
operand_fits (Operator.ternary x y) k h i j = omega arith
operand_fits (Operator.assignment o x) k h i j = omega arith
operand_fits (Operator.comma x) k h i j = omega arith

-- an expression of strength n, read over the stack s, up to `rest`: whatever settles it next sees the expression alone
record Read (n : ℕ) (s : Stack) (e : Expr) (from rest : List Token) : Type 0 where
  x : Operand
  s' : Stack
  runs : run (want s) from ≡ run (have x s') rest
  settles : (k : ℕ) → n ≤ k → k ≢ 15 → k ≢ 16 → settle k x s' ≡ some (reduce k e s)
  strong : strength s' 2 ≡ strength s n

abbrev Exact : ℕ → List Token → Expr → Type 0
Exact n ts e = (s : Stack) (rest : List Token) → n ≤ room s → Read n s e (ts ++ rest) rest

abbrev Up : ℕ → List Token → Expr → Type 0
Up n ts e = (m : ℕ) × (m ≤ n) × Exact m ts e

abbrev Whole : List Token → Operand → Type 0
Whole ts x = (s : Stack) (rest : List Token) → run (want s) (ts ++ rest) ≡ run (have x s) rest

-- an operator and its last operand
of_operator : (o : Operator) (us from : List Token) (b : Expr) (s : Stack) (rest : List Token) → Up (frame_room (behind o)) us b
    → run (want s) from ≡ run (want (behind o ∷ s)) (us ++ rest)
    → Read (gives o) s (filled o b) from rest
unfolding room strength
of_operator o us from b s rest h before =
    let r : Read h.0 (behind o ∷ s) b (us ++ rest) rest = h.2 (behind o ∷ s) rest h.1 in
    record {
      x = r.x;
      s' = r.s';
      runs = before ∙ r.runs;
      settles = λ k hk i j. let z : frame_room (behind o) ≤ k = operand_fits o k hk i j in r.settles k (omega (arith, h.1)) i j ∙ ap some (fills k b o s hk);
      strong = r.strong;
    }

of_un : (u : UnaryOp) (ts : List Token) (e : Expr) → Up 3 ts e → Exact 3 (symbol (unary_symbol u) ∷ ts) (Unary u e)
unfolding frame_room gives filled step take constant begin
of_un u ts e g s rest fit =
    of_operator (Operator.unary u) ts (symbol (unary_symbol u) ∷ (ts ++ rest)) e s rest g
    (ran (want s) (want (behind (Operator.unary u) ∷ s)) (symbol (unary_symbol u)) (ts ++ rest) (rw unary_starts))

-- an operand, settled at k, and a frame that begins with it
of_put : (f : Expr → Frame) (y : Symbol) (k m : ℕ) (ts us : List Token) (a : Expr) (s : Stack) → Exact m ts a → m ≤ k → k ≤ makes (f a) → k ≢ 15 → k ≢ 16 → 3 < makes (f a)
    → makes (f a) ≤ room s
    → ((x : Operand) (s' : Stack) → settle k x s' ≡ some (reduced a s) → step (have x s') (symbol y) ≡ put f (reduced a s))
    → run (want s) (ts ++ (symbol y ∷ us)) ≡ run (want (f a ∷ s)) us
unfolding put
of_put f y k m ts us a s g l h i j lo fit steps =
    let r : Read m s a (ts ++ (symbol y ∷ us)) (symbol y ∷ us) = g s (symbol y ∷ us) (omega arith) in
    r.runs ∙ ran (have r.x r.s') (want (f a ∷ s)) (symbol y) us
    (rw (steps r.x r.s' (r.settles k l i j ∙ ap some (keeps k (makes (f a)) a s h i j lo fit)), put, le-leb (makes (f a)) (room s) fit))

-- an operator between two operands
of_infix : (f : Expr → Operator) (y : Symbol) (k : ℕ) (ts us : List Token) (a b : Expr) (s : Stack) (rest : List Token) → Up k ts a → Up (frame_room (behind (f a))) us b
    → k ≤ gives (f a) → k ≢ 15 → k ≢ 16 → 3 < gives (f a) → gives (f a) ≤ room s
    → ((x : Operand) (s' : Stack) → settle k x s' ≡ some (reduced a s) → step (have x s') (symbol y) ≡ put (λ e. behind (f e)) (reduced a s))
    → Read (gives (f a)) s (filled (f a) b) ((ts ++ (symbol y ∷ us)) ++ rest) rest
unfolding makes
of_infix f y k ts us a b s rest g h l i j lo fit steps =
    of_operator (f a) us ((ts ++ (symbol y ∷ us)) ++ rest) b s rest h
    (rw (append_assoc ts) (of_put (λ e. behind (f e)) y k g.0 ts (us ++ rest) a s g.2 g.1 l i j lo fit steps))

of_bin : (o : BinaryOp) (ts us : List Token) (a b : Expr) → Up (suc (under o)) ts a → Up (under o) us b
    → Exact (suc (under o)) (ts ++ (symbol (binary_symbol o) ∷ us)) (Binary o a b)
unfolding gives frame_room filled step go_on
of_bin o ts us a b g h s rest fit =
    let l : (3 ≤ under o) × (under o ≤ 13) = ladder o in
    of_infix (λ e. Operator.binary o e) (binary_symbol o) (suc (under o)) ts us a b s rest g h
    (omega arith) (omega arith) (omega arith) (omega arith) fit (λ x s' q. rw (binary_role, q))

of_asg : (o : AssignmentOp) (ts us : List Token) (a b : Expr) → Up 3 ts a → Up 16 us b → Exact 16 (ts ++ (symbol (assignment_symbol o) ∷ us)) (Assignment o a b)
unfolding gives frame_room filled step go_on
of_asg o ts us a b g h s rest fit =
    of_infix (λ e. Operator.assignment o e) (assignment_symbol o) 3 ts us a b s rest g h
    (omega arith) (omega arith) (omega arith) (omega arith) fit (λ x s' q. rw (assignment_role, q))

-- in a call's parentheses there is no room for a comma operator
comma_put : (a : Expr) (s : Stack) → 17 ≤ room s → put_comma (reduced a s) ≡ put_comma_operator (reduced a s)
unfolding room frame_room put_comma
comma_put a [] h = refl
comma_put a (behind o ∷ s) h = refl
comma_put a (within (choice c) ∷ s) h = refl
comma_put a (within parens ∷ s) h = refl
comma_put a (within (index x) ∷ s) h = refl
comma_put a (within (call x es) ∷ s) h = absurd (omega arith)

of_com : (ts us : List Token) (a b : Expr) → Up 17 ts a → Up 16 us b → Exact 17 (ts ++ (symbol comma ∷ us)) (Comma a b)
unfolding gives frame_room filled step go_on role
of_com ts us a b g h s rest fit =
    of_infix (λ e. Operator.comma e) comma 17 ts us a b s rest g h (omega arith) (omega arith) (omega arith) (omega arith) fit (λ x s' q. rw (q, comma_put a s fit))

-- what stands between brackets
of_inside : (b : Enclosure) (t : Token) (m : ℕ) (us : List Token) (e : Expr) (s : Stack) (rest : List Token) (q : State) → m ≤ frame_room (within b) → m ≤ 17 → Exact m us e
    → ((x : Operand) (s' : Stack) → settle 17 x s' ≡ some (reduced e (within b ∷ s)) → strength s' 2 ≡ m → step (have x s') t ≡ some q)
    → run (want (within b ∷ s)) (us ++ (t ∷ rest)) ≡ run q rest
unfolding room strength reduce
of_inside b t m us e s rest q h h17 g steps =
    let r : Read m (within b ∷ s) e (us ++ (t ∷ rest)) (t ∷ rest) = g (within b ∷ s) (t ∷ rest) h in
    r.runs ∙ ran (have r.x r.s') q t rest (steps r.x r.s' (r.settles 17 h17 (omega arith) (omega arith)) r.strong)

of_tern : (ts us vs : List Token) (c a b : Expr) → Up 14 ts c → Up 17 us a → Up 16 vs b → Exact 15 (ts ++ (symbol question ∷ (us ++ (symbol colon ∷ vs)))) (Ternary c a b)
unfolding gives frame_room filled makes step go_on role put_else
of_tern ts us vs c a b g h i s rest fit =
    of_operator (Operator.ternary c a) vs ((ts ++ (symbol question ∷ (us ++ (symbol colon ∷ vs)))) ++ rest) b s rest i
    (rw (append_assoc ts, append_assoc us)
    (of_put (λ e. within (choice e)) question 14 g.0 ts (us ++ (symbol colon ∷ (vs ++ rest))) c s g.2 g.1
    (omega arith) (omega arith) (omega arith) (omega arith) fit (λ x s' q. rw q)
    ∙ of_inside (choice c) (symbol colon) h.0 us a s (vs ++ rest) (want (behind (Operator.ternary c a) ∷ s)) h.1 h.1 h.2 (λ x s' q n. rw q)))

-- operands
of_operand : (ts : List Token) (x : Operand) (a : Expr) → as_expr x ≡ some a → Whole ts x → Exact 2 ts a
unfolding settle
of_operand ts x a e g s rest fit = record { x = x; s' = s; runs = g s rest; settles = λ k h i j. rw e; strong = refl }

of_head : (h : Head) → Whole (head_token h ∷ []) (typed h no_dimensions)
unfolding head_token step take constant
of_head (named n) s rest = ran (want s) (have (typed (named n) no_dimensions) s) (name n) rest refl
of_head (keyword v) s rest = ran (want s) (have (typed (keyword v) no_dimensions) s) (Token.type v) rest refl

of_const : (t : Token) (e : Expr) → constant t ≡ some e → Whole (t ∷ []) (val e)
unfolding step take
of_const t e q s rest = ran (want s) (have (val e) s) t rest (rw q)

of_paren : (ts : List Token) (e : Expr) → Up 17 ts e → Whole (symbol left_paren ∷ (ts ++ (symbol right_paren ∷ []))) (val e)
unfolding frame_room step take constant begin start go_on role close_parens
of_paren ts e g s rest =
    rw (append_assoc ts) (ran (want s) (want (within parens ∷ s)) (symbol left_paren) (ts ++ (symbol right_paren ∷ rest)) refl
    ∙ of_inside parens (symbol right_paren) g.0 ts e s rest (have (val e) s) g.1 g.1 g.2 (λ x s' q n. rw q))

of_empty : (ts : List Token) (h : Head) (ds : ArraySpecifier) → Whole ts (typed h ds)
    → Whole (ts ++ (symbol left_bracket ∷ symbol right_bracket ∷ [])) (typed h (last_dimension ds Unsized))
unfolding step go_on role take constant begin start empty_subscript
of_empty ts h ds g s rest =
    rw (append_assoc ts) (g s (symbol left_bracket ∷ symbol right_bracket ∷ rest)
    ∙ ran (have (typed h ds) s) (want (within (index (typed h ds)) ∷ s)) (symbol left_bracket) (symbol right_bracket ∷ rest) refl
    ∙ ran (want (within (index (typed h ds)) ∷ s)) (have (typed h (last_dimension ds Unsized)) s) (symbol right_bracket) rest refl)

pub subscript_room_15 : (o : Option Expr) → 15 ≤ subscript_room o
unfolding subscript_room
subscript_room_15 none = omega arith
subscript_room_15 (some a) = omega arith

-- an index or a sized dimension, by the strength of what stands in the brackets
of_subscript : (ts us : List Token) (x y : Operand) (m : ℕ) (e : Expr) → m ≤ subscript_room (as_expr x) → m ≤ 17 → ((s : Stack) → subscript (leb m 15) x e s ≡ some (have y s))
    → Whole ts x → Exact m us e
    → Whole (ts ++ (symbol left_bracket ∷ (us ++ (symbol right_bracket ∷ [])))) y
unfolding frame_room step go_on role close_subscript
of_subscript ts us x y m e l l17 sub g h s rest =
    rw (append_assoc ts, append_assoc us) (g s (symbol left_bracket ∷ (us ++ (symbol right_bracket ∷ rest)))
    ∙ ran (have x s) (want (within (index x) ∷ s)) (symbol left_bracket) (us ++ (symbol right_bracket ∷ rest)) refl
    ∙ of_inside (index x) (symbol right_bracket) m us e s rest (have y s) l l17 h (λ z s' q n. rw (q, n) (sub s)))

of_length : (ts us : List Token) (h : Head) (ds : ArraySpecifier) (e : Expr) → Whole ts (typed h ds) → Up 15 us e
    → Whole (ts ++ (symbol left_bracket ∷ (us ++ (symbol right_bracket ∷ [])))) (typed h (last_dimension ds (ExplicitlySized e)))
unfolding subscript
of_length ts us h ds e g d =
    of_subscript ts us (typed h ds) (typed h (last_dimension ds (ExplicitlySized e))) d.0 e
    (omega (arith, d.1, subscript_room_15 (as_expr (typed h ds)))) (omega (arith, d.1)) (λ s. rw (le-leb d.0 15 d.1)) g d.2

of_wide : (ts us : List Token) (h : Head) (ds : ArraySpecifier) (a e : Expr) (k : ℕ) → Whole ts (typed h ds) → as_expr (typed h ds) ≡ some a → 15 < k → k ≤ 17 → Exact k us e
    → Whole (ts ++ (symbol left_bracket ∷ (us ++ (symbol right_bracket ∷ [])))) (val (Bracket a e))
unfolding subscript subscript_room
of_wide ts us h ds a e k g i lo hi d = of_subscript ts us (typed h ds) (val (Bracket a e)) k e (rw i hi) hi (λ s. rw (lt-leb k 15 lo, i)) g d

of_index : (ts us : List Token) (a e : Expr) → Whole ts (val a) → Up 17 us e → Whole (ts ++ (symbol left_bracket ∷ (us ++ (symbol right_bracket ∷ [])))) (val (Bracket a e))
unfolding as_expr subscript_room subscript
of_index ts us a e g h = of_subscript ts us (val a) (val (Bracket a e)) h.0 e h.1 h.1 (λ s. refl) g h.2

of_dot : (ts : List Token) (x : Operand) (a : Expr) (n : Identifier) → as_expr x ≡ some a → Whole ts x → Whole (ts ++ (symbol dot ∷ name n ∷ [])) (val (Dot n a))
unfolding step go_on role
of_dot ts x a n e g s rest =
    rw (append_assoc ts) (g s (symbol dot ∷ name n ∷ rest)
    ∙ ran (have x s) (field a s) (symbol dot) (name n ∷ rest) (rw e)
    ∙ ran (field a s) (have (val (Dot n a)) s) (name n) rest refl)

of_post : (ts : List Token) (x : Operand) (a : Expr) (p : PostfixOp) → as_expr x ≡ some a → Whole ts x → Whole (ts ++ (symbol (postfix_symbol p) ∷ [])) (val (posted p a))
unfolding step go_on
of_post ts x a p e g s rest =
    rw (append_assoc ts) (g s (symbol (postfix_symbol p) ∷ rest)
    ∙ ran (have x s) (have (val (posted p a)) s) (symbol (postfix_symbol p)) rest (rw (postfix_role, e)))

-- arguments, up to the parenthesis that closes them
abbrev Listed : List Token → Exprs → Type 0
Listed us es = (x : Operand) (s : Stack) (rest : List Token) → run (want (within (call x no_exprs) ∷ s)) (us ++ (symbol right_paren ∷ rest)) ≡ run (have (val (called x es)) s) rest

-- one or more arguments, up to the token behind the last
record Arguments (us : List Token) (es : Exprs) : Type 0 where
  before : Exprs
  last : Expr
  all : es ≡ last_expr before last
  runs : (x : Operand) (s : Stack) (rest : List Token) (t : Token) (q : State)
      → ((y : Operand) (s' : Stack) → settle 17 y s' ≡ some (reduced last (within (call x before) ∷ s)) → step (have y s') t ≡ some q)
      → run (want (within (call x no_exprs) ∷ s)) (us ++ (t ∷ rest)) ≡ run q rest

of_call : (ts us : List Token) (x : Operand) (es : Exprs) → Whole ts x → Listed us es → Whole (ts ++ (symbol left_paren ∷ (us ++ (symbol right_paren ∷ [])))) (val (called x es))
unfolding step go_on role
of_call ts us x es g h s rest =
    rw (append_assoc ts, append_assoc us) (g s (symbol left_paren ∷ (us ++ (symbol right_paren ∷ rest)))
    ∙ ran (have x s) (want (within (call x no_exprs) ∷ s)) (symbol left_paren) (us ++ (symbol right_paren ∷ rest)) refl
    ∙ h x s rest)

of_no_args : Listed [] no_exprs
unfolding step take constant begin start empty_call
of_no_args x s rest = ran (want (within (call x no_exprs) ∷ s)) (have (val (called x no_exprs)) s) (symbol right_paren) rest refl

of_void : Listed (void ∷ []) no_exprs
unfolding step take constant go_on role settle as_expr void_call empty_call
of_void x s rest =
    ran (want (within (call x no_exprs) ∷ s)) (have (typed (keyword 0) no_dimensions) (within (call x no_exprs) ∷ s)) void (symbol right_paren ∷ rest) refl
    ∙ ran (have (typed (keyword 0) no_dimensions) (within (call x no_exprs) ∷ s)) (have (val (called x no_exprs)) s) (symbol right_paren) rest refl

of_args : (us : List Token) (es : Exprs) → Arguments us es → Listed us es
unfolding step go_on role close_parens
of_args us es g x s rest = g.runs x s rest (symbol right_paren) (have (val (called x es)) s) (λ y s' q. rw (q, g.all))

of_arg : (us : List Token) (e : Expr) → Up 16 us e → Arguments us (last_expr no_exprs e)
unfolding frame_room
of_arg us e g = record {
  before = no_exprs;
  last = e;
  all = refl;
  runs = λ x s rest t q steps. of_inside (call x no_exprs) t g.0 us e s rest q g.1 (omega (arith, g.1)) g.2 (λ y s' i n. steps y s' i);
}

of_more : (us vs : List Token) (es : Exprs) (e : Expr) → Arguments us es → Up 16 vs e → Arguments (us ++ (symbol comma ∷ vs)) (last_expr es e)
unfolding frame_room step go_on role put_comma
of_more us vs es e g h = record {
  before = es;
  last = e;
  all = refl;
  runs = λ x s rest t q steps.
      rw (append_assoc us) (g.runs x s (vs ++ (t ∷ rest)) (symbol comma) (want (within (call x es) ∷ s)) (λ y s' i. rw (i, g.all))
      ∙ of_inside (call x es) t h.0 vs e s rest q h.1 (omega (arith, h.1)) h.2 (λ y s' i n. steps y s' i));
}

-- all of them
abbrev Shows : NT → List Token → Node → Type 0
Shows (ex n) ts (n_e e) = Exact n ts e
Shows (ex n) ts (n_o x) = Unit
Shows (ex n) ts (n_a es) = Unit
Shows (up n) ts (n_e e) = Up n ts e
Shows (up n) ts (n_o x) = Unit
Shows (up n) ts (n_a es) = Unit
Shows operand ts (n_e e) = Unit
Shows operand ts (n_o x) = Whole ts x
Shows operand ts (n_a es) = Unit
Shows args ts (n_e e) = Unit
Shows args ts (n_o x) = Unit
Shows args ts (n_a es) = Listed ts es
Shows args1 ts (n_e e) = Unit
Shows args1 ts (n_o x) = Unit
Shows args1 ts (n_a es) = Arguments ts es

complete : {nt : NT} {ts : List Token} {n : Node} → D nt ts n → Shows nt ts n
complete (d-up {m = m} h d) = (m, h, complete d)
complete (d-head h) = of_head h
complete (d-const t e q) = of_const t e q
complete (d-paren {ts = ts} d) = of_paren ts _ (complete d)
complete (d-empty {ts = ts} d) = of_empty ts _ _ (complete d)
complete (d-length {ts = ts} {us = us} d e) = of_length ts us _ _ _ (complete d) (complete e)
complete (d-wide {ts = ts} {us = us} d q lo hi e) = of_wide ts us _ _ _ _ _ (complete d) q lo hi (complete e)
complete (d-idx {ts = ts} {us = us} d e) = of_index ts us _ _ (complete d) (complete e)
complete (d-dot {ts = ts} {x = x} {a = a} d q n) = of_dot ts x a n q (complete d)
complete (d-post {ts = ts} {x = x} {a = a} d q p) = of_post ts x a p q (complete d)
complete (d-call {ts = ts} {us = us} {x = x} {es = es} d e) = of_call ts us x es (complete d) (complete e)
complete d-no_args = of_no_args
complete d-void = of_void
complete (d-args {us = us} {es = es} d) = of_args us es (complete d)
complete (d-arg {us = us} d) = of_arg us _ (complete d)
complete (d-more {us = us} {vs = vs} {es = es} {e = e} d f) = of_more us vs es e (complete d) (complete f)
complete (d-operand {ts = ts} {x = x} {a = a} d q) = of_operand ts x a q (complete d)
complete (d-un {ts = ts} u d) = of_un u ts _ (complete d)
complete (d-bin {ts = ts} {us = us} o d e) = of_bin o ts us _ _ (complete d) (complete e)
complete (d-tern {ts = ts} {us = us} {vs = vs} c d e) = of_tern ts us vs _ _ _ (complete c) (complete d) (complete e)
complete (d-asg {ts = ts} {us = us} o d e) = of_asg o ts us _ _ (complete d) (complete e)
complete (d-com {ts = ts} {us = us} d e) = of_com ts us _ _ (complete d) (complete e)

-- the reader finds every reading, so that there is one at most
pub reads : (ts : List Token) (e : Expr) → D (up 17) ts (n_e e) → read ts ≡ some e
unfolding read ended room run reduce finish
reads ts e d =
    let g : Up 17 ts e = complete d in
    let r : Read g.0 [] e (ts ++ []) [] = g.2 [] [] g.1 in
    let q : run (want []) ts ≡ some (have r.x r.s') = rw append-nil at r.runs in
    rw q (rw (r.settles 17 g.1 (omega arith) (omega arith)))

pub unambiguous : (ts : List Token) (a b : Expr) → D (up 17) ts (n_e a) → D (up 17) ts (n_e b) → a ≡ b
unambiguous ts a b d e = let p : read ts ≡ some a = reads ts a d in let q : read ts ≡ some b = reads ts b e in cc
