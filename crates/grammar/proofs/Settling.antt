-- What chapter 9 derives, the settled grammar reads, as the same expression. Assumes nothing.
use Prim.Native.Nat.{ℕ, suc, ◌≤◌, ◌<◌}
use native.Mathlib.Omega.{arith}
use mathlib.Core.Path.{◌≡◌, refl, sym, ◌∙◌, ap}
use mathlib.Core.Bool.{Bool, true, false}
use mathlib.Core.List.{List, [], ◌∷◌, ◌++◌, append_assoc, append-nil}
use mathlib.Core.Option.{some}
use lib.Dec.{leb}
use borrow.Author.Tests.{leb-true, leb-false}
use Rattle.words.specs.Symbol.Symbol.{left_paren, right_paren, left_bracket, right_bracket, dot, comma, colon, question}
use Rattle.text.specs.Token.{Token}
use Rattle.text.specs.Token.Token.{name, symbol}
use Rattle.text.specs.Tree.{Identifier, UnaryOp, BinaryOp, AssignmentOp, Expr, Exprs, FunIdentifier, TypeSpecifier, TypeSpecifierNonArray, ArraySpecifier}
use Rattle.text.specs.Tree.Expr.{Variable, Unary, Binary, Ternary, Assignment, Bracket, FunCall, Dot, PostInc, PostDec, Comma}
use Rattle.text.specs.Tree.Exprs.{no_exprs}
use Rattle.text.specs.Tree.FunIdentifier.{OfExpr}
use Rattle.text.specs.Tree.ArraySpecifier.{no_dimensions}
use Rattle.text.specs.Tree.ArraySpecifierDimension.{Unsized, ExplicitlySized}
use Rattle.text.specs.Operator.{unary_symbol, binary_symbol, assignment_symbol, binary_op}
use Rattle.grammar.specs.Last.{last_expr, last_dimension}
use Rattle.grammar.specs.Strength.{under}
use Rattle.grammar.specs.Same.{Same, as_read, exprs_as_read, callee_as_read, type_as_read, array_as_read, dimension_as_read, type_callee, indexed_callee}
use Rattle.grammar.specs.Chapter9.{Nonterminal, Value, Derives, void}
use Rattle.grammar.specs.Chapter9.Nonterminal.{variable_identifier, primary_expression, postfix_expression, integer_expression, function_call, function_call_or_method, function_call_generic, function_call_header_no_parameters, function_call_header_with_parameters, function_call_header, function_identifier, unary_expression, unary_operator, multiplicative_expression, additive_expression, shift_expression, relational_expression, equality_expression, and_expression, exclusive_or_expression, inclusive_or_expression, logical_and_expression, logical_xor_expression, logical_or_expression, conditional_expression, assignment_expression, assignment_operator, expression, type_specifier, array_specifier, type_specifier_nonarray}
use Rattle.grammar.specs.Chapter9.Value.{expr, prefix, assign, callee, header, call, type, base, array}
use Rattle.grammar.specs.Chapter9.Derives.{variable-identifier, primary-variable, primary-int, primary-uint, primary-float, primary-bool, primary-double, primary-parens, postfix-primary, postfix-index, postfix-call, postfix-field, postfix-inc, postfix-dec, integer-expression, call-or_method, method-generic, generic-with, generic-no, no-void, no-header, with-first, with-next, header-identifier, identifier-type, identifier-postfix, unary-postfix, unary-inc, unary-dec, unary-operator, unary_operator-plus, unary_operator-dash, unary_operator-bang, unary_operator-tilde, multiplicative-unary, multiplicative-star, multiplicative-slash, multiplicative-percent, additive-multiplicative, additive-plus, additive-dash, shift-additive, shift-left_op, shift-right_op, relational-shift, relational-left_angle, relational-right_angle, relational-le_op, relational-ge_op, equality-relational, equality-eq_op, equality-ne_op, and-equality, and-ampersand, exclusive_or-and, exclusive_or-caret, inclusive_or-exclusive_or, inclusive_or-vertical_bar, logical_and-inclusive_or, logical_and-and_op, logical_xor-logical_and, logical_xor-xor_op, logical_or-logical_xor, logical_or-or_op, conditional-logical_or, conditional-question, assignment-conditional, assignment-operator, assignment_operator-equal, assignment_operator-mul_assign, assignment_operator-div_assign, assignment_operator-mod_assign, assignment_operator-add_assign, assignment_operator-sub_assign, assignment_operator-left_assign, assignment_operator-right_assign, assignment_operator-and_assign, assignment_operator-xor_assign, assignment_operator-or_assign, expression-assignment, expression-comma, specifier-nonarray, specifier-array, array-open, array-sized, array-and_open, array-and_sized, nonarray-keyword, nonarray-name}
use Rattle.grammar.proofs.Ladder.{ladder}
use Rattle.grammar.proofs.Settled.{Head, named, keyword, head_token, head_base, Operand, val, typed, indexed, as_expr, called, word_constant, constant, PostfixOp, inc, dec, postfix_symbol, posted, NT, ex, up, operand, args, args1, n_e, n_o, n_a, D, d-up, d-head, d-const, d-paren, d-empty, d-length, d-wide, d-idx, d-dot, d-post, d-call, d-no_args, d-void, d-args, d-arg, d-more, d-operand, d-un, d-bin, d-tern, d-asg, d-com}
use Rattle.grammar.proofs.Dimensions.{typed_sized}
use Rattle.grammar.proofs.Callees.{and_expr_as_read, and_dimension_as_read, type_taken, typed_taken}

-- the settled grammar's nonterminal for each of chapter 9's: an expression's by its strength (an operator's plays no part)
unfoldable place : Nonterminal → NT
place variable_identifier = up 2
place primary_expression = up 2
place postfix_expression = up 2
place integer_expression = up 17
place function_call = up 2
place function_call_or_method = up 2
place function_call_generic = up 2
place function_call_header_no_parameters = args
place function_call_header_with_parameters = args1
place function_call_header = operand
place function_identifier = operand
place unary_expression = up 3
place unary_operator = up 3
place multiplicative_expression = up 4
place additive_expression = up 5
place shift_expression = up 6
place relational_expression = up 7
place equality_expression = up 8
place and_expression = up 9
place exclusive_or_expression = up 10
place inclusive_or_expression = up 11
place logical_and_expression = up 12
place logical_xor_expression = up 13
place logical_or_expression = up 14
place conditional_expression = up 15
place assignment_expression = up 16
place assignment_operator = up 16
place expression = up 17
place type_specifier = operand
place array_specifier = operand
place type_specifier_nonarray = operand

-- how tokens are read as an expression: as an operand, or by a production of its own strength
data Form : NT → List Token → Expr → Type 0 where
  small : {n : ℕ} {ts : List Token} {e : Expr} (x : Operand) → D operand ts (n_o x) → as_expr x ≡ some e → Form (up n) ts e
  large : {n : ℕ} {ts : List Token} {e : Expr} (m : ℕ) → D (ex m) ts (n_e e) → 2 < m → m ≤ n → Form (up n) ts e

-- what the settled grammar makes of tokens that chapter 9 derives as a: the same expression
record Reading (nt : NT) (ts : List Token) (a : Expr) : Type 0 where
  tree : Expr
  same : Same a tree
  form : Form nt ts tree

-- the callee that a call makes of an operand
unfoldable taken : Operand → FunIdentifier
taken (val e) = OfExpr e
taken (typed h ds) = type_callee (head_base h) ds

record Callee (ts : List Token) (f : FunIdentifier) : Type 0 where
  what : Operand
  same : callee_as_read f ≡ callee_as_read (taken what)
  form : D operand ts (n_o what)

-- tokens of a call up to its left parenthesis, and up to its last argument
record Header (ts : List Token) (f : FunIdentifier) : Type 0 where
  front : List Token
  tokens : ts ≡ front ++ (symbol left_paren ∷ [])
  function : Callee front f

record Call (nt : NT) (ts : List Token) (f : FunIdentifier) (es : Exprs) : Type 0 where
  front : List Token
  back : List Token
  tokens : ts ≡ front ++ (symbol left_paren ∷ back)
  function : Callee front f
  list : Exprs
  same : exprs_as_read es ≡ exprs_as_read list
  form : D nt back (n_a list)

-- a type can still become an expression, so that it is read as an operand
record Typed (ts : List Token) (t : TypeSpecifier) : Type 0 where
  head : Head
  behind : ArraySpecifier
  same : type_as_read t ≡ callee_as_read (type_callee (head_base head) behind)
  form : D operand ts (n_o (typed head behind))

record Base (ts : List Token) (b : TypeSpecifierNonArray) : Type 0 where
  head : Head
  tokens : ts ≡ head_token head ∷ []
  same : b ≡ head_base head

-- dimensions, behind whatever a type begins with
record Array (us : List Token) (ds : ArraySpecifier) : Type 0 where
  behind : ArraySpecifier
  same : array_as_read ds ≡ array_as_read behind
  form : (h : Head) → D operand (head_token h ∷ us) (n_o (typed h behind))

-- what is shown of each derivation, by what its tokens mean
abbrev Settles : NT → List Token → Value → Type 0
Settles nt ts (expr a) = Reading nt ts a
Settles nt ts (prefix o) = ts ≡ symbol (unary_symbol o) ∷ []
Settles nt ts (assign o) = ts ≡ symbol (assignment_symbol o) ∷ []
Settles nt ts (callee f) = Callee ts f
Settles nt ts (header f) = Header ts f
Settles nt ts (call f es) = Call nt ts f es
Settles nt ts (type t) = Typed ts t
Settles nt ts (base b) = Base ts b
Settles nt ts (array ds) = Array ts ds

-- a reading is passed on to the next weaker nonterminal
passed : {ts : List Token} {a : Expr} (n : ℕ) → Reading (up n) ts a → Reading (up (suc n)) ts a
passed {ts = ts} n r = record { tree = r.tree; same = r.same; form = higher r.tree r.form }
  where
    higher : (e : Expr) → Form (up n) ts e → Form (up (suc n)) ts e
    higher e (small x d q) = small x d q
    higher e (large m d lo hi) = large {n = suc n} m d lo (omega arith)

as_up : {n : ℕ} {ts : List Token} {e : Expr} → 2 ≤ n → Form (up n) ts e → D (up n) ts (n_e e)
as_up h (small x d q) = d-up h (d-operand d q)
as_up h (large m d lo hi) = d-up hi d

own : {ts : List Token} {e : Expr} (m : ℕ) → 2 < m → D (ex m) ts (n_e e) → Form (up m) ts e
own m h d = large {n = m} m d h (omega arith)

-- the ladder, from unary_expression to expression

prefixed : {ts : List Token} {a : Expr} (o : UnaryOp) → Reading (up 3) ts a → Reading (up 3) (symbol (unary_symbol o) ∷ ts) (Unary o a)
unfolding as_read
prefixed o r = record { tree = Unary o r.tree; same = ap (λ (x : Expr). Unary o x) r.same; form = own 3 (omega arith) (d-un o (as_up (omega arith) r.form)) }

binary : {ts us : List Token} {a b : Expr} (o : BinaryOp) → Reading (up (suc (under o))) ts a → Reading (up (under o)) us b
    → Reading (up (suc (under o))) (ts ++ (symbol (binary_symbol o) ∷ us)) (Binary o a b)
unfolding as_read
binary o r s = record {
  tree = Binary o r.tree s.tree;
  same = rw (r.same, s.same);
  form = own (suc (under o)) (omega (arith, (ladder o).0)) (d-bin o (as_up (omega (arith, (ladder o).0)) r.form) (as_up (omega (arith, (ladder o).0)) s.form));
}

chosen : {ts us vs : List Token} {c a b : Expr} → Reading (up 14) ts c → Reading (up 17) us a → Reading (up 16) vs b
    → Reading (up 15) (ts ++ (symbol question ∷ (us ++ (symbol colon ∷ vs)))) (Ternary c a b)
unfolding as_read
chosen q r s = record {
  tree = Ternary q.tree r.tree s.tree;
  same = rw (q.same, r.same, s.same);
  form = own 15 (omega arith) (d-tern (as_up (omega arith) q.form) (as_up (omega arith) r.form) (as_up (omega arith) s.form));
}

assigned : {ts us : List Token} {a b : Expr} (o : AssignmentOp) → Reading (up 3) ts a → Reading (up 16) us b
    → Reading (up 16) (ts ++ (symbol (assignment_symbol o) ∷ us)) (Assignment o a b)
unfolding as_read
assigned o r s = record {
  tree = Assignment o r.tree s.tree;
  same = rw (r.same, s.same);
  form = own 16 (omega arith) (d-asg o (as_up (omega arith) r.form) (as_up (omega arith) s.form));
}

listed : {ts us : List Token} {a b : Expr} → Reading (up 17) ts a → Reading (up 16) us b → Reading (up 17) (ts ++ (symbol comma ∷ us)) (Comma a b)
unfolding as_read
listed r s = record {
  tree = Comma r.tree s.tree;
  same = rw (r.same, s.same);
  form = own 17 (omega arith) (d-com (as_up (omega arith) r.form) (as_up (omega arith) s.form));
}

-- postfix_expression

constant_read : {t : Token} {e : Expr} → constant t ≡ some e → Reading (up 2) (t ∷ []) e
unfolding as_expr
constant_read {t = t} {e = e} q = record { tree = e; same = refl; form = small (val e) (d-const t e q) refl }

in_brackets : {ts : List Token} {a : Expr} → Reading (up 17) ts a → Reading (up 2) (symbol left_paren ∷ (ts ++ (symbol right_paren ∷ []))) a
unfolding as_expr
in_brackets r = record { tree = r.tree; same = r.same; form = small (val r.tree) (d-paren (as_up (omega arith) r.form)) refl }

-- brackets behind what can still become a type hold a dimension, where it is no weaker than a conditional_expression
index_form : (ts us : List Token) (a i : Expr) → Form (up 2) ts a → Form (up 17) us i
    → Form (up 2) (ts ++ (symbol left_bracket ∷ (us ++ (symbol right_bracket ∷ [])))) (Bracket a i)
unfolding as_expr
index_form ts us a i (large m d lo hi) f = absurd (omega arith)
index_form ts us a i (small (val b) d q) f = small {e = Bracket a i} (val (Bracket b i)) (d-idx d (as_up (omega arith) f)) (cc)
index_form ts us a i (small (typed h ds) d q) (small y g r) =
    small (typed h (last_dimension ds (ExplicitlySized i))) (d-length d (d-up {m = 2} {n = 15} (omega arith) (d-operand g r))) (typed_sized h ds a i q)
index_form ts us a i (small (typed h ds) d q) (large m g lo hi) = go (leb m 15) refl
  where
    go : (b : Bool) → leb m 15 ≡ b → Form (up 2) (ts ++ (symbol left_bracket ∷ (us ++ (symbol right_bracket ∷ [])))) (Bracket a i)
    go true l = small (typed h (last_dimension ds (ExplicitlySized i))) (d-length d (d-up (leb-true m 15 l) g)) (typed_sized h ds a i q)
    go false l = small (val (Bracket a i)) (d-wide d q (leb-false m 15 l) hi g) refl

indexes : {ts us : List Token} {a i : Expr} → Reading (up 2) ts a → Reading (up 17) us i
    → Reading (up 2) (ts ++ (symbol left_bracket ∷ (us ++ (symbol right_bracket ∷ [])))) (Bracket a i)
unfolding as_read
indexes {ts = ts} {us = us} r s = record { tree = Bracket r.tree s.tree; same = rw (r.same, s.same); form = index_form ts us r.tree s.tree r.form s.form }

field_form : {ts : List Token} {a : Expr} (n : Identifier) → Form (up 2) ts a → Form (up 2) (ts ++ (symbol dot ∷ name n ∷ [])) (Dot n a)
unfolding as_expr
field_form n (large m d lo hi) = absurd (omega arith)
field_form {a = a} n (small x d q) = small (val (Dot n a)) (d-dot d q n) refl

selected : {ts : List Token} {a : Expr} (n : Identifier) → Reading (up 2) ts a → Reading (up 2) (ts ++ (symbol dot ∷ name n ∷ [])) (Dot n a)
unfolding as_read
selected n r = record { tree = Dot n r.tree; same = ap (λ (x : Expr). Dot n x) r.same; form = field_form n r.form }

posted_form : {ts : List Token} {a : Expr} (p : PostfixOp) → Form (up 2) ts a → Form (up 2) (ts ++ (symbol (postfix_symbol p) ∷ [])) (posted p a)
unfolding as_expr
posted_form p (large m d lo hi) = absurd (omega arith)
posted_form {a = a} p (small x d q) = small (val (posted p a)) (d-post d q p) refl

posted_same : (p : PostfixOp) (a b : Expr) → Same a b → Same (posted p a) (posted p b)
unfolding as_read posted
posted_same inc a b s = ap (λ (x : Expr). PostInc x) s
posted_same dec a b s = ap (λ (x : Expr). PostDec x) s

postfixed : {ts : List Token} {a : Expr} (p : PostfixOp) → Reading (up 2) ts a → Reading (up 2) (ts ++ (symbol (postfix_symbol p) ∷ [])) (posted p a)
postfixed {a = a} p r = record { tree = posted p r.tree; same = posted_same p a r.tree r.same; form = posted_form p r.form }

-- calls

expr_taken : {ts : List Token} {e : Expr} → Form (up 2) ts e → Callee ts (OfExpr e)
unfolding as_expr taken
expr_taken (large m d lo hi) = absurd (omega arith)
expr_taken {e = e} (small (val b) d q) = record { what = val b; same = let r : e ≡ b = cc in ap (λ (x : Expr). callee_as_read (OfExpr x)) r; form = d }
expr_taken {e = e} (small (typed h ds) d q) = record { what = typed h ds; same = typed_taken h ds e q; form = d }

as_callee : {ts : List Token} {a : Expr} → Reading (up 2) ts a → Callee ts (OfExpr a)
unfolding callee_as_read
as_callee r = let c = expr_taken r.form in record { what = c.what; same = ap (λ (x : Expr). indexed_callee x x no_dimensions) r.same ∙ c.same; form = c.form }

called_taken : (x : Operand) (es : Exprs) → called x es ≡ FunCall (taken x) es
unfolding called taken
called_taken (val e) es = refl
called_taken (typed h ds) es = refl

makes : {ts : List Token} {f : FunIdentifier} {es : Exprs} → Call args ts f es → Reading (up 2) (ts ++ (symbol right_paren ∷ [])) (FunCall f es)
unfolding as_read as_expr
makes {ts = ts} c = record {
  tree = FunCall (taken c.function.what) c.list;
  same = rw (c.function.same, c.same);
  form = rw (c.tokens, append_assoc c.front (symbol left_paren ∷ c.back) (symbol right_paren ∷ []))
      (small (val (FunCall (taken c.function.what) c.list)) (rw (called_taken c.function.what c.list) at (d-call c.function.form c.form)) refl);
}

without_arguments : {ts : List Token} {f : FunIdentifier} → Header ts f → Call args ts f no_exprs
without_arguments h = record { front = h.front; back = []; tokens = h.tokens; function = h.function; list = no_exprs; same = refl; form = d-no_args }

with_void : {ts : List Token} {f : FunIdentifier} → Header ts f → Call args (ts ++ (void ∷ [])) f no_exprs
with_void h = record {
  front = h.front;
  back = void ∷ [];
  tokens = rw h.tokens (append_assoc h.front (symbol left_paren ∷ []) (void ∷ []));
  function = h.function;
  list = no_exprs;
  same = refl;
  form = d-void;
}

with_first : {ts us : List Token} {f : FunIdentifier} {a : Expr} → Header ts f → Reading (up 16) us a → Call args1 (ts ++ us) f (last_expr no_exprs a)
with_first {us = us} {a = a} h r = record {
  front = h.front;
  back = us;
  tokens = rw h.tokens (append_assoc h.front (symbol left_paren ∷ []) us);
  function = h.function;
  list = last_expr no_exprs r.tree;
  same = rw (and_expr_as_read no_exprs a, and_expr_as_read no_exprs r.tree, r.same);
  form = d-arg (as_up (omega arith) r.form);
}

with_next : {ts us : List Token} {f : FunIdentifier} {es : Exprs} {a : Expr} → Call args1 ts f es → Reading (up 16) us a → Call args1 (ts ++ (symbol comma ∷ us)) f (last_expr es a)
with_next {us = us} {es = es} {a = a} c r = record {
  front = c.front;
  back = c.back ++ (symbol comma ∷ us);
  tokens = rw c.tokens (append_assoc c.front (symbol left_paren ∷ c.back) (symbol comma ∷ us));
  function = c.function;
  list = last_expr c.list r.tree;
  same = rw (and_expr_as_read es a, and_expr_as_read c.list r.tree, c.same, r.same);
  form = d-more c.form (as_up (omega arith) r.form);
}

with_arguments : {ts : List Token} {f : FunIdentifier} {es : Exprs} → Call args1 ts f es → Call args ts f es
with_arguments c = record { front = c.front; back = c.back; tokens = c.tokens; function = c.function; list = c.list; same = c.same; form = d-args c.form }

-- types

and_open : {us : List Token} {ds : ArraySpecifier} → Array us ds → Array (us ++ (symbol left_bracket ∷ symbol right_bracket ∷ [])) (last_dimension ds Unsized)
and_open {ds = ds} m = record {
  behind = last_dimension m.behind Unsized;
  same = rw (and_dimension_as_read ds Unsized, and_dimension_as_read m.behind Unsized, m.same);
  form = λ h. d-empty (m.form h);
}

and_sized : {ts us : List Token} {ds : ArraySpecifier} {e : Expr} → Array ts ds → Reading (up 15) us e
    → Array (ts ++ (symbol left_bracket ∷ (us ++ (symbol right_bracket ∷ [])))) (last_dimension ds (ExplicitlySized e))
unfolding dimension_as_read
and_sized {ds = ds} {e = e} m r = record {
  behind = last_dimension m.behind (ExplicitlySized r.tree);
  same = rw (and_dimension_as_read ds (ExplicitlySized e), and_dimension_as_read m.behind (ExplicitlySized r.tree), m.same, r.same);
  form = λ h. d-length (m.form h) (as_up (omega arith) r.form);
}

-- no dimension yet
bare : Array [] no_dimensions
bare = record { behind = no_dimensions; same = refl; form = λ h. d-head h }

arrayed : {ts us : List Token} {b : TypeSpecifierNonArray} {ds : ArraySpecifier} → Base ts b → Array us ds → Typed (ts ++ us) (TypeSpecifier.type b ds)
unfolding type_as_read
arrayed r m = record {
  head = r.head;
  behind = m.behind;
  same = rw (r.same, m.same) (sym (type_taken r.head m.behind));
  form = rw r.tokens (m.form r.head);
}

plain : {ts : List Token} {b : TypeSpecifierNonArray} → Base ts b → Typed ts (TypeSpecifier.type b no_dimensions)
plain {ts = ts} r = rw (append-nil ts) at (arrayed r bare)

-- production by production
settled : {n : Nonterminal} {ts : List Token} {v : Value} → Derives n ts v → Settles (place n) ts v
unfolding place as_read callee_as_read as_expr taken indexed constant word_constant head_token head_base posted postfix_symbol unary_symbol binary_op assignment_symbol under
settled (variable-identifier n) = record { tree = Variable n; same = refl; form = small (typed (named n) no_dimensions) (d-head (named n)) refl }
settled (primary-variable d) = settled d
settled (primary-int n) = constant_read refl
settled (primary-uint n) = constant_read refl
settled (primary-float t) = constant_read refl
settled (primary-bool true) = constant_read refl
settled (primary-bool false) = constant_read refl
settled (primary-double t) = constant_read refl
settled (primary-parens d) = in_brackets (settled d)
settled (postfix-primary d) = settled d
settled (postfix-index d e) = indexes (settled d) (settled e)
settled (postfix-call d) = settled d
settled (postfix-field d n) = selected n (settled d)
settled (postfix-inc d) = postfixed inc (settled d)
settled (postfix-dec d) = postfixed dec (settled d)
settled (integer-expression d) = settled d
settled (call-or_method d) = settled d
settled (method-generic d) = settled d
settled (generic-with d) = makes (with_arguments (settled d))
settled (generic-no d) = makes (settled d)
settled (no-void d) = with_void (settled d)
settled (no-header d) = without_arguments (settled d)
settled (with-first d e) = with_first (settled d) (settled e)
settled (with-next d e) = with_next (settled d) (settled e)
settled (header-identifier {ts = ts} d) = record { front = ts; tokens = refl; function = settled d }
settled (identifier-type d) = let r = settled d in record { what = typed r.head r.behind; same = r.same; form = r.form }
settled (identifier-postfix d) = as_callee (settled d)
settled (unary-postfix d) = passed 2 (settled d)
settled (unary-inc d) = prefixed UnaryOp.Inc (settled d)
settled (unary-dec d) = prefixed UnaryOp.Dec (settled d)
settled (unary-operator {o = o} d e) = rw (settled d) (prefixed o (settled e))
settled unary_operator-plus = refl
settled unary_operator-dash = refl
settled unary_operator-bang = refl
settled unary_operator-tilde = refl
settled (multiplicative-unary d) = passed 3 (settled d)
settled (multiplicative-star d e) = binary BinaryOp.Mult (settled d) (settled e)
settled (multiplicative-slash d e) = binary BinaryOp.Div (settled d) (settled e)
settled (multiplicative-percent d e) = binary BinaryOp.Mod (settled d) (settled e)
settled (additive-multiplicative d) = passed 4 (settled d)
settled (additive-plus d e) = binary BinaryOp.Add (settled d) (settled e)
settled (additive-dash d e) = binary BinaryOp.Sub (settled d) (settled e)
settled (shift-additive d) = passed 5 (settled d)
settled (shift-left_op d e) = binary BinaryOp.LShift (settled d) (settled e)
settled (shift-right_op d e) = binary BinaryOp.RShift (settled d) (settled e)
settled (relational-shift d) = passed 6 (settled d)
settled (relational-left_angle d e) = binary BinaryOp.Lt (settled d) (settled e)
settled (relational-right_angle d e) = binary BinaryOp.Gt (settled d) (settled e)
settled (relational-le_op d e) = binary BinaryOp.Lte (settled d) (settled e)
settled (relational-ge_op d e) = binary BinaryOp.Gte (settled d) (settled e)
settled (equality-relational d) = passed 7 (settled d)
settled (equality-eq_op d e) = binary BinaryOp.Equal (settled d) (settled e)
settled (equality-ne_op d e) = binary BinaryOp.NonEqual (settled d) (settled e)
settled (and-equality d) = passed 8 (settled d)
settled (and-ampersand d e) = binary BinaryOp.BitAnd (settled d) (settled e)
settled (exclusive_or-and d) = passed 9 (settled d)
settled (exclusive_or-caret d e) = binary BinaryOp.BitXor (settled d) (settled e)
settled (inclusive_or-exclusive_or d) = passed 10 (settled d)
settled (inclusive_or-vertical_bar d e) = binary BinaryOp.BitOr (settled d) (settled e)
settled (logical_and-inclusive_or d) = passed 11 (settled d)
settled (logical_and-and_op d e) = binary BinaryOp.And (settled d) (settled e)
settled (logical_xor-logical_and d) = passed 12 (settled d)
settled (logical_xor-xor_op d e) = binary BinaryOp.Xor (settled d) (settled e)
settled (logical_or-logical_xor d) = passed 13 (settled d)
settled (logical_or-or_op d e) = binary BinaryOp.Or (settled d) (settled e)
settled (conditional-logical_or d) = passed 14 (settled d)
settled (conditional-question d e f) = chosen (settled d) (settled e) (settled f)
settled (assignment-conditional d) = passed 15 (settled d)
settled (assignment-operator {o = o} d e f) = rw (settled e) (assigned o (settled d) (settled f))
settled assignment_operator-equal = refl
settled assignment_operator-mul_assign = refl
settled assignment_operator-div_assign = refl
settled assignment_operator-mod_assign = refl
settled assignment_operator-add_assign = refl
settled assignment_operator-sub_assign = refl
settled assignment_operator-left_assign = refl
settled assignment_operator-right_assign = refl
settled assignment_operator-and_assign = refl
settled assignment_operator-xor_assign = refl
settled assignment_operator-or_assign = refl
settled (expression-assignment d) = passed 16 (settled d)
settled (expression-comma d e) = listed (settled d) (settled e)
settled (specifier-nonarray d) = plain (settled d)
settled (specifier-array d e) = arrayed (settled d) (settled e)
settled array-open = and_open bare
settled (array-sized d) = and_sized bare (settled d)
settled (array-and_open d) = and_open (settled d)
settled (array-and_sized d e) = and_sized (settled d) (settled e)
settled (nonarray-keyword v) = record { head = keyword v; tokens = refl; same = refl }
settled (nonarray-name n) = record { head = named n; tokens = refl; same = refl }

pub record Settling (ts : List Token) (a : Expr) : Type 0 where
  pub tree : Expr
  pub same : Same a tree
  pub reading : D (up 17) ts (n_e tree)

pub settling : (ts : List Token) (a : Expr) → Derives expression ts (expr a) → Settling ts a
unfolding place
settling ts a d = let r : Reading (up 17) ts a = settled d in record { tree = r.tree; same = r.same; reading = as_up (omega arith) r.form }
