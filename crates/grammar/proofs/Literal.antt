-- What the settled grammar reads, chapter 9 derives, with the same tree. Assumes nothing.
use mathlib.Core.Path.{◌≡◌}
use mathlib.Core.Bool.{true, false}
use mathlib.Core.List.{List, [], ◌∷◌, ◌++◌}
use mathlib.Core.Option.{some, none-ne-some}
use Rattle.words.specs.Word.{Word}
use Rattle.words.specs.Word.Word.{storage, precision_qualifier, interpolation, subroutine, layout, invariant, precise, continue, break, discard, return, precision, struct, if, else, switch, case, default, while, «do», for}
use Rattle.words.specs.Symbol.Symbol.{left_paren, right_paren, left_bracket, right_bracket}
use Rattle.text.specs.Token.{Token}
use Rattle.text.specs.Token.Token.{name, int, uint, float, double, word, symbol}
use Rattle.text.specs.Tree.{Expr, Exprs, ArraySpecifier}
use Rattle.text.specs.Tree.Expr.{Variable, IntConst, UIntConst, BoolConst, FloatConst, DoubleConst, Bracket}
use Rattle.text.specs.Tree.ArraySpecifier.{no_dimensions}
use Rattle.text.specs.Tree.ArraySpecifierDimension.{ExplicitlySized}
use Rattle.grammar.specs.Last.{last_dimension}
use Rattle.grammar.specs.Chapter9.{Derives}
use Rattle.grammar.specs.Chapter9.Nonterminal.{primary_expression, postfix_expression, conditional_expression, expression}
use Rattle.grammar.specs.Chapter9.Value.{expr}
use Rattle.grammar.specs.Chapter9.Derives.{variable-identifier, primary-variable, primary-int, primary-uint, primary-float, primary-bool, primary-double, primary-parens, postfix-primary, postfix-index, postfix-field, integer-expression, identifier-postfix, conditional-question, expression-comma, expression-assignment, assignment-conditional}
use Rattle.grammar.proofs.Levels.{level, weakened, postfixed, prefixed, binary, assigned}
use Rattle.grammar.proofs.Specifiers.{Specifier, plain, and_open, and_sized, specifier_called}
use Rattle.grammar.proofs.Arguments.{Arguments, Parameters, no_arguments, void_arguments, some_arguments, first_parameter, next_parameter, call_derived}
use Rattle.grammar.proofs.Dimensions.{sized_typed, unsized_typed}
use Rattle.grammar.proofs.Settled.{Head, named, keyword, head_token, Operand, val, typed, indexed, as_expr, called, word_constant, constant, NT, ex, up, operand, args, args1, Node, n_e, n_o, n_a, D, d-up, d-head, d-const, d-paren, d-empty, d-length, d-wide, d-idx, d-dot, d-post, d-call, d-no_args, d-void, d-args, d-arg, d-more, d-operand, d-un, d-bin, d-tern, d-asg, d-com}

-- a constant
word_derived : (w : Word) (e : Expr) → word_constant w ≡ some e → Derives primary_expression (word w ∷ []) (expr e)
unfolding word_constant
word_derived Word.true e q = let r : BoolConst true ≡ e = cc in rw r at (primary-bool true)
word_derived Word.false e q = let r : BoolConst false ≡ e = cc in rw r at (primary-bool false)
word_derived (storage s) e q = absurd (none-ne-some e q)
word_derived (precision_qualifier s) e q = absurd (none-ne-some e q)
word_derived (interpolation s) e q = absurd (none-ne-some e q)
word_derived subroutine e q = absurd (none-ne-some e q)
word_derived layout e q = absurd (none-ne-some e q)
word_derived invariant e q = absurd (none-ne-some e q)
word_derived precise e q = absurd (none-ne-some e q)
word_derived continue e q = absurd (none-ne-some e q)
word_derived break e q = absurd (none-ne-some e q)
word_derived discard e q = absurd (none-ne-some e q)
word_derived return e q = absurd (none-ne-some e q)
word_derived precision e q = absurd (none-ne-some e q)
word_derived struct e q = absurd (none-ne-some e q)
word_derived if e q = absurd (none-ne-some e q)
word_derived else e q = absurd (none-ne-some e q)
word_derived switch e q = absurd (none-ne-some e q)
word_derived case e q = absurd (none-ne-some e q)
word_derived default e q = absurd (none-ne-some e q)
word_derived while e q = absurd (none-ne-some e q)
word_derived «do» e q = absurd (none-ne-some e q)
word_derived for e q = absurd (none-ne-some e q)

constant_derived : (t : Token) (e : Expr) → constant t ≡ some e → Derives primary_expression (t ∷ []) (expr e)
unfolding constant
constant_derived (name n) e q = absurd (none-ne-some e q)
constant_derived (Token.type v) e q = absurd (none-ne-some e q)
constant_derived (int n) e q = let r : IntConst n ≡ e = cc in rw r at (primary-int n)
constant_derived (uint n) e q = let r : UIntConst n ≡ e = cc in rw r at (primary-uint n)
constant_derived (float t) e q = let r : FloatConst t ≡ e = cc in rw r at (primary-float t)
constant_derived (double t) e q = let r : DoubleConst t ≡ e = cc in rw r at (primary-double t)
constant_derived (word w) e q = word_derived w e q
constant_derived (symbol y) e q = absurd (none-ne-some e q)

-- an operand whose tokens can still become a type: as a type_specifier and as a postfix_expression
record Both (ts : List Token) (h : Head) (ds : ArraySpecifier) : Type 0 where
  type : Specifier h ts ds
  value : (a : Expr) → as_expr (typed h ds) ≡ some a → Derives postfix_expression ts (expr a)

-- what is shown of each reading
abbrev Means : NT → List Token → Node → Type 0
Means (ex n) ts (n_e e) = Derives (level n) ts (expr e)
Means (ex n) ts (n_o x) = Unit
Means (ex n) ts (n_a es) = Unit
Means (up n) ts (n_e e) = Derives (level n) ts (expr e)
Means (up n) ts (n_o x) = Unit
Means (up n) ts (n_a es) = Unit
Means operand ts (n_e e) = Unit
Means operand ts (n_o (val e)) = Derives postfix_expression ts (expr e)
Means operand ts (n_o (typed h ds)) = Both ts h ds
Means operand ts (n_a es) = Unit
Means args ts (n_e e) = Unit
Means args ts (n_o x) = Unit
Means args ts (n_a es) = Arguments ts es
Means args1 ts (n_e e) = Unit
Means args1 ts (n_o x) = Unit
Means args1 ts (n_a es) = Parameters ts es

head_value : (h : Head) (a : Expr) → as_expr (typed h no_dimensions) ≡ some a → Derives postfix_expression (head_token h ∷ []) (expr a)
unfolding as_expr indexed head_token
head_value (named n) a q = let r : Variable n ≡ a = cc in rw r at (postfix-primary (primary-variable (variable-identifier n)))
head_value (keyword v) a q = absurd (none-ne-some a q)

as_value : (ts : List Token) (x : Operand) (a : Expr) → Means operand ts (n_o x) → as_expr x ≡ some a → Derives postfix_expression ts (expr a)
unfolding as_expr
as_value ts (val e) a m q = let r : e ≡ a = cc in rw r at m
as_value ts (typed h ds) a m q = m.value a q

sized : (ts us : List Token) (h : Head) (ds : ArraySpecifier) (e : Expr) → Both ts h ds → Derives conditional_expression us (expr e)
    → Both (ts ++ (symbol left_bracket ∷ (us ++ (symbol right_bracket ∷ [])))) h (last_dimension ds (ExplicitlySized e))
sized ts us h ds e m f = record {
  type = and_sized m.type f;
  value = λ a q. let v : (b : Expr) × (as_expr (typed h ds) ≡ some b) × (a ≡ Bracket b e) = sized_typed h ds a e q in
      rw v.2 (postfix-index (m.value v.0 v.1) (integer-expression (expression-assignment (assignment-conditional f))));
}

call_means : (ts us : List Token) (x : Operand) (es : Exprs) → Means operand ts (n_o x) → Arguments us es
    → Derives postfix_expression (ts ++ (symbol left_paren ∷ (us ++ (symbol right_paren ∷ [])))) (expr (called x es))
unfolding called
call_means ts us (val e) es d m = call_derived (identifier-postfix d) m
call_means ts us (typed h ds) es d m = call_derived (specifier_called h d.type) m

literal : {nt : NT} {ts : List Token} {n : Node} → D nt ts n → Means nt ts n
unfolding level
literal (d-up {m = m} {n = n} h d) = weakened m n h (literal d)
literal (d-head h) = record { type = plain; value = λ a q. head_value h a q }
literal (d-const t e q) = postfix-primary (constant_derived t e q)
literal (d-paren d) = postfix-primary (primary-parens (literal d))
literal (d-empty {h = h} {ds = ds} d) = record { type = and_open (literal d).type; value = λ a q. absurd (unsized_typed h ds a q) }
literal (d-length {ts = ts} {us = us} {h = h} {ds = ds} {e = e} d f) = sized ts us h ds e (literal d) (literal f)
literal (d-wide {a = a} {k = k} d q lo hi f) = postfix-index ((literal d).value a q) (integer-expression (weakened k 17 hi (literal f)))
literal (d-idx d f) = postfix-index (literal d) (integer-expression (literal f))
literal (d-dot {ts = ts} {x = x} {a = a} d q n) = postfix-field (as_value ts x a (literal d) q) n
literal (d-post {ts = ts} {x = x} {a = a} d q p) = postfixed p (as_value ts x a (literal d) q)
literal (d-call {ts = ts} {us = us} {x = x} {es = es} d f) = call_means ts us x es (literal d) (literal f)
literal d-no_args = no_arguments
literal d-void = void_arguments
literal (d-args d) = some_arguments (literal d)
literal (d-arg d) = first_parameter (literal d)
literal (d-more d e) = next_parameter (literal d) (literal e)
literal (d-operand {ts = ts} {x = x} {a = a} d q) = as_value ts x a (literal d) q
literal (d-un u d) = prefixed u (literal d)
literal (d-bin o d f) = binary o (literal d) (literal f)
literal (d-tern c d f) = conditional-question (literal c) (literal d) (literal f)
literal (d-asg o d f) = assigned o (literal d) (literal f)
literal (d-com d f) = expression-comma (literal d) (literal f)

pub literal_expression : (ts : List Token) (e : Expr) → D (up 17) ts (n_e e) → Derives expression ts (expr e)
unfolding level
literal_expression ts e d = literal d
