-- What the tokens of a list of commands are in chapter 9's grammar, and how it follows from the lists that it is made of: a law for each of the text's
-- ways to put lists together. Assumes nothing.
use Prim.Native.Nat.{ℕ, suc, ◌≤◌}
use native.Mathlib.Omega.{arith}
use mathlib.Core.Path.{◌≡◌, refl}
use mathlib.Core.Bool.{Bool, true, false}
use mathlib.Core.List.{List, ◌∷◌, ◌++◌, append_assoc}
use Rattle.words.specs.Symbol.Symbol.{right_paren, right_bracket, dot, colon, question}
use Rattle.text.specs.Token.Token.{symbol}
use Rattle.text.specs.Tree.{Identifier, UnaryOp, BinaryOp, AssignmentOp, Expr, Exprs, FunIdentifier}
use Rattle.text.specs.Tree.Expr.{no_expr, Variable, IntConst, UIntConst, BoolConst, FloatConst, DoubleConst, Unary, Binary, Ternary, Assignment, Bracket, FunCall, Dot, PostInc, PostDec, Comma}
use Rattle.text.specs.Asked.{Flag}
use Rattle.text.specs.Command.{Command, write_binary_op, write_list_separator}
use Rattle.text.specs.Visible.{tokens_of}
use Rattle.text.specs.Operator.{precedence, unary_symbol, binary_symbol, assignment_symbol}
use Rattle.text.specs.Text.{a_symbol, show_identifier, parenthesized, in_square_brackets, bare_if, apart}
use Rattle.grammar.specs.Strength.{under}
use Rattle.grammar.specs.Chapter9.{Nonterminal, Value, Derives}
use Rattle.grammar.specs.Chapter9.Nonterminal.{primary_expression, postfix_expression, function_identifier, unary_expression, logical_or_expression, conditional_expression, assignment_expression, expression}
use Rattle.grammar.specs.Chapter9.Value.{expr, callee}
use Rattle.grammar.specs.Chapter9.Derives.{primary-parens, postfix-index, postfix-field, integer-expression, conditional-question, expression-comma}
use Rattle.grammar.proofs.Ladder.{ladder}
use Rattle.grammar.proofs.Strengths.{same_strength}
use Rattle.grammar.proofs.Levels.{level, weakened, postfixed, prefixed, binary, assigned}
use Rattle.grammar.proofs.Settled.{PostfixOp, postfix_symbol, posted}
use Rattle.grammar.proofs.Arguments.{Arguments, call_derived}
use Rattle.division.proofs.Tokens.{tokens_append}

pub record Shows (n : Nonterminal) (cs : List Command) (v : Value) : Type 0 where
  pub derivation : Derives n (tokens_of cs) v

-- a list between two
pub tokens_between : (cs ws ds : List Command) → tokens_of (cs ++ ws ++ ds) ≡ tokens_of cs ++ (tokens_of ws ++ tokens_of ds)
tokens_between cs ws ds = rw (tokens_append (cs ++ ws) ds, tokens_append cs ws) (append_assoc (tokens_of cs) (tokens_of ws) (tokens_of ds))

-- a needed space is no token
pub apart_tokens : (b : Bool) (f : Flag) (cs : List Command) → tokens_of (apart b f cs) ≡ tokens_of cs
unfolding tokens_of
apart_tokens true f cs = refl
apart_tokens false f cs = refl

pub apart_shown : {n : Nonterminal} {cs : List Command} {v : Value} (b : Bool) (f : Flag) → Shows n cs v → Shows n (apart b f cs) v
apart_shown {cs = cs} b f s = record { derivation = rw (apart_tokens b f cs) s.derivation }

-- operators

pub prefix_shown : {cs : List Command} {a : Expr} (o : UnaryOp) → Shows unary_expression cs (expr a) → Shows unary_expression (a_symbol (unary_symbol o) ++ cs) (expr (Unary o a))
unfolding tokens_of
prefix_shown o s = record { derivation = prefixed o s.derivation }

pub binary_shown : {cs ds : List Command} {a b : Expr} (o : BinaryOp) → Shows (level (suc (under o))) cs (expr a) → Shows (level (under o)) ds (expr b)
    → Shows (level (suc (under o))) (cs ++ write_binary_op (binary_symbol o) ++ ds) (expr (Binary o a b))
unfolding tokens_of
binary_shown {cs = cs} {ds = ds} o s t = record { derivation = rw (tokens_between cs (write_binary_op (binary_symbol o)) ds) (binary o s.derivation t.derivation) }

pub assignment_shown : {cs ds : List Command} {a b : Expr} (o : AssignmentOp) → Shows unary_expression cs (expr a) → Shows assignment_expression ds (expr b)
    → Shows assignment_expression (cs ++ write_binary_op (assignment_symbol o) ++ ds) (expr (Assignment o a b))
unfolding tokens_of
assignment_shown {cs = cs} {ds = ds} o s t = record { derivation = rw (tokens_between cs (write_binary_op (assignment_symbol o)) ds) (assigned o s.derivation t.derivation) }

pub comma_shown : {cs ds : List Command} {a b : Expr} → Shows expression cs (expr a) → Shows assignment_expression ds (expr b)
    → Shows expression (cs ++ write_list_separator ++ ds) (expr (Comma a b))
unfolding tokens_of
comma_shown {cs = cs} {ds = ds} s t = record { derivation = rw (tokens_between cs write_list_separator ds) (expression-comma s.derivation t.derivation) }

pub ternary_shown : {cs ds es : List Command} {c a b : Expr} → Shows logical_or_expression cs (expr c) → Shows expression ds (expr a) → Shows assignment_expression es (expr b)
    → Shows conditional_expression (cs ++ write_binary_op question ++ ds ++ write_binary_op colon ++ es) (expr (Ternary c a b))
unfolding tokens_of
ternary_shown {cs = cs} {ds = ds} {es = es} r s t = record {
  derivation = rw (
    tokens_between (cs ++ write_binary_op question ++ ds) (write_binary_op colon) es,
    tokens_between cs (write_binary_op question) ds,
    append_assoc (tokens_of cs) (symbol question ∷ tokens_of ds) (symbol colon ∷ tokens_of es),
  )
      (conditional-question r.derivation s.derivation t.derivation);
}

-- behind an operand

pub postfix_shown : {cs : List Command} {a : Expr} (p : PostfixOp) → Shows postfix_expression cs (expr a)
    → Shows postfix_expression (cs ++ a_symbol (postfix_symbol p)) (expr (posted p a))
unfolding tokens_of
postfix_shown {cs = cs} p s = record { derivation = rw (tokens_append cs (a_symbol (postfix_symbol p))) (postfixed p s.derivation) }

pub field_shown : {cs : List Command} {a : Expr} (n : Identifier) (b : Bool) (f : Flag) → Shows postfix_expression cs (expr a)
    → Shows postfix_expression (cs ++ apart b f (a_symbol dot) ++ show_identifier n) (expr (Dot n a))
unfolding tokens_of
field_shown {cs = cs} n b f s = record { derivation = rw (tokens_between cs (apart b f (a_symbol dot)) (show_identifier n), apart_tokens b f (a_symbol dot)) (postfix-field s.derivation n) }

pub index_shown : {cs ds : List Command} {a i : Expr} → Shows postfix_expression cs (expr a) → Shows expression ds (expr i)
    → Shows postfix_expression (cs ++ in_square_brackets ds) (expr (Bracket a i))
unfolding tokens_of
index_shown {cs = cs} {ds = ds} s t = record {
  derivation = rw (tokens_append cs (in_square_brackets ds), tokens_append ds (a_symbol right_bracket)) (postfix-index s.derivation (integer-expression t.derivation));
}

pub call_shown : {cs : List Command} (ds : List Command) {f : FunIdentifier} {es : Exprs} → Shows function_identifier cs (callee f) → Arguments (tokens_of ds) es
    → Shows postfix_expression (cs ++ parenthesized ds) (expr (FunCall f es))
unfolding tokens_of
call_shown {cs = cs} ds s m = record { derivation = rw (tokens_append cs (parenthesized ds), tokens_append ds (a_symbol right_paren)) (call_derived s.derivation m) }

-- an operand, bare or in parentheses

parenthesized_shown : {cs : List Command} {a : Expr} → Shows expression cs (expr a) → Shows primary_expression (parenthesized cs) (expr a)
unfolding tokens_of
parenthesized_shown {cs = cs} s = record { derivation = rw (tokens_append cs (a_symbol right_paren)) (primary-parens s.derivation) }

precedence_17 : (e : Expr) → precedence e ≤ 17
unfolding precedence
precedence_17 no_expr = omega arith
precedence_17 (Variable n) = omega arith
precedence_17 (IntConst n) = omega arith
precedence_17 (UIntConst n) = omega arith
precedence_17 (BoolConst b) = omega arith
precedence_17 (FloatConst t) = omega arith
precedence_17 (DoubleConst t) = omega arith
precedence_17 (Unary o a) = omega arith
precedence_17 (Binary o a b) = rw (same_strength o) (omega (arith, (ladder o).1))
precedence_17 (Ternary c a b) = omega arith
precedence_17 (Assignment o a b) = omega arith
precedence_17 (Bracket a i) = omega arith
precedence_17 (FunCall f es) = omega arith
precedence_17 (Dot n a) = omega arith
precedence_17 (PostInc a) = omega arith
precedence_17 (PostDec a) = omega arith
precedence_17 (Comma a b) = omega arith

pub weaker_shown : {cs : List Command} {a : Expr} (m n : ℕ) → m ≤ n → Shows (level m) cs (expr a) → Shows (level n) cs (expr a)
weaker_shown m n h s = record { derivation = weakened m n h s.derivation }

pub expression_shown : {cs : List Command} (e : Expr) → Shows (level (precedence e)) cs (expr e) → Shows expression cs (expr e)
unfolding level
expression_shown e s = weaker_shown (precedence e) 17 (precedence_17 e) s

pub operand_shown : (cs : List Command) (e : Expr) (n : ℕ) (b : Bool) → (b ≡ true → precedence e ≤ n) → Shows (level (precedence e)) cs (expr e)
    → Shows (level n) (bare_if b cs) (expr e)
unfolding level
operand_shown cs e n true h s = weaker_shown (precedence e) n (h refl) s
operand_shown cs e n false h s = weaker_shown 0 n (omega arith) (parenthesized_shown (expression_shown e s))
