-- The settled grammar, beside chapter 9's: one derivation for each reading. `up n` is the nonterminal of strength n (4.60 §5.1: 2 postfix, 3 unary, 4 to 14 the binary
-- ladder, 15 conditional, 16 assignment, 17 expression), `ex n` its productions other than the one that passes a stronger nonterminal on. An operand is a
-- postfix_expression; `typed` is one whose tokens so far are a name or a type keyword and array dimensions, so that it can still become a type_specifier: a
-- call right behind it takes it as one (01: a callee name with dimensions is read as a type). Assumes nothing.
use mathlib.Core.Path.{◌≡◌}
use mathlib.Core.Bool.{true, false}
use mathlib.Core.List.{List, [], ◌∷◌, ◌++◌}
use mathlib.Core.Option.{Option, none, some}
use Prim.Native.Nat.{ℕ, suc, ◌≤◌, ◌<◌}
use Rattle.words.specs.Word.{Word}
use Rattle.words.specs.Word.Word.{storage, precision_qualifier, interpolation, subroutine, layout, invariant, precise, continue, break, discard, return, precision, struct, if, else, switch, case, default, while, «do», for}
use Rattle.words.specs.Symbol.{Symbol}
use Rattle.words.specs.Symbol.Symbol.{left_paren, right_paren, left_bracket, right_bracket, dot, comma, question, colon, inc_op, dec_op}
use Rattle.text.specs.Token.{Token}
use Rattle.text.specs.Token.Token.{name, int, uint, float, double, word, symbol}
use Rattle.text.specs.Tree.{Identifier, UnaryOp, BinaryOp, AssignmentOp, Expr, Exprs, TypeSpecifierNonArray, ArraySpecifier}
use Rattle.text.specs.Tree.Expr.{Variable, IntConst, UIntConst, BoolConst, FloatConst, DoubleConst, Unary, Binary, Ternary, Assignment, Bracket, FunCall, Dot, PostInc, PostDec, Comma}
use Rattle.text.specs.Tree.Exprs.{no_exprs}
use Rattle.text.specs.Tree.FunIdentifier.{OfExpr}
use Rattle.text.specs.Tree.TypeSpecifierNonArray.{Keyword, TypeName}
use Rattle.text.specs.Tree.ArraySpecifier.{no_dimensions, dimensions}
use Rattle.text.specs.Tree.ArraySpecifierDimension.{no_dimension, Unsized, ExplicitlySized}
use Rattle.text.specs.Operator.{unary_symbol, binary_symbol, assignment_symbol}
use Rattle.grammar.specs.Last.{last_expr, last_dimension}
use Rattle.grammar.specs.Chapter9.{void}
use Rattle.grammar.specs.Same.{type_callee}
use Rattle.grammar.specs.Strength.{under}

-- what a type_specifier begins with
pub data Head : Type 0 where
  named : Identifier → Head
  keyword : ℕ → Head

unfoldable pub head_token : Head → Token
head_token (named n) = name n
head_token (keyword v) = Token.type v

unfoldable pub head_base : Head → TypeSpecifierNonArray
head_base (named n) = TypeName n
head_base (keyword v) = Keyword v

pub data Operand : Type 0 where
  val : Expr → Operand
  typed : Head → ArraySpecifier → Operand

-- the expression that a with the dimensions behind it is, where no call follows
unfoldable pub indexed : Expr → ArraySpecifier → Option Expr
indexed a no_dimensions = some a
indexed a (dimensions no_dimension ds) = none
indexed a (dimensions Unsized ds) = none
indexed a (dimensions (ExplicitlySized e) ds) = indexed (Bracket a e) ds

unfoldable pub as_expr : Operand → Option Expr
as_expr (val e) = some e
as_expr (typed (named n) ds) = indexed (Variable n) ds
as_expr (typed (keyword v) ds) = none

-- what a call makes of an operand
unfoldable pub called : Operand → Exprs → Expr
called (val e) es = FunCall (OfExpr e) es
called (typed h ds) es = FunCall (type_callee (head_base h) ds) es

-- the constant that a token is
unfoldable pub word_constant : Word → Option Expr
word_constant Word.true = some (BoolConst true)
word_constant Word.false = some (BoolConst false)
word_constant (storage q) = none
word_constant (precision_qualifier q) = none
word_constant (interpolation q) = none
word_constant subroutine = none
word_constant layout = none
word_constant invariant = none
word_constant precise = none
word_constant continue = none
word_constant break = none
word_constant discard = none
word_constant return = none
word_constant precision = none
word_constant struct = none
word_constant if = none
word_constant else = none
word_constant switch = none
word_constant case = none
word_constant default = none
word_constant while = none
word_constant «do» = none
word_constant for = none

unfoldable pub constant : Token → Option Expr
constant (name n) = none
constant (Token.type v) = none
constant (int n) = some (IntConst n)
constant (uint n) = some (UIntConst n)
constant (float t) = some (FloatConst t)
constant (double t) = some (DoubleConst t)
constant (word w) = word_constant w
constant (symbol y) = none

-- the operators behind an operand
pub data PostfixOp : Type 0 where
  inc dec : PostfixOp

unfoldable pub postfix_symbol : PostfixOp → Symbol
postfix_symbol inc = inc_op
postfix_symbol dec = dec_op

unfoldable pub posted : PostfixOp → Expr → Expr
posted inc e = PostInc e
posted dec e = PostDec e

pub data NT : Type 0 where
  ex : ℕ → NT
  up : ℕ → NT
  operand : NT
  args : NT
  args1 : NT

pub data Node : Type 0 where
  n_e : Expr → Node
  n_o : Operand → Node
  n_a : Exprs → Node

pub data D : NT → List Token → Node → Type 0 where
  d-up : {m n : ℕ} {ts : List Token} {e : Expr} → m ≤ n → D (ex m) ts (n_e e) → D (up n) ts (n_e e)
  -- postfix_expression
  d-head : (h : Head) → D operand (head_token h ∷ []) (n_o (typed h no_dimensions))
  d-const : (t : Token) (e : Expr) → constant t ≡ some e → D operand (t ∷ []) (n_o (val e))
  d-paren : {ts : List Token} {e : Expr} → D (up 17) ts (n_e e) → D operand (symbol left_paren ∷ (ts ++ (symbol right_paren ∷ []))) (n_o (val e))
  d-empty : {ts : List Token} {h : Head} {ds : ArraySpecifier} → D operand ts (n_o (typed h ds)) → D operand (ts ++ (symbol left_bracket ∷ symbol right_bracket ∷ [])) (n_o (typed h (last_dimension ds Unsized)))
  d-length : {ts us : List Token} {h : Head} {ds : ArraySpecifier} {e : Expr} → D operand ts (n_o (typed h ds)) → D (up 15) us (n_e e) → D operand (ts ++ (symbol left_bracket ∷ (us ++ (symbol right_bracket ∷ [])))) (n_o (typed h (last_dimension ds (ExplicitlySized e))))
  d-wide : {ts us : List Token} {h : Head} {ds : ArraySpecifier} {a e : Expr} {k : ℕ} → D operand ts (n_o (typed h ds)) → as_expr (typed h ds) ≡ some a → 15 < k → k ≤ 17 → D (ex k) us (n_e e) → D operand (ts ++ (symbol left_bracket ∷ (us ++ (symbol right_bracket ∷ [])))) (n_o (val (Bracket a e)))
  d-idx : {ts us : List Token} {a e : Expr} → D operand ts (n_o (val a)) → D (up 17) us (n_e e) → D operand (ts ++ (symbol left_bracket ∷ (us ++ (symbol right_bracket ∷ [])))) (n_o (val (Bracket a e)))
  d-dot : {ts : List Token} {x : Operand} {a : Expr} → D operand ts (n_o x) → as_expr x ≡ some a → (n : Identifier) → D operand (ts ++ (symbol dot ∷ name n ∷ [])) (n_o (val (Dot n a)))
  d-post : {ts : List Token} {x : Operand} {a : Expr} → D operand ts (n_o x) → as_expr x ≡ some a → (p : PostfixOp) → D operand (ts ++ (symbol (postfix_symbol p) ∷ [])) (n_o (val (posted p a)))
  d-call : {ts us : List Token} {x : Operand} {es : Exprs} → D operand ts (n_o x) → D args us (n_a es) → D operand (ts ++ (symbol left_paren ∷ (us ++ (symbol right_paren ∷ [])))) (n_o (val (called x es)))
  d-no_args : D args [] (n_a no_exprs)
  d-void : D args (void ∷ []) (n_a no_exprs)
  d-args : {us : List Token} {es : Exprs} → D args1 us (n_a es) → D args us (n_a es)
  d-arg : {us : List Token} {e : Expr} → D (up 16) us (n_e e) → D args1 us (n_a (last_expr no_exprs e))
  d-more : {us vs : List Token} {es : Exprs} {e : Expr} → D args1 us (n_a es) → D (up 16) vs (n_e e) → D args1 (us ++ (symbol comma ∷ vs)) (n_a (last_expr es e))
  d-operand : {ts : List Token} {x : Operand} {a : Expr} → D operand ts (n_o x) → as_expr x ≡ some a → D (ex 2) ts (n_e a)
  -- unary_expression to expression
  d-un : {ts : List Token} {e : Expr} (u : UnaryOp) → D (up 3) ts (n_e e) → D (ex 3) (symbol (unary_symbol u) ∷ ts) (n_e (Unary u e))
  d-bin : {ts us : List Token} {a b : Expr} (o : BinaryOp) → D (up (suc (under o))) ts (n_e a) → D (up (under o)) us (n_e b) → D (ex (suc (under o))) (ts ++ (symbol (binary_symbol o) ∷ us)) (n_e (Binary o a b))
  d-tern : {ts us vs : List Token} {c a b : Expr} → D (up 14) ts (n_e c) → D (up 17) us (n_e a) → D (up 16) vs (n_e b) → D (ex 15) (ts ++ (symbol question ∷ (us ++ (symbol colon ∷ vs)))) (n_e (Ternary c a b))
  d-asg : {ts us : List Token} {a b : Expr} (o : AssignmentOp) → D (up 3) ts (n_e a) → D (up 16) us (n_e b) → D (ex 16) (ts ++ (symbol (assignment_symbol o) ∷ us)) (n_e (Assignment o a b))
  d-com : {ts us : List Token} {a b : Expr} → D (up 17) ts (n_e a) → D (up 16) us (n_e b) → D (ex 17) (ts ++ (symbol comma ∷ us)) (n_e (Comma a b))
