-- A reader of token lists: one step for each token, with a stack of what is still open. Assumes nothing.
use Prim.Native.Nat.{ℕ, zero, suc}
use mathlib.Core.Bool.{Bool, true, false, cond}
use mathlib.Core.List.{List, [], ◌∷◌}
use mathlib.Core.Option.{Option, none, some}
use lib.Dec.{leb}
use Rattle.text.specs.Token.{Token}
use Rattle.text.specs.Token.Token.{name, int, uint, float, double, word, symbol}
use Rattle.text.specs.Tree.{UnaryOp, BinaryOp, AssignmentOp, Expr, Exprs}
use Rattle.text.specs.Tree.Expr.{Unary, Binary, Ternary, Assignment, Bracket, Dot, Comma}
use Rattle.text.specs.Tree.Exprs.{no_exprs, exprs}
use Rattle.text.specs.Tree.ArraySpecifier.{no_dimensions, dimensions}
use Rattle.text.specs.Tree.ArraySpecifierDimension.{Unsized, ExplicitlySized}
use Rattle.grammar.specs.Last.{last_expr, last_dimension}
use Rattle.grammar.specs.Strength.{under}
use Rattle.grammar.proofs.Roles.{Start, Role, start, role}
use Rattle.grammar.proofs.Settled.{Operand, as_expr, called, constant, posted}
use Rattle.grammar.proofs.Settled.Head.{named, keyword}
use Rattle.grammar.proofs.Settled.Operand.{val, typed}

-- an operator that waits for its last operand, with those before it
pub data Operator : Type 0 where
  unary : UnaryOp → Operator
  binary : BinaryOp → Expr → Operator
  ternary : Expr → Expr → Operator
  assignment : AssignmentOp → Expr → Operator
  comma : Expr → Operator

-- what waits for the symbol that closes it: a condition between ? and :, parentheses, square brackets, a call's parentheses with the arguments so far
pub data Enclosure : Type 0 where
  choice : Expr → Enclosure
  parens : Enclosure
  index : Operand → Enclosure
  call : Operand → Exprs → Enclosure

pub data Frame : Type 0 where
  behind : Operator → Frame
  within : Enclosure → Frame

abbrev pub Stack : Type 0
Stack = List Frame

unfoldable pub filled : Operator → Expr → Expr
filled (Operator.unary u) e = Unary u e
filled (Operator.binary o a) e = Binary o a e
filled (Operator.ternary c a) e = Ternary c a e
filled (Operator.assignment o a) e = Assignment o a e
filled (Operator.comma a) e = Comma a e

-- the strength of that
unfoldable pub gives : Operator → ℕ
gives (Operator.unary u) = 3
gives (Operator.binary o a) = suc (under o)
gives (Operator.ternary c a) = 15
gives (Operator.assignment o a) = 16
gives (Operator.comma a) = 17

-- the strength of what a frame's whole will be
unfoldable pub makes : Frame → ℕ
makes (behind o) = gives o
makes (within (choice c)) = 15
makes (within parens) = 2
makes (within (index x)) = 2
makes (within (call x es)) = 2

-- in the square brackets of what is no expression only a dimension can stand
unfoldable pub subscript_room : Option Expr → ℕ
subscript_room none = 15
subscript_room (some a) = 17

-- the strength of what may stand in a frame
unfoldable pub frame_room : Frame → ℕ
frame_room (behind (Operator.unary u)) = 3
frame_room (behind (Operator.binary o a)) = under o
frame_room (behind (Operator.ternary c a)) = 16
frame_room (behind (Operator.assignment o a)) = 16
frame_room (behind (Operator.comma a)) = 16
frame_room (within (choice c)) = 17
frame_room (within parens) = 17
frame_room (within (index x)) = subscript_room (as_expr x)
frame_room (within (call x es)) = 16

unfoldable pub room : Stack → ℕ
room [] = 17
room (f ∷ s) = frame_room f

pub data Reduced : Type 0 where
  reduced : Expr → Stack → Reduced

-- every operator of strength k or stronger is filled in
unfoldable pub reduce : ℕ → Expr → Stack → Reduced
reduce k e [] = reduced e []
reduce k e (behind o ∷ s) = cond (leb (gives o) k) (reduce k (filled o e) s) (reduced e (behind o ∷ s))
reduce k e (within b ∷ s) = reduced e (within b ∷ s)

-- the strength of the whole up to the next bracket, where its last operand has strength n
unfoldable pub strength : Stack → ℕ → ℕ
strength [] n = n
strength (behind o ∷ s) n = strength s (gives o)
strength (within b ∷ s) n = n

-- an operand is wanted, or stands there, or a field's name is wanted behind a dot
pub data State : Type 0 where
  want : Stack → State
  have : Operand → Stack → State
  field : Expr → Stack → State

abbrev pub and_then : {A B : Type 0} → Option A → (A → Option B) → Option B
and_then none f = none
and_then (some a) f = f a

abbrev pub or_else : {A : Type 0} → Option A → Option A → Option A
or_else none o = o
or_else (some a) o = some a

unfoldable pub settle : ℕ → Operand → Stack → Option Reduced
settle k x s = and_then (as_expr x) (λ e. some (reduce k e s))

-- a frame that begins with an expression, where there is room for it
unfoldable pub put : (Expr → Frame) → Reduced → Option State
put f (reduced e s) = cond (leb (makes (f e)) (room s)) (some (want (f e ∷ s))) none

unfoldable pub put_else : Reduced → Option State
put_else (reduced e []) = none
put_else (reduced e (behind o ∷ s)) = none
put_else (reduced e (within (choice c) ∷ s)) = some (want (behind (Operator.ternary c e) ∷ s))
put_else (reduced e (within parens ∷ s)) = none
put_else (reduced e (within (index x) ∷ s)) = none
put_else (reduced e (within (call x es) ∷ s)) = none

abbrev pub put_comma_operator : Reduced → Option State
put_comma_operator r = put (λ a. behind (Operator.comma a)) r

-- a comma stands between a call's arguments, or is an operator
unfoldable pub put_comma : Reduced → Option State
put_comma (reduced e []) = put_comma_operator (reduced e [])
put_comma (reduced e (behind o ∷ s)) = put_comma_operator (reduced e (behind o ∷ s))
put_comma (reduced e (within (choice c) ∷ s)) = put_comma_operator (reduced e (within (choice c) ∷ s))
put_comma (reduced e (within parens ∷ s)) = put_comma_operator (reduced e (within parens ∷ s))
put_comma (reduced e (within (index x) ∷ s)) = put_comma_operator (reduced e (within (index x) ∷ s))
put_comma (reduced e (within (call x es) ∷ s)) = some (want (within (call x (last_expr es e)) ∷ s))

unfoldable pub close_parens : Reduced → Option State
close_parens (reduced e []) = none
close_parens (reduced e (behind o ∷ s)) = none
close_parens (reduced e (within (choice c) ∷ s)) = none
close_parens (reduced e (within parens ∷ s)) = some (have (val e) s)
close_parens (reduced e (within (index x) ∷ s)) = none
close_parens (reduced e (within (call x es) ∷ s)) = some (have (val (called x (last_expr es e))) s)

-- a type with one more dimension (`true`: what stands in the brackets is strong enough), or an index
unfoldable pub subscript : Bool → Operand → Expr → Stack → Option State
subscript b (val a) e s = some (have (val (Bracket a e)) s)
subscript true (typed h ds) e s = some (have (typed h (last_dimension ds (ExplicitlySized e))) s)
subscript false (typed h ds) e s = and_then (as_expr (typed h ds)) (λ a. some (have (val (Bracket a e)) s))

unfoldable pub close_subscript : Bool → Reduced → Option State
close_subscript b (reduced e []) = none
close_subscript b (reduced e (behind o ∷ s)) = none
close_subscript b (reduced e (within (choice c) ∷ s)) = none
close_subscript b (reduced e (within parens ∷ s)) = none
close_subscript b (reduced e (within (index x) ∷ s)) = subscript b x e s
close_subscript b (reduced e (within (call x es) ∷ s)) = none

-- the brackets that may be empty
unfoldable pub empty_subscript : Stack → Option State
empty_subscript [] = none
empty_subscript (behind o ∷ s) = none
empty_subscript (within (choice c) ∷ s) = none
empty_subscript (within parens ∷ s) = none
empty_subscript (within (index (val a)) ∷ s) = none
empty_subscript (within (index (typed h ds)) ∷ s) = some (have (typed h (last_dimension ds Unsized)) s)
empty_subscript (within (call x es) ∷ s) = none

unfoldable pub empty_call : Stack → Option State
empty_call [] = none
empty_call (behind o ∷ s) = none
empty_call (within (choice c) ∷ s) = none
empty_call (within parens ∷ s) = none
empty_call (within (index x) ∷ s) = none
empty_call (within (call x no_exprs) ∷ s) = some (have (val (called x no_exprs)) s)
empty_call (within (call x (exprs e es)) ∷ s) = none

-- `f(void)` has no arguments
unfoldable pub void_call : Operand → Stack → Option State
void_call (val e) s = none
void_call (typed (named n) ds) s = none
void_call (typed (keyword zero) no_dimensions) s = empty_call s
void_call (typed (keyword zero) (dimensions d ds)) s = none
void_call (typed (keyword (suc k)) ds) s = none

unfoldable pub begin : Start → Stack → Option State
begin (Start.unary u) s = some (want (behind (Operator.unary u) ∷ s))
begin Start.open_paren s = some (want (within parens ∷ s))
begin Start.close_paren s = empty_call s
begin Start.close_bracket s = empty_subscript s
begin Start.nothing s = none

unfoldable pub go_on : Role → Operand → Stack → Option State
go_on (Role.binary o) x s = and_then (settle (suc (under o)) x s) (put (λ a. behind (Operator.binary o a)))
go_on (Role.assignment o) x s = and_then (settle 3 x s) (put (λ a. behind (Operator.assignment o a)))
go_on (Role.postfix p) x s = and_then (as_expr x) (λ e. some (have (val (posted p e)) s))
go_on Role.question x s = and_then (settle 14 x s) (put (λ a. within (choice a)))
go_on Role.colon x s = and_then (settle 17 x s) put_else
go_on Role.comma x s = and_then (settle 17 x s) put_comma
go_on Role.open_paren x s = some (want (within (call x no_exprs) ∷ s))
go_on Role.close_paren x s = or_else (and_then (settle 17 x s) close_parens) (void_call x s)
go_on Role.open_bracket x s = some (want (within (index x) ∷ s))
go_on Role.close_bracket x s = and_then (settle 17 x s) (close_subscript (leb (strength s 2) 15))
go_on Role.dot x s = and_then (as_expr x) (λ e. some (field e s))
go_on Role.nothing x s = none

-- a token where an operand is wanted, with the constant that it is
unfoldable pub take : Option Expr → Token → Stack → Option State
take (some e) t s = some (have (val e) s)
take none (name n) s = some (have (typed (named n) no_dimensions) s)
take none (Token.type v) s = some (have (typed (keyword v) no_dimensions) s)
take none (int n) s = none
take none (uint n) s = none
take none (float t) s = none
take none (double t) s = none
take none (word w) s = none
take none (symbol y) s = begin (start y) s

unfoldable pub step : State → Token → Option State
step (want s) t = take (constant t) t s
step (have x s) (name n) = none
step (have x s) (Token.type v) = none
step (have x s) (int n) = none
step (have x s) (uint n) = none
step (have x s) (float t) = none
step (have x s) (double t) = none
step (have x s) (word w) = none
step (have x s) (symbol y) = go_on (role y) x s
step (field e s) (name n) = some (have (val (Dot n e)) s)
step (field e s) (Token.type v) = none
step (field e s) (int n) = none
step (field e s) (uint n) = none
step (field e s) (float t) = none
step (field e s) (double t) = none
step (field e s) (word w) = none
step (field e s) (symbol y) = none

unfoldable pub run : State → List Token → Option State
run q [] = some q
run q (t ∷ ts) = elim (step q t) [ none ↦ none | some r ↦ run r ts ]

unfoldable pub finish : Reduced → Option Expr
finish (reduced e []) = some e
finish (reduced e (f ∷ s)) = none

unfoldable pub ended : State → Option Expr
ended (want s) = none
ended (have x s) = and_then (settle 17 x s) finish
ended (field e s) = none

unfoldable pub read : List Token → Option Expr
read ts = and_then (run (want []) ts) ended
