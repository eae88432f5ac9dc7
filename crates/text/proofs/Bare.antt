-- Both sides of each bracket rule (01, "Rules of the text"; 000 show_expr): where an operand stands bare, and where it is bracketed. One table, one theorem, by computation.
-- Assumes nothing.
use mathlib.Core.Path.{◌≡◌, refl}
use mathlib.Core.List.{List, [], ◌∷◌, map}
use Prim.Native.String.{String}
use Rattle.words.specs.Bytes.{bytes}
use Rattle.settings.specs.Settings.{settings_of, TIGHT}
use Rattle.settings.specs.State.{fresh}
use Rattle.text.specs.Pen.{text}
use Rattle.text.specs.Text.{show_expr}
use Rattle.text.specs.Tree.{UnaryOp, BinaryOp, AssignmentOp, Expr}
use Rattle.text.specs.Tree.Expr.{Variable, Unary, Binary, Ternary, Assignment, Bracket, Dot, PostInc, PostDec, Comma}
use Rattle.text.proofs.Computing.{computing}

record Row : Type 0 where
  tree : Expr
  tight : String

abbrev row : Expr → String → Row
row e t = record { tree = e; tight = t }

abbrev var : String → Expr
var n = Variable (bytes n)

abbrev a : Expr
a = var "a"

abbrev b : Expr
b = var "b"

abbrev c : Expr
c = var "c"

abbrev d : Expr
d = var "d"

abbrev minus : Expr → Expr
minus e = Unary UnaryOp.Minus e

abbrev plus : Expr → Expr
plus e = Unary UnaryOp.Add e

abbrev sum : Expr → Expr → Expr
sum l r = Binary BinaryOp.Add l r

abbrev product : Expr → Expr → Expr
product l r = Binary BinaryOp.Mult l r

abbrev set : Expr → Expr → Expr
set v e = Assignment AssignmentOp.Equal v e

rows : List Row
rows =
    -- Unary at 3 or below, but for plus over plus and minus over minus
    row (minus (PostInc a)) "-a++" ∷ row (minus (plus a)) "-+a" ∷ row (minus (product a b)) "-(a*b)" ∷ row (minus (minus a)) "-(-a)" ∷ row (plus (plus a)) "+(+a)"
    -- binary operators: left at the operator's precedence or below, right below it
    ∷ row (sum (sum a b) c) "a+b+c" ∷ row (sum (product a b) c) "a*b+c" ∷ row (product (sum a b) c) "(a+b)*c"
    ∷ row (sum a (product b c)) "a+b*c" ∷ row (sum a (sum b c)) "a+(b+c)" ∷ row (product a (sum b c)) "a*(b+c)"
    -- Ternary: condition below 15, middle always bare, else at 15 or below
    ∷ row (Ternary (sum a b) c d) "a+b?c:d" ∷ row (Ternary (Ternary a b c) c d) "(a?b:c)?c:d" ∷ row (Ternary a (Comma b c) d) "a?b,c:d"
    ∷ row (Ternary a b (Ternary a b c)) "a?b:a?b:c" ∷ row (Ternary a b (set c d)) "a?b:(c=d)"
    -- Assignment: target below 16, value at 16 or below
    ∷ row (set (minus a) b) "-a=b" ∷ row (set (set a b) c) "(a=b)=c" ∷ row (set a (set b c)) "a=b=c" ∷ row (set a (Comma b c)) "a=(b,c)"
    -- Bracket and Dot at 2 or below
    ∷ row (Bracket (Bracket a b) c) "a[b][c]" ∷ row (Bracket (minus a) b) "(-a)[b]" ∷ row (Bracket a (Comma b c)) "a[b,c]"
    ∷ row (Dot (bytes "x") (Dot (bytes "y") a)) "a.y.x" ∷ row (Dot (bytes "x") (minus a)) "(-a).x"
    -- PostInc and PostDec below 2
    ∷ row (PostInc a) "a++" ∷ row (PostInc (Bracket a b)) "(a[b])++" ∷ row (PostDec a) "a--" ∷ row (PostDec (PostDec a)) "(a--)--"
    -- Comma: left at 17 or below, right below it
    ∷ row (Comma (Comma a b) c) "a,b,c" ∷ row (Comma a (Comma b c)) "a,(b,c)" ∷ []

match : map (λ (r : Row). text (settings_of TIGHT) (show_expr r.tree) fresh) rows ≡ map (λ (r : Row). bytes r.tight) rows
unfolding computing rows
match = refl
