-- Worked rows: what chapter 9 derives from tokens, by the reader, which answers as chapter 9 does (Agree). One table, one theorem, by computation. Assumes nothing.
use mathlib.Core.Path.{◌≡◌, refl}
use mathlib.Core.List.{List, [], ◌∷◌, map}
use mathlib.Core.Option.{Option, none, some}
use Prim.Native.Nat.{ℕ}
use Prim.Native.String.{String}
use Rattle.words.specs.Bytes.{bytes}
use Rattle.words.specs.Symbol.{Symbol}
use Rattle.words.specs.Symbol.Symbol.{left_paren, right_paren, left_bracket, right_bracket, dot, comma, colon, question, dash, equal, inc_op}
use Rattle.words.specs.Keyword.{type_keywords}
use Rattle.text.specs.Token.{Token, spell}
use Rattle.text.specs.Token.Token.{name, int, symbol}
use Rattle.text.specs.Tree.{UnaryOp, BinaryOp, AssignmentOp, Expr, Exprs}
use Rattle.text.specs.Tree.Expr.{Variable, IntConst, Unary, Binary, Ternary, Assignment, Bracket, FunCall, Dot, PostInc, Comma}
use Rattle.text.specs.Tree.Exprs.{no_exprs, exprs}
use Rattle.text.specs.Tree.FunIdentifier.{OfType, OfExpr}
use Rattle.text.specs.Tree.TypeSpecifier.{type}
use Rattle.text.specs.Tree.TypeSpecifierNonArray.{Keyword, TypeName}
use Rattle.text.specs.Tree.ArraySpecifier.{no_dimensions, dimensions}
use Rattle.text.specs.Tree.ArraySpecifierDimension.{Unsized, ExplicitlySized}
use Rattle.grammar.specs.Last.{last_expr, last_dimension}
use Rattle.grammar.specs.Strength.{under}
use Rattle.grammar.specs.Chapter9.{void}
use Rattle.grammar.specs.Same.{type_callee}
use Rattle.grammar.proofs.Settled.{head_token, head_base, indexed, as_expr, called, word_constant, constant, postfix_symbol, posted}
use Rattle.grammar.proofs.Roles.{start, role}
use Rattle.grammar.proofs.Reader.{filled, gives, makes, subscript_room, frame_room, room, reduce, strength, settle, put, put_else, put_comma, close_parens, subscript, close_subscript, empty_subscript, empty_call, void_call, begin, go_on, take, step, run, finish, ended, read}

record Row : Type 0 where
  tokens : List Token
  reading : Option Expr

abbrev row : List Token → Option Expr → Row
row ts o = record { tokens = ts; reading = o }

-- tokens
abbrev n : String → Token
n s = name (bytes s)

abbrev y : Symbol → Token
y s = symbol s

-- the keyword int
abbrev int_keyword : ℕ
int_keyword = 2

abbrev int_type : Token
int_type = Token.type int_keyword

-- trees
abbrev v : String → Expr
v s = Variable (bytes s)

abbrev f : Exprs → Expr
f es = FunCall (OfExpr (v "f")) es

rows : List Row
rows =
    -- calls: no arguments, said or not; a name's dimensions are a type's, unless it stands in parentheses
    row (n "f" ∷ y left_paren ∷ y right_paren ∷ []) (some (f no_exprs))
    ∷ row (n "f" ∷ y left_paren ∷ void ∷ y right_paren ∷ []) (some (f no_exprs))
    ∷ row (n "f" ∷ y left_paren ∷ n "a" ∷ y comma ∷ n "b" ∷ y right_paren ∷ []) (some (f (exprs (v "a") (exprs (v "b") no_exprs))))
    ∷ row (int_type ∷ y left_bracket ∷ y right_bracket ∷ y left_paren ∷ n "a" ∷ y right_paren ∷ []) (some (FunCall (OfType (type (Keyword int_keyword) (dimensions Unsized no_dimensions))) (exprs (v "a") no_exprs)))
    ∷ row (n "f" ∷ y left_bracket ∷ int 1 ∷ y right_bracket ∷ y left_paren ∷ y right_paren ∷ []) (some (FunCall (OfType (type (TypeName (bytes "f")) (dimensions (ExplicitlySized (IntConst 1)) no_dimensions))) no_exprs))
    ∷ row (y left_paren ∷ n "f" ∷ y left_bracket ∷ int 1 ∷ y right_bracket ∷ y right_paren ∷ y left_paren ∷ y right_paren ∷ []) (some (FunCall (OfExpr (Bracket (v "f") (IntConst 1))) no_exprs))
    -- operators: from the left, but for prefixes, choices and assignments
    ∷ row (n "a" ∷ y dash ∷ n "b" ∷ y dash ∷ n "c" ∷ []) (some (Binary BinaryOp.Sub (Binary BinaryOp.Sub (v "a") (v "b")) (v "c")))
    ∷ row (y dash ∷ y dash ∷ n "a" ∷ y inc_op ∷ []) (some (Unary UnaryOp.Minus (Unary UnaryOp.Minus (PostInc (v "a")))))
    ∷ row (n "a" ∷ y equal ∷ n "b" ∷ y equal ∷ n "c" ∷ []) (some (Assignment AssignmentOp.Equal (v "a") (Assignment AssignmentOp.Equal (v "b") (v "c"))))
    ∷ row (n "a" ∷ y question ∷ n "b" ∷ y comma ∷ n "c" ∷ y colon ∷ n "d" ∷ []) (some (Ternary (v "a") (Comma (v "b") (v "c")) (v "d")))
    ∷ row (n "a" ∷ y question ∷ n "b" ∷ y colon ∷ n "c" ∷ y equal ∷ n "d" ∷ []) (some (Ternary (v "a") (v "b") (Assignment AssignmentOp.Equal (v "c") (v "d"))))
    ∷ row (n "a" ∷ y dot ∷ n "x" ∷ y left_bracket ∷ n "b" ∷ y comma ∷ n "c" ∷ y right_bracket ∷ []) (some (Bracket (Dot (bytes "x") (v "a")) (Comma (v "b") (v "c"))))
    -- none
    ∷ row [] none
    ∷ row (n "a" ∷ n "b" ∷ []) none
    ∷ row (n "a" ∷ y dash ∷ []) none
    ∷ row (int_type ∷ []) none
    ∷ row (n "a" ∷ y left_bracket ∷ y right_bracket ∷ []) none
    ∷ row (y left_paren ∷ y right_paren ∷ []) none
    ∷ row (n "a" ∷ y dash ∷ n "b" ∷ y equal ∷ n "c" ∷ []) none
    ∷ row (int_type ∷ y left_bracket ∷ n "a" ∷ y comma ∷ n "b" ∷ y right_bracket ∷ y left_paren ∷ y right_paren ∷ []) none
    ∷ []

match : map (λ (r : Row). read r.tokens) rows ≡ map (λ (r : Row). r.reading) rows
unfolding rows last_expr last_dimension under type_callee head_token head_base indexed as_expr called word_constant constant postfix_symbol posted start role
    filled gives makes subscript_room frame_room room reduce strength settle put put_else put_comma close_parens subscript close_subscript empty_subscript empty_call void_call begin go_on take step run finish ended read
match = refl

-- VOID is the word void
void_word : spell void ≡ bytes "void"
unfolding spell type_keywords
void_word = refl
