-- The tokens of a sound expression's text are derived by chapter 9, as that expression. Assumes nothing.
use Prim.Native.Nat.{ℕ, suc, ◌≤◌}
use native.Mathlib.Omega.{arith}
use mathlib.Core.Path.{sym, subst}
use mathlib.Core.Bool.{Bool, true, false, not, and-eq-true_iff as both}
use mathlib.Core.List.{List, [], ◌∷◌, ◌++◌, append_assoc, append-nil}
use lib.Dec.{leb, ltb}
use borrow.Author.Tests.{leb-true, ltb-true}
use Rattle.decimal.specs.Decimal.{magnitude}
use Rattle.words.specs.Symbol.Symbol.{right_bracket, comma}
use Rattle.text.specs.Token.{Token}
use Rattle.text.specs.Token.Token.{symbol}
use Rattle.text.specs.Tree.{UnaryOp, BinaryOp, Expr, Exprs, FunIdentifier, TypeSpecifier, ArraySpecifier, ArraySpecifierDimension}
use Rattle.text.specs.Tree.Expr.{no_expr, Variable, IntConst, UIntConst, BoolConst, FloatConst, DoubleConst, Unary, Binary, Ternary, Assignment, Bracket, FunCall, Dot, PostInc, PostDec, Comma}
use Rattle.text.specs.Tree.Exprs.{no_exprs, exprs}
use Rattle.text.specs.Tree.FunIdentifier.{OfType, OfExpr}
use Rattle.text.specs.Tree.TypeSpecifier.{no_type, type}
use Rattle.text.specs.Tree.TypeSpecifierNonArray.{no_base, Keyword, TypeName, Struct}
use Rattle.text.specs.Tree.ArraySpecifier.{no_dimensions, dimensions}
use Rattle.text.specs.Tree.ArraySpecifierDimension.{no_dimension, Unsized, ExplicitlySized}
use Rattle.text.specs.Visible.{tokens_of}
use Rattle.text.specs.Asked.Flag.{spaces_where_needed, needed_operator_spaces}
use Rattle.text.specs.Operator.{precedence, binary_precedence, doubles, bare_operand, bare_right}
use Rattle.text.specs.Joins.{joins_under, joins_right, is_int}
use Rattle.text.specs.Text.{bare_if, a_symbol, show_expr, show_exprs, show_function_identifier, show_type_specifier, show_type_specifier_non_array, show_array_spec, show_dimension, show_int}
use Rattle.grammar.specs.Last.{last_expr, last_dimension}
use Rattle.grammar.specs.Strength.{under}
use Rattle.grammar.specs.Chapter9.{Derives, Value}
use Rattle.grammar.specs.Chapter9.Nonterminal.{primary_expression, function_identifier, assignment_expression, expression, type_specifier}
use Rattle.grammar.specs.Chapter9.Value.{expr, callee}
use Rattle.grammar.specs.Chapter9.Derives.{variable-identifier, primary-variable, primary-int, primary-uint, primary-float, primary-bool, primary-double, postfix-primary, identifier-type, identifier-postfix}
use Rattle.grammar.proofs.Settled.{Head, named, keyword, head_token, head_base, inc, dec, postfix_symbol, posted}
use Rattle.grammar.proofs.Strengths.{same_strength}
use Rattle.grammar.proofs.Levels.{level}
use Rattle.grammar.proofs.Specifiers.{Specifier, plain, and_open, and_sized, specifier_derived}
use Rattle.grammar.proofs.Arguments.{Arguments, Parameters, no_arguments, some_arguments, first_parameter, next_parameter}
use Rattle.sound.specs.Sound.{NotNegative, Sound, SoundCallee, SoundArguments, SoundType, SoundArray, SoundDimension}
use Rattle.division.proofs.Tokens.{tokens_append}
use Rattle.sound.proofs.Joined.{and_exprs, and_no_exprs, and_first_expr, and_dimensions, and_no_dimensions, and_first_dimension}
use Rattle.sound.proofs.Shows.{Shows, apart_shown, prefix_shown, binary_shown, assignment_shown, comma_shown, ternary_shown, postfix_shown, field_shown, index_shown, call_shown, weaker_shown, expression_shown, operand_shown}

int_shown : (n : ℕ) → NotNegative n → Shows primary_expression (show_int n) (expr (IntConst n))
unfolding tokens_of magnitude
int_shown n h = rw h record { derivation = primary-int n }

-- an expression's text is derived at the strength that is its precedence
abbrev Shown : Expr → Type 0
Shown e = Shows (level (precedence e)) (show_expr e) (expr e)

-- an operand as the text has it: it is bare where it binds strongly enough, which is tested by `<=` or by `<`

at_most : (e : Expr) (n : ℕ) → Shown e → Shows (level n) (bare_if (leb (precedence e) n) (show_expr e)) (expr e)
at_most e n s = operand_shown (show_expr e) e n (leb (precedence e) n) (leb-true (precedence e) n) s

below : (e : Expr) (n : ℕ) → Shown e → Shows (level n) (bare_if (ltb (precedence e) (suc n)) (show_expr e)) (expr e)
below e n s = operand_shown (show_expr e) e n (ltb (precedence e) (suc n)) (λ q. omega (arith, ltb-true (precedence e) (suc n) q)) s

under_sign : (o : UnaryOp) (e : Expr) → Shown e → Shows (level 3) (bare_if (bare_operand o e) (show_expr e)) (expr e)
under_sign o e s = operand_shown (show_expr e) e 3 (bare_operand o e)
    (λ q. leb-true (precedence e) 3 ((both (leb (precedence e) 3) (not (doubles o e))).0 q).0) s

-- the operands of a binary operator
left_shown : (o : BinaryOp) (a : Expr) → Shown a → Shows (level (suc (under o))) (bare_if (leb (precedence a) (binary_precedence o)) (show_expr a)) (expr a)
left_shown o a s = rw (same_strength o) (at_most a (suc (under o)) s)

right_shown : (o : BinaryOp) (b : Expr) → Shown b → Shows (level (under o)) (bare_if (bare_right o b) (show_expr b)) (expr b)
right_shown o b s = rw (same_strength o) (below b (under o) s)

argument_shown : (e : Expr) → precedence e ≤ 16 → Shown e → Derives assignment_expression (tokens_of (show_expr e)) (expr e)
unfolding level
argument_shown e h s = (weaker_shown (precedence e) 16 h s).derivation

module _ (listed : List ℕ → Bool) (kept : Bool) where
  mutual
    unfolding Sound SoundCallee SoundArguments SoundType SoundArray SoundDimension
        show_expr show_exprs show_function_identifier show_type_specifier show_type_specifier_non_array show_array_spec show_dimension
        tokens_of precedence level postfix_symbol posted head_token head_base last_expr and_exprs and_dimensions

    shown : (e : Expr) → Sound listed kept e → Shown e
    shown no_expr s = absurd s
    shown (Variable n) s = record { derivation = primary-variable (variable-identifier n) }
    shown (IntConst n) s = int_shown n s
    shown (UIntConst n) s = record { derivation = primary-uint n }
    shown (BoolConst b) s = record { derivation = primary-bool b }
    shown (FloatConst t) s = record { derivation = primary-float t }
    shown (DoubleConst t) s = record { derivation = primary-double t }
    shown (Unary o e) s = prefix_shown o (apart_shown (joins_under o e) spaces_where_needed (under_sign o e (shown e s.1)))
    shown (Binary o a b) s = subst (λ (n : ℕ). Shows (level n) (show_expr (Binary o a b)) (expr (Binary o a b))) (sym (same_strength o))
        (binary_shown o (left_shown o a (shown a s.0)) (apart_shown (joins_right o b) needed_operator_spaces (right_shown o b (shown b s.1))))
    shown (Ternary c a b) s = ternary_shown (below c 14 (shown c s.0)) (expression_shown a (shown a s.1)) (weaker_shown 15 16 (omega arith) (at_most b 15 (shown b s.2)))
    shown (Assignment o a b) s = assignment_shown o (operand_shown (show_expr a) a 3 (ltb (precedence a) 16) (λ q. s.0) (shown a s.1)) (at_most b 16 (shown b s.2))
    shown (Bracket a i) s = index_shown (at_most a 2 (shown a s.0)) (expression_shown i (shown i s.1))
    shown (FunCall f es) s = call_shown (show_exprs es true) (callee_shown f s.0) (arguments_shown es s.1)
    shown (Dot n a) s = field_shown n (is_int a) spaces_where_needed (at_most a 2 (shown a s.2))
    shown (PostInc a) s = postfix_shown inc (weaker_shown 1 2 (omega arith) (below a 1 (shown a s)))
    shown (PostDec a) s = postfix_shown dec (weaker_shown 1 2 (omega arith) (below a 1 (shown a s)))
    shown (Comma a b) s = comma_shown (at_most a 17 (shown a s.0)) (below b 16 (shown b s.1))

    callee_shown : (f : FunIdentifier) → SoundCallee listed kept f → Shows function_identifier (show_function_identifier f) (callee f)
    callee_shown (OfType t) s = record { derivation = identifier-type (type_shown t s).derivation }
    callee_shown (OfExpr e) s = subst (λ (f : Expr). Shows function_identifier (show_expr f) (callee (OfExpr f))) (sym s.1)
        record { derivation = identifier-postfix (postfix-primary (primary-variable (variable-identifier s.0))) }

    arguments_shown : (es : Exprs) → SoundArguments listed kept es → Arguments (tokens_of (show_exprs es true)) es
    arguments_shown no_exprs s = no_arguments
    arguments_shown (exprs e es) s = rw (tokens_append (show_expr e) (show_exprs es false))
        (some_arguments (more_shown es s.2 (tokens_of (show_expr e)) (last_expr no_exprs e) (first_parameter (argument_shown e s.0 (shown e s.1)))))

    -- arguments behind others
    more_shown : (es : Exprs) → SoundArguments listed kept es → (us : List Token) (xs : Exprs) → Parameters us xs → Parameters (us ++ tokens_of (show_exprs es false)) (and_exprs xs es)
    more_shown no_exprs s us xs p = rw (append-nil us, and_no_exprs xs) p
    more_shown (exprs e es) s us xs p = rw (tokens_append (show_expr e) (show_exprs es false))
        (rw (append_assoc us (symbol comma ∷ tokens_of (show_expr e)) (tokens_of (show_exprs es false)), and_first_expr xs e es)
        at (more_shown es s.2 (us ++ (symbol comma ∷ tokens_of (show_expr e))) (last_expr xs e) (next_parameter p (argument_shown e s.0 (shown e s.1)))))

    type_shown : (t : TypeSpecifier) → SoundType listed kept t → Shows type_specifier (show_type_specifier t) (Value.type t)
    type_shown no_type s = absurd s
    type_shown (type no_base ds) s = absurd (s.0)
    type_shown (type (Keyword v) ds) s = record { derivation = specifier_derived (keyword v) (array_shown ds s.1 (keyword v) (head_token (keyword v) ∷ []) no_dimensions plain) }
    type_shown (type (TypeName n) ds) s = record { derivation = specifier_derived (named n) (array_shown ds s.1 (named n) (head_token (named n) ∷ []) no_dimensions plain) }
    type_shown (type (Struct n fs) ds) s = absurd (s.0)

    -- dimensions behind others
    array_shown : (ds : ArraySpecifier) → SoundArray listed kept ds → (h : Head) (us : List Token) (cs : ArraySpecifier) → Specifier h us cs
        → Specifier h (us ++ tokens_of (show_array_spec ds)) (and_dimensions cs ds)
    array_shown no_dimensions s h us cs p = rw (append-nil us, and_no_dimensions cs) p
    array_shown (dimensions d ds) s h us cs p = rw (tokens_append (show_dimension d) (show_array_spec ds))
        (rw (append_assoc us (tokens_of (show_dimension d)) (tokens_of (show_array_spec ds)), and_first_dimension cs d ds)
        at (array_shown ds s.1 h (us ++ tokens_of (show_dimension d)) (last_dimension cs d) (dimension_shown d s.0 h us cs p)))

    dimension_shown : (d : ArraySpecifierDimension) → SoundDimension listed kept d → (h : Head) (us : List Token) (cs : ArraySpecifier) → Specifier h us cs
        → Specifier h (us ++ tokens_of (show_dimension d)) (last_dimension cs d)
    dimension_shown no_dimension s h us cs p = absurd s
    dimension_shown Unsized s h us cs p = and_open p
    dimension_shown (ExplicitlySized e) s h us cs p = rw (tokens_append (show_expr e) (a_symbol right_bracket))
        (and_sized p (weaker_shown (precedence e) 15 s.0 (shown e s.1)).derivation)

  pub derived : (e : Expr) → Sound listed kept e → Derives expression (tokens_of (show_expr e)) (expr e)
  derived e s = (expression_shown e (shown e s)).derivation
