-- A sound expression keeps its tokens apart (division, proofs/Kept) under settings that put spaces around operators or where they are needed: with the latter by these, without them because each place where a
-- sign or a dot would be read together with what stands before it, but behind a binary operator, is excluded by a condition of soundness. Assumes nothing.
use mathlib.Core.Path.{◌≡◌, refl, sym, ap, subst}
use mathlib.Core.Bool.{Bool, true, false, not, ◌||◌}
use mathlib.Core.List.{List}
use Prim.Native.Nat.{ℕ, ◌≤◌}
use native.Mathlib.Omega.{arith}
use lib.Dec.{leb, ltb}
use borrow.Author.Tests.{leb-true, ltb-true}
use Rattle.words.specs.Form.{same, one_of}
use Rattle.words.specs.Symbol.{symbol_text}
use Rattle.settings.specs.declared.Settings.{Settings}
use Rattle.text.specs.Asked.{flag}
use Rattle.text.specs.Asked.Flag.{spaces_around_binary_ops, spaces_where_needed, needed_operator_spaces}
use Rattle.text.specs.Tree.{UnaryOp, BinaryOp, Expr, Exprs, FunIdentifier, TypeSpecifier, ArraySpecifier, ArraySpecifierDimension}
use Rattle.text.specs.Tree.Expr.{no_expr, Variable, IntConst, UIntConst, BoolConst, FloatConst, DoubleConst, Unary, Binary, Ternary, Assignment, Bracket, FunCall, Dot, PostInc, PostDec, Comma}
use Rattle.text.specs.Tree.Exprs.{no_exprs, exprs}
use Rattle.text.specs.Tree.FunIdentifier.{OfType, OfExpr}
use Rattle.text.specs.Tree.TypeSpecifier.{no_type, type}
use Rattle.text.specs.Tree.TypeSpecifierNonArray.{no_base, Keyword, TypeName, Struct}
use Rattle.text.specs.Tree.ArraySpecifier.{no_dimensions, dimensions}
use Rattle.text.specs.Tree.ArraySpecifierDimension.{no_dimension, Unsized, ExplicitlySized}
use Rattle.text.specs.Operator.{precedence, unary_symbol, doubles, doubled, bare_operand}
use Rattle.text.specs.Joins.{unary_sign, sign_if, sign, sign_callee, joins, joins_under, joins_right, is_int}
use Rattle.grammar.proofs.Ladder.{ladder}
use Rattle.grammar.proofs.Strengths.{same_strength}
use Rattle.lexis.proofs.Tests.{both, clash}
use Rattle.sound.specs.Sound.{Mixed, Unmixed, Numeric, NotNumeric, Sound, SoundCallee, SoundArguments, SoundType, SoundArray, SoundDimension, SoundUnder, KeepsApart}
use Rattle.lexis.specs.Glsl.{any}
use Rattle.division.proofs.Kept.{is_other, Asked, Kept, KeptCallee, KeptArguments, KeptType, KeptArray, KeptDimension}

-- no Dot over a numeric constant, by tests
not_int : (e : Expr) → NotNumeric false e → is_int e ≡ false
unfolding is_int
not_int no_expr h = refl
not_int (Variable n) h = refl
not_int (IntConst n) h = absurd (h Numeric.int)
not_int (UIntConst n) h = refl
not_int (BoolConst b) h = refl
not_int (FloatConst t) h = refl
not_int (DoubleConst t) h = refl
not_int (Unary op e) h = refl
not_int (Binary op l r) h = refl
not_int (Ternary c s e) h = refl
not_int (Assignment op v e) h = refl
not_int (Bracket e a) h = refl
not_int (FunCall f es) h = refl
not_int (Dot i e) h = refl
not_int (PostInc e) h = refl
not_int (PostDec e) h = refl
not_int (Comma a b) h = refl

not_other : (kept : Bool) (e : Expr) → NotNumeric kept e → is_other e ≡ false
unfolding is_other
not_other k no_expr h = refl
not_other k (Variable n) h = refl
not_other k (IntConst n) h = refl
not_other k (UIntConst n) h = absurd (h Numeric.uint)
not_other k (BoolConst b) h = refl
not_other k (FloatConst t) h = absurd (h Numeric.float)
not_other k (DoubleConst t) h = absurd (h Numeric.double)
not_other k (Unary op e) h = refl
not_other k (Binary op l r) h = refl
not_other k (Ternary c s e) h = refl
not_other k (Assignment op v e) h = refl
not_other k (Bracket e a) h = refl
not_other k (FunCall f es) h = refl
not_other k (Dot i e) h = refl
not_other k (PostInc e) h = refl
not_other k (PostDec e) h = refl
not_other k (Comma a b) h = refl

-- an operand without a sign, or in parentheses, joins nothing
none_if : (b : Bool) (n : ℕ) → (b ≡ true → n ≡ 0) → sign_if b n ≡ 0
none_if true n h = h refl
none_if false n h = refl

none_joins : (op : UnaryOp) (e : Expr) → sign_if (bare_operand op e) (sign e) ≡ 0 → joins_under op e ≡ false
unfolding joins one_of same unary_symbol symbol_text
none_joins UnaryOp.Inc e h = refl
none_joins UnaryOp.Dec e h = refl
none_joins UnaryOp.Add e h = rw h refl
none_joins UnaryOp.Minus e h = rw h refl
none_joins UnaryOp.Not e h = refl
none_joins UnaryOp.Complement e h = refl

bare_most : (op : UnaryOp) (e : Expr) → bare_operand op e ≡ true → precedence e ≤ 3
bare_most op e q = leb-true (precedence e) 3 (both (leb (precedence e) 3) (not (doubles op e)) q).0

none_bare : (op : UnaryOp) (e : Expr) → (precedence e ≤ 3 → sign e ≡ 0) → joins_under op e ≡ false
none_bare op e h = none_joins op e (none_if (bare_operand op e) (sign e) (λ q. h (bare_most op e q)))

-- nor do two unary operators that are not mixed: doubled ones have parentheses
two_joins : (u v : UnaryOp) (e : Expr) → Unmixed false u (Unary v e) → joins_under u (Unary v e) ≡ false
unfolding joins one_of same unary_symbol symbol_text sign unary_sign doubles doubled precedence
two_joins UnaryOp.Inc v e m = refl
two_joins UnaryOp.Dec v e m = refl
two_joins UnaryOp.Add UnaryOp.Inc e m = absurd (m Mixed.plus_over_inc)
two_joins UnaryOp.Add UnaryOp.Dec e m = refl
two_joins UnaryOp.Add UnaryOp.Add e m = refl
two_joins UnaryOp.Add UnaryOp.Minus e m = refl
two_joins UnaryOp.Add UnaryOp.Not e m = refl
two_joins UnaryOp.Add UnaryOp.Complement e m = refl
two_joins UnaryOp.Minus UnaryOp.Inc e m = refl
two_joins UnaryOp.Minus UnaryOp.Dec e m = absurd (m Mixed.minus_over_dec)
two_joins UnaryOp.Minus UnaryOp.Add e m = refl
two_joins UnaryOp.Minus UnaryOp.Minus e m = refl
two_joins UnaryOp.Minus UnaryOp.Not e m = refl
two_joins UnaryOp.Minus UnaryOp.Complement e m = refl
two_joins UnaryOp.Not v e m = refl
two_joins UnaryOp.Complement v e m = refl

module _ (listed : List ℕ → Bool) where
  -- what is sound with all of 01's conditions and binds as a postfix expression does, or more strongly, begins with no sign
  mutual
    unfolding Sound SoundCallee sign sign_callee precedence

    no_sign : (e : Expr) → Sound listed false e → precedence e ≤ 2 → sign e ≡ 0
    no_sign no_expr t h = absurd t
    no_sign (Variable n) t h = refl
    no_sign (IntConst n) t h = rw t refl
    no_sign (UIntConst n) t h = refl
    no_sign (BoolConst b) t h = refl
    no_sign (FloatConst x) t h = refl
    no_sign (DoubleConst x) t h = refl
    no_sign (Unary op e) t h = absurd (omega arith)
    no_sign (Binary op l r) t h = absurd (omega (arith, same_strength op, (ladder op).0))
    no_sign (Ternary c a b) t h = absurd (omega arith)
    no_sign (Assignment op v e) t h = absurd (omega arith)
    no_sign (Bracket e a) t h = none_if (leb (precedence e) 2) (sign e) (λ q. no_sign e t.0 (leb-true (precedence e) 2 q))
    no_sign (FunCall c es) t h = no_sign_callee c t.0
    no_sign (Dot i e) t h = none_if (leb (precedence e) 2) (sign e) (λ q. no_sign e t.2 (leb-true (precedence e) 2 q))
    no_sign (PostInc e) t h = none_if (ltb (precedence e) 2) (sign e) (λ q. no_sign e t (omega (arith, ltb-true (precedence e) 2 q)))
    no_sign (PostDec e) t h = none_if (ltb (precedence e) 2) (sign e) (λ q. no_sign e t (omega (arith, ltb-true (precedence e) 2 q)))
    no_sign (Comma a b) t h = absurd (omega arith)

    no_sign_callee : (c : FunIdentifier) → SoundCallee listed false c → sign_callee c ≡ 0
    no_sign_callee (OfType t) h = refl
    no_sign_callee (OfExpr e) h = ap sign h.1

  -- so a unary operator joins no operand that is
  unjoined : (op : UnaryOp) (e : Expr) → Sound listed false e → Unmixed false op e → joins_under op e ≡ false
  unfolding Sound precedence
  unjoined op no_expr t m = absurd t
  unjoined op (Variable n) t m = none_bare op (Variable n) (λ h. no_sign (Variable n) t (omega arith))
  unjoined op (IntConst n) t m = none_bare op (IntConst n) (λ h. no_sign (IntConst n) t (omega arith))
  unjoined op (UIntConst n) t m = none_bare op (UIntConst n) (λ h. no_sign (UIntConst n) t (omega arith))
  unjoined op (BoolConst b) t m = none_bare op (BoolConst b) (λ h. no_sign (BoolConst b) t (omega arith))
  unjoined op (FloatConst x) t m = none_bare op (FloatConst x) (λ h. no_sign (FloatConst x) t (omega arith))
  unjoined op (DoubleConst x) t m = none_bare op (DoubleConst x) (λ h. no_sign (DoubleConst x) t (omega arith))
  unjoined op (Unary o e) t m = two_joins op o e m
  unjoined op (Binary o l r) t m = none_bare op (Binary o l r) (λ h. absurd (omega (arith, h, same_strength o, (ladder o).0)))
  unjoined op (Ternary c s e) t m = none_bare op (Ternary c s e) (λ h. absurd (omega (arith, h)))
  unjoined op (Assignment o v e) t m = none_bare op (Assignment o v e) (λ h. absurd (omega (arith, h)))
  unjoined op (Bracket e a) t m = none_bare op (Bracket e a) (λ h. no_sign (Bracket e a) t (omega arith))
  unjoined op (FunCall f es) t m = none_bare op (FunCall f es) (λ h. no_sign (FunCall f es) t (omega arith))
  unjoined op (Dot i e) t m = none_bare op (Dot i e) (λ h. no_sign (Dot i e) t (omega arith))
  unjoined op (PostInc e) t m = none_bare op (PostInc e) (λ h. no_sign (PostInc e) t (omega arith))
  unjoined op (PostDec e) t m = none_bare op (PostDec e) (λ h. no_sign (PostDec e) t (omega arith))
  unjoined op (Comma a b) t m = none_bare op (Comma a b) (λ h. absurd (omega (arith, h)))

-- where there are no spaces around operators, settings that keep apart put them where they are needed
else_needed : (around needed : Bool) → around || needed ≡ true → around ≡ false → needed ≡ true
else_needed true needed h off = clash refl off
else_needed false needed h off = h

module _ (listed : List ℕ → Bool) (s : Settings) (apart : KeepsApart s) where
  abbrev kept : Bool
  kept = s.spaces_where_needed

  unary_kept : (op : UnaryOp) (e : Expr) → Sound listed kept e → Unmixed kept op e → Asked s (joins_under op e) spaces_where_needed
  unfolding flag
  unary_kept op e t m j = go kept refl t m
    where
      go : (k : Bool) → kept ≡ k → Sound listed k e → Unmixed k op e → kept ≡ true
      go true q t m = q
      go false q t m = clash j (unjoined listed op e t m)

  binary_kept : (op : BinaryOp) (r : Expr) → flag s spaces_around_binary_ops ≡ false → Asked s (joins_right op r) needed_operator_spaces
  unfolding flag
  binary_kept op r off j = rw (else_needed s.spaces_around_binary_ops kept apart off, off) refl

  dot_kept : (e : Expr) → NotNumeric kept e → Asked s (is_int e) spaces_where_needed
  unfolding flag
  dot_kept e n j = go kept refl n
    where
      go : (k : Bool) → kept ≡ k → NotNumeric k e → kept ≡ true
      go true q n = q
      go false q n = clash j (not_int e n)

  -- every place has its space
  mutual
    unfolding Sound Kept

    pub sound_kept : (e : Expr) → SoundUnder listed s e → Kept false any s e
    sound_kept no_expr t = tt
    sound_kept (Variable n) t = refl
    sound_kept (IntConst n) t = tt
    sound_kept (UIntConst n) t = tt
    sound_kept (BoolConst b) t = tt
    sound_kept (FloatConst x) t = tt
    sound_kept (DoubleConst x) t = tt
    sound_kept (Unary op e) t = (unary_kept op e t.1 t.0, sound_kept e t.1)
    sound_kept (Binary op l r) t = (binary_kept op r, sound_kept l t.0, sound_kept r t.1)
    sound_kept (Ternary c a b) t = (sound_kept c t.0, sound_kept a t.1, sound_kept b t.2)
    sound_kept (Assignment op v e) t = (sound_kept v t.1, sound_kept e t.2)
    sound_kept (Bracket e a) t = (sound_kept e t.0, sound_kept a t.1)
    sound_kept (FunCall f es) t = (callee_kept f t.0, arguments_kept es t.1)
    sound_kept (Dot i e) t = (dot_kept e t.0, refl, refl, sound_kept e t.2)
    sound_kept (PostInc e) t = sound_kept e t
    sound_kept (PostDec e) t = sound_kept e t
    sound_kept (Comma a b) t = (sound_kept a t.0, sound_kept b t.1)

    callee_kept : (f : FunIdentifier) → SoundCallee listed kept f → KeptCallee false any s f
    callee_kept (OfType t) h = type_kept t h
    callee_kept (OfExpr e) h = subst (λ (a : Expr). Kept false any s a) (sym h.1) refl

    arguments_kept : (es : Exprs) → SoundArguments listed kept es → KeptArguments false any s es
    arguments_kept no_exprs t = tt
    arguments_kept (exprs e es) t = (sound_kept e t.1, arguments_kept es t.2)

    type_kept : (t : TypeSpecifier) → SoundType listed kept t → KeptType false any s t
    type_kept no_type h = tt
    type_kept (type no_base ds) h = (tt, array_kept ds h.1)
    type_kept (type (Keyword v) ds) h = (tt, array_kept ds h.1)
    type_kept (type (TypeName n) ds) h = (refl, array_kept ds h.1)
    type_kept (type (Struct n fs) ds) h = absurd h.0

    array_kept : (ds : ArraySpecifier) → SoundArray listed kept ds → KeptArray false any s ds
    array_kept no_dimensions h = tt
    array_kept (dimensions d ds) h = (dimension_kept d h.0, array_kept ds h.1)

    dimension_kept : (d : ArraySpecifierDimension) → SoundDimension listed kept d → KeptDimension false any s d
    dimension_kept no_dimension h = tt
    dimension_kept Unsized h = tt
    dimension_kept (ExplicitlySized e) h = sound_kept e h.1

-- What is sound has no listed name and no dot behind another number than an IntConst: so where every place has its space, its text is divided in wide languages too, into tokens that are proper.
module _ (listed : List ℕ → Bool) (kept : Bool) (s : Settings) where
  abbrev passes : List ℕ → Bool
  passes n = not (listed n)

  mutual
    unfolding Sound Kept

    pub widely_kept : (e : Expr) → Sound listed kept e → Kept false any s e → Kept true passes s e
    widely_kept no_expr t k = tt
    widely_kept (Variable n) t k = ap not t
    widely_kept (IntConst n) t k = tt
    widely_kept (UIntConst n) t k = tt
    widely_kept (BoolConst b) t k = tt
    widely_kept (FloatConst x) t k = tt
    widely_kept (DoubleConst x) t k = tt
    widely_kept (Unary op e) t k = (k.0, widely_kept e t.1 k.1)
    widely_kept (Binary op l r) t k = (k.0, widely_kept l t.0 k.1, widely_kept r t.1 k.2)
    widely_kept (Ternary c a b) t k = (widely_kept c t.0 k.0, widely_kept a t.1 k.1, widely_kept b t.2 k.2)
    widely_kept (Assignment op v e) t k = (widely_kept v t.1 k.0, widely_kept e t.2 k.1)
    widely_kept (Bracket e a) t k = (widely_kept e t.0 k.0, widely_kept a t.1 k.1)
    widely_kept (FunCall f es) t k = (callee_widely f t.0 k.0, arguments_widely es t.1 k.1)
    widely_kept (Dot i e) t k = (k.0, not_other kept e t.0, ap not t.1, widely_kept e t.2 k.3)
    widely_kept (PostInc e) t k = widely_kept e t k
    widely_kept (PostDec e) t k = widely_kept e t k
    widely_kept (Comma a b) t k = (widely_kept a t.0 k.0, widely_kept b t.1 k.1)

    callee_widely : (f : FunIdentifier) → SoundCallee listed kept f → KeptCallee false any s f → KeptCallee true passes s f
    callee_widely (OfType t) h k = type_widely t h k
    callee_widely (OfExpr e) h k = subst (λ (a : Expr). Kept true passes s a) (sym h.1) (ap not h.2)

    arguments_widely : (es : Exprs) → SoundArguments listed kept es → KeptArguments false any s es → KeptArguments true passes s es
    arguments_widely no_exprs t k = tt
    arguments_widely (exprs e es) t k = (widely_kept e t.1 k.0, arguments_widely es t.2 k.1)

    type_widely : (t : TypeSpecifier) → SoundType listed kept t → KeptType false any s t → KeptType true passes s t
    type_widely no_type h k = tt
    type_widely (type no_base ds) h k = (tt, array_widely ds h.1 k.1)
    type_widely (type (Keyword v) ds) h k = (tt, array_widely ds h.1 k.1)
    type_widely (type (TypeName n) ds) h k = (ap not h.0, array_widely ds h.1 k.1)
    type_widely (type (Struct n fs) ds) h k = absurd h.0

    array_widely : (ds : ArraySpecifier) → SoundArray listed kept ds → KeptArray false any s ds → KeptArray true passes s ds
    array_widely no_dimensions h k = tt
    array_widely (dimensions d ds) h k = (dimension_widely d h.0 k.0, array_widely ds h.1 k.1)

    dimension_widely : (d : ArraySpecifierDimension) → SoundDimension listed kept d → KeptDimension false any s d → KeptDimension true passes s d
    dimension_widely no_dimension h k = tt
    dimension_widely Unsized h k = tt
    dimension_widely (ExplicitlySized e) h k = widely_kept e h.1 k
