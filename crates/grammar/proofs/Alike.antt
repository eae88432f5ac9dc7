-- `Same` is not too coarse: expressions that are the same have the same commands (crate text), and so equal texts under all settings. It holds of all expressions, sound or not: `as_read` changes only
-- callees, and a name is written alike as a type name and as a Variable, an index as a dimension (000 show_type_name, show_expr, show_array_spec). The other way, that sound expressions with equal
-- texts are the same, is promise 3 (crate reading). Assumes nothing.
use mathlib.Core.Path.{◌≡◌, refl, sym, ◌∙◌, ap}
use mathlib.Core.Bool.{Bool, true, false}
use mathlib.Core.List.{List, ◌++◌, append_assoc, append-nil}
use lib.Dec.{leb}
use Rattle.settings.specs.declared.Settings.{Settings}
use Rattle.settings.specs.declared.FormattingState.{FormattingState}
use Rattle.text.specs.Command.{Command}
use Rattle.text.specs.Pen.{text}
use Rattle.text.specs.Tree.{UnaryOp, Expr, Exprs, FunIdentifier, TypeSpecifier, TypeSpecifierNonArray, ArraySpecifier, ArraySpecifierDimension}
use Rattle.text.specs.Tree.Expr.{no_expr, Variable, IntConst, UIntConst, BoolConst, FloatConst, DoubleConst, Unary, Binary, Ternary, Assignment, Bracket, FunCall, Dot, PostInc, PostDec, Comma}
use Rattle.text.specs.Tree.Exprs.{no_exprs, exprs}
use Rattle.text.specs.Tree.FunIdentifier.{OfType, OfExpr}
use Rattle.text.specs.Tree.TypeSpecifier.{no_type, type}
use Rattle.text.specs.Tree.TypeSpecifierNonArray.{no_base, Keyword, TypeName, Struct}
use Rattle.text.specs.Tree.ArraySpecifier.{no_dimensions, dimensions}
use Rattle.text.specs.Tree.ArraySpecifierDimension.{no_dimension, Unsized, ExplicitlySized}
use Rattle.text.specs.Operator.{precedence, postfix_precedence, doubles}
use Rattle.text.specs.Joins.{sign, sign_callee, joins, is_int}
use Rattle.text.specs.Text.{in_square_brackets, show_expr, show_exprs, show_function_identifier, show_type_specifier, show_type_specifier_non_array, show_array_spec, show_dimension}
use Rattle.grammar.specs.Same.{Same, type_callee, indexed_callee, as_read, exprs_as_read, callee_as_read, type_as_read, array_as_read, dimension_as_read}

-- all that a text takes from an expression in it: its commands, how strongly it binds, whether an operator before it would be doubled, the sign that it begins with, whether it is an IntConst
abbrev Alike : Expr → Expr → Type 0
Alike a b = (show_expr a ≡ show_expr b) × (precedence a ≡ precedence b) × ((op : UnaryOp) → doubles op a ≡ doubles op b) × (sign a ≡ sign b) × (is_int a ≡ is_int b)

-- a type as a callee
type_callee_shown : (b : TypeSpecifierNonArray) (ds : ArraySpecifier) → show_function_identifier (type_callee b ds) ≡ show_type_specifier (type b ds)
unfolding type_callee show_expr show_function_identifier show_type_specifier show_type_specifier_non_array show_array_spec
type_callee_shown no_base ds = refl
type_callee_shown (Keyword v) ds = refl
type_callee_shown (TypeName n) no_dimensions = refl
type_callee_shown (TypeName n) (dimensions d ds) = refl
type_callee_shown (Struct n fs) ds = refl

-- an expression as a callee, where it is written as e with the dimensions ds behind it; that is asked only if e needs no parentheses there, as a name with indices never does
indexed_callee_shown : (whole e : Expr) (ds : ArraySpecifier) → (leb (precedence e) postfix_precedence ≡ true → show_expr e ++ show_array_spec ds ≡ show_expr whole)
    → show_function_identifier (indexed_callee whole e ds) ≡ show_expr whole
unfolding indexed_callee precedence show_expr show_function_identifier show_type_specifier show_type_specifier_non_array show_array_spec show_dimension
indexed_callee_shown w no_expr ds h = refl
indexed_callee_shown w (Variable n) ds h = type_callee_shown (TypeName n) ds ∙ h refl
indexed_callee_shown w (IntConst n) ds h = refl
indexed_callee_shown w (UIntConst n) ds h = refl
indexed_callee_shown w (BoolConst b) ds h = refl
indexed_callee_shown w (FloatConst t) ds h = refl
indexed_callee_shown w (DoubleConst t) ds h = refl
indexed_callee_shown w (Unary o e) ds h = refl
indexed_callee_shown w (Binary o l r) ds h = refl
indexed_callee_shown w (Ternary c s e) ds h = refl
indexed_callee_shown w (Assignment o v e) ds h = refl
indexed_callee_shown w (Bracket e a) ds h =
    indexed_callee_shown w e (dimensions (ExplicitlySized a) ds) (λ bare. sym (append_assoc (show_expr e) (in_square_brackets (show_expr a)) (show_array_spec ds)) ∙ rw bare at (h refl))
indexed_callee_shown w (FunCall f es) ds h = refl
indexed_callee_shown w (Dot i e) ds h = refl
indexed_callee_shown w (PostInc e) ds h = refl
indexed_callee_shown w (PostDec e) ds h = refl
indexed_callee_shown w (Comma a b) ds h = refl

-- the same of the sign that a callee begins with
type_callee_sign : (b : TypeSpecifierNonArray) (ds : ArraySpecifier) → sign_callee (type_callee b ds) ≡ 0
unfolding type_callee sign sign_callee
type_callee_sign no_base ds = refl
type_callee_sign (Keyword v) ds = refl
type_callee_sign (TypeName n) no_dimensions = refl
type_callee_sign (TypeName n) (dimensions d ds) = refl
type_callee_sign (Struct n fs) ds = refl

indexed_callee_sign : (whole e : Expr) (ds : ArraySpecifier) → (leb (precedence e) postfix_precedence ≡ true → sign e ≡ sign whole) → sign_callee (indexed_callee whole e ds) ≡ sign whole
unfolding indexed_callee precedence sign sign_callee
indexed_callee_sign w no_expr ds h = refl
indexed_callee_sign w (Variable n) ds h = type_callee_sign (TypeName n) ds ∙ h refl
indexed_callee_sign w (IntConst n) ds h = refl
indexed_callee_sign w (UIntConst n) ds h = refl
indexed_callee_sign w (BoolConst b) ds h = refl
indexed_callee_sign w (FloatConst t) ds h = refl
indexed_callee_sign w (DoubleConst t) ds h = refl
indexed_callee_sign w (Unary o e) ds h = refl
indexed_callee_sign w (Binary o l r) ds h = refl
indexed_callee_sign w (Ternary c s e) ds h = refl
indexed_callee_sign w (Assignment o v e) ds h = refl
indexed_callee_sign w (Bracket e a) ds h = indexed_callee_sign w e (dimensions (ExplicitlySized a) ds) (λ bare. rw bare at (h refl))
indexed_callee_sign w (FunCall f es) ds h = refl
indexed_callee_sign w (Dot i e) ds h = refl
indexed_callee_sign w (PostInc e) ds h = refl
indexed_callee_sign w (PostDec e) ds h = refl
indexed_callee_sign w (Comma a b) ds h = refl

-- an expression as it is read
mutual
  unfolding as_read exprs_as_read callee_as_read type_as_read array_as_read dimension_as_read precedence doubles sign sign_callee joins is_int
      show_expr show_exprs show_function_identifier show_type_specifier show_type_specifier_non_array show_array_spec show_dimension

  alike : (e : Expr) → Alike (as_read e) e
  alike no_expr = (refl, refl, λ o. refl, refl, refl)
  alike (Variable n) = (refl, refl, λ o. refl, refl, refl)
  alike (IntConst n) = (refl, refl, λ o. refl, refl, refl)
  alike (UIntConst n) = (refl, refl, λ o. refl, refl, refl)
  alike (BoolConst b) = (refl, refl, λ o. refl, refl, refl)
  alike (FloatConst t) = (refl, refl, λ o. refl, refl, refl)
  alike (DoubleConst t) = (refl, refl, λ o. refl, refl, refl)
  alike (Unary p e) = let a = alike e in (rw (a.0, a.1, a.2 p, a.3) refl, refl, λ o. refl, refl, refl)
  alike (Binary p l r) = let a = alike l in let b = alike r in (rw (a.0, a.1, b.0, b.1, b.3) refl, refl, λ o. refl, rw (a.1, a.3) refl, refl)
  alike (Ternary c s e) = let a = alike c in let b = alike e in (rw (a.0, a.1, (alike s).0, b.0, b.1) refl, refl, λ o. refl, rw (a.1, a.3) refl, refl)
  alike (Assignment p v e) = let a = alike v in let b = alike e in (rw (a.0, a.1, b.0, b.1) refl, refl, λ o. refl, rw (a.1, a.3) refl, refl)
  alike (Bracket e i) = let a = alike e in (rw (a.0, a.1, (alike i).0) refl, refl, λ o. refl, rw (a.1, a.3) refl, refl)
  alike (FunCall f es) = (rw (callee_shown f, arguments_shown es true) refl, refl, λ o. refl, callee_sign f, refl)
  alike (Dot n e) = let a = alike e in (rw (a.0, a.1, a.4) refl, refl, λ o. refl, rw (a.1, a.3) refl, refl)
  alike (PostInc e) = let a = alike e in (rw (a.0, a.1) refl, refl, λ o. refl, rw (a.1, a.3) refl, refl)
  alike (PostDec e) = let a = alike e in (rw (a.0, a.1) refl, refl, λ o. refl, rw (a.1, a.3) refl, refl)
  alike (Comma l r) = let a = alike l in let b = alike r in (rw (a.0, a.1, b.0, b.1) refl, refl, λ o. refl, rw (a.1, a.3) refl, refl)

  arguments_shown : (es : Exprs) (first : Bool) → show_exprs (exprs_as_read es) first ≡ show_exprs es first
  arguments_shown no_exprs first = refl
  arguments_shown (exprs e es) first = rw ((alike e).0, arguments_shown es false) refl

  callee_shown : (f : FunIdentifier) → show_function_identifier (callee_as_read f) ≡ show_function_identifier f
  callee_shown (OfType t) = type_shown t
  callee_shown (OfExpr e) = indexed_callee_shown (as_read e) (as_read e) no_dimensions (λ bare. append-nil (show_expr (as_read e))) ∙ (alike e).0

  callee_sign : (f : FunIdentifier) → sign_callee (callee_as_read f) ≡ sign_callee f
  callee_sign (OfType no_type) = refl
  callee_sign (OfType (type b ds)) = type_callee_sign b (array_as_read ds)
  callee_sign (OfExpr e) = indexed_callee_sign (as_read e) (as_read e) no_dimensions (λ bare. refl) ∙ (alike e).3

  type_shown : (t : TypeSpecifier) → show_function_identifier (type_as_read t) ≡ show_type_specifier t
  type_shown no_type = refl
  type_shown (type b ds) = type_callee_shown b (array_as_read ds) ∙ rw (array_shown ds) refl

  array_shown : (ds : ArraySpecifier) → show_array_spec (array_as_read ds) ≡ show_array_spec ds
  array_shown no_dimensions = refl
  array_shown (dimensions d ds) = rw (dimension_shown d, array_shown ds) refl

  dimension_shown : (d : ArraySpecifierDimension) → show_dimension (dimension_as_read d) ≡ show_dimension d
  dimension_shown no_dimension = refl
  dimension_shown Unsized = refl
  dimension_shown (ExplicitlySized e) = rw (alike e).0 refl

pub same_shown : (a b : Expr) → Same a b → show_expr a ≡ show_expr b
same_shown a b e = sym (alike a).0 ∙ ap show_expr e ∙ (alike b).0

pub same_text : (a b : Expr) → Same a b → (s : Settings) (x : FormattingState) → text s (show_expr a) x ≡ text s (show_expr b) x
same_text a b e s x = ap (λ (cs : List Command). text s cs x) (same_shown a b e)
