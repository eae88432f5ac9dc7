-- Sound expressions (01, "Sound expression", every part included): a name for each of its conditions, then the condition on every part. The names that the
-- language lists as its own are a parameter, and so is whether the text keeps the spaces that it needs (`kept`, byte 21 of the settings; 02, #106): where it does, the conditions fall away that
-- these spaces make superfluous. Assumes nothing.
use Rattle.std.specs.Prelude.{◌≡◌, Bool, true, false, ◌||◌, List, ℕ, ◌≤◌}
use Rattle.decimal.specs.Decimal.{negative}
use Rattle.settings.specs.declared.Settings.{Settings}
use Rattle.text.specs.Tree.{Identifier, UnaryOp, Expr, Exprs, FunIdentifier, TypeSpecifier, TypeSpecifierNonArray, ArraySpecifier, ArraySpecifierDimension}
use Rattle.text.specs.Tree.Expr.{no_expr, Variable, IntConst, UIntConst, BoolConst, FloatConst, DoubleConst, Unary, Binary, Ternary, Assignment, Bracket, FunCall, Dot, PostInc, PostDec, Comma}
use Rattle.text.specs.Tree.Exprs.{no_exprs, exprs}
use Rattle.text.specs.Tree.FunIdentifier.{OfType, OfExpr}
use Rattle.text.specs.Tree.TypeSpecifier.{no_type, type}
use Rattle.text.specs.Tree.TypeSpecifierNonArray.{no_base, Keyword, TypeName, Struct}
use Rattle.text.specs.Tree.ArraySpecifier.{no_dimensions, dimensions}
use Rattle.text.specs.Tree.ArraySpecifierDimension.{no_dimension, Unsized, ExplicitlySized}
use Rattle.text.specs.Operator.{precedence, unary_precedence, ternary_precedence, assignment_precedence}

-- "no negative IntConst"
abbrev pub NotNegative : ℕ → Type 0
NotNegative n = negative n ≡ false

-- "no minus directly over Dec nor plus directly over Inc", where no space is kept between the two
pub data Mixed : (kept : Bool) → UnaryOp → Expr → Type 0 where
  minus_over_dec : {e : Expr} → Mixed false UnaryOp.Minus (Unary UnaryOp.Dec e)
  plus_over_inc : {e : Expr} → Mixed false UnaryOp.Add (Unary UnaryOp.Inc e)

abbrev pub Unmixed : (kept : Bool) → UnaryOp → Expr → Type 0
Unmixed kept op e = Mixed kept op e → ⊥

-- "no Dot directly over a numeric constant", or none over a UIntConst, FloatConst or DoubleConst where a space is kept behind an IntConst
pub data Numeric : (kept : Bool) → Expr → Type 0 where
  int : {n : ℕ} → Numeric false (IntConst n)
  uint : {kept : Bool} {n : ℕ} → Numeric kept (UIntConst n)
  float : {kept : Bool} {t : List ℕ} → Numeric kept (FloatConst t)
  double : {kept : Bool} {t : List ℕ} → Numeric kept (DoubleConst t)

abbrev pub NotNumeric : (kept : Bool) → Expr → Type 0
NotNumeric kept e = Numeric kept e → ⊥

-- "no Comma directly as an argument": nothing else binds so weakly
abbrev pub NoComma : Expr → Type 0
NoComma e = precedence e ≤ assignment_precedence

-- "assignment targets bind at 3 or below"
abbrev pub BindsAsTarget : Expr → Type 0
BindsAsTarget e = precedence e ≤ unary_precedence

-- "sized dimensions at 15 or below"
abbrev pub BindsAsDimension : Expr → Type 0
BindsAsDimension e = precedence e ≤ ternary_precedence

module _ (listed : List ℕ → Bool) (kept : Bool) where
  -- "no name that section 3.6 lists as a keyword or reserved word"
  abbrev pub NotListed : Identifier → Type 0
  NotListed n = listed n ≡ false

  -- "callees are .. or a Variable"
  abbrev pub SoundVariable : Expr → Type 0
  SoundVariable e = (n : Identifier) × (e ≡ Variable n) × NotListed n

  -- "callees are a type with no struct (23) in it"
  abbrev pub SoundBase : TypeSpecifierNonArray → Type 0
  SoundBase no_base = ⊥
  SoundBase (Keyword v) = Unit
  SoundBase (TypeName n) = NotListed n
  SoundBase (Struct n fs) = ⊥

  unfoldable mutual
    pub Sound : Expr → Type 0
    Sound no_expr = ⊥
    Sound (Variable n) = NotListed n
    Sound (IntConst n) = NotNegative n
    Sound (UIntConst n) = Unit
    Sound (BoolConst b) = Unit
    Sound (FloatConst t) = Unit
    Sound (DoubleConst t) = Unit
    Sound (Unary op e) = Unmixed kept op e × Sound e
    Sound (Binary op l r) = Sound l × Sound r
    Sound (Ternary c s e) = Sound c × Sound s × Sound e
    Sound (Assignment op v e) = BindsAsTarget v × Sound v × Sound e
    Sound (Bracket e a) = Sound e × Sound a
    Sound (FunCall f es) = SoundCallee f × SoundArguments es
    Sound (Dot i e) = NotNumeric kept e × NotListed i × Sound e
    Sound (PostInc e) = Sound e
    Sound (PostDec e) = Sound e
    Sound (Comma a b) = Sound a × Sound b

    pub SoundCallee : FunIdentifier → Type 0
    SoundCallee (OfType t) = SoundType t
    SoundCallee (OfExpr e) = SoundVariable e

    pub SoundArguments : Exprs → Type 0
    SoundArguments no_exprs = Unit
    SoundArguments (exprs e es) = NoComma e × Sound e × SoundArguments es

    pub SoundType : TypeSpecifier → Type 0
    SoundType no_type = ⊥
    SoundType (type b ds) = SoundBase b × SoundArray ds

    pub SoundArray : ArraySpecifier → Type 0
    SoundArray no_dimensions = Unit
    SoundArray (dimensions d ds) = SoundDimension d × SoundArray ds

    pub SoundDimension : ArraySpecifierDimension → Type 0
    SoundDimension no_dimension = ⊥
    SoundDimension Unsized = Unit
    SoundDimension (ExplicitlySized e) = BindsAsDimension e × Sound e

-- sound in a text under these settings
abbrev pub SoundUnder : (listed : List ℕ → Bool) → Settings → Expr → Type 0
SoundUnder listed s e = Sound listed s.spaces_where_needed e

-- settings under which no two tokens of a sound expression are read as one: with spaces around operators (00, demand 3), or with spaces where they are needed (02, #106)
abbrev pub KeepsApart : Settings → Type 0
KeepsApart s = s.spaces_around_binary_ops || s.spaces_where_needed ≡ true
