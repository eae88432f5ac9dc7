-- A sound expression that has every kind of expression and every kind of callee in it: soundness asks for no more than 01 does. And one that is sound only where spaces are kept, with all
-- that 02's #106 lets fall away in it. Assumes nothing.
use mathlib.Core.Path.{◌≡◌, refl}
use mathlib.Core.Bool.{true, false}
use Prim.Native.Nat.{ℕ}
use Prim.Native.String.{String}
use native.Mathlib.Omega.{arith}
use Rattle.words.specs.Bytes.{bytes}
use Rattle.words.specs.Letter.{digit, letter, name_byte}
use Rattle.words.specs.Form.{all, same, one_of, digits, behind_digits, whole_part, fraction, nothing_or_fraction, name_form, float_form}
use Rattle.settings.specs.Settings.{OPEN, EXPORT, settings_of}
use Rattle.settings.specs.State.{fresh}
use Rattle.text.specs.Pen.{text}
use Rattle.text.specs.Text.{show_expr}
use Rattle.text.specs.Tree.{UnaryOp, BinaryOp, AssignmentOp, Expr}
use Rattle.text.specs.Tree.Expr.{Variable, IntConst, UIntConst, BoolConst, FloatConst, DoubleConst, Unary, Binary, Ternary, Assignment, Bracket, FunCall, Dot, PostInc, PostDec, Comma}
use Rattle.text.specs.Tree.Exprs.{no_exprs, exprs}
use Rattle.text.specs.Tree.FunIdentifier.{OfType, OfExpr}
use Rattle.text.specs.Tree.TypeSpecifier.{type}
use Rattle.text.specs.Tree.TypeSpecifierNonArray.{Keyword, TypeName}
use Rattle.text.specs.Tree.ArraySpecifier.{no_dimensions, dimensions}
use Rattle.text.specs.Tree.ArraySpecifierDimension.{Unsized, ExplicitlySized}
use Rattle.text.proofs.Computing.{computing}
use Rattle.formed.specs.Formed.{FormedExpr}
use Rattle.lexis.specs.Keywords.{keywords, vulkan_keywords, reserved_words, listed_words, listed}
use Rattle.sound.specs.Sound.{Mixed, Sound}

abbrev var : String → Expr
var n = Variable (bytes n)

-- the keyword vec2
abbrev vec2 : ℕ
vec2 = 6

abbrev left : Expr
left =
    Assignment AssignmentOp.Add (Bracket (var "a") (IntConst 1))
    (Ternary (Binary BinaryOp.Lt (Unary UnaryOp.Minus (var "b")) (FloatConst (bytes "1.5")))
    (FunCall (OfType (type (Keyword vec2) no_dimensions)) (exprs (DoubleConst (bytes "2")) (exprs (UIntConst 3) no_exprs)))
    (Dot (bytes "x") (FunCall (OfType (type (TypeName (bytes "T")) (dimensions Unsized (dimensions (ExplicitlySized (IntConst 2)) no_dimensions)))) (exprs (BoolConst true) no_exprs))))

abbrev right : Expr
right =
    FunCall (OfExpr (var "f"))
    (exprs (PostInc (var "c")) (exprs (PostDec (Dot (bytes "y") (var "d"))) (exprs (FunCall (OfType (type (TypeName (bytes "S")) no_dimensions)) no_exprs) no_exprs)))

abbrev pub sample : Expr
sample = Comma left right

pub sample_text : text (settings_of OPEN) (show_expr sample) fresh ≡ bytes "a[1] += -b < 1.5 ? vec2(2.lf, 3u) : T[][2](true).x, f(c++, (d.y)--, S())"
unfolding computing
sample_text = refl

pub sample_formed : FormedExpr sample
unfolding computing FormedExpr name_form float_form all same one_of digits behind_digits whole_part fraction nothing_or_fraction digit letter name_byte
sample_formed = (
  ((refl, omega arith), ((refl, refl), ((omega arith, tt), (refl, (omega arith, tt))), (refl, ((refl, (tt, (omega arith, tt))), (tt, tt))))),
  (refl, (refl, ((refl, refl), (((refl, tt), tt), tt)))),
)

pub sample_sound : Sound listed false sample
unfolding computing Sound listed listed_words keywords vulkan_keywords reserved_words same one_of
sample_sound = (
  (omega arith, (refl, refl), (((elim [ ], refl), tt), ((tt, tt), (omega arith, tt, (omega arith, tt, tt))), (elim [ ], refl, ((refl, (tt, ((omega arith, refl), tt))), (omega arith, tt, tt))))),
  ((bytes "f", refl, refl), (omega arith, refl, (omega arith, (elim [ ], refl, refl), (omega arith, ((refl, tt), tt), tt)))),
)

abbrev pub kept_sample : Expr
kept_sample =
    Binary BinaryOp.Add
    (Binary BinaryOp.Sub (Unary UnaryOp.Minus (Unary UnaryOp.Dec (var "a"))) (Unary UnaryOp.Dec (var "b")))
    (Binary BinaryOp.Mult (Unary UnaryOp.Add (Unary UnaryOp.Inc (var "c"))) (Dot (bytes "lf") (IntConst 1)))

pub kept_text : text (settings_of EXPORT) (show_expr kept_sample) fresh ≡ bytes "- --a- --b+ + ++c*1 .lf"
unfolding computing
kept_text = refl

pub kept_formed : FormedExpr kept_sample
unfolding computing FormedExpr name_form all same one_of digit letter name_byte
kept_formed = ((refl, refl), (refl, (refl, omega arith)))

pub kept_sound : Sound listed true kept_sample
unfolding computing Sound listed listed_words keywords vulkan_keywords reserved_words same one_of
kept_sound = (((elim [ ], (elim [ ], refl)), (elim [ ], refl)), ((elim [ ], (elim [ ], refl)), (elim [ ], refl, refl)))

-- with a condition of 01's it is not
pub kept_only : Sound listed false kept_sample → ⊥
unfolding computing Sound
kept_only t = t.0.0.0 Mixed.minus_over_dec
