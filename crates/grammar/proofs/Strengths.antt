-- 000's table of precedences (HasPrecedence) is the table of 4.60 §5.1. Assumes nothing.
use mathlib.Core.Path.{◌≡◌, refl}
use Rattle.text.specs.Tree.{BinaryOp}
use Rattle.text.specs.Operator.{binary_precedence, binary_op}
use Rattle.grammar.specs.Strength.{under, strength}

pub same_strength : (o : BinaryOp) → binary_precedence o ≡ strength o
unfolding binary_op under
same_strength BinaryOp.Or = refl
same_strength BinaryOp.Xor = refl
same_strength BinaryOp.And = refl
same_strength BinaryOp.BitOr = refl
same_strength BinaryOp.BitXor = refl
same_strength BinaryOp.BitAnd = refl
same_strength BinaryOp.Equal = refl
same_strength BinaryOp.NonEqual = refl
same_strength BinaryOp.Lt = refl
same_strength BinaryOp.Gt = refl
same_strength BinaryOp.Lte = refl
same_strength BinaryOp.Gte = refl
same_strength BinaryOp.LShift = refl
same_strength BinaryOp.RShift = refl
same_strength BinaryOp.Add = refl
same_strength BinaryOp.Sub = refl
same_strength BinaryOp.Mult = refl
same_strength BinaryOp.Div = refl
same_strength BinaryOp.Mod = refl
