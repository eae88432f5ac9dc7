-- Every binary operator stands on the ladder between unary and conditional expressions. Assumes nothing.
use native.Mathlib.Omega.{arith}
use Prim.Native.Nat.{◌≤◌}
use Rattle.text.specs.Tree.{BinaryOp}
use Rattle.grammar.specs.Strength.{under}

pub ladder : (o : BinaryOp) → (3 ≤ under o) × (under o ≤ 13)
unfolding under
ladder BinaryOp.Or = omega arith
ladder BinaryOp.Xor = omega arith
ladder BinaryOp.And = omega arith
ladder BinaryOp.BitOr = omega arith
ladder BinaryOp.BitXor = omega arith
ladder BinaryOp.BitAnd = omega arith
ladder BinaryOp.Equal = omega arith
ladder BinaryOp.NonEqual = omega arith
ladder BinaryOp.Lt = omega arith
ladder BinaryOp.Gt = omega arith
ladder BinaryOp.Lte = omega arith
ladder BinaryOp.Gte = omega arith
ladder BinaryOp.LShift = omega arith
ladder BinaryOp.RShift = omega arith
ladder BinaryOp.Add = omega arith
ladder BinaryOp.Sub = omega arith
ladder BinaryOp.Mult = omega arith
ladder BinaryOp.Div = omega arith
ladder BinaryOp.Mod = omega arith
