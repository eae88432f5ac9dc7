-- The strengths of the binary operators (4.60 §5.1, rows 4 to 14), for the settled grammar; they are those of HasPrecedence (proofs/Strengths). Each number of the table is
-- 5.1's less one. Assumes nothing.
use Rattle.std.specs.Prelude.{ℕ, suc}
use Rattle.text.specs.Tree.{BinaryOp}

-- the row above the operator's own: what may stand right of it without brackets
unfoldable pub under : BinaryOp → ℕ
under BinaryOp.Mult = 3
under BinaryOp.Div = 3
under BinaryOp.Mod = 3
under BinaryOp.Add = 4
under BinaryOp.Sub = 4
under BinaryOp.LShift = 5
under BinaryOp.RShift = 5
under BinaryOp.Lt = 6
under BinaryOp.Gt = 6
under BinaryOp.Lte = 6
under BinaryOp.Gte = 6
under BinaryOp.Equal = 7
under BinaryOp.NonEqual = 7
under BinaryOp.BitAnd = 8
under BinaryOp.BitXor = 9
under BinaryOp.BitOr = 10
under BinaryOp.And = 11
under BinaryOp.Xor = 12
under BinaryOp.Or = 13

-- its own row
abbrev pub strength : BinaryOp → ℕ
strength o = suc (under o)
