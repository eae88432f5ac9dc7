-- Worked examples of the record check from bytes, in one table: accepted trees, each refusal at its place, and the order of the refusals (01, "Calls").
-- Assumes nothing.
use mathlib.Core.Path.{◌≡◌, refl}
use mathlib.Core.List.{List, [], ◌∷◌, ◌++◌, map}
use Prim.Native.Nat.{ℕ, ◌-◌, ◌*◌, ◌^◌}
use Prim.Native.String.{String}
use Prim.Native.Char.{code}
use native.Mathlib.Omega.{arith}
use lib.ListN.{replicate}
use Rattle.words.specs.Bytes.{bytes}
use Rattle.records.specs.Record.{record_size}
use Rattle.records.proofs.Made.{rec, plain, many, named}
use Rattle.shapes.specs.Class.{Class}
use Rattle.accept.specs.declared.Refusal.{Refusal}
use Rattle.accept.specs.declared.Refusal.TheVariants as Why
use Rattle.accept.specs.Checked.{Checked, refused}
use Rattle.std.specs.Prelude.{Ok}
use Rattle.accept.specs.Check.{node, check}
use Rattle.accepted.proofs.Case.{computing, Case, asked}
use Rattle.accepted.proofs.Deep.{chain, depth_passes, depth_refused}

abbrev row : Class → List ℕ → List ℕ → Checked → List Case
row c rs ns x = record { root = c; records = rs; names = ns; answer = x } ∷ []

-- a unit or an expression, its names, and the record behind it
abbrev unit : List ℕ → String → ℕ → List Case
unit rs ns m = row Class.unit rs (bytes ns) (Ok m)

abbrev expr : List ℕ → String → ℕ → List Case
expr rs ns m = row Class.expr rs (bytes ns) (Ok m)

-- the same, with the refusal and its place
abbrev no_unit : List ℕ → String → Refusal → ℕ → List Case
no_unit rs ns x p = row Class.unit rs (bytes ns) (refused x p)

abbrev no_expr : List ℕ → String → Refusal → ℕ → List Case
no_expr rs ns x p = row Class.expr rs (bytes ns) (refused x p)

-- records
abbrev var : ℕ → List ℕ
var a = named 1 0 a

abbrev bool : ℕ → List ℕ
bool v = plain 4 v

abbrev not_op : List ℕ
not_op = plain 7 4

abbrev minus : List ℕ
minus = plain 8 15

abbrev keyword : ℕ → List ℕ
keyword v = plain 20 0 ++ plain 21 v

abbrev declared : ℕ → List ℕ
declared a = plain 47 1 ++ plain 42 0 ++ named 43 1 a ++ plain 31 0

-- `void NAME(..)` with n parameters, by offset and length of its name
abbrev prototype : ℕ → ℕ → ℕ → List ℕ
prototype n a b = rec 40 0 n a b ++ plain 31 0 ++ keyword 0

abbrev function : ℕ → List ℕ
function a = plain 81 0 ++ prototype 0 a 1

-- a struct with an int field, by offset and length of both names
abbrev struct : ℕ → ℕ → ℕ → ℕ → List ℕ
struct a b c d = plain 20 0 ++ rec 23 1 1 a b ++ many 26 1 ++ keyword 2 ++ rec 27 0 0 c d

-- a unit of a prototype whose name has the first b bytes, up to its one parameter; what an int parameter has behind its qualifier
abbrev with_parameter : ℕ → ℕ → List ℕ
with_parameter b v = many 80 1 ++ plain 47 0 ++ prototype 1 0 b ++ plain 41 v

abbrev parameter : ℕ → ℕ → List ℕ
parameter a b = keyword 2 ++ rec 27 0 0 a b

-- a call without arguments of a type with an array, up to the array
abbrev array_callee : List ℕ
array_callee = many 12 0 ++ plain 20 1 ++ plain 21 4

-- a precision declaration, up to the qualifier
abbrev precision : List ℕ
precision = many 80 1 ++ plain 47 2

abbrev accepted : List Case
accepted =
    -- 01, "Texts to match": the seven records of `int x;`; a unit of no declarations
    unit (rec 80 0 1 0 0 ++ rec 47 1 0 0 0 ++ rec 42 0 0 0 0 ++ rec 43 1 0 0 1 ++ rec 31 0 0 0 0 ++ rec 20 0 0 0 0 ++ rec 21 2 0 0 0) "x" 7
    ++ unit (many 80 0) "" 1
    -- `void f() { return -a; }`, and `precision mediump float;`
    ++ unit (many 80 1 ++ function 0 ++ many 60 1 ++ plain 68 4 ++ plain 7 3 ++ var 1) "fa" 10
    ++ unit (precision ++ plain 29 20 ++ keyword 4) "" 5
    -- `a - -b`, `float[2]()`, a float, and the least IntConst
    ++ expr (minus ++ var 0 ++ plain 7 3 ++ var 1) "ab" 4
    ++ expr (array_callee ++ many 24 1 ++ plain 25 1 ++ rec 2 0 0 2 0) "" 6
    ++ expr (rec 5 0 0 0 3) "0.5" 1
    ++ expr (rec 2 0 0 2147483648 0) "" 1
    -- 02, #102: the last type word; a type that 000 misspells, as the name that it is then; a word of Vulkan alone
    ++ expr (many 12 0 ++ keyword 118) "" 3
    ++ expr (rec 1 0 0 0 16) "usamplerDMSArray" 1
    ++ expr (rec 1 0 0 0 9) "texture2D" 1
    -- 02, #105: reserved names that are used, or not declared as a function, a struct or a parameter: a variable and a field of it, a field of a struct, a variable
    -- that is declared, and a second one, a block and its name; names that are not reserved
    ++ expr (rec 13 0 0 11 3 ++ rec 1 0 0 0 11) "gl_Positiongl_" 2
    ++ expr (many 12 0 ++ struct 0 1 1 4) "Sgl_x" 7
    ++ unit (many 80 1 ++ plain 47 1 ++ many 42 1 ++ rec 43 1 0 0 4 ++ plain 31 0 ++ keyword 2 ++ plain 44 0 ++ rec 27 0 0 0 4) "gl_v" 9
    ++ unit (many 80 1 ++ plain 47 3 ++ rec 46 1 0 0 4 ++ many 28 1 ++ plain 29 0 ++ rec 27 0 0 0 4) "gl_B" 6
    ++ unit (with_parameter 1 1 ++ parameter 1 4) "fGL_x" 10
    ++ unit (with_parameter 1 1 ++ parameter 1 2) "fgl" 10

abbrev refusals : List Case
refusals =
    -- 2: no records; a part of one; a part behind one
    no_expr [] "" Why.RecordsOutOfSize 0
    ++ no_expr (1 ∷ 0 ∷ []) "x" Why.RecordsOutOfSize 0
    ++ no_expr (var 0 ++ (0 ∷ [])) "x" Why.RecordsOutOfSize 0
    -- 4: an operand; a declaration; an array
    ++ no_expr (minus ++ var 0) "x" Why.RecordMissing 2
    ++ no_unit (many 80 2 ++ declared 0 ++ keyword 2) "x" Why.RecordMissing 7
    ++ no_expr array_callee "" Why.RecordMissing 3
    -- 5: the root; no kind at all; a type where an expression must be; an expression where a type must be
    ++ no_unit (var 0) "x" Why.KindNotAllowed 0
    ++ no_expr (many 80 0) "" Why.KindNotAllowed 0
    ++ no_expr (plain 17 0) "" Why.KindNotAllowed 0
    ++ no_expr (not_op ++ keyword 2) "" Why.KindNotAllowed 1
    ++ no_unit (many 80 1 ++ declared 0 ++ var 0) "x" Why.KindNotAllowed 5
    -- 7: behind the last variant, of type words too (02, #102); a variant where there are none; a qualifier that is no precision: storage, and layout (whose count is 0 too)
    ++ no_expr (bool 2) "" Why.VariantOutOfRange 0
    ++ no_expr (many 12 0 ++ keyword 119) "" Why.VariantOutOfRange 2
    ++ no_expr (named 1 1 0) "x" Why.VariantOutOfRange 0
    ++ no_unit (precision ++ plain 29 16 ++ keyword 4) "" Why.VariantOutOfRange 2
    ++ no_unit (precision ++ plain 29 18 ++ keyword 4) "" Why.VariantOutOfRange 2
    -- 8: an array without dimensions
    ++ no_expr (array_callee ++ many 24 0) "" Why.CountMissing 3
    -- 9: a count, a, b that are not used
    ++ no_expr (rec 4 0 1 0 0) "" Why.UnusedSet 0
    ++ no_expr (rec 4 0 0 1 0) "" Why.UnusedSet 0
    ++ no_expr (rec 2 0 0 1 1) "x" Why.UnusedSet 0
    -- 10: one byte beyond; a sum beyond 32 bits does not wrap
    ++ no_expr (rec 1 0 0 0 2) "x" Why.TextBeyond 0
    ++ no_expr (rec 1 0 0 (2 ^ 32 - 1) 2) "x" Why.TextBeyond 0
    -- 11: no byte, a digit first, a fixed word, one of 02, #102; a float that ends in a point
    ++ no_expr (rec 1 0 0 0 0) "x" Why.TextMisformed 0
    ++ no_expr (rec 1 0 0 0 2) "1x" Why.TextMisformed 0
    ++ no_expr (rec 1 0 0 0 3) "int" Why.TextMisformed 0
    ++ no_expr (minus ++ rec 1 0 0 0 1 ++ rec 1 0 0 1 7) "aimage2D" Why.TextMisformed 2
    ++ no_expr (rec 6 0 0 0 2) "1." Why.TextMisformed 0
    -- 15 (02, #105): a function that is defined, one that is declared; a parameter, with a qualifier too; a struct in an expression's callee
    ++ no_unit (many 80 1 ++ plain 81 0 ++ prototype 0 0 4 ++ many 60 0) "gl_f" Why.ReservedDeclared 2
    ++ no_unit (many 80 1 ++ plain 47 0 ++ prototype 0 0 3) "gl_" Why.ReservedDeclared 2
    ++ no_unit (with_parameter 1 1 ++ parameter 1 4) "fgl_x" Why.ReservedDeclared 9
    ++ no_unit (with_parameter 1 3 ++ many 28 1 ++ plain 29 0 ++ parameter 1 4) "fgl_x" Why.ReservedDeclared 11
    ++ no_expr (many 12 0 ++ struct 0 4 0 4) "gl_S" Why.ReservedDeclared 2
    -- 12: a second expression; a declaration that the unit does not count
    ++ no_expr (var 0 ++ var 0) "x" Why.RecordsLeftOver 1
    ++ no_unit (many 80 0 ++ declared 0 ++ keyword 2) "x" Why.RecordsLeftOver 1

-- two faults, of which the first in the documents' order is refused
abbrev ordered : List Case
ordered =
    -- at one record: 5 and 7; 7 and 8; 7 and 9; 8 and 9; 9 and 10; 9 and 11; 10 and 11 (a text beyond the names has no form)
    no_expr (plain 20 2) "" Why.KindNotAllowed 0
    ++ no_expr (array_callee ++ plain 24 1) "" Why.VariantOutOfRange 3
    ++ no_expr (rec 4 2 1 0 0) "" Why.VariantOutOfRange 0
    ++ no_expr (array_callee ++ rec 24 0 0 1 0) "" Why.CountMissing 3
    ++ no_expr (rec 1 0 1 0 2) "x" Why.UnusedSet 0
    ++ no_expr (rec 1 0 1 0 1) "1" Why.UnusedSet 0
    ++ no_expr (rec 1 0 0 1 1) "1" Why.TextBeyond 0
    -- the same with 15: 7 and 15; 9 and 15; 10 and 15; 11 and 15 (what is no name is not reserved)
    ++ no_unit (many 80 1 ++ plain 47 0 ++ rec 40 1 0 0 4) "gl_f" Why.VariantOutOfRange 2
    ++ no_unit (with_parameter 1 1 ++ keyword 2 ++ rec 27 0 1 1 4) "fgl_x" Why.UnusedSet 9
    ++ no_expr (many 12 0 ++ struct 0 5 0 4) "gl_S" Why.TextBeyond 2
    ++ no_expr (many 12 0 ++ struct 0 4 0 3) "gl_-" Why.TextMisformed 2
    -- at two records: the first of them, whatever the faults
    ++ no_expr (many 12 0 ++ struct 0 4 4 1) "gl_S1" Why.ReservedDeclared 2
    ++ no_unit (with_parameter 3 1 ++ parameter 3 4) "intgl_x" Why.TextMisformed 2
    ++ no_expr (minus ++ rec 1 0 0 0 1 ++ many 80 0) "1" Why.TextMisformed 1
    ++ no_expr (minus ++ var 0 ++ many 80 0) "x" Why.KindNotAllowed 2
    ++ no_expr (rec 7 4 0 0 1 ++ many 80 0) "" Why.UnusedSet 0
    -- a fault before a record that is missing behind it, and before one that is left over
    ++ no_expr (minus ++ bool 2) "" Why.VariantOutOfRange 1
    ++ no_expr (bool 2 ++ var 0) "x" Why.VariantOutOfRange 0

-- at the limits, on both sides
abbrev edges : List Case
edges =
    -- 2: the first of 4,096 records of zeros is refused for its kind; one more record, and all are
    row Class.expr (replicate (record_size * 4096) 0) [] (refused Why.KindNotAllowed 0)
    ++ row Class.expr (replicate (record_size * 4097) 0) [] (refused Why.RecordsOutOfSize 0)
    -- 3: 32,768 bytes of names, and one more; but 2 comes first
    ++ row Class.expr (var 0) (replicate 32768 (code "x")) (Ok 1)
    ++ row Class.expr (var 0) (replicate 32769 (code "x")) (refused Why.NamesOutOfSize 0)
    ++ row Class.expr [] (replicate 32769 (code "x")) (refused Why.RecordsOutOfSize 0)
    -- 11: a name of 255 letters, and of 256
    ++ row Class.expr (rec 1 0 0 0 255) (replicate 255 (code "x")) (Ok 1)
    ++ row Class.expr (rec 1 0 0 0 256) (replicate 256 (code "x")) (refused Why.TextMisformed 0)

abbrev rows : List Case
rows = accepted ++ refusals ++ ordered ++ edges

-- the definition gives each row's answer
pub match : map asked rows ≡ map (λ c. c.answer) rows
unfolding computing
match = refl

-- 6, where few levels are left: four records one in the other, with four levels and with two
pub levels : (node (not_op ++ not_op ++ not_op ++ var 0) (bytes "x") 4 Class.expr 0 ≡ Ok 4)
    × (node (not_op ++ not_op ++ not_op ++ var 0) (bytes "x") 2 Class.expr 0 ≡ refused Why.TooDeep 2)
    -- at one record: 5 and 6; 6 and 7
    × (node (many 80 0) [] 0 Class.expr 0 ≡ refused Why.KindNotAllowed 0)
    × (node (bool 2) [] 0 Class.expr 0 ≡ refused Why.TooDeep 0)
unfolding computing
levels = (refl, refl, refl, refl)

-- 6, in the whole: a Variable under 199 Unary records, and under 200
pub depth_200 : check (chain 199) (bytes "x") Class.expr ≡ Ok 200
depth_200 = depth_passes 199 (omega arith)

pub depth_201 : check (chain 200) (bytes "x") Class.expr ≡ refused Why.TooDeep 200
depth_201 = depth_refused 200 (omega arith) (omega arith)
