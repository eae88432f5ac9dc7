-- Document 01's texts to match, those of #103, #106, #102 and #105, and some of our own, from the bytes of the records: one table, one theorem, by computation. Assumes nothing.
use Prim.Native.Nat.{ℕ}
use Prim.Native.String.{String}
use mathlib.Core.Path.{◌≡◌, refl}
use mathlib.Core.Bool.{Bool, true, false}
use mathlib.Core.List.{List, [], ◌∷◌, ◌++◌, map}
use mathlib.Core.Option.{Option, none, some}
use Rattle.words.specs.Bytes.{bytes}
use Rattle.records.proofs.Made.{rec, plain, many, named}
use Rattle.settings.specs.Settings.{TIGHT, OPEN, EXPORT}
use Rattle.text.specs.Case.{Case, defined}
use Rattle.text.proofs.Computing.{computing}

-- expressions
abbrev var : ℕ → List ℕ
var a = named 1 0 a

abbrev int : ℕ → List ℕ
int n = rec 2 0 0 n 0

abbrev decrement : List ℕ
decrement = plain 7 1

abbrev negate : List ℕ
negate = plain 7 3

abbrev minus : List ℕ
minus = plain 8 15

abbrev choose : List ℕ
choose = plain 9 0

-- declarations and statements
abbrev keyword : ℕ → List ℕ
keyword v = plain 20 0 ++ plain 21 v

abbrev function : ℕ → List ℕ
function a = plain 81 0 ++ named 40 0 a ++ plain 31 0 ++ keyword 0

abbrev declared : ℕ → List ℕ
declared a = plain 47 1 ++ plain 42 0 ++ named 43 1 a ++ plain 31 0

abbrev block : ℕ → List ℕ
block n = many 60 n

abbrev return : List ℕ
return = plain 68 3

-- settings of our own. A newline behind the open brace alone, indents of two tabs, spaces behind statements and functions: a flushed newline is no
-- longer pending.
abbrev pub mixed : List ℕ
mixed = 1 ∷ 2 ∷ 0 ∷ 1 ∷ 0 ∷ 0 ∷ 0 ∷ 0 ∷ 0 ∷ 0 ∷ 0 ∷ 0 ∷ 0 ∷ 1 ∷ 1 ∷ 0 ∷ 0 ∷ 0 ∷ 0 ∷ 0 ∷ 0 ∷ []

-- TIGHT but for collapse, and OPEN but for collapse
abbrev pub collapsing : List ℕ
collapsing = 0 ∷ 0 ∷ 0 ∷ 0 ∷ 0 ∷ 0 ∷ 0 ∷ 0 ∷ 0 ∷ 0 ∷ 0 ∷ 0 ∷ 0 ∷ 0 ∷ 0 ∷ 1 ∷ 0 ∷ 0 ∷ 0 ∷ 0 ∷ 0 ∷ []

abbrev pub open_collapsing : List ℕ
open_collapsing = 2 ∷ 4 ∷ 1 ∷ 1 ∷ 1 ∷ 1 ∷ 1 ∷ 1 ∷ 2 ∷ 2 ∷ 2 ∷ 2 ∷ 1 ∷ 2 ∷ 2 ∷ 1 ∷ 1 ∷ 1 ∷ 1 ∷ 1 ∷ 1 ∷ []

abbrev row : Bool → Option Bool → List ℕ → List ℕ → String → String → List Case
row u j s rs ns t = record { is_unit = u; settings = s; records = rs; names = bytes ns; outcome = record { text = bytes t; joined = j } } ∷ []

-- an expression in TIGHT and OPEN, with the answer to the joined question
abbrev pub expr : List ℕ → String → String → String → Bool → List Case
expr rs ns t o j = row false (some j) TIGHT rs ns t ++ row false (some j) OPEN rs ns o

-- a unit under some settings, and in TIGHT and OPEN
abbrev pub unit_in : List ℕ → List ℕ → String → String → List Case
unit_in = row true none

abbrev pub unit : List ℕ → String → String → String → List Case
unit rs ns t o = unit_in TIGHT rs ns t ++ unit_in OPEN rs ns o

-- 01, "Texts to match", in its order
abbrev pub rows_of_01 : List Case
rows_of_01 =
    expr (minus ++ var 0 ++ negate ++ var 1) "ab" "a--b" "a - -b" true
    ++ expr (minus ++ plain 15 0 ++ var 0 ++ var 1) "ab" "a---b" "a-- - b" false
    ++ expr (minus ++ var 0 ++ decrement ++ var 1) "ab" "a---b" "a - --b" true
    ++ expr (negate ++ negate ++ var 0) "a" "-(-a)" "-(-a)" false
    ++ expr (negate ++ decrement ++ var 0) "a" "---a" "---a" true
    ++ expr (decrement ++ negate ++ var 0) "a" "---a" "---a" false
    ++ expr (minus ++ var 0 ++ minus ++ var 1 ++ var 2) "abc" "a-(b-c)" "a - (b - c)" false
    ++ expr (minus ++ minus ++ var 0 ++ var 1 ++ var 2) "abc" "a-b-c" "a - b - c" false
    ++ expr (plain 14 0 ++ plain 11 0 ++ var 0 ++ int 1) "a" "(a[1])++" "(a[1])++" false
    ++ expr (many 12 1 ++ var 0 ++ plain 16 0 ++ var 1 ++ var 2) "fab" "f(a,b)" "f(a, b)" false
    ++ expr (choose ++ choose ++ var 0 ++ var 1 ++ var 2 ++ var 3 ++ var 4) "abcde" "(a?b:c)?d:e" "(a ? b : c) ? d : e" false
    ++ expr (named 6 0 0) "1" "1.lf" "1.lf" false
    ++ expr (rec 13 0 0 0 2 ++ int 1) "lf" "1.lf" "1.lf" true
    ++ expr (int 2147483648) "" "-2147483648" "-2147483648" false
    ++ unit (many 80 0) "" "" ""
    ++ unit (many 80 1 ++ function 0 ++ block 1 ++ plain 68 4 ++ negate ++ var 1) "fa" "void f(){return -a;}" "void f() {\n    return -a;\n}\n"
    ++ unit (many 80 1 ++ declared 0 ++ keyword 2) "x" "int x;" "int x;"

-- the joined question as 02, #103 mends it, what 01's rows don't see of it: a negative IntConst under minus, plus, parentheses, first operands, callees, one that binds most weakly among
-- them, `++` behind minus; a Dot over each numeric constant; a place in a dimension, and in that of a struct's field
abbrev minus_one : List ℕ
minus_one = int 4294967295

abbrev increment : List ℕ
increment = plain 7 0

abbrev posit : List ℕ
posit = plain 7 2

abbrev field : ℕ → List ℕ
field a = named 13 0 a

abbrev sized : List ℕ
sized = many 24 1 ++ plain 25 1

abbrev pub rows_of_103 : List Case
rows_of_103 =
    expr (negate ++ minus_one) "" "--1" "--1" true
    ++ expr (minus ++ var 0 ++ minus_one) "a" "a--1" "a - -1" true
    ++ expr (posit ++ increment ++ var 0) "a" "+++a" "+++a" true
    ++ expr (posit ++ posit ++ var 0) "a" "+(+a)" "+(+a)" false
    ++ expr (posit ++ negate ++ var 0) "a" "+-a" "+-a" false
    ++ expr (negate ++ increment ++ var 0) "a" "-++a" "-++a" false
    ++ expr (minus ++ var 0 ++ plain 8 16 ++ negate ++ var 1 ++ var 2) "abc" "a--b*c" "a - -b * c" true
    ++ expr (negate ++ many 12 0 ++ negate ++ var 0) "a" "--a()" "--a()" true
    ++ expr (negate ++ many 12 0 ++ plain 16 0 ++ negate ++ var 0 ++ var 1) "ab" "--a,b()" "--a, b()" true
    ++ expr (negate ++ plain 15 0 ++ negate ++ var 0) "a" "-(-a)--" "-(-a)--" false
    ++ expr (negate ++ minus ++ negate ++ var 0 ++ var 1) "ab" "-(-a-b)" "-(-a - b)" false
    ++ expr (field 0 ++ minus_one) "x" "-1.x" "-1.x" true
    ++ expr (field 0 ++ rec 3 0 0 1 0) "x" "1u.x" "1u.x" false
    ++ expr (field 1 ++ named 5 0 0) "1x" "1..x" "1..x" false
    ++ expr (field 1 ++ named 6 0 0) "1x" "1.lf.x" "1.lf.x" false
    ++ expr (many 12 0 ++ plain 20 1 ++ plain 21 2 ++ sized ++ negate ++ decrement ++ var 0) "a" "int[---a]()" "int[---a]()" true
    ++ expr (many 12 0 ++ plain 20 0 ++ many 23 1 ++ many 26 1 ++ keyword 2 ++ named 27 1 0 ++ sized ++ negate ++ decrement ++ var 1) "ab" "struct {int a[---b];}()" "struct  {\n    int a[---b];\n}()" true

-- 02, #106: an expression, and a unit, under EXPORT and under OPEN with byte 21 at 1; then 22 bytes with the last at 0, which are as 21
abbrev open_needed : List ℕ
open_needed = OPEN ++ 1 ∷ []

abbrev expr_apart : List ℕ → String → String → String → Bool → List Case
expr_apart rs ns t o j = row false (some j) EXPORT rs ns t ++ row false (some j) open_needed rs ns o

abbrev unit_apart : List ℕ → String → String → String → List Case
unit_apart rs ns t o = unit_in EXPORT rs ns t ++ unit_in open_needed rs ns o

abbrev returns_minus_dec : List ℕ
returns_minus_dec = many 80 1 ++ function 0 ++ block 1 ++ plain 68 4 ++ negate ++ decrement ++ var 1

abbrev pub rows_of_106 : List Case
rows_of_106 =
    expr_apart (minus ++ var 0 ++ negate ++ var 1) "ab" "a- -b" "a - -b" true
    ++ expr_apart (minus ++ var 0 ++ decrement ++ var 1) "nk" "n- --k" "n - --k" true
    ++ expr_apart (minus ++ plain 15 0 ++ var 0 ++ var 1) "ab" "a---b" "a-- - b" false
    ++ expr_apart (negate ++ decrement ++ var 0) "a" "- --a" "- --a" true
    ++ expr_apart (decrement ++ negate ++ var 0) "a" "---a" "---a" false
    ++ expr_apart (posit ++ increment ++ var 0) "a" "+ ++a" "+ ++a" true
    ++ expr_apart (negate ++ negate ++ var 0) "a" "-(-a)" "-(-a)" false
    ++ expr_apart (minus ++ var 0 ++ minus_one) "a" "a- -1" "a - -1" true
    ++ expr_apart (negate ++ minus_one) "" "- -1" "- -1" true
    ++ expr_apart (minus ++ var 0 ++ plain 8 16 ++ negate ++ var 1 ++ var 2) "abc" "a- -b*c" "a - -b * c" true
    ++ expr_apart (negate ++ many 12 0 ++ negate ++ var 0) "a" "- -a()" "- -a()" true
    ++ expr_apart (field 0 ++ int 1) "x" "1 .x" "1 .x" true
    ++ expr_apart (field 0 ++ minus_one) "x" "-1 .x" "-1 .x" true
    ++ expr_apart (field 0 ++ rec 3 0 0 1 0) "x" "1u.x" "1u.x" false
    ++ expr_apart (many 12 0 ++ plain 20 1 ++ plain 21 2 ++ sized ++ negate ++ decrement ++ var 0) "a" "int[- --a]()" "int[- --a]()" true
    ++ unit_apart returns_minus_dec "fa" "void f(){return - --a;}" "void f() {\n    return - --a;\n}\n"
    ++ unit_in (TIGHT ++ 0 ∷ []) returns_minus_dec "fa" "void f(){return ---a;}"
    ++ unit_in (OPEN ++ 0 ∷ []) returns_minus_dec "fa" "void f() {\n    return ---a;\n}\n"

-- 02, #102: the first and the last of the new type words; the two that 000 misspells, and a name that is spelt as 000 spells the first of them; an image in a declaration
abbrev type_call : ℕ → List ℕ
type_call v = many 12 0 ++ keyword v

abbrev uniform : ℕ → List ℕ
uniform a = plain 47 1 ++ plain 42 0 ++ named 43 1 a ++ plain 31 1 ++ many 28 1 ++ plain 29 7

abbrev pub rows_of_102 : List Case
rows_of_102 =
    expr (type_call 51) "" "sampler1D()" "sampler1D()" false
    ++ expr (type_call 118) "" "uimageBuffer()" "uimageBuffer()" false
    ++ expr (type_call 69) "" "isampler2DMS()" "isampler2DMS()" false
    ++ expr (type_call 73) "" "usampler2DMSArray()" "usampler2DMSArray()" false
    ++ expr (many 12 0 ++ rec 1 0 0 0 11) "isampler2MS" "isampler2MS()" "isampler2MS()" false
    ++ unit (many 80 1 ++ uniform 0 ++ keyword 92) "x" "uniform image2D x;" "uniform image2D x;"

-- 02, #105: reserved names that are used, and those of a block and of its field
abbrev pub rows_of_105 : List Case
rows_of_105 =
    expr (rec 13 0 0 11 1 ++ rec 1 0 0 0 11) "gl_Positionx" "gl_Position.x" "gl_Position.x" false
    ++ unit (many 80 1 ++ plain 47 3 ++ rec 46 0 1 0 12 ++ many 28 1 ++ plain 29 3 ++ many 26 1 ++ keyword 8 ++ rec 27 0 0 12 11) "gl_PerVertexgl_Position" "out gl_PerVertex{vec4 gl_Position;};" "out gl_PerVertex {\n    vec4 gl_Position;\n};"

-- what no row of document 01 sees: a flush, collapse, nested blocks (texts of the Rust module)
abbrev if_else : List ℕ
if_else = many 80 1 ++ function 0 ++ block 1 ++ plain 62 1 ++ var 1 ++ block 1 ++ return ++ block 1 ++ return

abbrev nested_structs : List ℕ
nested_structs =
    many 80 1 ++ declared 0 ++ plain 20 0 ++ rec 23 1 1 1 1 ++ rec 26 0 1 0 0 ++ plain 20 0 ++ rec 23 0 1 0 0 ++ rec 26 0 1 0 0 ++ keyword 4 ++ named 27 0 2 ++ named 27 0 3

abbrev pub our_rows : List Case
our_rows =
    unit_in mixed (many 80 1 ++ function 0 ++ block 2 ++ plain 68 4 ++ negate ++ var 1 ++ return) "fa" "void f(){\n\t\treturn -a; return; } "
    ++ unit_in collapsing (many 80 1 ++ function 0 ++ block 1 ++ block 1 ++ return) "f" "void f(){return;}"
    ++ unit_in collapsing (many 80 1 ++ function 0 ++ block 1 ++ block 2 ++ return ++ return) "f" "void f(){{return;return;}}"
    ++ unit if_else "fa" "void f(){if(a){return;}else {return;}}" "void f() {\n    if (a) {\n        return;\n    } else {\n        return;\n    }\n}\n"
    ++ unit_in open_collapsing if_else "fa" "void f() {\n    if (a) \n        return; else \n        return;\n}\n"
    ++ unit nested_structs "sSxt" "struct S{struct {float x;} t;} s;" "struct S {\n    struct  {\n        float x;\n    } t;\n} s;"

abbrev pub rows : List Case
rows = rows_of_01 ++ rows_of_103 ++ rows_of_106 ++ rows_of_102 ++ rows_of_105 ++ our_rows

-- the definition gives each row's outcome
pub match : map defined rows ≡ map (λ c. c.outcome) rows
unfolding computing defined
match = refl
