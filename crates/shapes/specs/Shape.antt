-- The shape of each kind's records: document 01's table (01, "Tree records"), a line for each kind. Read it beside text's Reading, which says what
-- the same records mean. Assumes nothing.
use Rattle.std.specs.Prelude.{Bool, true, false, cond, List, [], ◌∷◌, ◌++◌, ℕ, eqb, ltb, replicate}
use Rattle.records.specs.Record.{bit0, bit1, bit2}
use Rattle.shapes.specs.Class.{Class}
use Rattle.shapes.specs.Class.Class.{expr, callee, type, base, array, dimension, field, identifier, parameter_identifier, qualifier, spec, precision, layout_id, full_type, prototype, parameter, declarators, single, declarator, initializer, block, declaration, compound, statement, condition, for_init, external}

-- what the fields a and b hold: nothing, 32 bits in a, or T (a text's offset and length) in the form of a name, of a name that
-- is declared there (02, #105), or of a float
pub data Fields : Type 0 where
  empty integer name declared float : Fields

-- what they hold in a place that declares names, or does not
abbrev pub fields_in : Bool → Fields → Fields
fields_in declares Fields.empty = Fields.empty
fields_in declares Fields.integer = Fields.integer
fields_in declares Fields.name = cond declares Fields.declared Fields.name
fields_in declares Fields.declared = Fields.declared
fields_in declares Fields.float = Fields.float

-- what the count is: 0, any number, or 1 and more
pub data Count : Type 0 where
  unused any positive : Count

-- children of one class: one of them, or as many as the count says
pub data Part : Type 0 where
  one_of counted : Class → Part

pub record Shape : Type 0 where
  pub fields : Fields
  pub count : Count
  pub parts : List Part

-- a kind, the last of its variants (the first is 0), and its shape
pub record Row : Type 0 where
  pub number : ℕ
  pub last : ℕ
  pub shape : Shape

abbrev pub kind : ℕ → ℕ → Fields → Count → List Part → Row
kind k last f n ps = record { number = k; last = last; shape = record { fields = f; count = n; parts = ps } }

abbrev pub one : Class → List Part
one c = Part.one_of c ∷ []

abbrev pub several : Class → List Part
several c = Part.counted c ∷ []

-- what only some variants have
abbrev pub when : Bool → List Part → List Part
when true ps = ps
when false ps = []

-- the rows, for records of variant v: the kind, its last variant, what a and b hold, what the count is, the children
unfoldable pub rows : ℕ → List Row
rows v =
    -- expressions: Variable, IntConst, UIntConst, BoolConst, FloatConst, DoubleConst
    kind 1 0 name unused []
    ∷ kind 2 0 integer unused []
    ∷ kind 3 0 integer unused []
    ∷ kind 4 1 empty unused []
    ∷ kind 5 0 float unused []
    ∷ kind 6 0 float unused []
    -- Unary, Binary, Ternary, Assignment, Bracket, FunCall, Dot, PostInc, PostDec, Comma
    ∷ kind 7 5 empty unused (one expr)
    ∷ kind 8 18 empty unused (one expr ++ one expr)
    ∷ kind 9 0 empty unused (one expr ++ one expr ++ one expr)
    ∷ kind 10 10 empty unused (one expr ++ one expr)
    ∷ kind 11 0 empty unused (one expr ++ one expr)
    ∷ kind 12 0 empty any (one callee ++ several expr)
    ∷ kind 13 0 name unused (one expr)
    ∷ kind 14 0 empty unused (one expr)
    ∷ kind 15 0 empty unused (one expr)
    ∷ kind 16 0 empty unused (one expr ++ one expr)
    -- type; type keyword, type name, struct; array, dimension, field, identifier
    ∷ kind 20 1 empty unused (one base ++ when (eqb v 1) (one array))
    ∷ kind 21 118 empty unused []
    ∷ kind 22 0 name unused []
    ∷ kind 23 1 (cond (eqb v 1) declared empty) any (several field)
    ∷ kind 24 0 empty positive (several dimension)
    ∷ kind 25 1 empty unused (when (eqb v 1) (one expr))
    ∷ kind 26 1 empty positive (when (eqb v 1) (one qualifier) ++ one type ++ several identifier)
    ∷ kind 27 1 name unused (when (eqb v 1) (one array))
    -- qualifier and its parts (17 subroutine, 18 layout), layout id, full type
    ∷ kind 28 0 empty positive (several spec)
    ∷ kind 29 26 empty (cond (eqb v 17) any (cond (eqb v 18) positive unused)) (when (eqb v 17) (several type) ++ when (eqb v 18) (several layout_id))
    ∷ kind 30 2 (cond (ltb v 2) name empty) unused (when (eqb v 1) (one expr))
    ∷ kind 31 1 empty unused (when (eqb v 1) (one qualifier) ++ one type)
    -- prototype, parameter, declarator list, first declarator, next declarator, initializer, block, declaration
    ∷ kind 40 0 declared any (one full_type ++ several parameter)
    ∷ kind 41 3 empty unused (when (bit1 v) (one qualifier) ++ one type ++ when (bit0 v) (one parameter_identifier))
    ∷ kind 42 0 empty any (one single ++ several declarator)
    ∷ kind 43 7 (cond (bit0 v) name empty) unused (one full_type ++ when (bit1 v) (one array) ++ when (bit2 v) (one initializer))
    ∷ kind 44 1 empty unused (one identifier ++ when (eqb v 1) (one initializer))
    ∷ kind 45 1 empty (cond (eqb v 1) positive unused) (when (eqb v 0) (one expr) ++ when (eqb v 1) (several initializer))
    ∷ kind 46 1 name any (one qualifier ++ several field ++ when (eqb v 1) (one identifier))
    ∷ kind 47 5 (cond (eqb v 4) name empty) unused (
    when (eqb v 0) (one prototype)
    ++ when (eqb v 1) (one declarators)
    ++ when (eqb v 2) (one precision ++ one type)
    ++ when (eqb v 3) (one block)
    ++ when (eqb v 5) (one qualifier))
    -- statements: compound, expression, if, switch, case label, while, do, for, jump; condition, for start
    ∷ kind 60 0 empty any (several statement)
    ∷ kind 61 1 empty unused (when (eqb v 1) (one expr))
    ∷ kind 62 1 empty unused (one expr ++ one statement ++ when (eqb v 1) (one statement))
    ∷ kind 63 0 empty any (one expr ++ several statement)
    ∷ kind 64 1 empty unused (when (eqb v 1) (one expr))
    ∷ kind 65 0 empty unused (one condition ++ one statement)
    ∷ kind 66 0 empty unused (one statement ++ one expr)
    ∷ kind 67 3 empty unused (one for_init ++ when (bit0 v) (one condition) ++ when (bit1 v) (one expr) ++ one statement)
    ∷ kind 68 4 empty unused (when (eqb v 4) (one expr))
    ∷ kind 69 1 (cond (eqb v 1) name empty) unused (when (eqb v 0) (one expr) ++ when (eqb v 1) (one full_type ++ one initializer))
    ∷ kind 70 2 empty unused (when (eqb v 1) (one expr) ++ when (eqb v 2) (one declaration))
    -- unit, function
    ∷ kind 80 0 empty any (several external)
    ∷ kind 81 0 empty unused (one prototype ++ one compound)
    ∷ []

-- a kind that is not listed stands nowhere, so its row never matters
abbrev pub no_row : Row
no_row = kind 0 0 empty unused []

abbrev pub row_of : ℕ → List Row → Row
row_of k [] = no_row
row_of k (r ∷ rs) = cond (eqb k r.number) r (row_of k rs)

-- the last variant of kind k
unfoldable pub last_variant : ℕ → ℕ
last_variant k = (row_of k (rows 0)).last

-- the shape of the records of kind k and variant v
unfoldable pub shape_of : ℕ → ℕ → Shape
shape_of k v = (row_of k (rows v)).shape

-- the classes of the children of a record that counts n, in order
unfoldable pub classes : ℕ → List Part → List Class
classes n [] = []
classes n (Part.one_of c ∷ ps) = c ∷ classes n ps
classes n (Part.counted c ∷ ps) = replicate n c ++ classes n ps
