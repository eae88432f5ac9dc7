-- How the code's types are read: as the classes, shapes and rows of Class and Shape, one by one. Only promises between the code's functions cite this file: those
-- of the record check as a whole do not rest on it. Assumes nothing.
use Rattle.std.specs.Prelude.{ℕ, ◌+◌, ◌-◌, map, take, drop, get_or}
use Rattle.shapes.specs.declared.Class.{Class as Asked}
use Rattle.shapes.specs.declared.Class.TheVariants as Ask
use Rattle.shapes.specs.declared.Allowed.{Allowed as AllowedRow}
use Rattle.shapes.specs.declared.Fields.{Fields as FieldsCode}
use Rattle.shapes.specs.declared.Fields.TheVariants as Holds
use Rattle.shapes.specs.declared.Count.{Count as CountCode}
use Rattle.shapes.specs.declared.Count.TheVariants as Counts
use Rattle.shapes.specs.declared.Part.{Part as PartCode}
use Rattle.shapes.specs.declared.Part.TheVariants as Parts
use Rattle.shapes.specs.declared.Shape.{Shape as ShapeRow}
use Rattle.shapes.specs.declared.Kind.{Kind}
use Rattle.shapes.specs.declared.Row.{Row}
use Rattle.shapes.specs.declared.TheConstants.{UNLISTED}
use Rattle.shapes.specs.declared.rows.TheConstants.{PARTS, ROWS, KINDS}
use Rattle.shapes.specs.Class.{Class, Allowed}
use Rattle.shapes.specs.Shape.{Fields, Count, Part, Shape}

abbrev pub class_of : Asked → Class
class_of Ask.Expr = Class.expr
class_of Ask.Callee = Class.callee
class_of Ask.Type = Class.type
class_of Ask.Base = Class.base
class_of Ask.Array = Class.array
class_of Ask.Dimension = Class.dimension
class_of Ask.Field = Class.field
class_of Ask.Identifier = Class.identifier
class_of Ask.ParameterIdentifier = Class.parameter_identifier
class_of Ask.Qualifier = Class.qualifier
class_of Ask.Spec = Class.spec
class_of Ask.Precision = Class.precision
class_of Ask.LayoutId = Class.layout_id
class_of Ask.FullType = Class.full_type
class_of Ask.Prototype = Class.prototype
class_of Ask.Parameter = Class.parameter
class_of Ask.Declarators = Class.declarators
class_of Ask.Single = Class.single
class_of Ask.Declarator = Class.declarator
class_of Ask.Initializer = Class.initializer
class_of Ask.Block = Class.block
class_of Ask.Declaration = Class.declaration
class_of Ask.Compound = Class.compound
class_of Ask.Statement = Class.statement
class_of Ask.Condition = Class.condition
class_of Ask.ForInit = Class.for_init
class_of Ask.External = Class.external
class_of Ask.Unit = Class.unit

-- what a row of the places says
abbrev pub allowed_in : AllowedRow → Allowed
allowed_in a = record { low = a.low; high = a.high; also = a.also; least = a.least; most = a.most; declares = a.declares }

abbrev pub fields_of : FieldsCode → Fields
fields_of Holds.Empty = Fields.empty
fields_of Holds.Integer = Fields.integer
fields_of Holds.Name = Fields.name
fields_of Holds.Declared = Fields.declared
fields_of Holds.Float = Fields.float

abbrev pub count_of : CountCode → Count
count_of Counts.Unused = Count.unused
count_of Counts.Any = Count.any
count_of Counts.Positive = Count.positive

abbrev pub part_of : PartCode → Part
part_of (Parts.OneOf c) = Part.one_of (class_of c)
part_of (Parts.Counted c) = Part.counted (class_of c)

-- the children of a part: their class, and how many it stands for in a record that counts n
abbrev pub part_class : PartCode → Class
part_class (Parts.OneOf c) = class_of c
part_class (Parts.Counted c) = class_of c

abbrev pub times : PartCode → ℕ → ℕ
times (Parts.OneOf c) n = 1
times (Parts.Counted c) n = n

-- what a shape says
abbrev pub shape_in : ShapeRow → Shape
shape_in s = record { fields = fields_of s.fields; count = count_of s.count; parts = map part_of s.parts.now }

-- where the code finds it: the kind's row, then that of its variant
abbrev pub kind_at : ℕ → Kind
kind_at k = get_or KINDS k UNLISTED

abbrev pub row_at : ℕ → ℕ → Row
row_at k v = get_or ROWS ((kind_at k).first + v) (record { fields = Holds.Empty; count = Counts.Unused; first = 0; end = 0 })

-- what a row says
abbrev pub row_in : Row → Shape
row_in r = record { fields = fields_of r.fields; count = count_of r.count; parts = map part_of (take (r.end - r.first) (drop r.first PARTS)) }
