-- What a place asks for, and the kinds that may stand there (01, "Tree records": the children of each kind). The names are those of the sorts of tree
-- in text's Reading, but `precision`, a `spec` of variants 19 to 21, and `parameter_identifier`, an `identifier` whose name is declared. Assumes nothing.
use Rattle.std.specs.Prelude.{Bool, true, false, ◌&&◌, ◌||◌, ℕ, leb, eqb}

pub data Class : Type 0 where
  expr callee type base array dimension field identifier parameter_identifier qualifier spec precision layout_id full_type : Class
  prototype parameter declarators single declarator initializer block declaration : Class
  compound statement condition for_init external unit : Class

-- the kinds from `low` to `high` and one more (`low` again where there is no other), each in the variants from `least` to `most`; whether the place
-- declares a name that stands there (02, #105: the 27 under 41)
pub record Allowed : Type 0 where
  pub low : ℕ
  pub high : ℕ
  pub also : ℕ
  pub least : ℕ
  pub most : ℕ
  pub declares : Bool

infixl 30 ◌to◌
infixl 20 ◌or◌
infixl 20 ◌of_variants◌
-- no limit: a variant is a byte
abbrev pub any_variant : ℕ
any_variant = 255

abbrev pub ◌to◌ : ℕ → ℕ → Allowed
◌to◌ low high = record { low = low; high = high; also = low; least = 0; most = any_variant; declares = false }

abbrev pub only : ℕ → Allowed
only k = k to k

-- one kind more, and no second one
abbrev pub ◌or◌ : Allowed → ℕ → Allowed
◌or◌ x k = record { low = x.low; high = x.high; also = k; least = x.least; most = x.most; declares = x.declares }

-- only these variants, written as a range
abbrev pub ◌of_variants◌ : Allowed → Allowed → Allowed
◌of_variants◌ x vs = record { low = x.low; high = x.high; also = x.also; least = vs.low; most = vs.high; declares = x.declares }

-- and a name there is declared
abbrev pub declaring : Allowed → Allowed
declaring x = record { low = x.low; high = x.high; also = x.also; least = x.least; most = x.most; declares = true }

unfoldable pub allowed : Class → Allowed
allowed Class.expr = 1 to 16
allowed Class.callee = 1 to 16 or 20
allowed Class.type = only 20
allowed Class.base = 21 to 23
allowed Class.array = only 24
allowed Class.dimension = only 25
allowed Class.field = only 26
allowed Class.identifier = only 27
allowed Class.parameter_identifier = declaring (only 27)
allowed Class.qualifier = only 28
allowed Class.spec = only 29
allowed Class.precision = only 29 of_variants (19 to 21)
allowed Class.layout_id = only 30
allowed Class.full_type = only 31
allowed Class.prototype = only 40
allowed Class.parameter = only 41
allowed Class.declarators = only 42
allowed Class.single = only 43
allowed Class.declarator = only 44
allowed Class.initializer = only 45
allowed Class.block = only 46
allowed Class.declaration = only 47
allowed Class.compound = only 60
allowed Class.statement = 60 to 68 or 47
allowed Class.condition = only 69
allowed Class.for_init = only 70
allowed Class.external = only 81 or 47
allowed Class.unit = only 80

-- kind k may stand there; variant v may
abbrev pub takes_kind : Allowed → ℕ → Bool
takes_kind x k = (leb x.low k && leb k x.high) || eqb k x.also

abbrev pub takes_variant : Allowed → ℕ → Bool
takes_variant x v = leb x.least v && leb v x.most
