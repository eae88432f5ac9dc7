-- The fixed words that the printer can write, but for the type keywords (01, "Tree records", kinds 4, 23, 29, 47, 62 to 68). Assumes nothing.
use Rattle.std.specs.Prelude.{List, [], ◌∷◌, ◌++◌, map}
use Prim.Native.String.{String}

-- 000 show_storage_qualifier, in its order
pub data StorageQualifier : Type 0 where
  const inout «in» out centroid patch sample uniform buffer shared coherent volatile restrict readonly writeonly attribute varying : StorageQualifier

-- 000 show_precision_qualifier, in its order
pub data PrecisionQualifier : Type 0 where
  highp mediump lowp : PrecisionQualifier

-- 000 show_interpolation_qualifier, in its order
pub data InterpolationQualifier : Type 0 where
  smooth flat noperspective : InterpolationQualifier

pub data Word : Type 0 where
  storage : StorageQualifier → Word
  precision_qualifier : PrecisionQualifier → Word
  interpolation : InterpolationQualifier → Word
  subroutine layout invariant precise : Word
  continue break discard return : Word
  false true : Word
  precision struct if else switch case default while «do» for : Word

unfoldable pub word_text : Word → String
word_text (storage const) = "const"
word_text (storage inout) = "inout"
word_text (storage «in») = "in"
word_text (storage out) = "out"
word_text (storage centroid) = "centroid"
word_text (storage patch) = "patch"
word_text (storage sample) = "sample"
word_text (storage uniform) = "uniform"
word_text (storage buffer) = "buffer"
word_text (storage shared) = "shared"
word_text (storage coherent) = "coherent"
word_text (storage volatile) = "volatile"
word_text (storage restrict) = "restrict"
word_text (storage readonly) = "readonly"
word_text (storage writeonly) = "writeonly"
word_text (storage attribute) = "attribute"
word_text (storage varying) = "varying"
word_text (precision_qualifier highp) = "highp"
word_text (precision_qualifier mediump) = "mediump"
word_text (precision_qualifier lowp) = "lowp"
word_text (interpolation smooth) = "smooth"
word_text (interpolation flat) = "flat"
word_text (interpolation noperspective) = "noperspective"
word_text subroutine = "subroutine"
word_text layout = "layout"
word_text invariant = "invariant"
word_text precise = "precise"
word_text continue = "continue"
word_text break = "break"
word_text discard = "discard"
word_text return = "return"
word_text false = "false"
word_text true = "true"
word_text precision = "precision"
word_text struct = "struct"
word_text if = "if"
word_text else = "else"
word_text switch = "switch"
word_text case = "case"
word_text default = "default"
word_text while = "while"
word_text «do» = "do"
word_text for = "for"

-- 01, kind 29: a word for each variant
unfoldable pub qualifier_words : List Word
qualifier_words =
    storage const ∷ storage inout ∷ storage «in» ∷ storage out ∷ storage centroid ∷ storage patch ∷ storage sample ∷ storage uniform ∷ storage buffer ∷ storage shared
    ∷ storage coherent ∷ storage volatile ∷ storage restrict ∷ storage readonly ∷ storage writeonly ∷ storage attribute ∷ storage varying
    ∷ subroutine ∷ layout
    ∷ precision_qualifier highp ∷ precision_qualifier mediump ∷ precision_qualifier lowp
    ∷ interpolation smooth ∷ interpolation flat ∷ interpolation noperspective
    ∷ invariant ∷ precise ∷ []

-- 01, kind 68: a word for each variant (4 is `return` too)
unfoldable pub jump_words : List Word
jump_words = continue ∷ break ∷ discard ∷ return ∷ []

-- 01, kind 4: a word for each variant
unfoldable pub bool_words : List Word
bool_words = false ∷ true ∷ []

unfoldable pub lone_words : List Word
lone_words = precision ∷ struct ∷ if ∷ else ∷ switch ∷ case ∷ default ∷ while ∷ «do» ∷ for ∷ []

-- the 43 of them
unfoldable pub other_words : List String
other_words = map word_text (qualifier_words ++ jump_words ++ bool_words ++ lone_words)
