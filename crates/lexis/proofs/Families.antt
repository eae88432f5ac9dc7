-- Section 3.6's words once more, put together from parts: a letter that is wrong, lost or too many in the list (specs/Keywords) is refused, unless the same slip is made here. What is not here, the
-- first 88 keywords, are words of the printer, as all keywords are (Keywords), so no letter of these can differ either. Assumes nothing.
use mathlib.Core.Path.{◌≡◌, refl}
use mathlib.Core.Bool.{true, ◌&&◌}
use mathlib.Core.List.{List, [], ◌∷◌, ◌++◌, map}
use Prim.Native.String as Str
use Prim.Native.String.{String}
use lib.ListN.{drop}
use Rattle.words.specs.Form.{same, one_of}
use Rattle.words.proofs.Search.{every_word}
use Rattle.lexis.specs.Keywords.{keywords, vulkan_keywords, reserved_words}

-- a text with another behind it
unfoldable append : String → String → String
append Str.[] t = t
append (Str.◌∷◌ c s) t = Str.◌∷◌ c (append s t)

-- each of these words with each of those ends
infixr 70 ◌with◌
unfoldable ◌with◌ : List String → List String → List String
[] with ends = []
(w ∷ ws) with ends = map (append w) ends ++ ws with ends

unfoldable plain : List String
plain = "" ∷ []

unfoldable arrays : List String
arrays = "" ∷ "Array" ∷ []

unfoldable shadows : List String
shadows = "" ∷ "Shadow" ∷ []

-- types of one shape: of floats with some ends, then of ints and of uints with others (4.60 §4.1, the tables of opaque types)
unfoldable types : (stem shape : String) → (floats whole_numbers : List String) → List String
types stem shape fs ns = (stem ∷ []) with (shape ∷ []) with fs ++ ("i" ∷ "u" ∷ []) with (stem ∷ []) with (shape ∷ []) with ns

-- types of several shapes, without an end
unfoldable plain_types : (stem : String) → (shapes : List String) → List String
plain_types stem [] = []
plain_types stem (s ∷ ss) = types stem s plain plain ++ plain_types stem ss

unfoldable samplers : List String
samplers =
    types "sampler" "1D" (arrays with shadows) arrays ++ types "sampler" "2D" (arrays with shadows) arrays ++ types "sampler" "2DRect" shadows plain
    ++ plain_types "sampler" ("2DMS" ∷ "2DMSArray" ∷ "3D" ∷ []) ++ types "sampler" "Cube" shadows plain ++ types "sampler" "CubeArray" shadows plain ++ types "sampler" "Buffer" plain plain

-- the shapes whose types stand together, behind those of 1D and 2D
unfoldable from_2DRect : List String
from_2DRect = "2DRect" ∷ "2DMS" ∷ "2DMSArray" ∷ "3D" ∷ "Cube" ∷ "CubeArray" ∷ "Buffer" ∷ []

unfoldable images : List String
images = plain_types "image" (("1D" ∷ "2D" ∷ []) with arrays ++ from_2DRect)

unfoldable textures : List String
textures = types "texture" "1D" arrays arrays ++ types "texture" "2D" arrays arrays ++ plain_types "texture" from_2DRect

-- in the section's order, from the 89th on; the last is `struct`
keywords_spelled : drop 88 keywords ≡ samplers ++ images ++ "struct" ∷ []
unfolding keywords samplers images from_2DRect types plain_types plain arrays shadows ◌with◌ append
keywords_spelled = refl

vulkan_keywords_spelled : vulkan_keywords ≡ textures ++ ("sampler" ∷ []) with shadows ++ plain_types "subpassInput" ("" ∷ "MS" ∷ [])
unfolding vulkan_keywords textures from_2DRect types plain_types plain arrays shadows ◌with◌ append
vulkan_keywords_spelled = refl

-- by their length and then by the alphabet
unfoldable reserved : List String
reserved =
    "asm" ∷ "cast" ∷ "enum" ∷ "goto" ∷ "half" ∷ "long" ∷ "this" ∷ "class" ∷ "fixed" ∷ "input" ∷ "short" ∷ "union" ∷ "using"
    ∷ "active" ∷ "common" ∷ "extern" ∷ "filter" ∷ "inline" ∷ "output" ∷ "public" ∷ "sizeof" ∷ "static" ∷ "superp" ∷ "typedef"
    ∷ "external" ∷ "noinline" ∷ "resource" ∷ "template" ∷ "unsigned" ∷ "interface" ∷ "namespace" ∷ "partition" ∷ "sampler3DRect"
    ∷ ("hvec" ∷ "fvec" ∷ []) with ("2" ∷ "3" ∷ "4" ∷ [])

-- these words and no others, in whatever order
reserved_words_spelled : every_word (one_of reserved) reserved_words && every_word (one_of reserved_words) reserved ≡ true
unfolding every_word one_of same reserved_words reserved ◌with◌ append
reserved_words_spelled = refl
