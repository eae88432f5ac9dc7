-- The fixed words: the type keywords, and the others of Word (01, "Tree records"; 02, #102). Assumes nothing.
use Rattle.std.specs.Prelude.{List, [], ◌∷◌, ◌++◌}
use Prim.Native.String.{String}
use Rattle.words.specs.Word.{other_words}

-- the type keywords, by variant of kind 21
unfoldable pub type_keywords : List String
type_keywords =
    -- 01, "Tree records": 0 to 50
    "void" ∷ "bool" ∷ "int" ∷ "uint" ∷ "float" ∷ "double"
    ∷ "vec2" ∷ "vec3" ∷ "vec4" ∷ "dvec2" ∷ "dvec3" ∷ "dvec4" ∷ "bvec2" ∷ "bvec3" ∷ "bvec4"
    ∷ "ivec2" ∷ "ivec3" ∷ "ivec4" ∷ "uvec2" ∷ "uvec3" ∷ "uvec4"
    ∷ "mat2" ∷ "mat3" ∷ "mat4"
    ∷ "mat2x2" ∷ "mat2x3" ∷ "mat2x4" ∷ "mat3x2" ∷ "mat3x3" ∷ "mat3x4" ∷ "mat4x2" ∷ "mat4x3" ∷ "mat4x4"
    ∷ "dmat2" ∷ "dmat3" ∷ "dmat4"
    ∷ "dmat2x2" ∷ "dmat2x3" ∷ "dmat2x4" ∷ "dmat3x2" ∷ "dmat3x3" ∷ "dmat3x4" ∷ "dmat4x2" ∷ "dmat4x3" ∷ "dmat4x4"
    ∷ "sampler2D" ∷ "sampler3D" ∷ "samplerCube" ∷ "sampler2DShadow" ∷ "sampler2DArray" ∷ "atomic_uint"
    -- 02, #102: from 51 on the sampler and image words that are left of 4.60 §3.6, in its order (000 misspells 69 and 73)
    ∷ "sampler1D" ∷ "sampler1DShadow" ∷ "sampler1DArray" ∷ "sampler1DArrayShadow"
    ∷ "isampler1D" ∷ "isampler1DArray" ∷ "usampler1D" ∷ "usampler1DArray"
    ∷ "sampler2DArrayShadow" ∷ "isampler2D" ∷ "isampler2DArray" ∷ "usampler2D" ∷ "usampler2DArray"
    ∷ "sampler2DRect" ∷ "sampler2DRectShadow" ∷ "isampler2DRect" ∷ "usampler2DRect"
    ∷ "sampler2DMS" ∷ "isampler2DMS" ∷ "usampler2DMS" ∷ "sampler2DMSArray" ∷ "isampler2DMSArray" ∷ "usampler2DMSArray"
    ∷ "isampler3D" ∷ "usampler3D"
    ∷ "samplerCubeShadow" ∷ "isamplerCube" ∷ "usamplerCube"
    ∷ "samplerCubeArray" ∷ "samplerCubeArrayShadow" ∷ "isamplerCubeArray" ∷ "usamplerCubeArray"
    ∷ "samplerBuffer" ∷ "isamplerBuffer" ∷ "usamplerBuffer"
    ∷ "image1D" ∷ "iimage1D" ∷ "uimage1D" ∷ "image1DArray" ∷ "iimage1DArray" ∷ "uimage1DArray"
    ∷ "image2D" ∷ "iimage2D" ∷ "uimage2D" ∷ "image2DArray" ∷ "iimage2DArray" ∷ "uimage2DArray"
    ∷ "image2DRect" ∷ "iimage2DRect" ∷ "uimage2DRect"
    ∷ "image2DMS" ∷ "iimage2DMS" ∷ "uimage2DMS" ∷ "image2DMSArray" ∷ "iimage2DMSArray" ∷ "uimage2DMSArray"
    ∷ "image3D" ∷ "iimage3D" ∷ "uimage3D"
    ∷ "imageCube" ∷ "iimageCube" ∷ "uimageCube" ∷ "imageCubeArray" ∷ "iimageCubeArray" ∷ "uimageCubeArray"
    ∷ "imageBuffer" ∷ "iimageBuffer" ∷ "uimageBuffer" ∷ []

-- the fixed words, which are no names
unfoldable pub fixed_words : List String
fixed_words = type_keywords ++ other_words
