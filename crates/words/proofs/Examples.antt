-- Worked examples of the two forms and of the sorts of names, by computation, both ways. Assumes nothing.
use mathlib.Core.Path.{◌≡◌, refl}
use mathlib.Core.Bool.{true, false, not}
use mathlib.Core.List.{[], ◌∷◌, map}
use Prim.Native.Char.{code}
use lib.Dec.{T}
use lib.ListN.{replicate}
use Rattle.words.specs.Word.{word_text, qualifier_words, jump_words, bool_words, lone_words, other_words}
use Rattle.words.specs.Bytes.{bytes}
use Rattle.words.specs.Keyword.{type_keywords, fixed_words}
use Rattle.words.specs.declared.NameSort.TheVariants.{Ordinary, Reserved, NoName}
use Rattle.words.specs.Form.{digit, letter, name_byte, all, same, one_of, name_form, reserved, name_sort, digits, behind_digits, whole_part, fraction, nothing_or_fraction, float_form}
use Rattle.words.proofs.Search.{every_word}

names_taken : T (every_word name_form ("x" ∷ "_1" ∷ "voids" ∷ "Void" ∷ "lf" ∷ "u" ∷ "_" ∷ "gl_Position" ∷ "texture2D" ∷ "sampler3DRect" ∷ "isampler2MS" ∷ "usamplerDMSArray" ∷ []))
unfolding every_word name_form digit letter name_byte all same one_of fixed_words type_keywords other_words qualifier_words jump_words bool_words lone_words word_text
names_taken = tt

names_refused : T (every_word (λ s. not (name_form s)) ("" ∷ "1a" ∷ "a b" ∷ "a-b" ∷ "void" ∷ "do" ∷ "true" ∷ "false" ∷ "sampler2DShadow" ∷ "image2D" ∷ "uimageBuffer" ∷ "centroid" ∷ "noperspective" ∷ []))
unfolding every_word name_form digit letter name_byte all same one_of fixed_words type_keywords other_words qualifier_words jump_words bool_words lone_words word_text
names_refused = tt

-- a byte above 127
name_not_ascii : name_form (code "a" ∷ 195 ∷ 164 ∷ []) ≡ false
unfolding every_word name_form digit letter name_byte all same one_of fixed_words type_keywords other_words qualifier_words jump_words bool_words lone_words word_text
name_not_ascii = refl

name_of_255 : name_form (replicate 255 (code "a")) ≡ true
unfolding every_word name_form digit letter name_byte all same one_of fixed_words type_keywords other_words qualifier_words jump_words bool_words lone_words word_text
name_of_255 = refl

name_of_256 : name_form (replicate 256 (code "a")) ≡ false
unfolding every_word name_form digit letter name_byte all same one_of fixed_words type_keywords other_words qualifier_words jump_words bool_words lone_words word_text
name_of_256 = refl

-- 02, #105: the case of a letter counts, and what is no name is not reserved either
name_sorts : map (λ w. name_sort (bytes w)) ("gl_Position" ∷ "gl_" ∷ "gl" ∷ "glx" ∷ "GL_x" ∷ "gl-" ∷ "gl_x-" ∷ "int" ∷ [])
    ≡ (Reserved ∷ Reserved ∷ Ordinary ∷ Ordinary ∷ Ordinary ∷ NoName ∷ NoName ∷ NoName ∷ [])
unfolding every_word name_form digit letter name_byte all same one_of fixed_words type_keywords other_words qualifier_words jump_words bool_words lone_words word_text reserved name_sort
name_sorts = refl

floats_taken : T (every_word float_form ("0" ∷ "1" ∷ "10" ∷ "10.5" ∷ "0.5" ∷ "0.001" ∷ "100.25" ∷ []))
unfolding every_word float_form digit digits behind_digits whole_part fraction nothing_or_fraction
floats_taken = tt

floats_refused : T (every_word (λ s. not (float_form s)) ("" ∷ "00" ∷ "0.0" ∷ "1.50" ∷ ".5" ∷ "1." ∷ "01.5" ∷ "-1" ∷ "1e5" ∷ "1.5.5" ∷ "1.a5" ∷ []))
unfolding every_word float_form digit digits behind_digits whole_part fraction nothing_or_fraction
floats_refused = tt

float_of_400 : float_form (replicate 400 (code "1")) ≡ true
unfolding every_word float_form digit digits behind_digits whole_part fraction nothing_or_fraction
float_of_400 = refl

float_of_401 : float_form (replicate 401 (code "1")) ≡ false
unfolding every_word float_form digit digits behind_digits whole_part fraction nothing_or_fraction
float_of_401 = refl
