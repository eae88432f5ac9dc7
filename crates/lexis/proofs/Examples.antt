-- Worked rows: words that are numbers of GLSL and words that are not, names that it lists, and symbols. Assumes nothing.
use mathlib.Core.Path.{◌≡◌, refl}
use mathlib.Core.Bool.{true, not}
use mathlib.Core.List.{List, [], ◌∷◌}
use Prim.Native.String.{String}
use lib.ListN.{length}
use Rattle.words.specs.Letter.{digit, letter, name_byte}
use Rattle.words.specs.Form.{all, same, one_of, digits, behind_digits, name_form}
use Rattle.words.specs.Word.{word_text, qualifier_words, jump_words, bool_words, lone_words, other_words}
use Rattle.words.specs.Symbol.{symbol_text, unary_operators, binary_operators, assignment_operators}
use Rattle.words.specs.Keyword.{type_keywords, fixed_words}
use Rattle.words.proofs.Search.{every_word}
use Rattle.text.specs.Token.Token.{name}
use Rattle.lexis.specs.Keywords.{keywords, vulkan_keywords, reserved_words, listed_words, listed}
use Rattle.lexis.specs.Number.{decimal_or_octal, hexadecimal_rest, hexadecimal, integer_constant, sign, exponent_letter, exponent_digits, signed_exponent, exponent, behind_whole, floating_constant, number_word}
use Rattle.lexis.specs.Glsl.{symbol_words, proper_where, proper}

numbers : List String
numbers =
    "0" ∷ "7" ∷ "42" ∷ "2147483648" ∷ "0u" ∷ "42U" ∷ "00" ∷ "017u" ∷ "0x1F" ∷ "0XaU" ∷ "0xfu"
    ∷ "1." ∷ ".5" ∷ "1.5" ∷ "08.5" ∷ "1.f" ∷ "1.5F" ∷ "1.5lf" ∷ ".5LF" ∷ "1e5" ∷ "08e1" ∷ "1.e-5f" ∷ "1.5E+30lf" ∷ ".0e0" ∷ []

are_numbers : every_word number_word numbers ≡ true
unfolding every_word numbers number_word integer_constant hexadecimal hexadecimal_rest decimal_or_octal floating_constant behind_whole exponent signed_exponent sign exponent_letter exponent_digits digits behind_digits all same one_of digit
are_numbers = refl

-- a digit that is not octal, a suffix that is not there, an exponent without digits, a float without point and exponent, more than one point
no_numbers : List String
no_numbers =
    "" ∷ "." ∷ "u" ∷ "08" ∷ "0x" ∷ "0xg" ∷ "1x2" ∷ "1uu" ∷ "1l" ∷ "1.5u" ∷ "1.5l" ∷ "1.5lF" ∷ "1e" ∷ "1e+" ∷ "1e+-5" ∷ "e5" ∷ ".e5" ∷ "1f" ∷ "1..5" ∷ "1.5.5" ∷ "1+5" ∷ "-1" ∷ []

are_no_numbers : every_word (λ w. not (number_word w)) no_numbers ≡ true
unfolding every_word no_numbers number_word integer_constant hexadecimal hexadecimal_rest decimal_or_octal floating_constant behind_whole exponent signed_exponent sign exponent_letter exponent_digits digits behind_digits all same one_of digit
are_no_numbers = refl

-- names, both of 000's misspelt types among them (02, #102), and words that GLSL lists: keywords, one of Vulkan's, reserved ones
are_names : every_word (λ n. proper (name n)) ("a" ∷ "_" ∷ "gl_Position" ∷ "vec5" ∷ "In" ∷ "main" ∷ "isampler2MS" ∷ "usamplerDMSArray" ∷ []) ≡ true
unfolding every_word proper_where name_form listed listed_words keywords vulkan_keywords reserved_words all same one_of digit letter name_byte fixed_words type_keywords other_words qualifier_words jump_words bool_words lone_words word_text
are_names = refl

are_no_names : every_word (λ n. not (proper (name n))) ("in" ∷ "vec2" ∷ "image2D" ∷ "texture2D" ∷ "asm" ∷ "sampler3DRect" ∷ "" ∷ "2d" ∷ "a-b" ∷ []) ≡ true
unfolding every_word proper_where name_form listed listed_words keywords vulkan_keywords reserved_words all same one_of digit letter name_byte fixed_words type_keywords other_words qualifier_words jump_words bool_words lone_words word_text
are_no_names = refl

are_symbols : every_word (one_of symbol_words) ("+" ∷ "++" ∷ "<<=" ∷ "{" ∷ ";" ∷ "//" ∷ "/*" ∷ []) ≡ true
unfolding every_word symbol_words same one_of symbol_text unary_operators binary_operators assignment_operators
are_symbols = refl

are_no_symbols : every_word (λ w. not (one_of symbol_words w)) ("" ∷ "+++" ∷ "=<" ∷ "#" ∷ ".." ∷ "->" ∷ []) ≡ true
unfolding every_word symbol_words same one_of symbol_text unary_operators binary_operators assignment_operators
are_no_symbols = refl

-- 4.60 §3.6 has 162 keywords, 41 more for Vulkan, and 39 reserved words
how_many : (length keywords ≡ 162) × (length vulkan_keywords ≡ 41) × (length reserved_words ≡ 39)
unfolding keywords vulkan_keywords reserved_words
how_many = (refl, refl, refl)
