-- For worked texts: `unfolding reading` opens the definitions of words, of the reader and of what is the same; text's `computing` opens those of the text. Assumes
-- nothing.
use Prim.Native.Nat.{ℕ}
use Rattle.words.specs.Letter.{digit, letter, name_byte}
use Rattle.words.specs.Form.{all, same, one_of, digits, behind_digits, whole_part, fraction, nothing_or_fraction, name_form, float_form}
use Rattle.lexis.specs.Keywords.{keywords, vulkan_keywords, reserved_words, listed_words, listed}
use Rattle.lexis.specs.Glsl.{proper_where}
use Rattle.lexis.proofs.Laws.{symbol_lengthens, lengthens}
use Rattle.grammar.specs.Last.{last_expr, last_dimension}
use Rattle.grammar.specs.Strength.{under}
use Rattle.grammar.specs.Same.{type_callee, indexed_callee, as_read}
use Rattle.grammar.proofs.Settled.{head_token, head_base, indexed, as_expr, called, word_constant, constant, postfix_symbol, posted}
use Rattle.grammar.proofs.Roles.{start, role}
use Rattle.grammar.proofs.Reader.{filled, gives, makes, subscript_room, frame_room, room, reduce, strength, settle, put, put_else, put_comma, close_parens, subscript, close_subscript, empty_subscript, empty_call, void_call, begin, go_on, take, step, run, finish, ended, read}
use Rattle.formed.specs.Formed.{FormedExpr}
use Rattle.sound.specs.Sound.{Sound}

unfoldable pub reading : ℕ
unfolding digit letter name_byte all same one_of digits behind_digits whole_part fraction nothing_or_fraction name_form float_form
    keywords vulkan_keywords reserved_words listed_words listed proper_where symbol_lengthens lengthens
    last_expr last_dimension under type_callee indexed_callee as_read
    head_token head_base indexed as_expr called word_constant constant postfix_symbol posted start role
    filled gives makes subscript_room frame_room room reduce strength settle put put_else put_comma close_parens subscript close_subscript empty_subscript empty_call void_call begin go_on take step run finish ended read
    FormedExpr Sound
reading = 0
