-- `word_table::table` meets its contract: the constant's bytes are those of the definition, by computation. Assumes nothing.
use mathlib.Core.Path.{refl}
use Rattle.words.specs.Word.{word_text, qualifier_words, jump_words, bool_words, lone_words, other_words}
use Rattle.words.specs.Symbol.{symbol_text, unary_operators, binary_operators, assignment_operators}
use Rattle.words.specs.Letter.{digit, letter, name_byte}
use Rattle.word_table.specs.Slot.{slots_of, row_in, each, slots}
use Rattle.words.specs.Keyword.{type_keywords, fixed_words}
use Rattle.word_table.specs.Table.{flaw, operators, texts, table}
use Rattle.word_table.proofs.table.Goals as goal

pub returns : goal.returns
unfolding table slots slots_of row_in each flaw name_byte letter digit texts fixed_words type_keywords other_words qualifier_words jump_words bool_words lone_words word_text operators symbol_text unary_operators binary_operators assignment_operators
returns c = refl
