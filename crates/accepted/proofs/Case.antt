-- For worked examples of the record check: records from numbers, and a question with its answer. Assumes nothing.
use mathlib.Core.List.{List}
use Prim.Native.Nat.{ℕ}
use Rattle.words.specs.Word.{word_text, qualifier_words, jump_words, bool_words, lone_words, other_words}
use Rattle.words.specs.Keyword.{type_keywords, fixed_words}
use Rattle.words.specs.Form.{digit, letter, name_byte, all, same, one_of, name_form, reserved, digits, behind_digits, whole_part, fraction, nothing_or_fraction, float_form}
use Rattle.records.specs.Record.{record_in, record_count, record_at, part}
use Rattle.shapes.specs.Class.{Class, allowed}
use Rattle.shapes.specs.Shape.{rows, last_variant, shape_of, classes}
use Rattle.accept.specs.Checked.{Checked}
use Rattle.accept.specs.Check.{fault_of, alone, node, check}

-- `unfolding computing` opens every definition that the check asks
unfoldable pub computing : ℕ
unfolding word_text qualifier_words jump_words bool_words lone_words other_words type_keywords fixed_words digit letter name_byte all same one_of name_form reserved digits behind_digits whole_part fraction nothing_or_fraction float_form record_in record_count record_at part allowed rows last_variant shape_of classes fault_of alone node check
computing = 0

-- what is asked, and the answer that is claimed
pub record Case : Type 0 where
  pub root : Class
  pub records : List ℕ
  pub names : List ℕ
  pub answer : Checked

abbrev pub asked : Case → Checked
asked c = check c.records c.names c.root
