-- The word of a jump (01, "Tree records", kind 68), by its variant; one out of range is read as the last. Assumes nothing.
use Rattle.std.specs.Prelude.{ℕ, get_or}
use Rattle.words.specs.Word.{Word, jump_words}

abbrev pub jump_word : (variant : ℕ) → Word
jump_word v = get_or jump_words v Word.return
