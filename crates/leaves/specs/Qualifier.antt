-- The word of a qualifier (01, "Tree records", kind 29), by its variant; one out of range is read as the last. Assumes nothing.
use Rattle.std.specs.Prelude.{cond, ℕ, ◌-◌, eqb, ltb}
use Rattle.words.specs.Word.{Word}
use Rattle.text.specs.Reading.{storage_of, precision_of, interpolation_of}

unfoldable pub qualifier_word : ℕ → Word
qualifier_word v =
    cond (ltb v 17) (Word.storage (storage_of v))
    (cond (eqb v 17) Word.subroutine
    (cond (eqb v 18) Word.layout
    (cond (ltb v 22) (Word.precision_qualifier (precision_of (v - 19)))
    (cond (ltb v 25) (Word.interpolation (interpolation_of (v - 22)))
    (cond (eqb v 25) Word.invariant Word.precise)))))
