-- What the program writes about the answer of a print (01, "Texts to match"): the text, or a line with the refusal's number and place. Assumes nothing.
use Rattle.std.specs.Prelude.{List, ◌++◌, ℕ, Result, Ok, Err}
use Rattle.words.specs.Bytes.{bytes}
use Rattle.decimal.specs.Decimal.{decimal}
use Rattle.accept.specs.declared.Refused.{Refused}
use Rattle.accept.specs.Refusal.{number}

unfoldable pub refused : (number place : ℕ) → List ℕ
refused number place = bytes "refused " ++ decimal number ++ bytes " at " ++ decimal place ++ bytes "\n"

abbrev pub told : Result ℕ Refused → (text : List ℕ) → List ℕ
told (Ok n) text = text
told (Err r) text = refused (number r.refusal) r.place
