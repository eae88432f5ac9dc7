-- What is written of a line: the front of its bytes. Assumes nothing.
use Rattle.std.specs.Prelude.{List, ℕ, take}
use Rattle.print.specs.declared.Line.{Line}

abbrev pub written : Line → List ℕ
written l = take l.length l.bytes
