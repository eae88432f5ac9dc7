-- One order, told twice: the operators and qualifiers that Reading reads by variant are spelled as the rows of the word table stand. Assumes nothing.
use mathlib.Core.Path.{◌≡◌, refl}
use mathlib.Core.Bool.{false, true}
use mathlib.Core.List.{List, [], ◌∷◌, ◌++◌, map}
use mathlib.Core.Option.{none}
use Prim.Native.Nat.{ℕ, zero, suc, ◌+◌}
use Rattle.words.specs.Word.{Word, qualifier_words, jump_words, bool_words}
use Rattle.words.specs.Symbol.{unary_operators, binary_operators, assignment_operators}
use Rattle.text.specs.Operator.{unary_symbol, binary_symbol, assignment_symbol}
use Rattle.text.specs.Text.{bool_word, show_jump_statement}
use Rattle.text.specs.Tree.{JumpStatement}
use Rattle.text.specs.Command.{word, write_statement_terminator}
use Rattle.text.specs.Reading.{unary_op_of, binary_op_of, assignment_op, storage_of, precision_of, interpolation_of}
use Rattle.text.proofs.Computing.{computing}

-- n numbers from i on
abbrev from : ℕ → ℕ → List ℕ
from zero i = []
from (suc n) i = i ∷ from n (i + 1)

pub record Orders : Type 0 where
  unary : map (λ v. unary_symbol (unary_op_of v)) (from 6 0) ≡ unary_operators
  binary : map (λ v. binary_symbol (binary_op_of v)) (from 19 0) ≡ binary_operators
  assignment : map (λ v. assignment_symbol (assignment_op v)) (from 11 0) ≡ assignment_operators
  qualifiers :
      map (λ v. Word.storage (storage_of v)) (from 17 0) ++ Word.subroutine ∷ Word.layout ∷ map (λ v. Word.precision_qualifier (precision_of v)) (from 3 0)
      ++ map (λ v. Word.interpolation (interpolation_of v)) (from 3 0) ++ Word.invariant ∷ Word.precise ∷ [] ≡ qualifier_words
  bools : map bool_word (false ∷ true ∷ []) ≡ bool_words
  jumps :
      map show_jump_statement (JumpStatement.Continue ∷ JumpStatement.Break ∷ JumpStatement.Discard ∷ JumpStatement.Return none ∷ [])
      ≡ map (λ w. word w ∷ write_statement_terminator) jump_words

pub orders : Orders
unfolding computing
orders = record { unary = refl; binary = refl; assignment = refl; qualifiers = refl; bools = refl; jumps = refl }
