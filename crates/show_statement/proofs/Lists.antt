-- The list that the printers of statements loop over: how it is read and shown. Assumes nothing.
use mathlib.Core.Path.{◌≡◌, refl}
use mathlib.Core.Bool.{Bool}
use mathlib.Core.List.{[], ◌++◌}
use Rattle.text.specs.Tree.{Statement, Statements}
use Rattle.text.specs.Text.{show_statement, show_statements}
use Rattle.text.specs.Reading.{statement}
use Rattle.leaves.proofs.Shown.{Listed}

module _ (collapse : Bool) where
  pub statements_none : (f : Bool) → show_statements collapse Statements.no_statements ≡ []
  unfolding show_statements
  statements_none f = refl

  pub statements_some : (f : Bool) (x : Statement) (xs : Statements) → show_statements collapse (Statements.statements x xs) ≡ show_statement collapse x ++ show_statements collapse xs
  unfolding show_statements
  statements_some f x xs = refl

  abbrev pub statements : Listed Statement Statements
  statements = record {
    q = statement;
    end = Statements.no_statements;
    more = Statements.statements;
    item = λ f x. show_statement collapse x;
    list = λ f xs. show_statements collapse xs;
    none = statements_none;
    some = statements_some;
  }
