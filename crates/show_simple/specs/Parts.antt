-- The parts of statements and of a function, behind their records, by the variant or the count: the rows of text's Reading by name, for the functions that
-- show_statement and show_external_declaration call. Assumes nothing.
use Rattle.std.specs.Prelude.{[], ◌∷◌, ℕ, eqb}
use Rattle.records.specs.Record.{bit0, bit1}
use Rattle.text.specs.Tree.{Statement, ExternalDeclaration}
use Rattle.text.specs.Reading.{Reader, give, ◌and◌, maybe, at, by_variant, statements, expr, condition, for_init, statement, prototype, compound}

abbrev pub expression_statement : (v : ℕ) → Reader Statement
expression_statement v = give Statement.Expression and maybe (eqb v 1) expr

abbrev pub selection_statement : (v : ℕ) → Reader Statement
selection_statement v = by_variant v (at 0 (give Statement.If and expr and statement) ∷ []) (give Statement.IfElse and expr and statement and statement)

abbrev pub switch_statement : (n : ℕ) → Reader Statement
switch_statement n = give Statement.Switch and expr and statements n

abbrev pub case_label : (v : ℕ) → Reader Statement
case_label v = by_variant v (at 0 (give Statement.Default) ∷ []) (give Statement.Case and expr)

abbrev pub while_statement : Reader Statement
while_statement = give Statement.While and condition and statement

abbrev pub do_while_statement : Reader Statement
do_while_statement = give Statement.DoWhile and statement and expr

abbrev pub for_statement : (v : ℕ) → Reader Statement
for_statement v = give Statement.For and for_init and maybe (bit0 v) condition and maybe (bit1 v) expr and statement

abbrev pub function_definition : Reader ExternalDeclaration
function_definition = give ExternalDeclaration.FunctionDefinition and prototype and compound
