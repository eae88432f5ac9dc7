-- What a text is read as: longest match divides it into words, and chapter 9 derives an expression from the tokens that these are. W has the words of the
-- language. Two things to know: a text with a word that the printer never writes (0x1F, 1e5, a comment) is read as nothing here, though GLSL may read it; and no
-- macro is expanded, so that a name which is one where the text stands (__LINE__ always is) is outside what is said here. Assumes nothing.
use Rattle.std.specs.Prelude.{Bool, List, ℕ}
use Rattle.text.specs.Token.{Token}
use Rattle.text.specs.Tree.{Expr}
use Rattle.lexis.specs.Division.{Divides}
use Rattle.lexis.specs.Glsl.{Lexeme}
use Rattle.grammar.specs.Chapter9.{Derives, Nonterminal}
use Rattle.grammar.specs.Chapter9.Value.{expr}

pub record IsRead (W : List ℕ → Bool) (bytes : List ℕ) (e : Expr) : Type 0 where
  pub tokens : List Token
  pub divided : Divides Lexeme W bytes tokens
  pub derived : Derives Nonterminal.expression tokens (expr e)
