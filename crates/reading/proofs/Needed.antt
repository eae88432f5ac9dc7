-- Why the conditions of soundness are there: for each but one an expression that breaks it, formed as the record check promises, whose text in OPEN is read as another expression or as
-- none; all computed. Those that fall away with byte 21 at 1 (02, #106) are needed where it is 0, and all others whatever it is. A struct in a callee has no such example: chapter 9 reads it,
-- and ours leaves it out. Assumes nothing.
use mathlib.Core.Path.{◌≡◌, refl, subst}
use mathlib.Core.Bool.{Bool, true}
use mathlib.Core.List.{List, [], ◌∷◌, ◌++◌}
use mathlib.Core.Option.{none, some}
use Prim.Native.Nat.{ℕ, ◌-◌, ◌^◌}
use Prim.Native.String.{String}
use native.Mathlib.Omega.{arith}
use Rattle.words.specs.Bytes.{bytes}
use Rattle.words.specs.Symbol.Symbol.{left_paren, right_paren, left_bracket, right_bracket, comma, colon, question, equal, dash, dec_op, plus, inc_op}
use Rattle.settings.specs.declared.Settings.{Settings}
use Rattle.settings.specs.Settings.{OPEN, settings_of}
use Rattle.settings.specs.State.{fresh}
use Rattle.text.specs.Token.Token.{name, int, double, symbol}
use Rattle.text.specs.Token.{Token}
use Rattle.text.specs.Pen.{text}
use Rattle.text.specs.Text.{show_expr}
use Rattle.text.specs.Tree.{UnaryOp, AssignmentOp, Expr}
use Rattle.text.specs.Tree.Expr.{Variable, IntConst, UIntConst, DoubleConst, Unary, Ternary, Assignment, FunCall, Dot, Comma}
use Rattle.text.specs.Tree.Exprs.{no_exprs, exprs}
use Rattle.text.specs.Tree.FunIdentifier.{OfType, OfExpr}
use Rattle.text.specs.Tree.TypeSpecifier.{type}
use Rattle.text.specs.Tree.TypeSpecifierNonArray.{Keyword}
use Rattle.text.specs.Tree.ArraySpecifier.{no_dimensions, dimensions}
use Rattle.text.specs.Tree.ArraySpecifierDimension.{ExplicitlySized}
use Rattle.text.proofs.Computing.{computing}
use Rattle.formed.specs.Formed.{FormedExpr}
use Rattle.lexis.specs.Keywords.{listed}
use Rattle.lexis.specs.Number.{decimal_or_octal, hexadecimal, integer_constant, exponent_letter, exponent, behind_whole, floating_constant, number_word}
use Rattle.lexis.specs.Glsl.{identifier_word, symbol_words, glsl_word, unlisted}
use Rattle.lexis.specs.Preprocessing.{plain, goes_on, opens_number, preprocessing_number, preprocessing_word}
use Rattle.lexis.proofs.Fixed.{types_from, others, fixed_tokens, find}
use Rattle.lexis.proofs.Undivided.{listed_undivided, foreign_undivided}
use Rattle.lexis.proofs.One.{one_division}
use Rattle.lexis.proofs.Glsl.{vocabulary, glsl_between, preprocessing_between}
use Rattle.grammar.specs.Chapter9.{Derives}
use Rattle.grammar.specs.Chapter9.Nonterminal.{expression}
use Rattle.grammar.specs.Chapter9.Value.{expr}
use Rattle.grammar.specs.Same.{Same}
use Rattle.grammar.proofs.Reader.{read}
use Rattle.grammar.proofs.Agree.{reader_derives, reader_refuses}
use Rattle.sound.specs.Sound.{Mixed, Numeric, SoundUnder}
use Rattle.lexis.proofs.Tests.{clash}
use Rattle.reading.specs.Read.{IsRead}
use Rattle.reading.proofs.Computing.{reading}
use Rattle.reading.proofs.Spelled.{Item, gap, tok, spelled, tokens, apart, spelled_divides}

-- what the tokens of a text are read as is what the text is read as
pub as_reader : (is : List Item) → apart is ≡ true → (e : Expr) → read (tokens is) ≡ some e → IsRead glsl_word (spelled is) e
as_reader is h e r = record { tokens = tokens is; divided = spelled_divides is h; derived = reader_derives (tokens is) e r }

-- OPEN with byte 21 behind it, and a tree's text
abbrev settings : (byte : ℕ) → Settings
settings byte = settings_of (OPEN ++ byte ∷ [])

abbrev shown : (byte : ℕ) → Expr → List ℕ
shown byte e = text (settings byte) (show_expr e) fresh

-- a formed tree that is not sound, its text, and another expression that the text is read as
pub record Misread (byte : ℕ) (tree : Expr) (written : String) (reading : Expr) : Type 0 where
  pub formed : FormedExpr tree
  pub unsound : SoundUnder listed (settings byte) tree → ⊥
  pub printed : shown byte tree ≡ bytes written
  pub read : IsRead glsl_word (bytes written) reading
  pub other : Same reading tree → ⊥

abbrev var : String → Expr
var n = Variable (bytes n)

-- "no negative IntConst"
pub negative : (byte : ℕ) → Misread byte (IntConst (2 ^ 32 - 1)) "-1" (Unary UnaryOp.Minus (IntConst 1))
unfolding computing reading
negative byte = record {
  formed = omega arith;
  unsound = λ s. clash refl s;
  printed = refl;
  read = as_reader (tok (symbol dash) ∷ tok (int 1) ∷ []) refl (Unary UnaryOp.Minus (IntConst 1)) refl;
  other = λ s. let z : ◌≡◌ {A = ℕ} 0 1 = cc in omega arith;
}

-- "no minus directly over Dec nor plus directly over Inc", at 0
pub minus_over_dec : Misread 0 (Unary UnaryOp.Minus (Unary UnaryOp.Dec (var "k"))) "---k" (Unary UnaryOp.Dec (Unary UnaryOp.Minus (var "k")))
unfolding computing reading
minus_over_dec = record {
  formed = refl;
  unsound = λ s. s.0 Mixed.minus_over_dec;
  printed = refl;
  read = as_reader (tok (symbol dec_op) ∷ tok (symbol dash) ∷ tok (name (bytes "k")) ∷ []) refl (Unary UnaryOp.Dec (Unary UnaryOp.Minus (var "k"))) refl;
  other = λ s. let z : ◌≡◌ {A = ℕ} 0 1 = cc in omega arith;
}

-- the same of plus
pub plus_over_inc : Misread 0 (Unary UnaryOp.Add (Unary UnaryOp.Inc (var "k"))) "+++k" (Unary UnaryOp.Inc (Unary UnaryOp.Add (var "k")))
unfolding computing reading
plus_over_inc = record {
  formed = refl;
  unsound = λ s. s.0 Mixed.plus_over_inc;
  printed = refl;
  read = as_reader (tok (symbol inc_op) ∷ tok (symbol plus) ∷ tok (name (bytes "k")) ∷ []) refl (Unary UnaryOp.Inc (Unary UnaryOp.Add (var "k"))) refl;
  other = λ s. let z : ◌≡◌ {A = ℕ} 0 1 = cc in omega arith;
}

-- "no Dot directly over a numeric constant", of an IntConst at 0
pub dot_over_int : Misread 0 (Dot (bytes "lf") (IntConst 1)) "1.lf" (DoubleConst (bytes "1"))
unfolding computing reading
dot_over_int = record {
  formed = (refl, omega arith);
  unsound = λ s. s.0 Numeric.int;
  printed = refl;
  read = as_reader (tok (double (bytes "1")) ∷ []) refl (DoubleConst (bytes "1")) refl;
  other = λ s. let z : ◌≡◌ {A = ℕ} 0 1 = cc in omega arith;
}

-- "no Comma directly as an argument"
pub comma_argument : (byte : ℕ) → Misread byte (FunCall (OfExpr (var "f")) (exprs (Comma (var "a") (var "b")) no_exprs)) "f(a, b)" (FunCall (OfExpr (var "f")) (exprs (var "a") (exprs (var "b") no_exprs)))
unfolding computing reading
comma_argument byte = record {
  formed = (refl, ((refl, refl), tt));
  unsound = λ s. omega (arith, s.1.0);
  printed = refl;
  read = as_reader (tok (name (bytes "f")) ∷ tok (symbol left_paren) ∷ tok (name (bytes "a")) ∷ tok (symbol comma) ∷ gap ∷ tok (name (bytes "b")) ∷ tok (symbol right_paren) ∷ []) refl (FunCall (OfExpr (var "f")) (exprs (var "a") (exprs (var "b") no_exprs))) refl;
  other = λ s. let z : ◌≡◌ {A = ℕ} 0 1 = cc in omega arith;
}

-- "callees are a type .. or a Variable"
pub callee : (byte : ℕ) → Misread byte (FunCall (OfExpr (Unary UnaryOp.Minus (var "f"))) no_exprs) "-f()" (Unary UnaryOp.Minus (FunCall (OfExpr (var "f")) no_exprs))
unfolding computing reading
callee byte = record {
  formed = (refl, tt);
  unsound = λ s. let e = s.0.1 in let z : ◌≡◌ {A = ℕ} 0 1 = cc in omega arith;
  printed = refl;
  read = as_reader (tok (symbol dash) ∷ tok (name (bytes "f")) ∷ tok (symbol left_paren) ∷ tok (symbol right_paren) ∷ []) refl (Unary UnaryOp.Minus (FunCall (OfExpr (var "f")) no_exprs)) refl;
  other = λ s. let z : ◌≡◌ {A = ℕ} 0 1 = cc in omega arith;
}

-- "assignment targets bind at 3 or below"
pub target : (byte : ℕ) → Misread byte (Assignment AssignmentOp.Equal (Ternary (var "a") (var "b") (var "c")) (var "d")) "a ? b : c = d" (Ternary (var "a") (var "b") (Assignment AssignmentOp.Equal (var "c") (var "d")))
unfolding computing reading
target byte = record {
  formed = ((refl, refl, refl), refl);
  unsound = λ s. omega (arith, s.0);
  printed = refl;
  read = as_reader (tok (name (bytes "a")) ∷ gap ∷ tok (symbol question) ∷ gap ∷ tok (name (bytes "b")) ∷ gap ∷ tok (symbol colon) ∷ gap ∷ tok (name (bytes "c")) ∷ gap ∷ tok (symbol equal) ∷ gap ∷ tok (name (bytes "d")) ∷ []) refl (Ternary (var "a") (var "b") (Assignment AssignmentOp.Equal (var "c") (var "d"))) refl;
  other = λ s. let z : ◌≡◌ {A = ℕ} 0 1 = cc in omega arith;
}

-- a formed tree that is not sound, and its text, which is read as nothing by the words of a language
pub record Unread (W : List ℕ → Bool) (byte : ℕ) (tree : Expr) (written : String) : Type 0 where
  pub formed : FormedExpr tree
  pub unsound : SoundUnder listed (settings byte) tree → ⊥
  pub printed : shown byte tree ≡ bytes written
  pub unread : (e : Expr) → IsRead W (bytes written) e → ⊥

-- where the reader refuses the tokens
pub as_refused : (is : List Item) → apart is ≡ true → read (tokens is) ≡ none → (e : Expr) → IsRead glsl_word (spelled is) e → ⊥
as_refused is h r e d =
    reader_refuses (tokens is) r e (subst (λ (ts : List Token). Derives expression ts (expr e)) (one_division (vocabulary unlisted glsl_word glsl_between) d.divided (spelled_divides is h) refl) d.derived)

-- "sized dimensions at 15 or below"
pub dimension : (byte : ℕ) → Unread glsl_word byte (FunCall (OfType (type (Keyword 2) (dimensions (ExplicitlySized (Comma (var "a") (var "b"))) no_dimensions))) no_exprs) "int[a, b]()"
unfolding computing reading
dimension byte = record {
  formed = ((omega arith, ((refl, refl), tt)), tt);
  unsound = λ s. omega (arith, s.0.1.0.0);
  printed = refl;
  unread = as_refused (tok (Token.type 2) ∷ tok (symbol left_bracket) ∷ tok (name (bytes "a")) ∷ tok (symbol comma) ∷ gap ∷ tok (name (bytes "b")) ∷ tok (symbol right_bracket) ∷ tok (symbol left_paren) ∷ tok (symbol right_paren) ∷ []) refl refl;
}

-- "no name that section 3.6 lists as a keyword or reserved word"
pub listed_name : (byte : ℕ) → Unread glsl_word byte (var "goto") "goto"
unfolding computing reading identifier_word types_from others fixed_tokens find
listed_name byte = record {
  formed = refl;
  unsound = λ s. clash refl s;
  printed = refl;
  unread = λ e d. listed_undivided (bytes "goto") refl refl refl d.divided refl;
}

-- "no Dot directly over a numeric constant", of another than an IntConst: a dot makes its number longer to the preprocessor, and no space is kept there
pub dot_over_uint : (byte : ℕ) → Unread preprocessing_word byte (Dot (bytes "x") (UIntConst 1)) "1u.x"
unfolding computing reading identifier_word symbol_words glsl_word number_word integer_constant hexadecimal decimal_or_octal floating_constant behind_whole exponent exponent_letter plain goes_on opens_number preprocessing_number preprocessing_word
dot_over_uint byte = record {
  formed = (refl, omega arith);
  unsound = λ s. s.0 Numeric.uint;
  printed = refl;
  unread = λ e d. foreign_undivided preprocessing_between (bytes "1u.x") refl refl d.divided refl;
}
