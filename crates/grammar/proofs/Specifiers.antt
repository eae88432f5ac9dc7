-- Type specifiers: what they begin with, and dimensions behind it, one after the other. Assumes nothing.
use mathlib.Core.List.{List, [], ◌∷◌, ◌++◌}
use Rattle.words.specs.Symbol.Symbol.{left_bracket, right_bracket}
use Rattle.text.specs.Token.{Token}
use Rattle.text.specs.Token.Token.{symbol}
use Rattle.text.specs.Tree.{Expr, TypeSpecifier, ArraySpecifier, ArraySpecifierDimension}
use Rattle.text.specs.Tree.ArraySpecifier.{no_dimensions, dimensions}
use Rattle.text.specs.Tree.ArraySpecifierDimension.{Unsized, ExplicitlySized}
use Rattle.grammar.specs.Last.{last_dimension}
use Rattle.grammar.specs.Same.{type_callee}
use Rattle.grammar.specs.Chapter9.{Derives}
use Rattle.grammar.specs.Chapter9.Nonterminal.{conditional_expression, function_identifier, type_specifier, type_specifier_nonarray, array_specifier}
use Rattle.grammar.specs.Chapter9.Value.{expr, callee, type, base, array}
use Rattle.grammar.specs.Chapter9.Derives.{variable-identifier, primary-variable, postfix-primary, identifier-type, identifier-postfix, specifier-nonarray, specifier-array, array-open, array-sized, array-and_open, array-and_sized, nonarray-keyword, nonarray-name}
use Rattle.grammar.proofs.Settled.{Head, named, keyword, head_token, head_base}

-- tokens that are a type_specifier: what it begins with, alone or with an array_specifier
pub data Specifier (h : Head) : List Token → ArraySpecifier → Type 0 where
  plain : Specifier h (head_token h ∷ []) no_dimensions
  arrayed : {us : List Token} {d : ArraySpecifierDimension} {ds : ArraySpecifier} → Derives array_specifier us (array (dimensions d ds))
      → Specifier h (head_token h ∷ us) (dimensions d ds)

-- one dimension more
pub and_open : {h : Head} {ts : List Token} {ds : ArraySpecifier} → Specifier h ts ds
    → Specifier h (ts ++ (symbol left_bracket ∷ symbol right_bracket ∷ [])) (last_dimension ds Unsized)
unfolding last_dimension
and_open plain = arrayed array-open
and_open (arrayed d) = arrayed (array-and_open d)

pub and_sized : {h : Head} {ts us : List Token} {ds : ArraySpecifier} {e : Expr} → Specifier h ts ds → Derives conditional_expression us (expr e)
    → Specifier h (ts ++ (symbol left_bracket ∷ (us ++ (symbol right_bracket ∷ [])))) (last_dimension ds (ExplicitlySized e))
unfolding last_dimension
and_sized plain f = arrayed (array-sized f)
and_sized (arrayed d) f = arrayed (array-and_sized d f)

head_derived : (h : Head) → Derives type_specifier_nonarray (head_token h ∷ []) (base (head_base h))
unfolding head_token head_base
head_derived (named n) = nonarray-name n
head_derived (keyword v) = nonarray-keyword v

pub specifier_derived : (h : Head) {ts : List Token} {ds : ArraySpecifier} → Specifier h ts ds → Derives type_specifier ts (type (TypeSpecifier.type (head_base h) ds))
specifier_derived h plain = specifier-nonarray (head_derived h)
specifier_derived h (arrayed d) = specifier-array (head_derived h) d

-- as a callee, a name alone is a Variable
pub specifier_called : (h : Head) {ts : List Token} {ds : ArraySpecifier} → Specifier h ts ds → Derives function_identifier ts (callee (type_callee (head_base h) ds))
unfolding type_callee head_base head_token
specifier_called (named n) plain = identifier-postfix (postfix-primary (primary-variable (variable-identifier n)))
specifier_called (named n) (arrayed d) = identifier-type (specifier_derived (named n) (arrayed d))
specifier_called (keyword v) s = identifier-type (specifier_derived (keyword v) s)
