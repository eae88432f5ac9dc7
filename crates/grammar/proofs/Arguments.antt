-- Calls: arguments one after the other behind any function_call_header. Assumes nothing.
use mathlib.Core.List.{List, [], ◌∷◌, ◌++◌, append_assoc}
use Rattle.words.specs.Symbol.Symbol.{left_paren, right_paren, comma}
use Rattle.text.specs.Token.{Token}
use Rattle.text.specs.Token.Token.{symbol}
use Rattle.text.specs.Tree.{Expr, Exprs, FunIdentifier}
use Rattle.text.specs.Tree.Expr.{FunCall}
use Rattle.text.specs.Tree.Exprs.{no_exprs}
use Rattle.grammar.specs.Last.{last_expr}
use Rattle.grammar.specs.Chapter9.{Derives, void}
use Rattle.grammar.specs.Chapter9.Nonterminal.{postfix_expression, function_identifier, function_call_header, function_call_generic, function_call_header_with_parameters, assignment_expression}
use Rattle.grammar.specs.Chapter9.Value.{expr, callee, header, call}
use Rattle.grammar.specs.Chapter9.Derives.{postfix-call, call-or_method, method-generic, generic-with, generic-no, no-void, no-header, with-first, with-next, header-identifier}

-- what stands between a call's parentheses, and the same where it is not empty
pub record Arguments (us : List Token) (es : Exprs) : Type 0 where
  pub behind : (ts : List Token) (f : FunIdentifier) → Derives function_call_header ts (header f)
      → Derives function_call_generic (ts ++ (us ++ (symbol right_paren ∷ []))) (expr (FunCall f es))

pub record Parameters (us : List Token) (es : Exprs) : Type 0 where
  pub behind : (ts : List Token) (f : FunIdentifier) → Derives function_call_header ts (header f) → Derives function_call_header_with_parameters (ts ++ us) (call f es)

pub no_arguments : Arguments [] no_exprs
no_arguments = record { behind = λ ts f h. generic-no (no-header h) }

pub void_arguments : Arguments (void ∷ []) no_exprs
void_arguments = record { behind = λ ts f h. rw (append_assoc ts (void ∷ []) (symbol right_paren ∷ [])) at (generic-no (no-void h)) }

pub some_arguments : {us : List Token} {es : Exprs} → Parameters us es → Arguments us es
some_arguments {us = us} p = record { behind = λ ts f h. rw (append_assoc ts us (symbol right_paren ∷ [])) at (generic-with (p.behind ts f h)) }

pub first_parameter : {us : List Token} {e : Expr} → Derives assignment_expression us (expr e) → Parameters us (last_expr no_exprs e)
first_parameter d = record { behind = λ ts f h. with-first h d }

pub next_parameter : {us vs : List Token} {es : Exprs} {e : Expr} → Parameters us es → Derives assignment_expression vs (expr e)
    → Parameters (us ++ (symbol comma ∷ vs)) (last_expr es e)
next_parameter {us = us} {vs = vs} p d = record { behind = λ ts f h. rw (append_assoc ts us (symbol comma ∷ vs)) at (with-next (p.behind ts f h) d) }

pub call_derived : {ts us : List Token} {f : FunIdentifier} {es : Exprs} → Derives function_identifier ts (callee f) → Arguments us es
    → Derives postfix_expression (ts ++ (symbol left_paren ∷ (us ++ (symbol right_paren ∷ [])))) (expr (FunCall f es))
call_derived {ts = ts} {us = us} {f = f} d m = postfix-call (call-or_method (method-generic
    (rw (append_assoc ts (symbol left_paren ∷ []) (us ++ (symbol right_paren ∷ []))) at (m.behind (ts ++ (symbol left_paren ∷ [])) f (header-identifier d)))))
