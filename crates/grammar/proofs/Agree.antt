-- Tokens that chapter 9 derives as an expression, it derives as one: whatever else they are derived as is the same. And what the reader answers is what
-- chapter 9 derives: an expression, or none. Assumes nothing.
use mathlib.Core.Path.{◌≡◌, sym, ◌∙◌, ap}
use mathlib.Core.List.{List}
use mathlib.Core.Option.{none, some}
use Rattle.text.specs.Token.{Token}
use Rattle.text.specs.Tree.{Expr}
use Rattle.grammar.specs.Same.{Same, as_read}
use Rattle.grammar.specs.Chapter9.{Derives}
use Rattle.grammar.specs.Chapter9.Nonterminal.{expression}
use Rattle.grammar.specs.Chapter9.Value.{expr}
use Rattle.grammar.proofs.Reader.{read}
use Rattle.grammar.proofs.Complete.{reads, unambiguous}
use Rattle.grammar.proofs.Faithful.{no_some, faithful}
use Rattle.grammar.proofs.Literal.{literal_expression}
use Rattle.grammar.proofs.Settling.{Settling, settling}

pub one_reading : (ts : List Token) (a b : Expr) → Derives expression ts (expr a) → Derives expression ts (expr b) → Same a b
one_reading ts a b d e =
    let r : Settling ts a = settling ts a d in
    let s : Settling ts b = settling ts b e in
    r.same ∙ ap as_read (unambiguous ts r.tree s.tree r.reading s.reading) ∙ sym s.same

pub reader_derives : (ts : List Token) (e : Expr) → read ts ≡ some e → Derives expression ts (expr e)
reader_derives ts e r = literal_expression ts e (faithful ts e r)

pub reader_finds : (ts : List Token) (a : Expr) → Derives expression ts (expr a) → (e : Expr) × (read ts ≡ some e) × Same a e
reader_finds ts a d = let s : Settling ts a = settling ts a d in (s.tree, reads ts s.tree s.reading, s.same)

pub reader_refuses : (ts : List Token) → read ts ≡ none → (a : Expr) → Derives expression ts (expr a) → ⊥
reader_refuses ts r a d = let f = reader_finds ts a d in no_some (sym r ∙ f.1)
