-- Demand 3 (README's promise 3), about the public call: the text of a sound expression, with spaces around operators (00) or with spaces where they are needed (02, #106), is read by GLSL 4.60's
-- grammar as that expression and no other. proofs/Demand3 has it for GLSL's words, for those of the preprocessor, and for any language between the two (`holds`); proofs/Calls brings it to
-- print_expr_into and glsl_print_expr.
--
-- Where each word is defined: a call, by what print_expr promises, in Call.antt beside this file; the expression that records hold in crate text (specs/Reading); Sound in crate
-- sound, condition by condition in 01's words; IsRead beside this file, by crates lexis (words, longest match) and grammar (chapter 9); Same in crate grammar.
-- Assumes nothing.
use Rattle.std.specs.Prelude.{◌≡◌, Bool, true, false, List, ℕ}
use Rattle.settings.specs.Settings.{settings_of}
use Rattle.text.specs.Tree.{Expr}
use Rattle.text.specs.Reading.{expr, from}
use Rattle.lexis.specs.Keywords.{listed}
use Rattle.grammar.specs.Same.{Same}
use Rattle.sound.specs.Sound.{Sound, SoundUnder, KeepsApart}
use Rattle.reading.specs.Call.{ExprCall}
use Rattle.reading.specs.Read.{IsRead}

-- the expression that its records and names hold
abbrev pub recorded : ExprCall → Expr
recorded c = (expr (from c.records c.names 0)).tree

-- Which calls it covers, in 00 and since #106. What 00 covers #106 covers too (proofs/Demand3, `covered`).

-- 00: it is printed with spaces around operators, and is sound in GLSL with all of 01's conditions
pub record SpacedAndSound (c : ExprCall) : Type 0 where
  pub spaced : (settings_of c.settings).spaces_around_binary_ops ≡ true
  pub sound : Sound listed false (recorded c)

-- 02, #106: it is printed with spaces around operators or where they are needed, and is sound in GLSL under its settings
pub record ApartAndSound (c : ExprCall) : Type 0 where
  pub apart : KeepsApart (settings_of c.settings)
  pub sound : SoundUnder listed (settings_of c.settings) (recorded c)

-- What is promised of the calls that are covered, by the words of a language
pub record ReadBack (W : List ℕ → Bool) (Covers : ExprCall → Type 0) : Type 0 where
  -- what is written is read as the expression that was printed
  pub read_as : (c : ExprCall) → Covers c → IsRead W c.written (recorded c)
  -- whatever it is read as is that expression
  pub read_only_as : (c : ExprCall) → Covers c → (e : Expr) → IsRead W c.written e → Same e (recorded c)
  -- expressions with one text are the same, whatever the settings under which each was printed, if both calls are covered
  pub told_apart : (c d : ExprCall) → Covers c → Covers d → c.written ≡ d.written → Same (recorded c) (recorded d)
  -- and any text at all is read as one expression at most
  pub unambiguous : (bytes : List ℕ) (a b : Expr) → IsRead W bytes a → IsRead W bytes b → Same a b

-- demand 3 as #106 widens it, and as 00 has it
abbrev pub Demand3 : (List ℕ → Bool) → Type 0
Demand3 W = ReadBack W ApartAndSound

abbrev pub Demand3Of00 : (List ℕ → Bool) → Type 0
Demand3Of00 W = ReadBack W SpacedAndSound
