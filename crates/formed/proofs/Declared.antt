-- A struct's name that is declared is a name, and a parameter's identifier is an identifier. Assumes nothing.
use mathlib.Core.Option.{Option, none, some}
use Rattle.words.proofs.Sorts.{ordinary_name}
use Rattle.text.specs.Tree.{Identifier, ArrayedIdentifier}
use Rattle.formed.specs.Formed.{Name, Declared, IfThere, FormedIdentifier, FormedParameterIdentifier}

pub if_declared : (s : Option Identifier) → IfThere Declared s → IfThere Name s
if_declared none h = tt
if_declared (some s) h = ordinary_name s h

pub parameter_formed : (i : ArrayedIdentifier) → FormedParameterIdentifier i → FormedIdentifier i
unfolding FormedParameterIdentifier FormedIdentifier
parameter_formed ArrayedIdentifier.no_identifier h = absurd h
parameter_formed (ArrayedIdentifier.arrayed s ds) h = (ordinary_name s h.0, h.1)
