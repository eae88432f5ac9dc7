-- The qualifier spec of a precision declaration is a qualifier spec. Assumes nothing.
use Rattle.text.specs.Tree.{TypeQualifierSpec}
use Rattle.formed.specs.Formed.{FormedSpec, FormedPrecision}

pub precision_formed : (q : TypeQualifierSpec) → FormedPrecision q → FormedSpec q
unfolding FormedPrecision FormedSpec
precision_formed TypeQualifierSpec.no_spec h = absurd h
precision_formed (TypeQualifierSpec.Storage q) h = absurd h
precision_formed (TypeQualifierSpec.Subroutine ts) h = absurd h
precision_formed (TypeQualifierSpec.Layout is) h = absurd h
precision_formed (TypeQualifierSpec.Precision p) h = tt
precision_formed (TypeQualifierSpec.Interpolation i) h = absurd h
precision_formed TypeQualifierSpec.Invariant h = absurd h
precision_formed TypeQualifierSpec.Precise h = absurd h
