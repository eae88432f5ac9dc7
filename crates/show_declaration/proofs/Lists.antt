-- The lists that the printers of declarations loop over: how each is read and shown. Assumes nothing.
use mathlib.Core.Path.{◌≡◌, refl}
use mathlib.Core.Bool.{Bool, false}
use mathlib.Core.List.{List, [], ◌∷◌, ◌++◌}
use Rattle.text.specs.Command.{write_list_separator}
use Rattle.text.specs.Tree.{FunctionParameterDeclaration, Initializer, Initializers, SingleDeclarationNoType}
use Rattle.text.specs.Text.{separator, show_parameters, show_function_parameter_declaration, show_initializers, show_initializer, show_tail, show_single_declaration_no_type}
use Rattle.text.specs.Reading.{parameter, initializer, declarator}
use Rattle.leaves.proofs.Shown.{Listed}

pub parameters_none : (f : Bool) → show_parameters [] f ≡ []
unfolding show_parameters
parameters_none f = refl

pub parameters_some : (f : Bool) (x : FunctionParameterDeclaration) (xs : List FunctionParameterDeclaration)
    → show_parameters (x ∷ xs) f ≡ (separator f ++ show_function_parameter_declaration x) ++ show_parameters xs false
unfolding show_parameters
parameters_some f x xs = refl

abbrev pub parameters : Listed FunctionParameterDeclaration (List FunctionParameterDeclaration)
parameters = record {
  q = parameter;
  end = [];
  more = ◌∷◌;
  item = λ f x. separator f ++ show_function_parameter_declaration x;
  list = λ f xs. show_parameters xs f;
  none = parameters_none;
  some = parameters_some;
}

pub initializers_none : (f : Bool) → show_initializers Initializers.no_initializers f ≡ []
unfolding show_initializers
initializers_none f = refl

pub initializers_some : (f : Bool) (x : Initializer) (xs : Initializers)
    → show_initializers (Initializers.initializers x xs) f ≡ (separator f ++ show_initializer x) ++ show_initializers xs false
unfolding show_initializers
initializers_some f x xs = refl

abbrev pub initializers : Listed Initializer Initializers
initializers = record {
  q = initializer;
  end = Initializers.no_initializers;
  more = Initializers.initializers;
  item = λ f x. separator f ++ show_initializer x;
  list = λ f xs. show_initializers xs f;
  none = initializers_none;
  some = initializers_some;
}

pub tail_none : (f : Bool) → show_tail [] ≡ []
unfolding show_tail
tail_none f = refl

pub tail_some : (f : Bool) (x : SingleDeclarationNoType) (xs : List SingleDeclarationNoType)
    → show_tail (x ∷ xs) ≡ (write_list_separator ++ show_single_declaration_no_type x) ++ show_tail xs
unfolding show_tail
tail_some f x xs = refl

-- the declarators behind the first declaration: a separator stands before each
abbrev pub tail : Listed SingleDeclarationNoType (List SingleDeclarationNoType)
tail = record {
  q = declarator;
  end = [];
  more = ◌∷◌;
  item = λ f x. write_list_separator ++ show_single_declaration_no_type x;
  list = λ f xs. show_tail xs;
  none = tail_none;
  some = tail_some;
}
