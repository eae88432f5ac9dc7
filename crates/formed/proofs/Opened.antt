-- `unfolding opened` opens what a record's shape, its reading and its formedness are. Assumes nothing.
use Prim.Native.Nat.{ℕ}
use Rattle.shapes.specs.Class.{allowed}
use Rattle.shapes.specs.Shape.{rows, last_variant, shape_of, classes}
use Rattle.text.specs.Reading.{first, first_kind, several, expr_of, type_of, base_of, array_of, dimension_of, field_of, identifier_of, qualifier_of, spec_of, layout_id_of, full_type_of, prototype_of, parameter_of, declarators_of, single_of, declarator_of, initializer_of, block_of, declaration_of, compound_of, statement_of, condition_of, for_init_of, external_of, unit_of, item_of}
use Rattle.formed.specs.Formed.{Each, FormedExpr, FormedExprs, FormedCallee, FormedType, FormedTypes, FormedBase, FormedArray, FormedDimensions, FormedDimension, FormedField, FormedFields, FormedIdentifier, FormedParameterIdentifier, FormedSomeIdentifiers, FormedIdentifiers, FormedQualification, FormedQualifier, FormedSpecs, FormedSpec, FormedLayout, FormedIds, FormedId, FormedFullType, FormedParameter, FormedPrototype, FormedInitializer, FormedSomeInitializers, FormedInitializers, FormedSingle, FormedDeclarator, FormedDeclarators, FormedBlock, FormedPrecision, FormedDeclaration, FormedCondition, FormedForInit, FormedJump, FormedStatement, FormedStatements, FormedExternal}
use Rattle.formed.proofs.Plan.{reading, before, Holds}

unfoldable pub opened : ℕ
unfolding allowed rows last_variant shape_of classes first first_kind several expr_of type_of base_of array_of dimension_of field_of identifier_of qualifier_of spec_of layout_id_of full_type_of prototype_of parameter_of declarators_of single_of declarator_of initializer_of block_of declaration_of compound_of statement_of condition_of for_init_of external_of unit_of item_of Each FormedExpr FormedExprs FormedCallee FormedType FormedTypes FormedBase FormedArray FormedDimensions FormedDimension FormedField FormedFields FormedIdentifier FormedParameterIdentifier FormedSomeIdentifiers FormedIdentifiers FormedQualification FormedQualifier FormedSpecs FormedSpec FormedLayout FormedIds FormedId FormedFullType FormedParameter FormedPrototype FormedInitializer FormedSomeInitializers FormedInitializers FormedSingle FormedDeclarator FormedDeclarators FormedBlock FormedPrecision FormedDeclaration FormedCondition FormedForInit FormedJump FormedStatement FormedStatements FormedExternal reading before Holds
opened = 0
