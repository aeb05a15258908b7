-- Which definitions can be lowered so far.
use Rattle.std.specs.Prelude.{Bool, true, false, not, List, [], ◌∷◌, ◌||◌, Option, Some, None, option_map, slice_get}
use Rattle.world.specs.declared.items.ConstRow.{ConstRow}
use Rattle.world.specs.declared.items.FunctionRow.{FunctionRow}
use Rattle.world.specs.declared.database.HirDatabase.{HirDatabase}
use Rattle.world.specs.declared.infer.InferenceResult.{InferenceResult}
use Rattle.types.specs.declared.ids.DefWithBodyId.{DefWithBodyId}
use Rattle.types.specs.declared.ids.DefWithBodyId.TheVariants.{ConstId, FunctionId}
use Rattle.types.specs.declared.ty.GenericArgs.{GenericArgs}
use Rattle.world.specs.Lookups.{body_row, function_row}

abbrev pub is_empty : {X : Type 0} → List X → Bool
is_empty [] = true
is_empty (x ∷ xs) = false

-- whether a constant has generic parameters
abbrev pub has_generics : Option ConstRow → Bool
has_generics (Some row) = not (is_empty row.generics)
has_generics None = false

-- whether a function has generic parameters
abbrev pub is_generic_function : Option FunctionRow → Bool
is_generic_function (Some row) = not (is_empty row.generics)
is_generic_function None = false

-- whether a definition isn't built yet, whatever arguments it is given: a static, a variant, or a constant or a function with generic
-- parameters
abbrev pub is_unbuilt_definition : HirDatabase → DefWithBodyId → Bool
is_unbuilt_definition world (ConstId id) = has_generics (slice_get world.consts id.0)
is_unbuilt_definition world (FunctionId id) = is_generic_function (function_row world id)
is_unbuilt_definition world _ = true

-- whether a definition isn't built yet: it was given arguments, or it isn't whatever it is given
abbrev pub is_unbuilt : HirDatabase → DefWithBodyId → GenericArgs → Bool
is_unbuilt world def args = not (is_empty args.0) || is_unbuilt_definition world def

-- no generic arguments
abbrev pub no_args : GenericArgs
no_args = record { 0 = [] }

-- whether inference met an error in what it found
abbrev pub has_errors : Option InferenceResult → Bool
has_errors None = false
has_errors (Some infer) = infer.erroneous || not (is_empty infer.mismatches)

-- whether inference met an error in the definition's body
abbrev pub is_erroneous : HirDatabase → DefWithBodyId → Bool
is_erroneous world def = has_errors (option_map (λ row. row.infer) (body_row world def))
