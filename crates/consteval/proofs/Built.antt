-- A definition is built by itself, and with its arguments.
use Rattle.std.proofs.Common.{◌≡◌, false, List, [], ap, ◌∙◌}
use Rattle.std.specs.Prelude.{not, ◌||◌}
use Rattle.std.proofs.lemmas.Bool.{or_parts}
use Rattle.world.specs.declared.database.HirDatabase.{HirDatabase}
use Rattle.types.specs.declared.ids.DefWithBodyId.{DefWithBodyId}
use Rattle.types.specs.declared.ty.GenericArg.{GenericArg}
use Rattle.types.specs.declared.ty.GenericArgs.{GenericArgs}
use Rattle.consteval.specs.Built.{is_empty, is_unbuilt, is_unbuilt_definition}

-- a definition that is built as it is given arguments is built
pub built-by-itself : (world : HirDatabase) (def : DefWithBodyId) (args : GenericArgs) → is_unbuilt world def args ≡ false → is_unbuilt_definition world def ≡ false
built-by-itself world def args built = (or_parts (not (is_empty args.0)) (is_unbuilt_definition world def) built).1

-- and one that is built is built where it is given none
pub built-without-args : (world : HirDatabase) (def : DefWithBodyId) (args : GenericArgs) → args.0 ≡ [] → is_unbuilt_definition world def ≡ false → is_unbuilt world def args ≡ false
built-without-args world def args none built = ap (λ (given : List GenericArg). not (is_empty given) || is_unbuilt_definition world def) none ∙ built
