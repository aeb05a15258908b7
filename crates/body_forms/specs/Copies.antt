-- The types that inference lists as `Copy`, as a set that finds a type by the order of types.
use Rattle.std.specs.Prelude.{◌≡◌}
use Rattle.std.specs.BTreeSet.{BTreeSet, contains}
use Rattle.types.specs.Orders.{ty_cmp}
use Rattle.types.specs.declared.ty.Ty.{Ty}
use Rattle.world.specs.Lookups.{is_copy}
use Rattle.world.specs.declared.infer.InferenceResult.{InferenceResult}

-- the set has just the types that are listed
abbrev pub HasCopyTypes : InferenceResult → BTreeSet Ty → Type 0
HasCopyTypes infer types = (ty : Ty) → contains ty_cmp types ty ≡ is_copy infer ty
