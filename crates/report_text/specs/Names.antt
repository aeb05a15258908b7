-- The names that a world gives to items and parameters; `{error}` for an id that is out of range.
use Rattle.std.specs.Prelude.{ℕ, List, Option, Some, None, codes, slice_get}
use Rattle.std.specs.Option.{option_map}
use Rattle.types.specs.declared.ids.AdtId.{AdtId}
use Rattle.types.specs.declared.ids.AdtId.TheVariants as adt
use Rattle.types.specs.declared.ids.AliasId.{AliasId}
use Rattle.types.specs.declared.ids.CallableDefId.{CallableDefId}
use Rattle.types.specs.declared.ids.CallableDefId.TheVariants as callable
use Rattle.types.specs.declared.ids.ConstParamId.{ConstParamId}
use Rattle.types.specs.declared.ids.GeneralConstId.{GeneralConstId}
use Rattle.types.specs.declared.ids.GeneralConstId.TheVariants as general
use Rattle.types.specs.declared.ids.TraitId.{TraitId}
use Rattle.types.specs.declared.ids.TypeParamId.{TypeParamId}
use Rattle.world.specs.declared.database.HirDatabase.{HirDatabase}

-- the name that was found for an id; `{error}` if none was
abbrev pub name_or_error : Option (List ℕ) → List ℕ
name_or_error (Some name) = name
name_or_error None = codes "{error}"

-- a constant's name; `_` for a `const _`, which has none
abbrev pub name_or_underscore : Option (List ℕ) → List ℕ
name_or_underscore (Some name) = name
name_or_underscore None = codes "_"

-- the name of a struct, union or enum
abbrev pub adt_name : HirDatabase → AdtId → List ℕ
adt_name world (adt.StructId id) = name_or_error (option_map (λ row. row.name) (slice_get world.structs id.0))
adt_name world (adt.UnionId id) = name_or_error (option_map (λ row. row.name) (slice_get world.unions id.0))
adt_name world (adt.EnumId id) = name_or_error (option_map (λ row. row.name) (slice_get world.enums id.0))

-- the name of a function, or of the struct or enum variant whose constructor is called as a function
abbrev pub callable_name : HirDatabase → CallableDefId → List ℕ
callable_name world (callable.FunctionId id) = name_or_error (option_map (λ row. row.name) (slice_get world.functions id.0))
callable_name world (callable.StructId id) = name_or_error (option_map (λ row. row.name) (slice_get world.structs id.0))
callable_name world (callable.EnumVariantId id) = name_or_error (option_map (λ row. row.name) (slice_get world.variants id.0))

-- the name of a constant or a static
abbrev pub general_const_name : HirDatabase → GeneralConstId → List ℕ
general_const_name world (general.ConstId id) = name_or_error (option_map (λ row. name_or_underscore row.name) (slice_get world.consts id.0))
general_const_name world (general.StaticId id) = name_or_error (option_map (λ row. row.name) (slice_get world.statics id.0))

-- the name of a trait
abbrev pub trait_name : HirDatabase → TraitId → List ℕ
trait_name world id = name_or_error (slice_get world.traits id.0)

-- the name of a type alias or an associated type
abbrev pub alias_name : HirDatabase → AliasId → List ℕ
alias_name world id = name_or_error (slice_get world.aliases id.0)

-- the name of a type parameter
abbrev pub type_param_name : HirDatabase → TypeParamId → List ℕ
type_param_name world id = name_or_error (slice_get world.type_params id.0)

-- the name of a const parameter
abbrev pub const_param_name : HirDatabase → ConstParamId → List ℕ
const_param_name world id = name_or_error (option_map (λ row. row.name) (slice_get world.const_params id.0))
