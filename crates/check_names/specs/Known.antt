-- Which ids are in range of the tables of a world, and which mentions pass the tests of the check. A mention is an id, an error or the length of a list in a type.
use Rattle.std.specs.Prelude.{ℕ, ◌^◌, nat_lt, Bool, true, false, List, length, Option, Some, None}
use Rattle.std.specs.List.{list_all}
use Rattle.types.specs.declared.ids.DefWithBodyId.{DefWithBodyId}
use Rattle.types.specs.declared.ids.DefWithBodyId.TheVariants as def
use Rattle.types.specs.declared.ids.FieldId.{FieldId}
use Rattle.types.specs.declared.ids.GenericParamId.{GenericParamId}
use Rattle.types.specs.declared.ids.GenericParamId.TheVariants as param
use Rattle.types.specs.declared.ids.VariantId.{VariantId}
use Rattle.types.specs.declared.ids.VariantId.TheVariants as variant
use Rattle.types.specs.declared.ty.GenericArgs.{GenericArgs}
use Rattle.types.specs.declared.ty.Ty.{Ty}
use Rattle.world.specs.declared.database.HirDatabase.{HirDatabase}
use Rattle.world.specs.declared.items.FieldRow.{FieldRow}
use Rattle.world.specs.Lookups.{fields_of}
use Rattle.mentions.specs.Mentions.{ty_mentions, args_mentions}
use Rattle.mentions.specs.declared.mention.Mention.{Mention}
use Rattle.mentions.specs.declared.mention.Mention.TheVariants as mention

-- an index is in range for a list
abbrev pub is_in_range : {X : Type 0} → List X → ℕ → Bool
is_in_range xs i = nat_lt i (length xs)

-- fewer than 2^32 entries
abbrev pub is_nameable : ℕ → Bool
is_nameable entries = nat_lt entries (2 ^ 32)

-- the mentioned id is in range; an error and a list pass
abbrev pub is_known : HirDatabase → Mention → Bool
is_known world (mention.Function id) = is_in_range world.functions id.0
is_known world (mention.Const id) = is_in_range world.consts id.0
is_known world (mention.Static id) = is_in_range world.statics id.0
is_known world (mention.Struct id) = is_in_range world.structs id.0
is_known world (mention.Union id) = is_in_range world.unions id.0
is_known world (mention.Enum id) = is_in_range world.enums id.0
is_known world (mention.Variant id) = is_in_range world.variants id.0
is_known world (mention.Trait id) = is_in_range world.traits id.0
is_known world (mention.Alias id) = is_in_range world.aliases id.0
is_known world (mention.TypeParam id) = is_in_range world.type_params id.0
is_known world (mention.ConstParam id) = is_in_range world.const_params id.0
is_known world (mention.Closure id) = is_in_range world.closures id.0
is_known world mention.Error = true
is_known world (mention.Entries entries) = true

-- the mentioned id is in range, and a mentioned list is short enough for indices of 32 bits
abbrev pub is_named : HirDatabase → Mention → Bool
is_named world (mention.Entries entries) = is_nameable entries
is_named world other = is_known world other

-- the mention is no alias and no generic parameter
abbrev pub is_closed : Mention → Bool
is_closed (mention.Alias id) = false
is_closed (mention.TypeParam id) = false
is_closed (mention.ConstParam id) = false
is_closed _ = true

-- the mention is no generic parameter and no error
abbrev pub is_settled : Mention → Bool
is_settled (mention.TypeParam id) = false
is_settled (mention.ConstParam id) = false
is_settled mention.Error = false
is_settled _ = true

-- all ids in generic arguments are in range
abbrev pub are_args_known : HirDatabase → GenericArgs → Bool
are_args_known world args = list_all (is_known world) (args_mentions args)

abbrev pub is_ty_named : HirDatabase → Ty → Bool
is_ty_named world ty = list_all (is_named world) (ty_mentions ty)

abbrev pub are_args_named : HirDatabase → GenericArgs → Bool
are_args_named world args = list_all (is_named world) (args_mentions args)

-- a type has no alias and no generic parameter in it
abbrev pub is_ty_closed : Ty → Bool
is_ty_closed ty = list_all is_closed (ty_mentions ty)

abbrev pub are_args_closed : GenericArgs → Bool
are_args_closed args = list_all is_closed (args_mentions args)

-- generic arguments have no generic parameter and no error in them
abbrev pub are_args_settled : GenericArgs → Bool
are_args_settled args = list_all is_settled (args_mentions args)

-- the id of a function, a static, a constant or a variant is in range
abbrev pub is_def_known : HirDatabase → DefWithBodyId → Bool
is_def_known world (def.FunctionId id) = is_in_range world.functions id.0
is_def_known world (def.StaticId id) = is_in_range world.statics id.0
is_def_known world (def.ConstId id) = is_in_range world.consts id.0
is_def_known world (def.VariantId id) = is_in_range world.variants id.0

-- the id of a struct, a union or a variant is in range
abbrev pub is_variant_known : HirDatabase → VariantId → Bool
is_variant_known world (variant.EnumVariantId id) = is_in_range world.variants id.0
is_variant_known world (variant.StructId id) = is_in_range world.structs id.0
is_variant_known world (variant.UnionId id) = is_in_range world.unions id.0

-- there is a list of fields, and it has the index
abbrev pub has_place : Option (List FieldRow) → ℕ → Bool
has_place None i = false
has_place (Some fields) i = is_in_range fields i

-- a field's struct, union or variant is in range, and has a field at its index
abbrev pub is_field_known : HirDatabase → FieldId → Bool
is_field_known world field = has_place (fields_of world field.parent) field.local_id

-- the id of a generic parameter is in range
abbrev pub is_param_known : HirDatabase → GenericParamId → Bool
is_param_known world (param.TypeParamId id) = is_in_range world.type_params id.0
is_param_known world (param.ConstParamId id) = is_in_range world.const_params id.0
