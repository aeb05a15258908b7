-- Types at generic arguments that needn't be made.
use Rattle.std.specs.Prelude.{if◌then◌else◌, Bool, true, false, Option, Some, None, slice_get}
use Rattle.std.specs.List.{list_all}
use Rattle.types.specs.declared.ty.ComplexMemoryMap.{ComplexMemoryMap}
use Rattle.types.specs.declared.ty.Const.{Const}
use Rattle.types.specs.declared.ty.Const.TheOpen as layer
use Rattle.types.specs.declared.ty.GenericArg.{GenericArg}
use Rattle.types.specs.declared.ty.GenericArgs.{GenericArgs}
use Rattle.types.specs.declared.ty.MemoryMap.{MemoryMap}
use Rattle.types.specs.declared.ty.TraitRef.{TraitRef}
use Rattle.types.specs.declared.ty.Ty.{Ty, Ty-F, out-Ty}
use Rattle.types.specs.declared.ty.UnevaluatedConst.{UnevaluatedConst}
use Rattle.types.specs.declared.ty.ValueConst.{ValueConst}
use Rattle.mentions.specs.Mentions.{ty_mentions}
use Rattle.mentions.specs.declared.mention.Mention.{Mention}
use Rattle.mentions.specs.declared.mention.Mention.TheVariants as mention
use Rattle.check_instances.specs.Instances.{type_argument}

-- a type's variant
abbrev TyLayer : Type 0
TyLayer = Ty-F Const GenericArg MemoryMap Ty ComplexMemoryMap GenericArgs TraitRef UnevaluatedConst ValueConst

-- the argument of a parameter
abbrev argument_of : GenericArgs → TyLayer → Option Ty
argument_of args (layer.Ty::Param param) = type_argument (slice_get args.0 param.index)
argument_of args _ = None

-- the mention is no alias and no generic parameter
abbrev pub is_fixed : Mention → Bool
is_fixed (mention.Alias id) = false
is_fixed (mention.TypeParam id) = false
is_fixed (mention.ConstParam id) = false
is_fixed _ = true

-- a type holds no alias and no generic parameter, at any depth, and so is the same at all generic arguments
unfoldable pub is_concrete : Ty → Bool
is_concrete ty = list_all is_fixed (ty_mentions ty)

-- A type at generic arguments, where it needn't be made: one that holds no alias and no parameter is itself, and a parameter is its argument.
abbrev pub ready_instance : GenericArgs → Ty → Option Ty
ready_instance args ty = if is_concrete ty then Some ty else argument_of args (out-Ty ty)
