-- How values that may be missing compare with others, and the orders of types and constants.
use Rattle.std.specs.Prelude.{◌≡◌, [], ◌++◌, Option, Some, map}
use Rattle.std.specs.declared.cmp.Ordering.{Ordering}
use Rattle.types.specs.contracts.ty.ComplexMemoryMapOrd.TheImpl as ComplexMemoryMapOrd
use Rattle.types.specs.contracts.ty.ConstOrd.TheImpl as ConstOrd
use Rattle.types.specs.contracts.ty.GenericArgOrd.TheImpl as GenericArgOrd
use Rattle.types.specs.contracts.ty.MemoryMapOrd.TheImpl as MemoryMapOrd
use Rattle.types.specs.contracts.ty.TraitRefOrd.TheImpl as TraitRefOrd
use Rattle.types.specs.contracts.ty.UnevaluatedConstOrd.TheImpl as UnevaluatedConstOrd
use Rattle.types.specs.contracts.ty.ValueConstOrd.TheImpl as ValueConstOrd
use Rattle.types.specs.declared.ids.AliasId.{AliasId}
use Rattle.types.specs.declared.ty.ComplexMemoryMap.{ComplexMemoryMap}
use Rattle.types.specs.declared.ty.Const.{Const}
use Rattle.types.specs.declared.ty.GenericArg.{GenericArg}
use Rattle.types.specs.declared.ty.GenericArg.TheVariants as arg
use Rattle.types.specs.declared.ty.GenericArgs.{GenericArgs}
use Rattle.types.specs.declared.ty.MemoryMap.{MemoryMap}
use Rattle.types.specs.declared.ty.TraitRef.{TraitRef}
use Rattle.types.specs.declared.ty.Ty.{Ty}
use Rattle.types.specs.declared.ty.UnevaluatedConst.{UnevaluatedConst}
use Rattle.types.specs.declared.ty.ValueConst.{ValueConst}
use Rattle.check_instances.specs.Instances.{Normals, arg_instance, args_instance, bound_instance, const_instance, ty_instance}
use Rattle.check_instances.specs.Parts.{complex_instance, map_instance, unevaluated_instance, value_instance}

-- a value, where it is there, compares so
abbrev pub Compares : {A : Type 0} → Option A → (A → Ordering) → Ordering → Type 0
Compares {A} found compare result = (x : A) → found ≡ Some x → result ≡ compare x

-- the arguments, and behind them all normalized types in their order: so a parameter can name a normalized type
abbrev pub with_normals : Normals → GenericArgs → GenericArgs
with_normals normals args = record { 0 = args.0 ++ map (λ (row : AliasId × GenericArgs × Ty). arg.Ty row.2) normals }

-- the orders of the other types that are made of types
abbrev pub const_cmp : Const → Const → Ordering
const_cmp = ConstOrd.ghosts.cmp

abbrev pub arg_cmp : GenericArg → GenericArg → Ordering
arg_cmp = GenericArgOrd.ghosts.cmp

abbrev pub bound_cmp : TraitRef → TraitRef → Ordering
bound_cmp = TraitRefOrd.ghosts.cmp

abbrev pub value_cmp : ValueConst → ValueConst → Ordering
value_cmp = ValueConstOrd.ghosts.cmp

abbrev pub unevaluated_cmp : UnevaluatedConst → UnevaluatedConst → Ordering
unevaluated_cmp = UnevaluatedConstOrd.ghosts.cmp

abbrev pub map_cmp : MemoryMap → MemoryMap → Ordering
map_cmp = MemoryMapOrd.ghosts.cmp

abbrev pub complex_cmp : ComplexMemoryMap → ComplexMemoryMap → Ordering
complex_cmp = ComplexMemoryMapOrd.ghosts.cmp

-- Types and constants without aliases, at generic arguments with the normalized types behind them.
abbrev pub ty_at : Normals → GenericArgs → Ty → Option Ty
ty_at normals args = ty_instance [] (with_normals normals args)

abbrev pub const_at : Normals → GenericArgs → Const → Option Const
const_at normals args = const_instance [] (with_normals normals args)

abbrev pub arg_at : Normals → GenericArgs → GenericArg → Option GenericArg
arg_at normals args = arg_instance [] (with_normals normals args)

abbrev pub args_at : Normals → GenericArgs → GenericArgs → Option GenericArgs
args_at normals args = args_instance [] (with_normals normals args)

abbrev pub bound_at : Normals → GenericArgs → TraitRef → Option TraitRef
bound_at normals args = bound_instance [] (with_normals normals args)

abbrev pub value_at : Normals → GenericArgs → ValueConst → Option ValueConst
value_at normals args = value_instance [] (with_normals normals args)

abbrev pub unevaluated_at : Normals → GenericArgs → UnevaluatedConst → Option UnevaluatedConst
unevaluated_at normals args = unevaluated_instance [] (with_normals normals args)

abbrev pub map_at : Normals → GenericArgs → MemoryMap → Option MemoryMap
map_at normals args = map_instance [] (with_normals normals args)

abbrev pub complex_at : Normals → GenericArgs → ComplexMemoryMap → Option ComplexMemoryMap
complex_at normals args = complex_instance [] (with_normals normals args)
