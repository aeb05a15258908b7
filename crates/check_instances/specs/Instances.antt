-- Types, generic arguments and constants at generic arguments: each parameter is replaced by its argument, and each alias,
-- after its own arguments, by its normalized type. There is no instance where an argument or a normalized type is missing.
use Rattle.std.specs.Prelude.{List, [], ◌∷◌, Option, Some, None, slice_get}
use Rattle.std.specs.Option.{option_and_then, option_map}
use Rattle.std.specs.Ordering.{ordering_then}
use Rattle.types.specs.Orders.{args_cmp}
use Rattle.types.specs.Places.{row_at}
use Rattle.types.specs.contracts.ids.AliasIdOrd.TheImpl as AliasIdOrd
use Rattle.types.specs.declared.ids.AliasId.{AliasId}
use Rattle.types.specs.declared.ty.ComplexMemoryMap.{ComplexMemoryMap}
use Rattle.types.specs.declared.ty.Const.{Const}
use Rattle.types.specs.declared.ty.Const.TheVariants as constant
use Rattle.types.specs.declared.ty.Const.TheFolds.{fold-Const, fold-GenericArg, fold-GenericArgs, fold-TraitRef, fold-Ty}
use Rattle.types.specs.declared.ty.Const.TheOpen as one
use Rattle.types.specs.declared.ty.Const.TheOpen.{Const-F, GenericArg-F, MemoryMap-F, Ty-F, ComplexMemoryMap-F, GenericArgs-F, TraitRef-F, UnevaluatedConst-F, ValueConst-F}
use Rattle.types.specs.declared.ty.GenericArg.{GenericArg}
use Rattle.types.specs.declared.ty.GenericArg.TheVariants as arg
use Rattle.types.specs.declared.ty.GenericArgs.{GenericArgs}
use Rattle.types.specs.declared.ty.MemoryMap.{MemoryMap}
use Rattle.types.specs.declared.ty.MemoryMap.TheVariants as map
use Rattle.types.specs.declared.ty.TraitRef.{TraitRef}
use Rattle.types.specs.declared.ty.Ty.{Ty}
use Rattle.types.specs.declared.ty.Ty.TheVariants as type
use Rattle.types.specs.declared.ty.UnevaluatedConst.{UnevaluatedConst}
use Rattle.types.specs.declared.ty.ValueConst.{ValueConst}

-- the rows of normalized types
abbrev pub Normals : Type 0
Normals = List (AliasId × GenericArgs × Ty)

-- a function of two values, where both are there
abbrev pub with_both : {A B C : Type 0} → (A → B → C) → Option A → Option B → Option C
with_both f None second = None
with_both f (Some first) second = option_map (f first) second

-- the values, where all are there
abbrev pub all_there : {A : Type 0} → List (Option A) → Option (List A)
all_there [] = Some []
all_there (first ∷ rest) = with_both (λ x xs. x ∷ xs) first (all_there rest)

-- an argument that is a type, and one that is a constant
abbrev pub type_argument : Option GenericArg → Option Ty
type_argument (Some (arg.Ty ty)) = Some ty
type_argument _ = None

abbrev pub const_argument : Option GenericArg → Option Const
const_argument (Some (arg.Konst konst)) = Some konst
const_argument _ = None

-- the normalized type of an alias
abbrev pub normal_type : Normals → AliasId → GenericArgs → Option Ty
normal_type normals id args = option_map (λ row. row.2) (row_at {K = AliasId × GenericArgs} (λ row. (row.0, row.1)) (λ key. ordering_then (AliasIdOrd.ghosts.cmp id key.0) (args_cmp args key.1)) normals)

-- One layer of a type or a constant, with the instances of its parts where they exist.
abbrev Over : (Type 0 → Type 0 → Type 0 → Type 0 → Type 0 → Type 0 → Type 0 → Type 0 → Type 0 → Type 0) → Type 0
Over Layer = Layer (Option Const) (Option GenericArg) (Option MemoryMap) (Option Ty) (Option ComplexMemoryMap) (Option GenericArgs) (Option TraitRef) (Option UnevaluatedConst) (Option ValueConst)

abbrev pub ty_layer : Normals → GenericArgs → Over Ty-F → Option Ty
ty_layer normals args one.Bool = Some type.Bool
ty_layer normals args one.Char = Some type.Char
ty_layer normals args (one.Int int) = Some (type.Int int)
ty_layer normals args (one.Uint uint) = Some (type.Uint uint)
ty_layer normals args (one.Float float) = Some (type.Float float)
ty_layer normals args one.Str = Some type.Str
ty_layer normals args one.Never = Some type.Never
ty_layer normals args (one.Tuple fields) = option_map type.Tuple (all_there fields)
ty_layer normals args (one.Array element len) = with_both type.Array element len
ty_layer normals args (one.Slice element) = option_map type.Slice element
ty_layer normals args (one.Ref to mutability) = option_map (λ ty. type.Ref ty mutability) to
ty_layer normals args (one.RawPtr to mutability) = option_map (λ ty. type.RawPtr ty mutability) to
ty_layer normals args (one.Adt id own) = option_map (type.Adt id) own
ty_layer normals args (one.FnDef id own) = option_map (type.FnDef id) own
ty_layer normals args (one.FnPtr params ret) = with_both type.FnPtr (all_there params) ret
ty_layer normals args (one.Closure id own) = option_map (type.Closure id) own
ty_layer normals args (one.Dynamic bounds) = option_map type.Dynamic (all_there bounds)
ty_layer normals args (one.Alias id own) = option_and_then (normal_type normals id) own
ty_layer normals args (one.Ty::Param param) = type_argument (slice_get args.0 param.index)
ty_layer normals args one.Ty::Error = Some type.Error

abbrev pub arg_layer : Over GenericArg-F → Option GenericArg
arg_layer (one.Ty ty) = option_map arg.Ty ty
arg_layer (one.Konst konst) = option_map arg.Konst konst

abbrev pub args_layer : Over GenericArgs-F → Option GenericArgs
args_layer own = option_map (λ (list : List GenericArg). record { 0 = list }) (all_there own.0)

abbrev pub bound_layer : Over TraitRef-F → Option TraitRef
bound_layer bound = option_map (λ (own : GenericArgs). record { def = bound.def; args = own }) bound.args

abbrev pub const_layer : GenericArgs → Over Const-F → Option Const
const_layer args (one.Value value) = option_map constant.Value value
const_layer args (one.Const::Param param) = const_argument (slice_get args.0 param.index)
const_layer args (one.Unevaluated named) = option_map constant.Unevaluated named
const_layer args one.Const::Error = Some constant.Error

abbrev pub value_layer : Over ValueConst-F → Option ValueConst
value_layer value = with_both (λ (ty : Ty) (behind : MemoryMap). record { ty = ty; memory = value.memory; memory_map = behind }) value.ty value.memory_map

abbrev pub unevaluated_layer : Over UnevaluatedConst-F → Option UnevaluatedConst
unevaluated_layer named = option_map (λ (own : GenericArgs). record { def = named.def; args = own }) named.args

abbrev pub map_layer : Over MemoryMap-F → Option MemoryMap
map_layer one.Empty = Some map.Empty
map_layer (one.Simple bytes) = Some (map.Simple bytes)
map_layer (one.Complex complex) = option_map map.Complex complex

abbrev pub complex_layer : Over ComplexMemoryMap-F → Option ComplexMemoryMap
complex_layer complex = option_map (λ (tables : List Ty). record { memory = complex.memory; vtable = tables }) (all_there complex.vtable)

-- a type at generic arguments
unfoldable pub ty_instance : Normals → GenericArgs → Ty → Option Ty
ty_instance normals args = fold-Ty _ _ _ _ _ _ _ _ _ (const_layer args) arg_layer map_layer (ty_layer normals args) complex_layer args_layer bound_layer unevaluated_layer value_layer

unfoldable pub const_instance : Normals → GenericArgs → Const → Option Const
const_instance normals args = fold-Const _ _ _ _ _ _ _ _ _ (const_layer args) arg_layer map_layer (ty_layer normals args) complex_layer args_layer bound_layer unevaluated_layer value_layer

unfoldable pub arg_instance : Normals → GenericArgs → GenericArg → Option GenericArg
arg_instance normals args = fold-GenericArg _ _ _ _ _ _ _ _ _ (const_layer args) arg_layer map_layer (ty_layer normals args) complex_layer args_layer bound_layer unevaluated_layer value_layer

unfoldable pub args_instance : Normals → GenericArgs → GenericArgs → Option GenericArgs
args_instance normals args = fold-GenericArgs _ _ _ _ _ _ _ _ _ (const_layer args) arg_layer map_layer (ty_layer normals args) complex_layer args_layer bound_layer unevaluated_layer value_layer

unfoldable pub bound_instance : Normals → GenericArgs → TraitRef → Option TraitRef
bound_instance normals args = fold-TraitRef _ _ _ _ _ _ _ _ _ (const_layer args) arg_layer map_layer (ty_layer normals args) complex_layer args_layer bound_layer unevaluated_layer value_layer
