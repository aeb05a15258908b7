-- What types, generic arguments and constants mention: items, parameters, errors, and lists whose places are named.
use Rattle.std.specs.Prelude.{Bool, true, false, List, [], ◌∷◌, ◌++◌, length, flat_map}
use Rattle.std.specs.List.{list_any}
use Rattle.types.specs.declared.ids.AdtId.{AdtId}
use Rattle.types.specs.declared.ids.AdtId.TheVariants as adt
use Rattle.types.specs.declared.ids.CallableDefId.{CallableDefId}
use Rattle.types.specs.declared.ids.CallableDefId.TheVariants as callable
use Rattle.types.specs.declared.ids.GeneralConstId.{GeneralConstId}
use Rattle.types.specs.declared.ids.GeneralConstId.TheVariants as general
use Rattle.types.specs.declared.ty.Const.{Const}
use Rattle.types.specs.declared.ty.Const.TheFolds.{fold-Const, fold-GenericArg, fold-GenericArgs, fold-MemoryMap, fold-TraitRef, fold-Ty}
use Rattle.types.specs.declared.ty.Const.TheOpen as one
use Rattle.types.specs.declared.ty.Const.TheOpen.{Const-F, GenericArg-F, MemoryMap-F, Ty-F, ComplexMemoryMap-F, GenericArgs-F, TraitRef-F, UnevaluatedConst-F, ValueConst-F}
use Rattle.types.specs.declared.ty.GenericArg.{GenericArg}
use Rattle.types.specs.declared.ty.GenericArgs.{GenericArgs}
use Rattle.types.specs.declared.ty.MemoryMap.{MemoryMap}
use Rattle.types.specs.declared.ty.TraitRef.{TraitRef}
use Rattle.types.specs.declared.ty.Ty.{Ty}
use Rattle.mentions.specs.declared.mention.Mention.{Mention}
use Rattle.mentions.specs.declared.mention.Mention.TheVariants as mention

-- what mentions of several parts come to
abbrev pub all_of : List (List Mention) → List Mention
all_of parts = flat_map (λ part. part) parts

-- a list of a given length, whose indices are named, with what the parts mention
abbrev pub listed : List (List Mention) → List Mention
listed parts = mention.Entries (length parts) ∷ all_of parts

abbrev pub adt_mention : AdtId → Mention
adt_mention (adt.StructId id) = mention.Struct id
adt_mention (adt.UnionId id) = mention.Union id
adt_mention (adt.EnumId id) = mention.Enum id

abbrev pub callable_mention : CallableDefId → Mention
callable_mention (callable.FunctionId id) = mention.Function id
callable_mention (callable.StructId id) = mention.Struct id
callable_mention (callable.EnumVariantId id) = mention.Variant id

abbrev pub general_mention : GeneralConstId → Mention
general_mention (general.ConstId id) = mention.Const id
general_mention (general.StaticId id) = mention.Static id

-- One layer of a type or of what stands in it, whose parts' mentions are known.
abbrev Over : (Type 0 → Type 0 → Type 0 → Type 0 → Type 0 → Type 0 → Type 0 → Type 0 → Type 0 → Type 0) → Type 0
Over Layer = Layer (List Mention) (List Mention) (List Mention) (List Mention) (List Mention) (List Mention) (List Mention) (List Mention) (List Mention)

-- the places of a tuple's fields are named; those of a function's parameters and of a trait object's bounds are not
abbrev pub ty_layer : Over Ty-F → List Mention
ty_layer (one.Tuple fields) = listed fields
ty_layer (one.Array element len) = element ++ len
ty_layer (one.Slice element) = element
ty_layer (one.Ref to mutability) = to
ty_layer (one.RawPtr to mutability) = to
ty_layer (one.Adt id args) = adt_mention id ∷ args
ty_layer (one.FnDef id args) = callable_mention id ∷ args
ty_layer (one.FnPtr params ret) = all_of params ++ ret
ty_layer (one.Closure id args) = mention.Closure id ∷ args
ty_layer (one.Dynamic bounds) = all_of bounds
ty_layer (one.Alias id args) = mention.Alias id ∷ args
ty_layer (one.Ty::Param param) = mention.TypeParam param.id ∷ []
ty_layer one.Ty::Error = mention.Error ∷ []
ty_layer _ = []

abbrev pub arg_layer : Over GenericArg-F → List Mention
arg_layer (one.Ty ty) = ty
arg_layer (one.Konst konst) = konst

-- the places of generic arguments are named
abbrev pub args_layer : Over GenericArgs-F → List Mention
args_layer args = listed args.0

abbrev pub bound_layer : Over TraitRef-F → List Mention
bound_layer bound = mention.Trait bound.def ∷ bound.args

abbrev pub const_layer : Over Const-F → List Mention
const_layer (one.Value value) = value
const_layer (one.Const::Param param) = mention.ConstParam param.id ∷ []
const_layer (one.Unevaluated named) = named
const_layer one.Const::Error = mention.Error ∷ []

abbrev pub value_layer : Over ValueConst-F → List Mention
value_layer value = value.ty ++ value.memory_map

abbrev pub unevaluated_layer : Over UnevaluatedConst-F → List Mention
unevaluated_layer named = general_mention named.def ∷ named.args

abbrev pub map_layer : Over MemoryMap-F → List Mention
map_layer (one.Complex complex) = complex
map_layer _ = []

abbrev pub complex_layer : Over ComplexMemoryMap-F → List Mention
complex_layer complex = all_of complex.vtable

-- what a type mentions
unfoldable pub ty_mentions : Ty → List Mention
ty_mentions = fold-Ty _ _ _ _ _ _ _ _ _ const_layer arg_layer map_layer ty_layer complex_layer args_layer bound_layer unevaluated_layer value_layer

unfoldable pub const_mentions : Const → List Mention
const_mentions = fold-Const _ _ _ _ _ _ _ _ _ const_layer arg_layer map_layer ty_layer complex_layer args_layer bound_layer unevaluated_layer value_layer

unfoldable pub arg_mentions : GenericArg → List Mention
arg_mentions = fold-GenericArg _ _ _ _ _ _ _ _ _ const_layer arg_layer map_layer ty_layer complex_layer args_layer bound_layer unevaluated_layer value_layer

unfoldable pub args_mentions : GenericArgs → List Mention
args_mentions = fold-GenericArgs _ _ _ _ _ _ _ _ _ const_layer arg_layer map_layer ty_layer complex_layer args_layer bound_layer unevaluated_layer value_layer

unfoldable pub bound_mentions : TraitRef → List Mention
bound_mentions = fold-TraitRef _ _ _ _ _ _ _ _ _ const_layer arg_layer map_layer ty_layer complex_layer args_layer bound_layer unevaluated_layer value_layer

-- what the memory of a constant mentions
unfoldable pub memory_mentions : MemoryMap → List Mention
memory_mentions = fold-MemoryMap _ _ _ _ _ _ _ _ _ const_layer arg_layer map_layer ty_layer complex_layer args_layer bound_layer unevaluated_layer value_layer

-- a generic parameter, of a type or of a constant
abbrev pub is_param : Mention → Bool
is_param (mention.TypeParam id) = true
is_param (mention.ConstParam id) = true
is_param _ = false

-- a type that holds a generic parameter, at any depth
unfoldable pub holds_param : Ty → Bool
holds_param ty = list_any is_param (ty_mentions ty)
