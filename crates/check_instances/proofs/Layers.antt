-- Types, generic arguments and constants at generic arguments, by their parts.
use Rattle.std.proofs.Common.{◌≡◌, ℕ, List, Some, None, map, ◌∙◌, ap, rules}
use Rattle.std.specs.Prelude.{slice_get}
use Rattle.std.specs.Option.{option_and_then, option_map}
use Rattle.types.specs.declared.ids.AdtId.{AdtId}
use Rattle.types.specs.declared.ids.AliasId.{AliasId}
use Rattle.types.specs.declared.ids.CallableDefId.{CallableDefId}
use Rattle.types.specs.declared.ids.InternedClosureId.{InternedClosureId}
use Rattle.types.specs.declared.scalars.FloatTy.{FloatTy}
use Rattle.types.specs.declared.scalars.IntTy.{IntTy}
use Rattle.types.specs.declared.scalars.Mutability.{Mutability}
use Rattle.types.specs.declared.scalars.UintTy.{UintTy}
use Rattle.types.specs.declared.ty.ComplexMemoryMap.{ComplexMemoryMap}
use Rattle.types.specs.declared.ty.Const.{Const}
use Rattle.types.specs.declared.ty.Const.TheFolds.{the_lemmas}
use Rattle.types.specs.declared.ty.Const.TheVariants as constant
use Rattle.types.specs.declared.ty.GenericArg.{GenericArg}
use Rattle.types.specs.declared.ty.GenericArg.TheVariants as arg
use Rattle.types.specs.declared.ty.GenericArgs.{GenericArgs}
use Rattle.types.specs.declared.ty.MemoryMap.{MemoryMap}
use Rattle.types.specs.declared.ty.MemoryMap.TheVariants as memory
use Rattle.types.specs.declared.ty.ParamConst.{ParamConst}
use Rattle.types.specs.declared.ty.ParamTy.{ParamTy}
use Rattle.types.specs.declared.ty.TraitRef.{TraitRef}
use Rattle.types.specs.declared.ty.Ty.{Ty}
use Rattle.types.specs.declared.ty.Ty.TheVariants as type
use Rattle.types.specs.declared.ty.UnevaluatedConst.{UnevaluatedConst}
use Rattle.types.specs.declared.ty.ValueConst.{ValueConst}
use Rattle.check_instances.specs.Instances.{Normals, all_there, arg_instance, args_instance, bound_instance, const_argument, const_instance, normal_type, ty_instance, type_argument, with_both}
use Rattle.check_instances.specs.Parts.{complex_instance, map_instance, unevaluated_instance, value_instance}

pub bool_is : (normals : Normals) (args : GenericArgs) → ty_instance normals args type.Bool ≡ Some type.Bool
unfolding ty_instance
bool_is normals args = search (the_lemmas, rules)

pub char_is : (normals : Normals) (args : GenericArgs) → ty_instance normals args type.Char ≡ Some type.Char
unfolding ty_instance
char_is normals args = search (the_lemmas, rules)

pub int_is : (normals : Normals) (args : GenericArgs) (kind : IntTy) → ty_instance normals args (type.Int kind) ≡ Some (type.Int kind)
unfolding ty_instance
int_is normals args kind = search (the_lemmas, rules)

pub uint_is : (normals : Normals) (args : GenericArgs) (kind : UintTy) → ty_instance normals args (type.Uint kind) ≡ Some (type.Uint kind)
unfolding ty_instance
uint_is normals args kind = search (the_lemmas, rules)

pub float_is : (normals : Normals) (args : GenericArgs) (kind : FloatTy) → ty_instance normals args (type.Float kind) ≡ Some (type.Float kind)
unfolding ty_instance
float_is normals args kind = search (the_lemmas, rules)

pub str_is : (normals : Normals) (args : GenericArgs) → ty_instance normals args type.Str ≡ Some type.Str
unfolding ty_instance
str_is normals args = search (the_lemmas, rules)

pub never_is : (normals : Normals) (args : GenericArgs) → ty_instance normals args type.Never ≡ Some type.Never
unfolding ty_instance
never_is normals args = search (the_lemmas, rules)

pub error_is : (normals : Normals) (args : GenericArgs) → ty_instance normals args type.Error ≡ Some type.Error
unfolding ty_instance
error_is normals args = search (the_lemmas, rules)

pub tuple_is : (normals : Normals) (args : GenericArgs) (fields : List Ty) → ty_instance normals args (type.Tuple fields) ≡ option_map type.Tuple (all_there (map (ty_instance normals args) fields))
unfolding ty_instance
tuple_is normals args fields = search (the_lemmas, rules)

pub array_is : (normals : Normals) (args : GenericArgs) (element : Ty) (len : Const) → ty_instance normals args (type.Array element len) ≡ with_both type.Array (ty_instance normals args element) (const_instance normals args len)
unfolding ty_instance const_instance
array_is normals args element len = search (the_lemmas, rules)

pub slice_is : (normals : Normals) (args : GenericArgs) (element : Ty) → ty_instance normals args (type.Slice element) ≡ option_map type.Slice (ty_instance normals args element)
unfolding ty_instance
slice_is normals args element = search (the_lemmas, rules)

pub ref_is : (normals : Normals) (args : GenericArgs) (to : Ty) (mutability : Mutability) → ty_instance normals args (type.Ref to mutability) ≡ option_map (λ ty. type.Ref ty mutability) (ty_instance normals args to)
unfolding ty_instance
ref_is normals args to mutability = search (the_lemmas, rules)

pub raw_ptr_is : (normals : Normals) (args : GenericArgs) (to : Ty) (mutability : Mutability) → ty_instance normals args (type.RawPtr to mutability) ≡ option_map (λ ty. type.RawPtr ty mutability) (ty_instance normals args to)
unfolding ty_instance
raw_ptr_is normals args to mutability = search (the_lemmas, rules)

pub adt_is : (normals : Normals) (args : GenericArgs) (id : AdtId) (own : GenericArgs) → ty_instance normals args (type.Adt id own) ≡ option_map (type.Adt id) (args_instance normals args own)
unfolding ty_instance args_instance
adt_is normals args id own = search (the_lemmas, rules)

pub fn_def_is : (normals : Normals) (args : GenericArgs) (id : CallableDefId) (own : GenericArgs) → ty_instance normals args (type.FnDef id own) ≡ option_map (type.FnDef id) (args_instance normals args own)
unfolding ty_instance args_instance
fn_def_is normals args id own = search (the_lemmas, rules)

pub fn_ptr_is : (normals : Normals) (args : GenericArgs) (params : List Ty) (ret : Ty) → ty_instance normals args (type.FnPtr params ret) ≡ with_both type.FnPtr (all_there (map (ty_instance normals args) params)) (ty_instance normals args ret)
unfolding ty_instance
fn_ptr_is normals args params ret = search (the_lemmas, rules)

pub closure_is : (normals : Normals) (args : GenericArgs) (id : InternedClosureId) (own : GenericArgs) → ty_instance normals args (type.Closure id own) ≡ option_map (type.Closure id) (args_instance normals args own)
unfolding ty_instance args_instance
closure_is normals args id own = search (the_lemmas, rules)

pub dynamic_is : (normals : Normals) (args : GenericArgs) (bounds : List TraitRef) → ty_instance normals args (type.Dynamic bounds) ≡ option_map type.Dynamic (all_there (map (bound_instance normals args) bounds))
unfolding ty_instance bound_instance
dynamic_is normals args bounds = search (the_lemmas, rules)

pub alias_is : (normals : Normals) (args : GenericArgs) (id : AliasId) (own : GenericArgs) → ty_instance normals args (type.Alias id own) ≡ option_and_then (normal_type normals id) (args_instance normals args own)
unfolding ty_instance args_instance
alias_is normals args id own = search (the_lemmas, rules)

pub param_is : (normals : Normals) (args : GenericArgs) (param : ParamTy) → ty_instance normals args (type.Param param) ≡ type_argument (slice_get args.0 param.index)
unfolding ty_instance
param_is normals args param = search (the_lemmas, rules)

pub type_arg_is : (normals : Normals) (args : GenericArgs) (ty : Ty) → arg_instance normals args (arg.Ty ty) ≡ option_map arg.Ty (ty_instance normals args ty)
unfolding arg_instance ty_instance
type_arg_is normals args ty = search (the_lemmas, rules)

pub const_arg_is : (normals : Normals) (args : GenericArgs) (konst : Const) → arg_instance normals args (arg.Konst konst) ≡ option_map arg.Konst (const_instance normals args konst)
unfolding arg_instance const_instance
const_arg_is normals args konst = search (the_lemmas, rules)

pub args_are : (normals : Normals) (args own : GenericArgs) → args_instance normals args own ≡ option_map (λ (list : List GenericArg). record { 0 = list }) (all_there (map (arg_instance normals args) own.0))
unfolding args_instance arg_instance
args_are normals args own = search (the_lemmas, rules)

-- where an argument is missing, so are the arguments
pub args_missing : (normals : Normals) (args own : GenericArgs) → all_there (map (arg_instance normals args) own.0) ≡ None → args_instance normals args own ≡ None
args_missing normals args own missing = args_are normals args own ∙ ap (option_map (λ (list : List GenericArg). record { 0 = list })) missing

pub args_there : (normals : Normals) (args own : GenericArgs) (made : List GenericArg) → all_there (map (arg_instance normals args) own.0) ≡ Some made → args_instance normals args own ≡ Some (record { 0 = made })
args_there normals args own made there = args_are normals args own ∙ ap (option_map (λ (list : List GenericArg). record { 0 = list })) there

pub bound_is : (normals : Normals) (args : GenericArgs) (bound : TraitRef) → bound_instance normals args bound ≡ option_map (λ (own : GenericArgs). record { def = bound.def; args = own }) (args_instance normals args bound.args)
unfolding bound_instance args_instance
bound_is normals args bound = search (the_lemmas, rules)

pub value_const_is : (normals : Normals) (args : GenericArgs) (value : ValueConst) → const_instance normals args (constant.Value value) ≡ option_map constant.Value (value_instance normals args value)
unfolding const_instance value_instance
value_const_is normals args value = search (the_lemmas, rules)

pub const_param_is : (normals : Normals) (args : GenericArgs) (param : ParamConst) → const_instance normals args (constant.Param param) ≡ const_argument (slice_get args.0 param.index)
unfolding const_instance
const_param_is normals args param = search (the_lemmas, rules)

pub unevaluated_const_is : (normals : Normals) (args : GenericArgs) (named : UnevaluatedConst) → const_instance normals args (constant.Unevaluated named) ≡ option_map constant.Unevaluated (unevaluated_instance normals args named)
unfolding const_instance unevaluated_instance
unevaluated_const_is normals args named = search (the_lemmas, rules)

pub error_const_is : (normals : Normals) (args : GenericArgs) → const_instance normals args constant.Error ≡ Some constant.Error
unfolding const_instance
error_const_is normals args = search (the_lemmas, rules)

pub unevaluated_is : (normals : Normals) (args : GenericArgs) (named : UnevaluatedConst) → unevaluated_instance normals args named ≡ option_map (λ (own : GenericArgs). record { def = named.def; args = own }) (args_instance normals args named.args)
unfolding unevaluated_instance args_instance
unevaluated_is normals args named = search (the_lemmas, rules)

pub value_is : (normals : Normals) (args : GenericArgs) (value : ValueConst) → value_instance normals args value ≡ with_both (λ (ty : Ty) (behind : MemoryMap). record { ty = ty; memory = value.memory; memory_map = behind }) (ty_instance normals args value.ty) (map_instance normals args value.memory_map)
unfolding value_instance ty_instance map_instance
value_is normals args value = search (the_lemmas, rules)

pub empty_map_is : (normals : Normals) (args : GenericArgs) → map_instance normals args memory.Empty ≡ Some memory.Empty
unfolding map_instance
empty_map_is normals args = search (the_lemmas, rules)

pub complex_map_is : (normals : Normals) (args : GenericArgs) (complex : ComplexMemoryMap) → map_instance normals args (memory.Complex complex) ≡ option_map memory.Complex (complex_instance normals args complex)
unfolding map_instance complex_instance
complex_map_is normals args complex = search (the_lemmas, rules)

pub complex_is : (normals : Normals) (args : GenericArgs) (complex : ComplexMemoryMap) → complex_instance normals args complex ≡ option_map (λ (tables : List Ty). record { memory = complex.memory; vtable = tables }) (all_there (map (ty_instance normals args) complex.vtable))
unfolding complex_instance ty_instance
complex_is normals args complex = search (the_lemmas, rules)

pub ruleset type_layers = (tuple_is, slice_is, ref_is, raw_ptr_is, adt_is, fn_def_is, closure_is, dynamic_is, array_is, fn_ptr_is, alias_is, param_is, bool_is, char_is, int_is, uint_is, float_is, str_is, never_is, error_is)

pub simple_map_is : (normals : Normals) (args : GenericArgs) (bytes : List ℕ) → map_instance normals args (memory.Simple bytes) ≡ Some (memory.Simple bytes)
unfolding map_instance
simple_map_is normals args bytes = search (the_lemmas, rules)

pub ruleset arg_layers = (type_arg_is, const_arg_is)

pub ruleset const_layers = (value_const_is, const_param_is, unevaluated_const_is, error_const_is)

pub ruleset map_layers = (empty_map_is, simple_map_is, complex_map_is)
