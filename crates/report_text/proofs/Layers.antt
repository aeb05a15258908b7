-- The texts of types, generic arguments and constants, from the texts of their parts.
use Rattle.std.proofs.Common.{◌≡◌, ◌∙◌, List, map, ap, rules}
use Rattle.std.specs.Prelude.{codes}
use Rattle.std.proofs.lemmas.Simd.{map-map}
use Rattle.numbers.specs.Operators.{kind_of}
use Rattle.types.specs.declared.ids.AdtId.{AdtId}
use Rattle.types.specs.declared.ids.AliasId.{AliasId}
use Rattle.types.specs.declared.ids.CallableDefId.{CallableDefId}
use Rattle.types.specs.declared.ty.Const.{Const}
use Rattle.types.specs.declared.ty.Const.TheFolds.{the_lemmas}
use Rattle.types.specs.declared.ty.Const.TheVariants as constant
use Rattle.types.specs.declared.ty.GenericArg.TheVariants as arg
use Rattle.types.specs.declared.ty.GenericArgs.{GenericArgs}
use Rattle.types.specs.declared.ty.ParamConst.{ParamConst}
use Rattle.types.specs.declared.ty.TraitRef.{TraitRef}
use Rattle.types.specs.declared.ty.Ty.{Ty}
use Rattle.types.specs.declared.ty.Ty.TheVariants as type
use Rattle.types.specs.declared.ty.UnevaluatedConst.{UnevaluatedConst}
use Rattle.types.specs.declared.ty.ValueConst.{ValueConst}
use Rattle.world.specs.declared.database.HirDatabase.{HirDatabase}
use Rattle.report_text.specs.Consts.{bytes_text}
use Rattle.report_text.specs.Names.{adt_name, alias_name, callable_name, const_param_name, general_const_name, trait_name}
use Rattle.report_text.specs.Texts.{with_args}
use Rattle.report_text.specs.Types.{rendered_text, tuple_text, array_text, pointer_to_function_text, dynamic_text, rendered_ty, type_text, const_text, arg_text, args_texts, bound_text}

-- the kind of a type's values with which the type is rendered is the one that operators take them as
pub rendered_kind : (world : HirDatabase) (ty : Ty) → (rendered_ty world ty).kind ≡ kind_of ty
unfolding rendered_ty kind_of
rendered_kind world type.Bool = search (the_lemmas, rules)
rendered_kind world type.Char = search (the_lemmas, rules)
rendered_kind world (type.Int _) = search (the_lemmas, rules)
rendered_kind world (type.Uint _) = search (the_lemmas, rules)
rendered_kind world _ = search (the_lemmas, rules)

rendered_texts : (world : HirDatabase) (tys : List Ty) → map rendered_text (map (rendered_ty world) tys) ≡ map (type_text world) tys
rendered_texts world tys = map-map rendered_text (rendered_ty world) tys

pub tuple_is : (world : HirDatabase) (fields : List Ty) → type_text world (type.Tuple fields) ≡ tuple_text (map (type_text world) fields)
unfolding rendered_ty
tuple_is world fields =
    let layer : type_text world (type.Tuple fields) ≡ tuple_text (map rendered_text (map (rendered_ty world) fields)) = search (the_lemmas, rules) in
    layer ∙ ap tuple_text (rendered_texts world fields)

pub array_is : (world : HirDatabase) (element : Ty) (len : Const) → type_text world (type.Array element len) ≡ array_text (type_text world element) (const_text world len)
unfolding rendered_ty const_text
array_is world element len = search (the_lemmas, rules)

pub adt_is : (world : HirDatabase) (id : AdtId) (args : GenericArgs) → type_text world (type.Adt id args) ≡ with_args (adt_name world id) (args_texts world args)
unfolding rendered_ty args_texts
adt_is world id args = search (the_lemmas, rules)

pub fn_def_is : (world : HirDatabase) (id : CallableDefId) (args : GenericArgs) → type_text world (type.FnDef id args) ≡ with_args (callable_name world id) (args_texts world args)
unfolding rendered_ty args_texts
fn_def_is world id args = search (the_lemmas, rules)

pub fn_ptr_is : (world : HirDatabase) (params : List Ty) (ret : Ty) → type_text world (type.FnPtr params ret) ≡ pointer_to_function_text (map (type_text world) params) (type_text world ret)
unfolding rendered_ty
fn_ptr_is world params ret =
    let layer : type_text world (type.FnPtr params ret) ≡ pointer_to_function_text (map rendered_text (map (rendered_ty world) params)) (rendered_ty world ret).text = search (the_lemmas, rules) in
    layer ∙ ap (λ texts. pointer_to_function_text texts (rendered_ty world ret).text) (rendered_texts world params)

pub dynamic_is : (world : HirDatabase) (bounds : List TraitRef) → type_text world (type.Dynamic bounds) ≡ dynamic_text (map (bound_text world) bounds)
unfolding rendered_ty bound_text
dynamic_is world bounds = search (the_lemmas, rules)

pub alias_is : (world : HirDatabase) (id : AliasId) (args : GenericArgs) → type_text world (type.Alias id args) ≡ with_args (alias_name world id) (args_texts world args)
unfolding rendered_ty args_texts
alias_is world id args = search (the_lemmas, rules)

pub type_arg_is : (world : HirDatabase) (ty : Ty) → arg_text world (arg.Ty ty) ≡ type_text world ty
unfolding arg_text rendered_ty
type_arg_is world ty = search (the_lemmas, rules)

pub const_arg_is : (world : HirDatabase) (konst : Const) → arg_text world (arg.Konst konst) ≡ const_text world konst
unfolding arg_text const_text
const_arg_is world konst = search (the_lemmas, rules)

pub args_are : (world : HirDatabase) (args : GenericArgs) → args_texts world args ≡ map (arg_text world) args.0
unfolding args_texts arg_text
args_are world args = search (the_lemmas, rules)

pub bound_is : (world : HirDatabase) (bound : TraitRef) → bound_text world bound ≡ with_args (trait_name world bound.def) (args_texts world bound.args)
unfolding bound_text args_texts
bound_is world bound = search (the_lemmas, rules)

pub value_is : (world : HirDatabase) (value : ValueConst) → const_text world (constant.Value value) ≡ bytes_text (kind_of value.ty) value.memory
unfolding const_text rendered_ty
value_is world value =
    let layer : const_text world (constant.Value value) ≡ bytes_text (rendered_ty world value.ty).kind value.memory = search (the_lemmas, rules) in
    layer ∙ ap (λ kind. bytes_text kind value.memory) (rendered_kind world value.ty)

pub param_is : (world : HirDatabase) (param : ParamConst) → const_text world (constant.Param param) ≡ const_param_name world param.id
unfolding const_text
param_is world param = search (the_lemmas, rules)

pub unevaluated_is : (world : HirDatabase) (named : UnevaluatedConst) → const_text world (constant.Unevaluated named) ≡ general_const_name world named.def
unfolding const_text
unevaluated_is world named = search (the_lemmas, rules)

pub no_const_is : (world : HirDatabase) → const_text world constant.Error ≡ codes "{error}"
unfolding const_text
no_const_is world = search (the_lemmas, rules)

pub ruleset const_layers = (value_is, param_is, unevaluated_is, no_const_is)

-- the texts of types whose parts are lists, constants or generic arguments
pub ruleset type_layers = (tuple_is, array_is, adt_is, fn_def_is, fn_ptr_is, dynamic_is, alias_is)
