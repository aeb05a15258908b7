-- What types, generic arguments and constants mention, by what their parts mention.
use Rattle.std.proofs.Common.{◌≡◌, ◌∙◌, ◌&&◌, ◌||◌, List, [], ◌∷◌, ◌++◌, Bool, true, false, not, map, length, refl, ap, rules}
use Rattle.std.proofs.lemmas.List.{length-map}
use Rattle.std.proofs.lemmas.List.Folds.{list_all-append}
use Rattle.std.specs.List.{list_all, list_any}
use Rattle.types.specs.declared.ids.AdtId.{AdtId}
use Rattle.types.specs.declared.ids.AliasId.{AliasId}
use Rattle.types.specs.declared.ids.CallableDefId.{CallableDefId}
use Rattle.types.specs.declared.ids.InternedClosureId.{InternedClosureId}
use Rattle.types.specs.declared.ty.ComplexMemoryMap.{ComplexMemoryMap}
use Rattle.types.specs.declared.ty.Const.{Const}
use Rattle.types.specs.declared.ty.Const.TheFolds.{the_lemmas}
use Rattle.types.specs.declared.ty.Const.TheVariants as constant
use Rattle.types.specs.declared.ty.GenericArg.TheVariants as arg
use Rattle.types.specs.declared.ty.GenericArgs.{GenericArgs}
use Rattle.types.specs.declared.ty.MemoryMap.TheVariants as memory
use Rattle.types.specs.declared.ty.ParamConst.{ParamConst}
use Rattle.types.specs.declared.ty.ParamTy.{ParamTy}
use Rattle.types.specs.declared.ty.TraitRef.{TraitRef}
use Rattle.types.specs.declared.ty.Ty.{Ty}
use Rattle.types.specs.declared.ty.Ty.TheVariants as type
use Rattle.types.specs.declared.ty.UnevaluatedConst.{UnevaluatedConst}
use Rattle.types.specs.declared.ty.ValueConst.{ValueConst}
use Rattle.mentions.specs.Mentions.{all_of, listed, adt_mention, callable_mention, general_mention, ty_mentions, const_mentions, arg_mentions, args_mentions, bound_mentions, memory_mentions}
use Rattle.mentions.specs.declared.mention.Mention.{Mention}
use Rattle.mentions.specs.declared.mention.Mention.TheVariants as mention

-- a test of what several parts mention
parts : (p : Mention → Bool) {X : Type 0} (f : X → List Mention) (xs : List X) → list_all p (all_of (map f xs)) ≡ list_all (λ x. list_all p (f x)) xs
parts p f [] = refl
parts p f (x ∷ xs) = list_all-append p (f x) (all_of (map f xs)) ∙ ap (λ b. list_all p (f x) && b) (parts p f xs)

-- a test of a list whose places are named
in_listed : (p : Mention → Bool) {X : Type 0} (f : X → List Mention) (xs : List X) → list_all p (listed (map f xs)) ≡ (p (mention.Entries (length xs)) && list_all (λ x. list_all p (f x)) xs)
in_listed p f xs =
    ap (λ n. p (mention.Entries n) && list_all p (all_of (map f xs))) (length-map xs f)
    ∙ ap (λ b. p (mention.Entries (length xs)) && b) (parts p f xs)

pub in_tuple : (p : Mention → Bool) (fields : List Ty) → list_all p (ty_mentions (type.Tuple fields)) ≡ (p (mention.Entries (length fields)) && list_all (λ ty. list_all p (ty_mentions ty)) fields)
unfolding ty_mentions
in_tuple p fields =
    let layer : ty_mentions (type.Tuple fields) ≡ listed (map ty_mentions fields) = search (the_lemmas, rules) in
    ap (list_all p) layer ∙ in_listed p ty_mentions fields

pub in_array : (p : Mention → Bool) (element : Ty) (len : Const) → list_all p (ty_mentions (type.Array element len)) ≡ (list_all p (ty_mentions element) && list_all p (const_mentions len))
unfolding ty_mentions const_mentions
in_array p element len =
    let layer : ty_mentions (type.Array element len) ≡ ty_mentions element ++ const_mentions len = search (the_lemmas, rules) in
    ap (list_all p) layer ∙ list_all-append p (ty_mentions element) (const_mentions len)

pub in_adt : (p : Mention → Bool) (id : AdtId) (args : GenericArgs) → list_all p (ty_mentions (type.Adt id args)) ≡ (p (adt_mention id) && list_all p (args_mentions args))
unfolding ty_mentions args_mentions
in_adt p id args =
    let layer : ty_mentions (type.Adt id args) ≡ adt_mention id ∷ args_mentions args = search (the_lemmas, rules) in
    ap (list_all p) layer

pub in_fn_def : (p : Mention → Bool) (id : CallableDefId) (args : GenericArgs) → list_all p (ty_mentions (type.FnDef id args)) ≡ (p (callable_mention id) && list_all p (args_mentions args))
unfolding ty_mentions args_mentions
in_fn_def p id args =
    let layer : ty_mentions (type.FnDef id args) ≡ callable_mention id ∷ args_mentions args = search (the_lemmas, rules) in
    ap (list_all p) layer

pub in_fn_ptr : (p : Mention → Bool) (params : List Ty) (ret : Ty) → list_all p (ty_mentions (type.FnPtr params ret)) ≡ (list_all (λ ty. list_all p (ty_mentions ty)) params && list_all p (ty_mentions ret))
unfolding ty_mentions
in_fn_ptr p params ret =
    let layer : ty_mentions (type.FnPtr params ret) ≡ all_of (map ty_mentions params) ++ ty_mentions ret = search (the_lemmas, rules) in
    ap (list_all p) layer
    ∙ list_all-append p (all_of (map ty_mentions params)) (ty_mentions ret)
    ∙ ap (λ b. b && list_all p (ty_mentions ret)) (parts p ty_mentions params)

pub in_closure : (p : Mention → Bool) (id : InternedClosureId) (args : GenericArgs) → list_all p (ty_mentions (type.Closure id args)) ≡ (p (mention.Closure id) && list_all p (args_mentions args))
unfolding ty_mentions args_mentions
in_closure p id args =
    let layer : ty_mentions (type.Closure id args) ≡ mention.Closure id ∷ args_mentions args = search (the_lemmas, rules) in
    ap (list_all p) layer

pub in_dynamic : (p : Mention → Bool) (bounds : List TraitRef) → list_all p (ty_mentions (type.Dynamic bounds)) ≡ list_all (λ bound. list_all p (bound_mentions bound)) bounds
unfolding ty_mentions bound_mentions
in_dynamic p bounds =
    let layer : ty_mentions (type.Dynamic bounds) ≡ all_of (map bound_mentions bounds) = search (the_lemmas, rules) in
    ap (list_all p) layer ∙ parts p bound_mentions bounds

pub in_alias : (p : Mention → Bool) (id : AliasId) (args : GenericArgs) → list_all p (ty_mentions (type.Alias id args)) ≡ (p (mention.Alias id) && list_all p (args_mentions args))
unfolding ty_mentions args_mentions
in_alias p id args =
    let layer : ty_mentions (type.Alias id args) ≡ mention.Alias id ∷ args_mentions args = search (the_lemmas, rules) in
    ap (list_all p) layer

alone : (b : Bool) → (b && true) ≡ b
alone true = refl
alone false = refl

pub in_param : (p : Mention → Bool) (param : ParamTy) → list_all p (ty_mentions (type.Param param)) ≡ p (mention.TypeParam param.id)
unfolding ty_mentions
in_param p param =
    let layer : ty_mentions (type.Param param) ≡ mention.TypeParam param.id ∷ [] = search (the_lemmas, rules) in
    ap (list_all p) layer ∙ alone (p (mention.TypeParam param.id))

pub in_no_ty : (p : Mention → Bool) → list_all p (ty_mentions type.Error) ≡ p mention.Error
unfolding ty_mentions
in_no_ty p =
    let layer : ty_mentions type.Error ≡ mention.Error ∷ [] = search (the_lemmas, rules) in
    ap (list_all p) layer ∙ alone (p mention.Error)

pub in_bound : (p : Mention → Bool) (bound : TraitRef) → list_all p (bound_mentions bound) ≡ (p (mention.Trait bound.def) && list_all p (args_mentions bound.args))
unfolding bound_mentions args_mentions
in_bound p bound =
    let layer : bound_mentions bound ≡ mention.Trait bound.def ∷ args_mentions bound.args = search (the_lemmas, rules) in
    ap (list_all p) layer

pub in_args : (p : Mention → Bool) (args : GenericArgs) → list_all p (args_mentions args) ≡ (p (mention.Entries (length args.0)) && list_all (λ arg. list_all p (arg_mentions arg)) args.0)
unfolding args_mentions arg_mentions
in_args p args =
    let layer : args_mentions args ≡ listed (map arg_mentions args.0) = search (the_lemmas, rules) in
    ap (list_all p) layer ∙ in_listed p arg_mentions args.0

pub in_type_arg : (p : Mention → Bool) (ty : Ty) → list_all p (arg_mentions (arg.Ty ty)) ≡ list_all p (ty_mentions ty)
unfolding arg_mentions ty_mentions
in_type_arg p ty =
    let layer : arg_mentions (arg.Ty ty) ≡ ty_mentions ty = search (the_lemmas, rules) in
    ap (list_all p) layer

pub in_const_arg : (p : Mention → Bool) (konst : Const) → list_all p (arg_mentions (arg.Konst konst)) ≡ list_all p (const_mentions konst)
unfolding arg_mentions const_mentions
in_const_arg p konst =
    let layer : arg_mentions (arg.Konst konst) ≡ const_mentions konst = search (the_lemmas, rules) in
    ap (list_all p) layer

pub in_value : (p : Mention → Bool) (value : ValueConst) → list_all p (const_mentions (constant.Value value)) ≡ (list_all p (ty_mentions value.ty) && list_all p (memory_mentions value.memory_map))
unfolding const_mentions ty_mentions memory_mentions
in_value p value =
    let layer : const_mentions (constant.Value value) ≡ ty_mentions value.ty ++ memory_mentions value.memory_map = search (the_lemmas, rules) in
    ap (list_all p) layer ∙ list_all-append p (ty_mentions value.ty) (memory_mentions value.memory_map)

pub in_const_param : (p : Mention → Bool) (param : ParamConst) → list_all p (const_mentions (constant.Param param)) ≡ p (mention.ConstParam param.id)
unfolding const_mentions
in_const_param p param =
    let layer : const_mentions (constant.Param param) ≡ mention.ConstParam param.id ∷ [] = search (the_lemmas, rules) in
    ap (list_all p) layer ∙ alone (p (mention.ConstParam param.id))

pub in_unevaluated : (p : Mention → Bool) (named : UnevaluatedConst) → list_all p (const_mentions (constant.Unevaluated named)) ≡ (p (general_mention named.def) && list_all p (args_mentions named.args))
unfolding const_mentions args_mentions
in_unevaluated p named =
    let layer : const_mentions (constant.Unevaluated named) ≡ general_mention named.def ∷ args_mentions named.args = search (the_lemmas, rules) in
    ap (list_all p) layer

pub in_no_const : (p : Mention → Bool) → list_all p (const_mentions constant.Error) ≡ p mention.Error
unfolding const_mentions
in_no_const p =
    let layer : const_mentions constant.Error ≡ mention.Error ∷ [] = search (the_lemmas, rules) in
    ap (list_all p) layer ∙ alone (p mention.Error)

pub in_complex : (p : Mention → Bool) (complex : ComplexMemoryMap) → list_all p (memory_mentions (memory.Complex complex)) ≡ list_all (λ ty. list_all p (ty_mentions ty)) complex.vtable
unfolding memory_mentions ty_mentions
in_complex p complex =
    let layer : memory_mentions (memory.Complex complex) ≡ all_of (map ty_mentions complex.vtable) = search (the_lemmas, rules) in
    ap (list_all p) layer ∙ parts p ty_mentions complex.vtable

-- the types whose parts are tested one by one
pub ruleset ty_layers = (in_tuple, in_array, in_adt, in_fn_def, in_fn_ptr, in_closure, in_dynamic, in_alias, in_param, in_no_ty)

pub ruleset arg_layers = (in_type_arg, in_const_arg)

pub ruleset const_layers = (in_value, in_const_param, in_unevaluated, in_no_const)

first_or_later : (first lack : Bool) → not (not first && lack) ≡ (first || not lack)
first_or_later true lack = refl
first_or_later false lack = refl

-- what not all lack, some have
pub some_but_none : {X : Type 0} (p : X → Bool) (xs : List X) → not (list_all (λ x. not (p x)) xs) ≡ list_any p xs
some_but_none p [] = refl
some_but_none p (x ∷ xs) = first_or_later (p x) (list_all (λ y. not (p y)) xs) ∙ ap (λ b. p x || b) (some_but_none p xs)
