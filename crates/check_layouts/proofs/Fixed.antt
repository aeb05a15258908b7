-- A type that holds no generic parameter, at any depth, has the same instance at all generic arguments.
use denote.Hole.Carrier.{Values}
use denote.Hole.Recursion.{ind}
use Rattle.std.proofs.Common.{◌≡◌, Bool, true, false, not, ◌&&◌, ◌||◌, List, [], ◌∷◌, map, refl, sym, ◌∙◌, ap, subst, rules}
use Rattle.std.specs.List.{list_all, list_any}
use Rattle.std.specs.Option.{option_and_then, option_map}
use Rattle.check_instances.proofs.Layers as layers
use Rattle.check_instances.specs.Instances.{Normals, all_there, arg_instance, args_instance, bound_instance, const_instance, normal_type, ty_instance, with_both}
use Rattle.check_instances.specs.Parts.{complex_instance, map_instance, unevaluated_instance, value_instance}
use Rattle.mentions.proofs.Mentions as mentioned
use Rattle.mentions.specs.Mentions.{adt_mention, arg_mentions, args_mentions, bound_mentions, callable_mention, const_mentions, general_mention, holds_param, is_param, memory_mentions, ty_mentions}
use Rattle.mentions.specs.declared.mention.Mention.{Mention}
use Rattle.types.specs.SameScalars.{both, differ}
use Rattle.types.specs.declared.ids.AdtId.{AdtId}
use Rattle.types.specs.declared.ids.AliasId.{AliasId}
use Rattle.types.specs.declared.ids.CallableDefId.{CallableDefId}
use Rattle.types.specs.declared.ids.InternedClosureId.{InternedClosureId}
use Rattle.types.specs.declared.scalars.Mutability.{Mutability}
use Rattle.types.specs.declared.ty.ComplexMemoryMap.{ComplexMemoryMap}
use Rattle.types.specs.declared.ty.Const.{Const}
use Rattle.types.specs.declared.ty.Const.TheBlock.{the_members, the_sigs, the_carrier, member-Ty}
use Rattle.types.specs.declared.ty.Const.TheFolds.{claims, shows, the_lemmas, map-Const, map-GenericArg, map-MemoryMap, map-Ty, map-ComplexMemoryMap, map-GenericArgs, map-TraitRef, map-UnevaluatedConst, map-ValueConst}
use Rattle.types.specs.declared.ty.Const.TheOpen as one
use Rattle.types.specs.declared.ty.Const.TheOpen.{Const-F, GenericArg-F, MemoryMap-F, Ty-F, ComplexMemoryMap-F, GenericArgs-F, TraitRef-F, UnevaluatedConst-F, ValueConst-F}
use Rattle.types.specs.declared.ty.Const.TheVariants as constant
use Rattle.types.specs.declared.ty.Const.TheViews.{roll-Const, roll-GenericArg, roll-MemoryMap, roll-Ty, roll-ComplexMemoryMap, roll-GenericArgs, roll-TraitRef, roll-UnevaluatedConst, roll-ValueConst}
use Rattle.types.specs.declared.ty.GenericArg.{GenericArg}
use Rattle.types.specs.declared.ty.GenericArg.TheVariants as arg
use Rattle.types.specs.declared.ty.GenericArgs.{GenericArgs}
use Rattle.types.specs.declared.ty.MemoryMap.{MemoryMap}
use Rattle.types.specs.declared.ty.MemoryMap.TheVariants as memory
use Rattle.types.specs.declared.ty.TraitRef.{TraitRef}
use Rattle.types.specs.declared.ty.Ty.{Ty}
use Rattle.types.specs.declared.ty.Ty.TheVariants as type
use Rattle.types.specs.declared.ty.UnevaluatedConst.{UnevaluatedConst}
use Rattle.types.specs.declared.ty.ValueConst.{ValueConst}

abbrev no_param : Mention → Bool
no_param mention = not (is_param mention)

abbrev lacks_param : List Mention → Bool
lacks_param mentions = list_all no_param mentions

in_slice : (element : Ty) → ty_mentions (type.Slice element) ≡ ty_mentions element
unfolding ty_mentions
in_slice element = search (the_lemmas, rules)

in_ref : (to : Ty) (mutability : Mutability) → ty_mentions (type.Ref to mutability) ≡ ty_mentions to
unfolding ty_mentions
in_ref to mutability = search (the_lemmas, rules)

in_raw_ptr : (to : Ty) (mutability : Mutability) → ty_mentions (type.RawPtr to mutability) ≡ ty_mentions to
unfolding ty_mentions
in_raw_ptr to mutability = search (the_lemmas, rules)

-- where each of some values that pass a test is mapped to the same by two functions, so is their list
items_same : {A B : Type 0} (test : A → Bool) (f g : A → B) (ks : List ((x : A) × (test x ≡ true → f x ≡ g x))) → list_all test (map (λ k. k.0) ks) ≡ true → map f (map (λ k. k.0) ks) ≡ map g (map (λ k. k.0) ks)
items_same test f g [] h = refl
items_same test f g (k ∷ ks) h =
    let p = both (test k.0) (list_all test (map (λ k. k.0) ks)) h in
    λ i. k.1 p.0 i ∷ items_same test f g ks p.1 i

none_here : {X : Type 0} (p : X → Bool) (xs : List X) (c : Bool) → (list_any p xs ≡ false → list_all (λ x. not (p x)) xs ≡ true) → (c || list_any p xs) ≡ false → (not c && list_all (λ x. not (p x)) xs) ≡ true
none_here p xs true rest h = differ (sym h)
none_here p xs false rest h = rest h

none_all : {X : Type 0} (p : X → Bool) (xs : List X) → list_any p xs ≡ false → list_all (λ x. not (p x)) xs ≡ true
none_all p [] h = refl
none_all p (x ∷ xs) h = none_here p xs (p x) (none_all p xs) h

module _ (normals : Normals) (a b : GenericArgs) where
  -- a value of each of the nine types that contain one another has the same instance at both arguments
  abbrev IsConst : Const → Type 0
  IsConst konst = lacks_param (const_mentions konst) ≡ true → const_instance normals a konst ≡ const_instance normals b konst

  abbrev IsArg : GenericArg → Type 0
  IsArg own = lacks_param (arg_mentions own) ≡ true → arg_instance normals a own ≡ arg_instance normals b own

  abbrev IsMap : MemoryMap → Type 0
  IsMap known = lacks_param (memory_mentions known) ≡ true → map_instance normals a known ≡ map_instance normals b known

  abbrev IsTy : Ty → Type 0
  IsTy ty = lacks_param (ty_mentions ty) ≡ true → ty_instance normals a ty ≡ ty_instance normals b ty

  abbrev IsComplex : ComplexMemoryMap → Type 0
  IsComplex known = list_all (λ ty. lacks_param (ty_mentions ty)) known.vtable ≡ true → complex_instance normals a known ≡ complex_instance normals b known

  abbrev IsArgs : GenericArgs → Type 0
  IsArgs own = lacks_param (args_mentions own) ≡ true → args_instance normals a own ≡ args_instance normals b own

  abbrev IsBound : TraitRef → Type 0
  IsBound bound = lacks_param (bound_mentions bound) ≡ true → bound_instance normals a bound ≡ bound_instance normals b bound

  abbrev IsUnevaluated : UnevaluatedConst → Type 0
  IsUnevaluated named = lacks_param (args_mentions named.args) ≡ true → unevaluated_instance normals a named ≡ unevaluated_instance normals b named

  abbrev IsValue : ValueConst → Type 0
  IsValue value = lacks_param (ty_mentions value.ty) ≡ true → lacks_param (memory_mentions value.memory_map) ≡ true → value_instance normals a value ≡ value_instance normals b value

  -- a layer whose parts have the same instances
  abbrev Layer : (Type 0 → Type 0 → Type 0 → Type 0 → Type 0 → Type 0 → Type 0 → Type 0 → Type 0 → Type 0) → Type 0
  Layer Open = Open ((x : Const) × IsConst x) ((x : GenericArg) × IsArg x) ((x : MemoryMap) × IsMap x) ((x : Ty) × IsTy x) ((x : ComplexMemoryMap) × IsComplex x) ((x : GenericArgs) × IsArgs x) ((x : TraitRef) × IsBound x) ((x : UnevaluatedConst) × IsUnevaluated x) ((x : ValueConst) × IsValue x)

  abbrev Plain : (Type 0 → Type 0 → Type 0 → Type 0 → Type 0 → Type 0 → Type 0 → Type 0 → Type 0 → Type 0) → Type 0
  Plain Open = Open Const GenericArg MemoryMap Ty ComplexMemoryMap GenericArgs TraitRef UnevaluatedConst ValueConst

  abbrev const_of : Layer Const-F → Plain Const-F
  const_of = map-Const _ _ _ _ _ _ _ _ _ _ _ _ _ _ _ _ _ _ (λ k. k.0) (λ k. k.0) (λ k. k.0) (λ k. k.0) (λ k. k.0) (λ k. k.0) (λ k. k.0) (λ k. k.0) (λ k. k.0)

  abbrev arg_of : Layer GenericArg-F → Plain GenericArg-F
  arg_of = map-GenericArg _ _ _ _ _ _ _ _ _ _ _ _ _ _ _ _ _ _ (λ k. k.0) (λ k. k.0) (λ k. k.0) (λ k. k.0) (λ k. k.0) (λ k. k.0) (λ k. k.0) (λ k. k.0) (λ k. k.0)

  abbrev map_of : Layer MemoryMap-F → Plain MemoryMap-F
  map_of = map-MemoryMap _ _ _ _ _ _ _ _ _ _ _ _ _ _ _ _ _ _ (λ k. k.0) (λ k. k.0) (λ k. k.0) (λ k. k.0) (λ k. k.0) (λ k. k.0) (λ k. k.0) (λ k. k.0) (λ k. k.0)

  abbrev ty_of : Layer Ty-F → Plain Ty-F
  ty_of = map-Ty _ _ _ _ _ _ _ _ _ _ _ _ _ _ _ _ _ _ (λ k. k.0) (λ k. k.0) (λ k. k.0) (λ k. k.0) (λ k. k.0) (λ k. k.0) (λ k. k.0) (λ k. k.0) (λ k. k.0)

  abbrev complex_of : Layer ComplexMemoryMap-F → Plain ComplexMemoryMap-F
  complex_of = map-ComplexMemoryMap _ _ _ _ _ _ _ _ _ _ _ _ _ _ _ _ _ _ (λ k. k.0) (λ k. k.0) (λ k. k.0) (λ k. k.0) (λ k. k.0) (λ k. k.0) (λ k. k.0) (λ k. k.0) (λ k. k.0)

  abbrev args_of : Layer GenericArgs-F → Plain GenericArgs-F
  args_of = map-GenericArgs _ _ _ _ _ _ _ _ _ _ _ _ _ _ _ _ _ _ (λ k. k.0) (λ k. k.0) (λ k. k.0) (λ k. k.0) (λ k. k.0) (λ k. k.0) (λ k. k.0) (λ k. k.0) (λ k. k.0)

  abbrev bound_of : Layer TraitRef-F → Plain TraitRef-F
  bound_of = map-TraitRef _ _ _ _ _ _ _ _ _ _ _ _ _ _ _ _ _ _ (λ k. k.0) (λ k. k.0) (λ k. k.0) (λ k. k.0) (λ k. k.0) (λ k. k.0) (λ k. k.0) (λ k. k.0) (λ k. k.0)

  abbrev unevaluated_of : Layer UnevaluatedConst-F → Plain UnevaluatedConst-F
  unevaluated_of = map-UnevaluatedConst _ _ _ _ _ _ _ _ _ _ _ _ _ _ _ _ _ _ (λ k. k.0) (λ k. k.0) (λ k. k.0) (λ k. k.0) (λ k. k.0) (λ k. k.0) (λ k. k.0) (λ k. k.0) (λ k. k.0)

  abbrev value_of : Layer ValueConst-F → Plain ValueConst-F
  value_of = map-ValueConst _ _ _ _ _ _ _ _ _ _ _ _ _ _ _ _ _ _ (λ k. k.0) (λ k. k.0) (λ k. k.0) (λ k. k.0) (λ k. k.0) (λ k. k.0) (λ k. k.0) (λ k. k.0) (λ k. k.0)

  tuple_same : (ks : List ((x : Ty) × IsTy x)) → IsTy (type.Tuple (map (λ k. k.0) ks))
  tuple_same ks h =
      let fields = map (λ (k : (x : Ty) × IsTy x). k.0) ks in
      let inside : list_all (λ ty. lacks_param (ty_mentions ty)) fields ≡ true = sym (mentioned.in_tuple no_param fields) ∙ h in
      layers.tuple_is normals a fields
      ∙ ap (λ l. option_map type.Tuple (all_there l)) (items_same (λ ty. lacks_param (ty_mentions ty)) (ty_instance normals a) (ty_instance normals b) ks inside)
      ∙ sym (layers.tuple_is normals b fields)

  array_same : (element : Ty) (len : Const) → IsTy element → IsConst len → IsTy (type.Array element len)
  array_same element len first second h =
      let q = both (lacks_param (ty_mentions element)) (lacks_param (const_mentions len)) (sym (mentioned.in_array no_param element len) ∙ h) in
      layers.array_is normals a element len
      ∙ ap (λ x. with_both type.Array x (const_instance normals a len)) (first q.0)
      ∙ ap (λ x. with_both type.Array (ty_instance normals b element) x) (second q.1)
      ∙ sym (layers.array_is normals b element len)

  slice_same : (element : Ty) → IsTy element → IsTy (type.Slice element)
  slice_same element first h =
      layers.slice_is normals a element
      ∙ ap (option_map type.Slice) (first (sym (ap lacks_param (in_slice element)) ∙ h))
      ∙ sym (layers.slice_is normals b element)

  ref_same : (to : Ty) (mutability : Mutability) → IsTy to → IsTy (type.Ref to mutability)
  ref_same to mutability first h =
      layers.ref_is normals a to mutability
      ∙ ap (option_map (λ ty. type.Ref ty mutability)) (first (sym (ap lacks_param (in_ref to mutability)) ∙ h))
      ∙ sym (layers.ref_is normals b to mutability)

  raw_ptr_same : (to : Ty) (mutability : Mutability) → IsTy to → IsTy (type.RawPtr to mutability)
  raw_ptr_same to mutability first h =
      layers.raw_ptr_is normals a to mutability
      ∙ ap (option_map (λ ty. type.RawPtr ty mutability)) (first (sym (ap lacks_param (in_raw_ptr to mutability)) ∙ h))
      ∙ sym (layers.raw_ptr_is normals b to mutability)

  adt_same : (id : AdtId) (own : GenericArgs) → IsArgs own → IsTy (type.Adt id own)
  adt_same id own inside h =
      let q = both (no_param (adt_mention id)) (lacks_param (args_mentions own)) (sym (mentioned.in_adt no_param id own) ∙ h) in
      layers.adt_is normals a id own ∙ ap (option_map (type.Adt id)) (inside q.1) ∙ sym (layers.adt_is normals b id own)

  fn_def_same : (id : CallableDefId) (own : GenericArgs) → IsArgs own → IsTy (type.FnDef id own)
  fn_def_same id own inside h =
      let q = both (no_param (callable_mention id)) (lacks_param (args_mentions own)) (sym (mentioned.in_fn_def no_param id own) ∙ h) in
      layers.fn_def_is normals a id own ∙ ap (option_map (type.FnDef id)) (inside q.1) ∙ sym (layers.fn_def_is normals b id own)

  fn_ptr_same : (ks : List ((x : Ty) × IsTy x)) (ret : Ty) → IsTy ret → IsTy (type.FnPtr (map (λ k. k.0) ks) ret)
  fn_ptr_same ks ret last h =
      let params = map (λ (k : (x : Ty) × IsTy x). k.0) ks in
      let q = both (list_all (λ ty. lacks_param (ty_mentions ty)) params) (lacks_param (ty_mentions ret)) (sym (mentioned.in_fn_ptr no_param params ret) ∙ h) in
      layers.fn_ptr_is normals a params ret
      ∙ ap (λ l. with_both type.FnPtr (all_there l) (ty_instance normals a ret)) (items_same (λ ty. lacks_param (ty_mentions ty)) (ty_instance normals a) (ty_instance normals b) ks q.0)
      ∙ ap (λ x. with_both type.FnPtr (all_there (map (ty_instance normals b) params)) x) (last q.1)
      ∙ sym (layers.fn_ptr_is normals b params ret)

  closure_same : (id : InternedClosureId) (own : GenericArgs) → IsArgs own → IsTy (type.Closure id own)
  closure_same id own inside h =
      layers.closure_is normals a id own ∙ ap (option_map (type.Closure id)) (inside (sym (mentioned.in_closure no_param id own) ∙ h)) ∙ sym (layers.closure_is normals b id own)

  dynamic_same : (ks : List ((x : TraitRef) × IsBound x)) → IsTy (type.Dynamic (map (λ k. k.0) ks))
  dynamic_same ks h =
      let bounds = map (λ (k : (x : TraitRef) × IsBound x). k.0) ks in
      layers.dynamic_is normals a bounds
      ∙ ap (λ l. option_map type.Dynamic (all_there l)) (items_same (λ bound. lacks_param (bound_mentions bound)) (bound_instance normals a) (bound_instance normals b) ks (sym (mentioned.in_dynamic no_param bounds) ∙ h))
      ∙ sym (layers.dynamic_is normals b bounds)

  alias_same : (id : AliasId) (own : GenericArgs) → IsArgs own → IsTy (type.Alias id own)
  alias_same id own inside h =
      layers.alias_is normals a id own ∙ ap (option_and_then (normal_type normals id)) (inside (sym (mentioned.in_alias no_param id own) ∙ h)) ∙ sym (layers.alias_is normals b id own)

  ty_case : (k : Layer Ty-F) → IsTy (roll-Ty (ty_of k))
  ty_case one.Bool = subst IsTy (sym type.rolls-Bool) (λ h. layers.bool_is normals a ∙ sym (layers.bool_is normals b))
  ty_case one.Char = subst IsTy (sym type.rolls-Char) (λ h. layers.char_is normals a ∙ sym (layers.char_is normals b))
  ty_case (one.Int kind) = subst IsTy (sym (type.rolls-Int kind)) (λ h. layers.int_is normals a kind ∙ sym (layers.int_is normals b kind))
  ty_case (one.Uint kind) = subst IsTy (sym (type.rolls-Uint kind)) (λ h. layers.uint_is normals a kind ∙ sym (layers.uint_is normals b kind))
  ty_case (one.Float kind) = subst IsTy (sym (type.rolls-Float kind)) (λ h. layers.float_is normals a kind ∙ sym (layers.float_is normals b kind))
  ty_case one.Str = subst IsTy (sym type.rolls-Str) (λ h. layers.str_is normals a ∙ sym (layers.str_is normals b))
  ty_case one.Never = subst IsTy (sym type.rolls-Never) (λ h. layers.never_is normals a ∙ sym (layers.never_is normals b))
  ty_case (one.Tuple ks) = subst IsTy (sym (type.rolls-Tuple (map (λ k. k.0) ks))) (tuple_same ks)
  ty_case (one.Array k l) = subst IsTy (sym (type.rolls-Array k.0 l.0)) (array_same k.0 l.0 k.1 l.1)
  ty_case (one.Slice k) = subst IsTy (sym (type.rolls-Slice k.0)) (slice_same k.0 k.1)
  ty_case (one.Ref k mutability) = subst IsTy (sym (type.rolls-Ref k.0 mutability)) (ref_same k.0 mutability k.1)
  ty_case (one.RawPtr k mutability) = subst IsTy (sym (type.rolls-RawPtr k.0 mutability)) (raw_ptr_same k.0 mutability k.1)
  ty_case (one.Adt id k) = subst IsTy (sym (type.rolls-Adt id k.0)) (adt_same id k.0 k.1)
  ty_case (one.FnDef id k) = subst IsTy (sym (type.rolls-FnDef id k.0)) (fn_def_same id k.0 k.1)
  ty_case (one.FnPtr ks k) = subst IsTy (sym (type.rolls-FnPtr (map (λ k. k.0) ks) k.0)) (fn_ptr_same ks k.0 k.1)
  ty_case (one.Closure id k) = subst IsTy (sym (type.rolls-Closure id k.0)) (closure_same id k.0 k.1)
  ty_case (one.Dynamic ks) = subst IsTy (sym (type.rolls-Dynamic (map (λ k. k.0) ks))) (dynamic_same ks)
  ty_case (one.Alias id k) = subst IsTy (sym (type.rolls-Alias id k.0)) (alias_same id k.0 k.1)
  ty_case (one.Ty::Param param) = subst IsTy (sym (type.rolls-Param param)) (λ h. differ (sym (mentioned.in_param no_param param) ∙ h))
  ty_case one.Ty::Error = subst IsTy (sym type.rolls-Error) (λ h. layers.error_is normals a ∙ sym (layers.error_is normals b))

  arg_case : (k : Layer GenericArg-F) → IsArg (roll-GenericArg (arg_of k))
  arg_case (one.Ty k) = subst IsArg (sym (arg.rolls-Ty k.0)) (λ h. layers.type_arg_is normals a k.0 ∙ ap (option_map arg.Ty) (k.1 (sym (mentioned.in_type_arg no_param k.0) ∙ h)) ∙ sym (layers.type_arg_is normals b k.0))
  arg_case (one.Konst k) = subst IsArg (sym (arg.rolls-Konst k.0)) (λ h. layers.const_arg_is normals a k.0 ∙ ap (option_map arg.Konst) (k.1 (sym (mentioned.in_const_arg no_param k.0) ∙ h)) ∙ sym (layers.const_arg_is normals b k.0))

  const_case : (k : Layer Const-F) → IsConst (roll-Const (const_of k))
  const_case (one.Value k) = subst IsConst (sym (constant.rolls-Value k.0)) (λ h. let q = both (lacks_param (ty_mentions k.0.ty)) (lacks_param (memory_mentions k.0.memory_map)) (sym (mentioned.in_value no_param k.0) ∙ h) in layers.value_const_is normals a k.0 ∙ ap (option_map constant.Value) (k.1 q.0 q.1) ∙ sym (layers.value_const_is normals b k.0))
  const_case (one.Const::Param param) = subst IsConst (sym (constant.rolls-Param param)) (λ h. differ (sym (mentioned.in_const_param no_param param) ∙ h))
  const_case (one.Unevaluated k) = subst IsConst (sym (constant.rolls-Unevaluated k.0)) (λ h. let q = both (no_param (general_mention k.0.def)) (lacks_param (args_mentions k.0.args)) (sym (mentioned.in_unevaluated no_param k.0) ∙ h) in layers.unevaluated_const_is normals a k.0 ∙ ap (option_map constant.Unevaluated) (k.1 q.1) ∙ sym (layers.unevaluated_const_is normals b k.0))
  const_case one.Const::Error = subst IsConst (sym constant.rolls-Error) (λ h. layers.error_const_is normals a ∙ sym (layers.error_const_is normals b))

  map_case : (k : Layer MemoryMap-F) → IsMap (roll-MemoryMap (map_of k))
  map_case one.Empty = subst IsMap (sym memory.rolls-Empty) (λ h. layers.empty_map_is normals a ∙ sym (layers.empty_map_is normals b))
  map_case (one.Simple bytes) = subst IsMap (sym (memory.rolls-Simple bytes)) (λ h. layers.simple_map_is normals a bytes ∙ sym (layers.simple_map_is normals b bytes))
  map_case (one.Complex k) = subst IsMap (sym (memory.rolls-Complex k.0)) (λ h. layers.complex_map_is normals a k.0 ∙ ap (option_map memory.Complex) (k.1 (sym (mentioned.in_complex no_param k.0) ∙ h)) ∙ sym (layers.complex_map_is normals b k.0))

  complex_case : (k : Layer ComplexMemoryMap-F) → IsComplex (roll-ComplexMemoryMap (complex_of k))
  complex_case k h =
      let known = roll-ComplexMemoryMap (complex_of k) in
      layers.complex_is normals a known
      ∙ ap (λ l. option_map (λ (tables : List Ty). record { memory = known.memory; vtable = tables }) (all_there l)) (items_same (λ ty. lacks_param (ty_mentions ty)) (ty_instance normals a) (ty_instance normals b) k.vtable h)
      ∙ sym (layers.complex_is normals b known)

  args_case : (k : Layer GenericArgs-F) → IsArgs (roll-GenericArgs (args_of k))
  args_case k h =
      let own = roll-GenericArgs (args_of k) in
      let inside : list_all (λ x. lacks_param (arg_mentions x)) own.0 ≡ true = sym (mentioned.in_args no_param own) ∙ h in
      layers.args_are normals a own
      ∙ ap (λ l. option_map (λ (list : List GenericArg). record { 0 = list }) (all_there l)) (items_same (λ x. lacks_param (arg_mentions x)) (arg_instance normals a) (arg_instance normals b) k.0 inside)
      ∙ sym (layers.args_are normals b own)

  bound_case : (k : Layer TraitRef-F) → IsBound (roll-TraitRef (bound_of k))
  bound_case k h =
      let bound = roll-TraitRef (bound_of k) in
      layers.bound_is normals a bound
      ∙ ap (option_map (λ (own : GenericArgs). record { def = bound.def; args = own })) (k.args.1 (sym (mentioned.in_bound no_param bound) ∙ h))
      ∙ sym (layers.bound_is normals b bound)

  unevaluated_case : (k : Layer UnevaluatedConst-F) → IsUnevaluated (roll-UnevaluatedConst (unevaluated_of k))
  unevaluated_case k h =
      let named = roll-UnevaluatedConst (unevaluated_of k) in
      layers.unevaluated_is normals a named
      ∙ ap (option_map (λ (own : GenericArgs). record { def = named.def; args = own })) (k.args.1 h)
      ∙ sym (layers.unevaluated_is normals b named)

  value_case : (k : Layer ValueConst-F) → IsValue (roll-ValueConst (value_of k))
  value_case k h g =
      let value = roll-ValueConst (value_of k) in
      layers.value_is normals a value
      ∙ ap (λ x. with_both (λ (ty : Ty) (behind : MemoryMap). record { ty = ty; memory = value.memory; memory_map = behind }) x (map_instance normals a value.memory_map)) (k.ty.1 h)
      ∙ ap (λ x. with_both (λ (ty : Ty) (behind : MemoryMap). record { ty = ty; memory = value.memory; memory_map = behind }) (ty_instance normals b value.ty) x) (k.memory_map.1 g)
      ∙ sym (layers.value_is normals b value)

  same_at : (j : the_members) (x : Values the_members the_sigs the_carrier j) → claims IsConst IsArg IsMap IsTy IsComplex IsArgs IsBound IsUnevaluated IsValue j x
  same_at =
      ind the_members the_sigs the_carrier (claims IsConst IsArg IsMap IsTy IsComplex IsArgs IsBound IsUnevaluated IsValue)
      (shows IsConst IsArg IsMap IsTy IsComplex IsArgs IsBound IsUnevaluated IsValue
      (λ l k e. subst (λ x. IsConst (roll-Const x)) e (const_case k))
      (λ l k e. subst (λ x. IsArg (roll-GenericArg x)) e (arg_case k))
      (λ l k e. subst (λ x. IsMap (roll-MemoryMap x)) e (map_case k))
      (λ l k e. subst (λ x. IsTy (roll-Ty x)) e (ty_case k))
      (λ l k e. subst (λ x. IsComplex (roll-ComplexMemoryMap x)) e (complex_case k))
      (λ l k e. subst (λ x. IsArgs (roll-GenericArgs x)) e (args_case k))
      (λ l k e. subst (λ x. IsBound (roll-TraitRef x)) e (bound_case k))
      (λ l k e. subst (λ x. IsUnevaluated (roll-UnevaluatedConst x)) e (unevaluated_case k))
      (λ l k e. subst (λ x. IsValue (roll-ValueConst x)) e (value_case k)))

  -- a type without parameters has the same instance at all arguments
  pub same_instance : (ty : Ty) → holds_param ty ≡ false → ty_instance normals a ty ≡ ty_instance normals b ty
  unfolding holds_param
  same_instance ty h = same_at member-Ty ty (none_all is_param (ty_mentions ty) h)
