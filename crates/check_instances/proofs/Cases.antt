-- How types and constants at generic arguments compare with others, by their variants and parts.
use Rattle.std.proofs.Common.{◌≡◌, true, false, Option, Some, None, List, [], map, refl, sym, ◌∙◌, ap, subst}
use Rattle.std.specs.Prelude.{slice_get}
use Rattle.std.specs.Cmp.Lexicographic.{slice_cmp}
use Rattle.std.specs.Option.{option_and_then}
use Rattle.std.specs.Ordering.{is_ne, nat_cmp, ordering_then}
use Rattle.std.specs.declared.cmp.Ordering.{Ordering}
use Rattle.types.specs.Orders.{args_cmp, ty_cmp}
use Rattle.types.specs.contracts.bytes.BytesOrd.TheImpl as BytesOrd
use Rattle.types.specs.contracts.ids.AdtIdOrd.TheImpl as AdtIdOrd
use Rattle.types.specs.contracts.ids.CallableDefIdOrd.TheImpl as CallableDefIdOrd
use Rattle.types.specs.contracts.ids.GeneralConstIdOrd.TheImpl as GeneralConstIdOrd
use Rattle.types.specs.contracts.ids.InternedClosureIdOrd.TheImpl as InternedClosureIdOrd
use Rattle.types.specs.contracts.ids.TraitIdOrd.TheImpl as TraitIdOrd
use Rattle.types.specs.contracts.scalars.MutabilityOrd.TheImpl as MutabilityOrd
use Rattle.types.specs.declared.ids.AdtId.{AdtId}
use Rattle.types.specs.declared.ids.AliasId.{AliasId}
use Rattle.types.specs.declared.ids.CallableDefId.{CallableDefId}
use Rattle.types.specs.declared.ids.InternedClosureId.{InternedClosureId}
use Rattle.types.specs.declared.scalars.Mutability.{Mutability}
use Rattle.types.specs.declared.ty.ComplexMemoryMap.{ComplexMemoryMap}
use Rattle.types.specs.declared.ty.Const.{Const}
use Rattle.types.specs.declared.ty.Const.TheVariants as constant
use Rattle.types.specs.declared.ty.GenericArg.{GenericArg}
use Rattle.types.specs.declared.ty.GenericArg.TheVariants as arg
use Rattle.types.specs.declared.ty.GenericArgs.{GenericArgs}
use Rattle.types.specs.declared.ty.MemoryMap.{MemoryMap}
use Rattle.types.specs.declared.ty.MemoryMap.TheVariants as memory
use Rattle.types.specs.declared.ty.ParamConst.{ParamConst}
use Rattle.types.specs.declared.ty.ParamTy.{ParamTy}
use Rattle.types.specs.declared.ty.TraitRef.{TraitRef}
use Rattle.types.specs.declared.ty.Ty.{Ty}
use Rattle.types.specs.declared.ty.Ty.TheVariants as type
use Rattle.types.specs.declared.ty.UnevaluatedConst.{UnevaluatedConst}
use Rattle.types.specs.declared.ty.ValueConst.{ValueConst}
use Rattle.check_instances.specs.Comparisons.{Compares, arg_at, arg_cmp, args_at, bound_at, bound_cmp, complex_at, complex_cmp, const_at, const_cmp, map_at, map_cmp, ty_at, unevaluated_at, unevaluated_cmp, value_at, value_cmp, with_normals}
use Rattle.check_instances.specs.Instances.{Normals, all_there, const_argument, normal_type, type_argument}
use Rattle.check_instances.specs.Variants.{arg_variant, const_variant, map_variant, ty_variant}
use Rattle.check_instances.proofs.Following.{then_differs, then_ties}
use Rattle.check_instances.proofs.Layers as layers
use Rattle.check_instances.proofs.Orders as orders
use Rattle.check_instances.proofs.Parts.{of_known, of_none, of_one, of_two, two_differ, two_tie}

-- the same of equal values
pub carry : {A B : Type 0} (at : A → Option B) (cmp : B → B → Ordering) (x x' : A) (key key' : B) (r : Ordering) → x ≡ x' → key ≡ key' → Compares (at x') (λ made. cmp made key') r → Compares (at x) (λ made. cmp made key) r
carry at cmp x x' key key' r same same_key compares =
    subst (λ w. Compares (at w) (λ made. cmp made key) r) (sym same) (subst (λ k. Compares (at x') (λ made. cmp made k) r) (sym same_key) compares)

module _ (normals : Normals) (args : GenericArgs) where
  abbrev behind : GenericArgs
  behind = with_normals normals args

  abbrev tys_at : List Ty → Option (List Ty)
  tys_at tys = all_there (map (ty_at normals args) tys)

  abbrev bounds_at : List TraitRef → Option (List TraitRef)
  bounds_at bounds = all_there (map (bound_at normals args) bounds)

  pub tuple_same : (x key : List Ty) (r : Ordering) → Compares (tys_at x) (λ made. slice_cmp ty_cmp made key) r → Compares (ty_at normals args (type.Tuple x)) (λ made. ty_cmp made (type.Tuple key)) r
  tuple_same x key r compares = of_one type.Tuple (tys_at x) (ty_at normals args (type.Tuple x)) (λ made. ty_cmp made (type.Tuple key)) r (layers.tuple_is [] behind x) (λ made there. compares made there ∙ sym (orders.tuples made key))

  pub tuple_other : (x : List Ty) (whole key : Ty) (r : Ordering) → whole ≡ (type.Tuple x) → ((y : List Ty) → key ≡ type.Tuple y → ⊥) → r ≡ nat_cmp (ty_variant whole) (ty_variant key) → Compares (ty_at normals args whole) (λ made. ty_cmp made key) r
  tuple_other x whole key r same differ is = subst (λ w. Compares (ty_at normals args w) (λ made. ty_cmp made key) r) (sym same) (of_one type.Tuple (tys_at x) (ty_at normals args (type.Tuple x)) (λ made. ty_cmp made key) r (layers.tuple_is [] behind x) (λ made there. is ∙ ap (λ n. nat_cmp n (ty_variant key)) (ap ty_variant same ∙ orders.tuple_variant x ∙ sym (orders.tuple_variant made)) ∙ sym (orders.tys_apart (type.Tuple made) key (λ e. orders.no_tuple key differ (sym e ∙ orders.tuple_variant made)))))

  pub slice_same : (x key : Ty) (r : Ordering) → Compares (ty_at normals args x) (λ made. ty_cmp made key) r → Compares (ty_at normals args (type.Slice x)) (λ made. ty_cmp made (type.Slice key)) r
  slice_same x key r compares = of_one type.Slice (ty_at normals args x) (ty_at normals args (type.Slice x)) (λ made. ty_cmp made (type.Slice key)) r (layers.slice_is [] behind x) (λ made there. compares made there ∙ sym (orders.slices made key))

  pub slice_other : (x : Ty) (whole key : Ty) (r : Ordering) → whole ≡ (type.Slice x) → ((y : Ty) → key ≡ type.Slice y → ⊥) → r ≡ nat_cmp (ty_variant whole) (ty_variant key) → Compares (ty_at normals args whole) (λ made. ty_cmp made key) r
  slice_other x whole key r same differ is = subst (λ w. Compares (ty_at normals args w) (λ made. ty_cmp made key) r) (sym same) (of_one type.Slice (ty_at normals args x) (ty_at normals args (type.Slice x)) (λ made. ty_cmp made key) r (layers.slice_is [] behind x) (λ made there. is ∙ ap (λ n. nat_cmp n (ty_variant key)) (ap ty_variant same ∙ orders.slice_variant x ∙ sym (orders.slice_variant made)) ∙ sym (orders.tys_apart (type.Slice made) key (λ e. orders.no_slice key differ (sym e ∙ orders.slice_variant made)))))

  pub dynamic_same : (x key : List TraitRef) (r : Ordering) → Compares (bounds_at x) (λ made. slice_cmp bound_cmp made key) r → Compares (ty_at normals args (type.Dynamic x)) (λ made. ty_cmp made (type.Dynamic key)) r
  dynamic_same x key r compares = of_one type.Dynamic (bounds_at x) (ty_at normals args (type.Dynamic x)) (λ made. ty_cmp made (type.Dynamic key)) r (layers.dynamic_is [] behind x) (λ made there. compares made there ∙ sym (orders.dynamics made key))

  pub dynamic_other : (x : List TraitRef) (whole key : Ty) (r : Ordering) → whole ≡ (type.Dynamic x) → ((y : List TraitRef) → key ≡ type.Dynamic y → ⊥) → r ≡ nat_cmp (ty_variant whole) (ty_variant key) → Compares (ty_at normals args whole) (λ made. ty_cmp made key) r
  dynamic_other x whole key r same differ is = subst (λ w. Compares (ty_at normals args w) (λ made. ty_cmp made key) r) (sym same) (of_one type.Dynamic (bounds_at x) (ty_at normals args (type.Dynamic x)) (λ made. ty_cmp made key) r (layers.dynamic_is [] behind x) (λ made there. is ∙ ap (λ n. nat_cmp n (ty_variant key)) (ap ty_variant same ∙ orders.dynamic_variant x ∙ sym (orders.dynamic_variant made)) ∙ sym (orders.tys_apart (type.Dynamic made) key (λ e. orders.no_dynamic key differ (sym e ∙ orders.dynamic_variant made)))))

  pub array_other : (x : Ty) (m : Const) (whole key : Ty) (r : Ordering) → whole ≡ (type.Array x m) → ((y : Ty) (n : Const) → key ≡ type.Array y n → ⊥) → r ≡ nat_cmp (ty_variant whole) (ty_variant key) → Compares (ty_at normals args whole) (λ made. ty_cmp made key) r
  array_other x m whole key r same differ is = subst (λ w. Compares (ty_at normals args w) (λ made. ty_cmp made key) r) (sym same) (of_two type.Array (ty_at normals args x) (const_at normals args m) (ty_at normals args (type.Array x m)) (λ made. ty_cmp made key) r (layers.array_is [] behind x m) (λ made other at there. is ∙ ap (λ n. nat_cmp n (ty_variant key)) (ap ty_variant same ∙ orders.array_variant x m ∙ sym (orders.array_variant made other)) ∙ sym (orders.tys_apart (type.Array made other) key (λ e. orders.no_array key differ (sym e ∙ orders.array_variant made other)))))

  pub fn_ptr_other : (x : List Ty) (m : Ty) (whole key : Ty) (r : Ordering) → whole ≡ (type.FnPtr x m) → ((y : List Ty) (n : Ty) → key ≡ type.FnPtr y n → ⊥) → r ≡ nat_cmp (ty_variant whole) (ty_variant key) → Compares (ty_at normals args whole) (λ made. ty_cmp made key) r
  fn_ptr_other x m whole key r same differ is = subst (λ w. Compares (ty_at normals args w) (λ made. ty_cmp made key) r) (sym same) (of_two type.FnPtr (tys_at x) (ty_at normals args m) (ty_at normals args (type.FnPtr x m)) (λ made. ty_cmp made key) r (layers.fn_ptr_is [] behind x m) (λ made other at there. is ∙ ap (λ n. nat_cmp n (ty_variant key)) (ap ty_variant same ∙ orders.fnptr_variant x m ∙ sym (orders.fnptr_variant made other)) ∙ sym (orders.tys_apart (type.FnPtr made other) key (λ e. orders.no_fnptr key differ (sym e ∙ orders.fnptr_variant made other)))))

  pub adt_other : (x : AdtId) (m : GenericArgs) (whole key : Ty) (r : Ordering) → whole ≡ (type.Adt x m) → ((y : AdtId) (n : GenericArgs) → key ≡ type.Adt y n → ⊥) → r ≡ nat_cmp (ty_variant whole) (ty_variant key) → Compares (ty_at normals args whole) (λ made. ty_cmp made key) r
  adt_other x m whole key r same differ is = subst (λ w. Compares (ty_at normals args w) (λ made. ty_cmp made key) r) (sym same) (of_one (type.Adt x) (args_at normals args m) (ty_at normals args (type.Adt x m)) (λ made. ty_cmp made key) r (layers.adt_is [] behind x m) (λ made there. is ∙ ap (λ n. nat_cmp n (ty_variant key)) (ap ty_variant same ∙ orders.adt_variant x m ∙ sym (orders.adt_variant x made)) ∙ sym (orders.tys_apart (type.Adt x made) key (λ e. orders.no_adt key differ (sym e ∙ orders.adt_variant x made)))))

  pub fn_def_other : (x : CallableDefId) (m : GenericArgs) (whole key : Ty) (r : Ordering) → whole ≡ (type.FnDef x m) → ((y : CallableDefId) (n : GenericArgs) → key ≡ type.FnDef y n → ⊥) → r ≡ nat_cmp (ty_variant whole) (ty_variant key) → Compares (ty_at normals args whole) (λ made. ty_cmp made key) r
  fn_def_other x m whole key r same differ is = subst (λ w. Compares (ty_at normals args w) (λ made. ty_cmp made key) r) (sym same) (of_one (type.FnDef x) (args_at normals args m) (ty_at normals args (type.FnDef x m)) (λ made. ty_cmp made key) r (layers.fn_def_is [] behind x m) (λ made there. is ∙ ap (λ n. nat_cmp n (ty_variant key)) (ap ty_variant same ∙ orders.fndef_variant x m ∙ sym (orders.fndef_variant x made)) ∙ sym (orders.tys_apart (type.FnDef x made) key (λ e. orders.no_fndef key differ (sym e ∙ orders.fndef_variant x made)))))

  pub closure_other : (x : InternedClosureId) (m : GenericArgs) (whole key : Ty) (r : Ordering) → whole ≡ (type.Closure x m) → ((y : InternedClosureId) (n : GenericArgs) → key ≡ type.Closure y n → ⊥) → r ≡ nat_cmp (ty_variant whole) (ty_variant key) → Compares (ty_at normals args whole) (λ made. ty_cmp made key) r
  closure_other x m whole key r same differ is = subst (λ w. Compares (ty_at normals args w) (λ made. ty_cmp made key) r) (sym same) (of_one (type.Closure x) (args_at normals args m) (ty_at normals args (type.Closure x m)) (λ made. ty_cmp made key) r (layers.closure_is [] behind x m) (λ made there. is ∙ ap (λ n. nat_cmp n (ty_variant key)) (ap ty_variant same ∙ orders.closure_variant x m ∙ sym (orders.closure_variant x made)) ∙ sym (orders.tys_apart (type.Closure x made) key (λ e. orders.no_closure key differ (sym e ∙ orders.closure_variant x made)))))

  pub ref_same : (x y : Ty) (m n : Mutability) (t r : Ordering) → Compares (ty_at normals args x) (λ made. ty_cmp made y) t → r ≡ ordering_then t (MutabilityOrd.ghosts.cmp m n) → Compares (ty_at normals args (type.Ref x m)) (λ made. ty_cmp made (type.Ref y n)) r
  ref_same x y m n t r compares is = of_one (λ made. type.Ref made m) (ty_at normals args x) (ty_at normals args (type.Ref x m)) (λ made. ty_cmp made (type.Ref y n)) r (layers.ref_is [] behind x m) (λ made there. is ∙ ap (λ o. ordering_then o (MutabilityOrd.ghosts.cmp m n)) (compares made there) ∙ sym (orders.refs made y m n))

  pub ref_other : (x : Ty) (m : Mutability) (whole key : Ty) (r : Ordering) → whole ≡ (type.Ref x m) → ((y : Ty) (n : Mutability) → key ≡ type.Ref y n → ⊥) → r ≡ nat_cmp (ty_variant whole) (ty_variant key) → Compares (ty_at normals args whole) (λ made. ty_cmp made key) r
  ref_other x m whole key r same differ is = subst (λ w. Compares (ty_at normals args w) (λ made. ty_cmp made key) r) (sym same) (of_one (λ made. type.Ref made m) (ty_at normals args x) (ty_at normals args (type.Ref x m)) (λ made. ty_cmp made key) r (layers.ref_is [] behind x m) (λ made there. is ∙ ap (λ n. nat_cmp n (ty_variant key)) (ap ty_variant same ∙ orders.ref_variant x m ∙ sym (orders.ref_variant made m)) ∙ sym (orders.tys_apart (type.Ref made m) key (λ e. orders.no_ref key differ (sym e ∙ orders.ref_variant made m)))))

  pub raw_ptr_same : (x y : Ty) (m n : Mutability) (t r : Ordering) → Compares (ty_at normals args x) (λ made. ty_cmp made y) t → r ≡ ordering_then t (MutabilityOrd.ghosts.cmp m n) → Compares (ty_at normals args (type.RawPtr x m)) (λ made. ty_cmp made (type.RawPtr y n)) r
  raw_ptr_same x y m n t r compares is = of_one (λ made. type.RawPtr made m) (ty_at normals args x) (ty_at normals args (type.RawPtr x m)) (λ made. ty_cmp made (type.RawPtr y n)) r (layers.raw_ptr_is [] behind x m) (λ made there. is ∙ ap (λ o. ordering_then o (MutabilityOrd.ghosts.cmp m n)) (compares made there) ∙ sym (orders.raw_ptrs made y m n))

  pub raw_ptr_other : (x : Ty) (m : Mutability) (whole key : Ty) (r : Ordering) → whole ≡ (type.RawPtr x m) → ((y : Ty) (n : Mutability) → key ≡ type.RawPtr y n → ⊥) → r ≡ nat_cmp (ty_variant whole) (ty_variant key) → Compares (ty_at normals args whole) (λ made. ty_cmp made key) r
  raw_ptr_other x m whole key r same differ is = subst (λ w. Compares (ty_at normals args w) (λ made. ty_cmp made key) r) (sym same) (of_one (λ made. type.RawPtr made m) (ty_at normals args x) (ty_at normals args (type.RawPtr x m)) (λ made. ty_cmp made key) r (layers.raw_ptr_is [] behind x m) (λ made there. is ∙ ap (λ n. nat_cmp n (ty_variant key)) (ap ty_variant same ∙ orders.rawptr_variant x m ∙ sym (orders.rawptr_variant made m)) ∙ sym (orders.tys_apart (type.RawPtr made m) key (λ e. orders.no_rawptr key differ (sym e ∙ orders.rawptr_variant made m)))))

  -- an alias has no instance, where there are no normalized types
  no_normal : (id : AliasId) (own : Option GenericArgs) → option_and_then (normal_type [] id) own ≡ None
  no_normal id None = refl
  no_normal id (Some own) = refl

  pub alias_none : (id : AliasId) (own : GenericArgs) (key : Ty) (r : Ordering) → Compares (ty_at normals args (type.Alias id own)) (λ made. ty_cmp made key) r
  alias_none id own key r = of_none (ty_at normals args (type.Alias id own)) (λ made. ty_cmp made key) r (layers.alias_is [] behind id own ∙ no_normal id (args_at normals args own))

  pub param_found : (param : ParamTy) (made key : Ty) (r : Ordering) → Some made ≡ type_argument (slice_get behind.0 param.index) → r ≡ ty_cmp made key → Compares (ty_at normals args (type.Param param)) (λ found. ty_cmp found key) r
  param_found param made key r is = of_known (ty_at normals args (type.Param param)) made (λ found. ty_cmp found key) r (layers.param_is [] behind param ∙ sym is)

  pub param_none : (param : ParamTy) (key : Ty) (r : Ordering) → None ≡ type_argument (slice_get behind.0 param.index) → Compares (ty_at normals args (type.Param param)) (λ found. ty_cmp found key) r
  param_none param key r is = of_none (ty_at normals args (type.Param param)) (λ found. ty_cmp found key) r (layers.param_is [] behind param ∙ sym is)

  -- generic arguments
  pub type_arg_same : (x y : Ty) (r : Ordering) → Compares (ty_at normals args x) (λ made. ty_cmp made y) r → Compares (arg_at normals args (arg.Ty x)) (λ made. arg_cmp made (arg.Ty y)) r
  type_arg_same x y r compares = of_one arg.Ty (ty_at normals args x) (arg_at normals args (arg.Ty x)) (λ made. arg_cmp made (arg.Ty y)) r (layers.type_arg_is [] behind x) (λ made there. compares made there ∙ sym (orders.type_args made y))

  pub type_arg_other : (x : Ty) (whole key : GenericArg) (r : Ordering) → whole ≡ (arg.Ty x) → ((y : Ty) → key ≡ arg.Ty y → ⊥) → r ≡ nat_cmp (arg_variant whole) (arg_variant key) → Compares (arg_at normals args whole) (λ made. arg_cmp made key) r
  type_arg_other x whole key r same differ is = subst (λ w. Compares (arg_at normals args w) (λ made. arg_cmp made key) r) (sym same) (of_one arg.Ty (ty_at normals args x) (arg_at normals args (arg.Ty x)) (λ made. arg_cmp made key) r (layers.type_arg_is [] behind x) (λ made there. is ∙ ap (λ n. nat_cmp n (arg_variant key)) (ap arg_variant same ∙ orders.type_arg_variant x ∙ sym (orders.type_arg_variant made)) ∙ sym (orders.args_apart (arg.Ty made) key (λ e. orders.no_type_arg key differ (sym e ∙ orders.type_arg_variant made)))))

  pub const_arg_same : (x y : Const) (r : Ordering) → Compares (const_at normals args x) (λ made. const_cmp made y) r → Compares (arg_at normals args (arg.Konst x)) (λ made. arg_cmp made (arg.Konst y)) r
  const_arg_same x y r compares = of_one arg.Konst (const_at normals args x) (arg_at normals args (arg.Konst x)) (λ made. arg_cmp made (arg.Konst y)) r (layers.const_arg_is [] behind x) (λ made there. compares made there ∙ sym (orders.const_args made y))

  pub const_arg_other : (x : Const) (whole key : GenericArg) (r : Ordering) → whole ≡ (arg.Konst x) → ((y : Const) → key ≡ arg.Konst y → ⊥) → r ≡ nat_cmp (arg_variant whole) (arg_variant key) → Compares (arg_at normals args whole) (λ made. arg_cmp made key) r
  const_arg_other x whole key r same differ is = subst (λ w. Compares (arg_at normals args w) (λ made. arg_cmp made key) r) (sym same) (of_one arg.Konst (const_at normals args x) (arg_at normals args (arg.Konst x)) (λ made. arg_cmp made key) r (layers.const_arg_is [] behind x) (λ made there. is ∙ ap (λ n. nat_cmp n (arg_variant key)) (ap arg_variant same ∙ orders.const_arg_variant x ∙ sym (orders.const_arg_variant made)) ∙ sym (orders.args_apart (arg.Konst made) key (λ e. orders.no_const_arg key differ (sym e ∙ orders.const_arg_variant made)))))

  pub args_same : (own key : GenericArgs) (r : Ordering) → Compares (all_there (map (arg_at normals args) own.0)) (λ made. slice_cmp arg_cmp made key.0) r → Compares (args_at normals args own) (λ made. args_cmp made key) r
  args_same own key r compares = of_one (λ (list : List GenericArg). record { 0 = list }) (all_there (map (arg_at normals args) own.0)) (args_at normals args own) (λ made. args_cmp made key) r (layers.args_are [] behind own) (λ made there. compares made there ∙ sym (orders.args_of (record { 0 = made }) key))

  -- constants
  pub value_same : (x y : ValueConst) (r : Ordering) → Compares (value_at normals args x) (λ made. value_cmp made y) r → Compares (const_at normals args (constant.Value x)) (λ made. const_cmp made (constant.Value y)) r
  value_same x y r compares = of_one constant.Value (value_at normals args x) (const_at normals args (constant.Value x)) (λ made. const_cmp made (constant.Value y)) r (layers.value_const_is [] behind x) (λ made there. compares made there ∙ sym (orders.value_consts made y))

  pub value_other : (x : ValueConst) (whole key : Const) (r : Ordering) → whole ≡ (constant.Value x) → ((y : ValueConst) → key ≡ constant.Value y → ⊥) → r ≡ nat_cmp (const_variant whole) (const_variant key) → Compares (const_at normals args whole) (λ made. const_cmp made key) r
  value_other x whole key r same differ is = subst (λ w. Compares (const_at normals args w) (λ made. const_cmp made key) r) (sym same) (of_one constant.Value (value_at normals args x) (const_at normals args (constant.Value x)) (λ made. const_cmp made key) r (layers.value_const_is [] behind x) (λ made there. is ∙ ap (λ n. nat_cmp n (const_variant key)) (ap const_variant same ∙ orders.value_variant x ∙ sym (orders.value_variant made)) ∙ sym (orders.consts_apart (constant.Value made) key (λ e. orders.no_value key differ (sym e ∙ orders.value_variant made)))))

  pub unevaluated_same : (x y : UnevaluatedConst) (r : Ordering) → Compares (unevaluated_at normals args x) (λ made. unevaluated_cmp made y) r → Compares (const_at normals args (constant.Unevaluated x)) (λ made. const_cmp made (constant.Unevaluated y)) r
  unevaluated_same x y r compares = of_one constant.Unevaluated (unevaluated_at normals args x) (const_at normals args (constant.Unevaluated x)) (λ made. const_cmp made (constant.Unevaluated y)) r (layers.unevaluated_const_is [] behind x) (λ made there. compares made there ∙ sym (orders.unevaluated_consts made y))

  pub unevaluated_other : (x : UnevaluatedConst) (whole key : Const) (r : Ordering) → whole ≡ (constant.Unevaluated x) → ((y : UnevaluatedConst) → key ≡ constant.Unevaluated y → ⊥) → r ≡ nat_cmp (const_variant whole) (const_variant key) → Compares (const_at normals args whole) (λ made. const_cmp made key) r
  unevaluated_other x whole key r same differ is = subst (λ w. Compares (const_at normals args w) (λ made. const_cmp made key) r) (sym same) (of_one constant.Unevaluated (unevaluated_at normals args x) (const_at normals args (constant.Unevaluated x)) (λ made. const_cmp made key) r (layers.unevaluated_const_is [] behind x) (λ made there. is ∙ ap (λ n. nat_cmp n (const_variant key)) (ap const_variant same ∙ orders.unevaluated_variant x ∙ sym (orders.unevaluated_variant made)) ∙ sym (orders.consts_apart (constant.Unevaluated made) key (λ e. orders.no_unevaluated key differ (sym e ∙ orders.unevaluated_variant made)))))

  pub const_param_found : (param : ParamConst) (made key : Const) (r : Ordering) → Some made ≡ const_argument (slice_get behind.0 param.index) → r ≡ const_cmp made key → Compares (const_at normals args (constant.Param param)) (λ found. const_cmp found key) r
  const_param_found param made key r is = of_known (const_at normals args (constant.Param param)) made (λ found. const_cmp found key) r (layers.const_param_is [] behind param ∙ sym is)

  pub const_param_none : (param : ParamConst) (key : Const) (r : Ordering) → None ≡ const_argument (slice_get behind.0 param.index) → Compares (const_at normals args (constant.Param param)) (λ found. const_cmp found key) r
  const_param_none param key r is = of_none (const_at normals args (constant.Param param)) (λ found. const_cmp found key) r (layers.const_param_is [] behind param ∙ sym is)

  -- memory maps
  pub complex_same : (x y : ComplexMemoryMap) (r : Ordering) → Compares (complex_at normals args x) (λ made. complex_cmp made y) r → Compares (map_at normals args (memory.Complex x)) (λ made. map_cmp made (memory.Complex y)) r
  complex_same x y r compares = of_one memory.Complex (complex_at normals args x) (map_at normals args (memory.Complex x)) (λ made. map_cmp made (memory.Complex y)) r (layers.complex_map_is [] behind x) (λ made there. compares made there ∙ sym (orders.complex_maps made y))

  pub complex_other : (x : ComplexMemoryMap) (whole key : MemoryMap) (r : Ordering) → whole ≡ (memory.Complex x) → ((y : ComplexMemoryMap) → key ≡ memory.Complex y → ⊥) → r ≡ nat_cmp (map_variant whole) (map_variant key) → Compares (map_at normals args whole) (λ made. map_cmp made key) r
  complex_other x whole key r same differ is = subst (λ w. Compares (map_at normals args w) (λ made. map_cmp made key) r) (sym same) (of_one memory.Complex (complex_at normals args x) (map_at normals args (memory.Complex x)) (λ made. map_cmp made key) r (layers.complex_map_is [] behind x) (λ made there. is ∙ ap (λ n. nat_cmp n (map_variant key)) (ap map_variant same ∙ orders.complex_variant x ∙ sym (orders.complex_variant made)) ∙ sym (orders.maps_apart (memory.Complex made) key (λ e. orders.no_complex key differ (sym e ∙ orders.complex_variant made)))))

  pub array_after : (x y : Ty) (m n : Const) (t r : Ordering) → Compares (ty_at normals args x) (λ made. ty_cmp made y) t → Compares (const_at normals args m) (λ made. ordering_then t (const_cmp made n)) r → Compares (ty_at normals args (type.Array x m)) (λ made. ty_cmp made (type.Array y n)) r
  array_after x y m n t r first rest = of_two type.Array (ty_at normals args x) (const_at normals args m) (ty_at normals args (type.Array x m)) (λ made. ty_cmp made (type.Array y n)) r (layers.array_is [] behind x m) (λ made other at there. rest other there ∙ ap (λ o. ordering_then o (const_cmp other n)) (first made at) ∙ sym (orders.arrays made y other n))

  pub fn_ptr_after : (x y : List Ty) (m n : Ty) (t r : Ordering) → Compares (tys_at x) (λ made. slice_cmp ty_cmp made y) t → Compares (ty_at normals args m) (λ made. ordering_then t (ty_cmp made n)) r → Compares (ty_at normals args (type.FnPtr x m)) (λ made. ty_cmp made (type.FnPtr y n)) r
  fn_ptr_after x y m n t r first rest = of_two type.FnPtr (tys_at x) (ty_at normals args m) (ty_at normals args (type.FnPtr x m)) (λ made. ty_cmp made (type.FnPtr y n)) r (layers.fn_ptr_is [] behind x m) (λ made other at there. rest other there ∙ ap (λ o. ordering_then o (ty_cmp other n)) (first made at) ∙ sym (orders.fn_ptrs made y other n))

  pub adt_after : (x y : AdtId) (m n : GenericArgs) (t r : Ordering) → t ≡ AdtIdOrd.ghosts.cmp x y → Compares (args_at normals args m) (λ made. ordering_then t (args_cmp made n)) r → Compares (ty_at normals args (type.Adt x m)) (λ made. ty_cmp made (type.Adt y n)) r
  adt_after x y m n t r is rest = of_one (type.Adt x) (args_at normals args m) (ty_at normals args (type.Adt x m)) (λ made. ty_cmp made (type.Adt y n)) r (layers.adt_is [] behind x m) (λ made there. rest made there ∙ ap (λ o. ordering_then o (args_cmp made n)) is ∙ sym (orders.adts x y made n))

  pub fn_def_after : (x y : CallableDefId) (m n : GenericArgs) (t r : Ordering) → t ≡ CallableDefIdOrd.ghosts.cmp x y → Compares (args_at normals args m) (λ made. ordering_then t (args_cmp made n)) r → Compares (ty_at normals args (type.FnDef x m)) (λ made. ty_cmp made (type.FnDef y n)) r
  fn_def_after x y m n t r is rest = of_one (type.FnDef x) (args_at normals args m) (ty_at normals args (type.FnDef x m)) (λ made. ty_cmp made (type.FnDef y n)) r (layers.fn_def_is [] behind x m) (λ made there. rest made there ∙ ap (λ o. ordering_then o (args_cmp made n)) is ∙ sym (orders.fn_defs x y made n))

  pub closure_after : (x y : InternedClosureId) (m n : GenericArgs) (t r : Ordering) → t ≡ InternedClosureIdOrd.ghosts.cmp x y → Compares (args_at normals args m) (λ made. ordering_then t (args_cmp made n)) r → Compares (ty_at normals args (type.Closure x m)) (λ made. ty_cmp made (type.Closure y n)) r
  closure_after x y m n t r is rest = of_one (type.Closure x) (args_at normals args m) (ty_at normals args (type.Closure x m)) (λ made. ty_cmp made (type.Closure y n)) r (layers.closure_is [] behind x m) (λ made there. rest made there ∙ ap (λ o. ordering_then o (args_cmp made n)) is ∙ sym (orders.closures x y made n))

  pub bound_after : (x y : TraitRef) (t r : Ordering) → t ≡ TraitIdOrd.ghosts.cmp x.def y.def → Compares (args_at normals args x.args) (λ made. ordering_then t (args_cmp made y.args)) r → Compares (bound_at normals args x) (λ made. bound_cmp made y) r
  bound_after x y t r is rest = of_one (λ (own : GenericArgs). let made : TraitRef = record { def = x.def; args = own } in made) (args_at normals args x.args) (bound_at normals args x) (λ made. bound_cmp made y) r (layers.bound_is [] behind x) (λ made there. rest made there ∙ ap (λ o. ordering_then o (args_cmp made y.args)) is ∙ sym (orders.bounds_of ((λ (own : GenericArgs). let made : TraitRef = record { def = x.def; args = own } in made) made) y))

  pub unevaluated_after : (x y : UnevaluatedConst) (t r : Ordering) → t ≡ GeneralConstIdOrd.ghosts.cmp x.def y.def → Compares (args_at normals args x.args) (λ made. ordering_then t (args_cmp made y.args)) r → Compares (unevaluated_at normals args x) (λ made. unevaluated_cmp made y) r
  unevaluated_after x y t r is rest = of_one (λ (own : GenericArgs). let made : UnevaluatedConst = record { def = x.def; args = own } in made) (args_at normals args x.args) (unevaluated_at normals args x) (λ made. unevaluated_cmp made y) r (layers.unevaluated_is [] behind x) (λ made there. rest made there ∙ ap (λ o. ordering_then o (args_cmp made y.args)) is ∙ sym (orders.unevaluated_of ((λ (own : GenericArgs). let made : UnevaluatedConst = record { def = x.def; args = own } in made) made) y))

  pub table_after : (x y : ComplexMemoryMap) (t r : Ordering) → t ≡ orders.entries_cmp x.memory y.memory → Compares (tys_at x.vtable) (λ made. ordering_then t (slice_cmp ty_cmp made y.vtable)) r → Compares (complex_at normals args x) (λ made. complex_cmp made y) r
  table_after x y t r is rest = of_one (λ (tables : List Ty). let made : ComplexMemoryMap = record { memory = x.memory; vtable = tables } in made) (tys_at x.vtable) (complex_at normals args x) (λ made. complex_cmp made y) r (layers.complex_is [] behind x) (λ made there. rest made there ∙ ap (λ o. ordering_then o (slice_cmp ty_cmp made y.vtable)) is ∙ sym (orders.complex_of ((λ (tables : List Ty). let made : ComplexMemoryMap = record { memory = x.memory; vtable = tables } in made) made) y))

  pub value_differs : (x y : ValueConst) (r : Ordering) → Compares (ty_at normals args x.ty) (λ made. ty_cmp made y.ty) r → is_ne r ≡ true → Compares (value_at normals args x) (λ made. value_cmp made y) r
  value_differs x y r = two_differ (λ (ty : Ty) (refers : MemoryMap). let made : ValueConst = record { ty = ty; memory = x.memory; memory_map = refers } in made) (ty_at normals args x.ty) (map_at normals args x.memory_map) (value_at normals args x) (λ made. value_cmp made y) (λ made. ty_cmp made y.ty) (λ made. ordering_then (BytesOrd.ghosts.cmp x.memory y.memory) (map_cmp made y.memory_map)) (layers.value_is [] behind x) (λ made other. orders.values_of ((λ (ty : Ty) (refers : MemoryMap). let made : ValueConst = record { ty = ty; memory = x.memory; memory_map = refers } in made) made other) y) r

  pub value_after : (x y : ValueConst) (t s r : Ordering) → Compares (ty_at normals args x.ty) (λ made. ty_cmp made y.ty) t → is_ne t ≡ false → s ≡ BytesOrd.ghosts.cmp x.memory y.memory → Compares (map_at normals args x.memory_map) (λ made. ordering_then s (map_cmp made y.memory_map)) r → Compares (value_at normals args x) (λ made. value_cmp made y) r
  value_after x y t s r first ties is after = two_tie (λ (ty : Ty) (refers : MemoryMap). let made : ValueConst = record { ty = ty; memory = x.memory; memory_map = refers } in made) (ty_at normals args x.ty) (map_at normals args x.memory_map) (value_at normals args x) (λ made. value_cmp made y) (λ made. ty_cmp made y.ty) (λ made. ordering_then (BytesOrd.ghosts.cmp x.memory y.memory) (map_cmp made y.memory_map)) (layers.value_is [] behind x) (λ made other. orders.values_of ((λ (ty : Ty) (refers : MemoryMap). let made : ValueConst = record { ty = ty; memory = x.memory; memory_map = refers } in made) made other) y) t r first ties (λ made there. after made there ∙ ap (λ o. ordering_then o (map_cmp made y.memory_map)) is)

  -- what holds no parts that could be missing
  pub leaf : (ty known key : Ty) (r : Ordering) → ty ≡ known → ty_at normals args known ≡ Some known → r ≡ ty_cmp ty key → Compares (ty_at normals args ty) (λ made. ty_cmp made key) r
  leaf ty known key r same is = of_known (ty_at normals args ty) ty (λ made. ty_cmp made key) r (subst (λ w. ty_at normals args w ≡ Some w) (sym same) is)

  pub const_leaf : (konst known key : Const) (r : Ordering) → konst ≡ known → const_at normals args known ≡ Some known → r ≡ const_cmp konst key → Compares (const_at normals args konst) (λ made. const_cmp made key) r
  const_leaf konst known key r same is = of_known (const_at normals args konst) konst (λ made. const_cmp made key) r (subst (λ w. const_at normals args w ≡ Some w) (sym same) is)

  pub map_leaf : (held known key : MemoryMap) (r : Ordering) → held ≡ known → map_at normals args known ≡ Some known → r ≡ map_cmp held key → Compares (map_at normals args held) (λ made. map_cmp made key) r
  map_leaf held known key r same is = of_known (map_at normals args held) held (λ made. map_cmp made key) r (subst (λ w. map_at normals args w ≡ Some w) (sym same) is)

-- the earlier parts decide, or are equal
pub after_differs : {A : Type 0} (found : Option A) (cmp : A → Ordering) (first : Ordering) → is_ne first ≡ true → Compares found (λ made. ordering_then first (cmp made)) first
after_differs found cmp first differs made there = sym (then_differs first (cmp made) differs)

pub after_ties : {A : Type 0} (found : Option A) (cmp : A → Ordering) (first r : Ordering) → is_ne first ≡ false → Compares found cmp r → Compares found (λ made. ordering_then first (cmp made)) r
after_ties found cmp first r ties rest made there = rest made there ∙ sym (then_ties first (cmp made) ties)
