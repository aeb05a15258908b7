use Rattle.std.proofs.Common.{[], Equal, map, sym, ◌∙◌, ap, subst}
use Rattle.std.specs.Cmp.Lexicographic.{slice_cmp}
use Rattle.std.specs.Ordering.{ordering_then}
use Rattle.types.specs.Orders.{args_cmp, ty_cmp}
use Rattle.types.specs.declared.ty.Const.TheVariants as constant
use Rattle.types.specs.declared.ty.GenericArg.TheVariants as arg
use Rattle.types.specs.declared.ty.MemoryMap.TheVariants as memory
use Rattle.types.specs.declared.ty.Ty.TheVariants as type
use Rattle.check_instances.specs.Comparisons.{Compares, arg_at, arg_cmp, args_at, bound_at, bound_cmp, const_at, const_cmp, map_at, map_cmp, ty_at, with_normals}
use Rattle.check_instances.specs.Instances.{all_there}
use Rattle.check_instances.proofs.Cases.{adt_after, adt_other, after_differs, after_ties, alias_none, args_same, array_after, array_other, bound_after, carry, closure_after, closure_other, complex_other, complex_same, const_arg_other, const_arg_same, const_leaf, const_param_found, const_param_none, dynamic_other, dynamic_same, fn_def_after, fn_def_other, fn_ptr_after, fn_ptr_other, leaf, map_leaf, param_found, param_none, raw_ptr_other, raw_ptr_same, ref_other, ref_same, slice_other, slice_same, table_after, tuple_other, tuple_same, type_arg_other, type_arg_same, unevaluated_after, unevaluated_other, unevaluated_same, value_after, value_differs, value_other, value_same}
use Rattle.check_instances.proofs.Following.{differs_here, ends_before, ends_with, follows_more, goes_on, whole_list}
use Rattle.check_instances.proofs.Layers as layers
use Rattle.check_instances.proofs.comparing.+comparisons.Goals as goal

pub compare_ty-returns-in-Bool : goal.compare_ty-returns-in-Bool
compare_ty-returns-in-Bool t c = leaf c.args.normals.now c.args.args.now c.args.ty.now type.Bool c.args.key.now _ c.in-Bool.is (layers.bool_is [] (with_normals c.args.normals.now c.args.args.now)) c.cmp.ensures

pub compare_ty-returns-in-Char : goal.compare_ty-returns-in-Char
compare_ty-returns-in-Char t c = leaf c.args.normals.now c.args.args.now c.args.ty.now type.Char c.args.key.now _ c.in-Char.is (layers.char_is [] (with_normals c.args.normals.now c.args.args.now)) c.cmp-in-Char.ensures

pub compare_ty-returns-in-Str : goal.compare_ty-returns-in-Str
compare_ty-returns-in-Str t c = leaf c.args.normals.now c.args.args.now c.args.ty.now type.Str c.args.key.now _ c.in-Str.is (layers.str_is [] (with_normals c.args.normals.now c.args.args.now)) c.cmp-in-Str.ensures

pub compare_ty-returns-in-Never : goal.compare_ty-returns-in-Never
compare_ty-returns-in-Never t c = leaf c.args.normals.now c.args.args.now c.args.ty.now type.Never c.args.key.now _ c.in-Never.is (layers.never_is [] (with_normals c.args.normals.now c.args.args.now)) c.cmp-in-Never.ensures

pub compare_ty-returns-in-Error : goal.compare_ty-returns-in-Error
compare_ty-returns-in-Error t c = leaf c.args.normals.now c.args.args.now c.args.ty.now type.Error c.args.key.now _ c.in-Error.is (layers.error_is [] (with_normals c.args.normals.now c.args.args.now)) c.cmp-in-Error.ensures

pub compare_ty-returns-in-Int : goal.compare_ty-returns-in-Int
compare_ty-returns-in-Int t c = leaf c.args.normals.now c.args.args.now c.args.ty.now (type.Int c.in-Int.field-0) c.args.key.now _ c.in-Int.is (layers.int_is [] (with_normals c.args.normals.now c.args.args.now) c.in-Int.field-0) c.cmp-in-Int.ensures

pub compare_ty-returns-in-Uint : goal.compare_ty-returns-in-Uint
compare_ty-returns-in-Uint t c = leaf c.args.normals.now c.args.args.now c.args.ty.now (type.Uint c.in-Uint.field-0) c.args.key.now _ c.in-Uint.is (layers.uint_is [] (with_normals c.args.normals.now c.args.args.now) c.in-Uint.field-0) c.cmp-in-Uint.ensures

pub compare_ty-returns-in-Float : goal.compare_ty-returns-in-Float
compare_ty-returns-in-Float t c = leaf c.args.normals.now c.args.args.now c.args.ty.now (type.Float c.in-Float.field-0) c.args.key.now _ c.in-Float.is (layers.float_is [] (with_normals c.args.normals.now c.args.args.now) c.in-Float.field-0) c.cmp-in-Float.ensures

pub compare_ty-returns-in-Tuple-key : goal.compare_ty-returns-in-Tuple-key
compare_ty-returns-in-Tuple-key t c = carry (ty_at c.args.normals.now c.args.args.now) ty_cmp c.args.ty.now (type.Tuple c.in-Tuple.fields) c.args.key.now (type.Tuple c.in-Tuple-key.keys) _ c.in-Tuple.is c.in-Tuple-key.is (tuple_same c.args.normals.now c.args.args.now c.in-Tuple.fields c.in-Tuple-key.keys _ c.compare_tys.ensures)

pub compare_ty-returns-in-Slice-key : goal.compare_ty-returns-in-Slice-key
compare_ty-returns-in-Slice-key t c = carry (ty_at c.args.normals.now c.args.args.now) ty_cmp c.args.ty.now (type.Slice c.in-Slice.element) c.args.key.now (type.Slice c.in-Slice-key.key) _ c.in-Slice.is c.in-Slice-key.is (slice_same c.args.normals.now c.args.args.now c.in-Slice.element c.in-Slice-key.key _ (carry (ty_at c.args.normals.now c.args.args.now) (ty_cmp) c.in-Slice.element c.as_ref-in-Slice-key.result.now c.in-Slice-key.key c.as_ref-in-Slice-key-2.result.now _ (sym c.as_ref-in-Slice-key.ensures) (sym c.as_ref-in-Slice-key-2.ensures) c.compare_ty.ensures))

pub compare_ty-returns-in-Dynamic-key : goal.compare_ty-returns-in-Dynamic-key
compare_ty-returns-in-Dynamic-key t c = carry (ty_at c.args.normals.now c.args.args.now) ty_cmp c.args.ty.now (type.Dynamic c.in-Dynamic.bounds) c.args.key.now (type.Dynamic c.in-Dynamic-key.keys) _ c.in-Dynamic.is c.in-Dynamic-key.is (dynamic_same c.args.normals.now c.args.args.now c.in-Dynamic.bounds c.in-Dynamic-key.keys _ c.compare_bounds.ensures)

pub compare_ty-returns-in-Array-key : goal.compare_ty-returns-in-Array-key
compare_ty-returns-in-Array-key t c = carry (ty_at c.args.normals.now c.args.args.now) ty_cmp c.args.ty.now (type.Array c.in-Array.element c.in-Array.len) c.args.key.now (type.Array c.in-Array-key.key c.in-Array-key.key_len) _ c.in-Array.is c.in-Array-key.is (array_after c.args.normals.now c.args.args.now c.in-Array.element c.in-Array-key.key c.in-Array.len c.in-Array-key.key_len _ _ (carry (ty_at c.args.normals.now c.args.args.now) (ty_cmp) c.in-Array.element c.as_ref.result.now c.in-Array-key.key c.as_ref-in-Array-key.result.now _ (sym c.as_ref.ensures) (sym c.as_ref-in-Array-key.ensures) c.compare_ty-first.ensures) (carry (const_at c.args.normals.now c.args.args.now) (λ a b. ordering_then c.compare_ty-first.result (const_cmp a b)) c.in-Array.len c.as_ref-in-Array-key-2.result.now c.in-Array-key.key_len c.as_ref-in-Array-key-3.result.now _ (sym c.as_ref-in-Array-key-2.ensures) (sym c.as_ref-in-Array-key-3.ensures) c.compare_const_after.ensures))

pub compare_ty-returns-in-FnPtr-key : goal.compare_ty-returns-in-FnPtr-key
compare_ty-returns-in-FnPtr-key t c = carry (ty_at c.args.normals.now c.args.args.now) ty_cmp c.args.ty.now (type.FnPtr c.in-FnPtr.params c.in-FnPtr.ret) c.args.key.now (type.FnPtr c.in-FnPtr-key.keys c.in-FnPtr-key.key_ret) _ c.in-FnPtr.is c.in-FnPtr-key.is (fn_ptr_after c.args.normals.now c.args.args.now c.in-FnPtr.params c.in-FnPtr-key.keys c.in-FnPtr.ret c.in-FnPtr-key.key_ret _ _ c.compare_tys-first.ensures (carry (ty_at c.args.normals.now c.args.args.now) (λ a b. ordering_then c.compare_tys-first.result (ty_cmp a b)) c.in-FnPtr.ret c.as_ref-in-FnPtr-key.result.now c.in-FnPtr-key.key_ret c.as_ref-in-FnPtr-key-2.result.now _ (sym c.as_ref-in-FnPtr-key.ensures) (sym c.as_ref-in-FnPtr-key-2.ensures) c.compare_ty_after.ensures))

pub compare_ty-returns-in-Adt-key : goal.compare_ty-returns-in-Adt-key
compare_ty-returns-in-Adt-key t c = carry (ty_at c.args.normals.now c.args.args.now) ty_cmp c.args.ty.now (type.Adt c.in-Adt.id c.in-Adt.own) c.args.key.now (type.Adt c.in-Adt-key.key_id c.in-Adt-key.key) _ c.in-Adt.is c.in-Adt-key.is (adt_after c.args.normals.now c.args.args.now c.in-Adt.id c.in-Adt-key.key_id c.in-Adt.own c.in-Adt-key.key _ _ c.cmp-in-Adt-key.ensures c.compare_args_after.ensures)

pub compare_ty-returns-in-FnDef-key : goal.compare_ty-returns-in-FnDef-key
compare_ty-returns-in-FnDef-key t c = carry (ty_at c.args.normals.now c.args.args.now) ty_cmp c.args.ty.now (type.FnDef c.in-FnDef.id c.in-FnDef.own) c.args.key.now (type.FnDef c.in-FnDef-key.key_id c.in-FnDef-key.key) _ c.in-FnDef.is c.in-FnDef-key.is (fn_def_after c.args.normals.now c.args.args.now c.in-FnDef.id c.in-FnDef-key.key_id c.in-FnDef.own c.in-FnDef-key.key _ _ c.cmp-in-FnDef-key.ensures c.compare_args_after-in-FnDef-key.ensures)

pub compare_ty-returns-in-Closure-key : goal.compare_ty-returns-in-Closure-key
compare_ty-returns-in-Closure-key t c = carry (ty_at c.args.normals.now c.args.args.now) ty_cmp c.args.ty.now (type.Closure c.in-Closure.id c.in-Closure.own) c.args.key.now (type.Closure c.in-Closure-key.key_id c.in-Closure-key.key) _ c.in-Closure.is c.in-Closure-key.is (closure_after c.args.normals.now c.args.args.now c.in-Closure.id c.in-Closure-key.key_id c.in-Closure.own c.in-Closure-key.key _ _ c.cmp-in-Closure-key.ensures c.compare_args_after-in-Closure-key.ensures)

pub compare_ty-returns-in-Ref-key : goal.compare_ty-returns-in-Ref-key
compare_ty-returns-in-Ref-key t c = carry (ty_at c.args.normals.now c.args.args.now) ty_cmp c.args.ty.now (type.Ref c.in-Ref.to c.in-Ref.mutability) c.args.key.now (type.Ref c.in-Ref-key.key c.in-Ref-key.key_mutability) _ c.in-Ref.is c.in-Ref-key.is (ref_same c.args.normals.now c.args.args.now c.in-Ref.to c.in-Ref-key.key c.in-Ref.mutability c.in-Ref-key.key_mutability _ _ (carry (ty_at c.args.normals.now c.args.args.now) (ty_cmp) c.in-Ref.to c.as_ref-in-Ref-key.result.now c.in-Ref-key.key c.as_ref-in-Ref-key-2.result.now _ (sym c.as_ref-in-Ref-key.ensures) (sym c.as_ref-in-Ref-key-2.ensures) c.compare_ty-first-in-Ref-key.ensures) (c.then.ensures ∙ ap (ordering_then c.compare_ty-first-in-Ref-key.result) c.cmp-in-Ref-key.ensures))

pub compare_ty-returns-in-RawPtr-key : goal.compare_ty-returns-in-RawPtr-key
compare_ty-returns-in-RawPtr-key t c = carry (ty_at c.args.normals.now c.args.args.now) ty_cmp c.args.ty.now (type.RawPtr c.in-RawPtr.to c.in-RawPtr.mutability) c.args.key.now (type.RawPtr c.in-RawPtr-key.key c.in-RawPtr-key.key_mutability) _ c.in-RawPtr.is c.in-RawPtr-key.is (raw_ptr_same c.args.normals.now c.args.args.now c.in-RawPtr.to c.in-RawPtr-key.key c.in-RawPtr.mutability c.in-RawPtr-key.key_mutability _ _ (carry (ty_at c.args.normals.now c.args.args.now) (ty_cmp) c.in-RawPtr.to c.as_ref-in-RawPtr-key.result.now c.in-RawPtr-key.key c.as_ref-in-RawPtr-key-2.result.now _ (sym c.as_ref-in-RawPtr-key.ensures) (sym c.as_ref-in-RawPtr-key-2.ensures) c.compare_ty-first-in-RawPtr-key.ensures) (c.then-in-RawPtr-key.ensures ∙ ap (ordering_then c.compare_ty-first-in-RawPtr-key.result) c.cmp-in-RawPtr-key.ensures))

pub compare_ty-returns-in_default : goal.compare_ty-returns-in_default
compare_ty-returns-in_default t c = tuple_other c.args.normals.now c.args.args.now c.in-Tuple.fields c.args.ty.now c.args.key.now _ c.in-Tuple.is c.in_default.not-Tuple c.ty_variants.ensures

pub compare_ty-returns-in_default-key : goal.compare_ty-returns-in_default-key
compare_ty-returns-in_default-key t c = array_other c.args.normals.now c.args.args.now c.in-Array.element c.in-Array.len c.args.ty.now c.args.key.now _ c.in-Array.is c.in_default-key.not-Array c.ty_variants-in_default-key.ensures

pub compare_ty-returns-in_default-key-2 : goal.compare_ty-returns-in_default-key-2
compare_ty-returns-in_default-key-2 t c = slice_other c.args.normals.now c.args.args.now c.in-Slice.element c.args.ty.now c.args.key.now _ c.in-Slice.is c.in_default-key-2.not-Slice c.ty_variants-in_default-key-2.ensures

pub compare_ty-returns-in_default-key-3 : goal.compare_ty-returns-in_default-key-3
compare_ty-returns-in_default-key-3 t c = ref_other c.args.normals.now c.args.args.now c.in-Ref.to c.in-Ref.mutability c.args.ty.now c.args.key.now _ c.in-Ref.is c.in_default-key-3.not-Ref c.ty_variants-in_default-key-3.ensures

pub compare_ty-returns-in_default-key-4 : goal.compare_ty-returns-in_default-key-4
compare_ty-returns-in_default-key-4 t c = raw_ptr_other c.args.normals.now c.args.args.now c.in-RawPtr.to c.in-RawPtr.mutability c.args.ty.now c.args.key.now _ c.in-RawPtr.is c.in_default-key-4.not-RawPtr c.ty_variants-in_default-key-4.ensures

pub compare_ty-returns-in_default-key-5 : goal.compare_ty-returns-in_default-key-5
compare_ty-returns-in_default-key-5 t c = adt_other c.args.normals.now c.args.args.now c.in-Adt.id c.in-Adt.own c.args.ty.now c.args.key.now _ c.in-Adt.is c.in_default-key-5.not-Adt c.ty_variants-in_default-key-5.ensures

pub compare_ty-returns-in_default-key-6 : goal.compare_ty-returns-in_default-key-6
compare_ty-returns-in_default-key-6 t c = fn_def_other c.args.normals.now c.args.args.now c.in-FnDef.id c.in-FnDef.own c.args.ty.now c.args.key.now _ c.in-FnDef.is c.in_default-key-6.not-FnDef c.ty_variants-in_default-key-6.ensures

pub compare_ty-returns-in_default-key-7 : goal.compare_ty-returns-in_default-key-7
compare_ty-returns-in_default-key-7 t c = fn_ptr_other c.args.normals.now c.args.args.now c.in-FnPtr.params c.in-FnPtr.ret c.args.ty.now c.args.key.now _ c.in-FnPtr.is c.in_default-key-7.not-FnPtr c.ty_variants-in_default-key-7.ensures

pub compare_ty-returns-in_default-key-8 : goal.compare_ty-returns-in_default-key-8
compare_ty-returns-in_default-key-8 t c = closure_other c.args.normals.now c.args.args.now c.in-Closure.id c.in-Closure.own c.args.ty.now c.args.key.now _ c.in-Closure.is c.in_default-key-8.not-Closure c.ty_variants-in_default-key-8.ensures

pub compare_ty-returns-in_default-key-9 : goal.compare_ty-returns-in_default-key-9
compare_ty-returns-in_default-key-9 t c = dynamic_other c.args.normals.now c.args.args.now c.in-Dynamic.bounds c.args.ty.now c.args.key.now _ c.in-Dynamic.is c.in_default-key-9.not-Dynamic c.ty_variants-in_default-key-9.ensures

pub compare_ty-returns-in-Alias : goal.compare_ty-returns-in-Alias
compare_ty-returns-in-Alias t c = subst (λ w. Compares (ty_at c.args.normals.now c.args.args.now w) (λ made. ty_cmp made c.args.key.now) Equal) (sym c.in-Alias.is) (alias_none c.args.normals.now c.args.args.now c.in-Alias.field-0 c.in-Alias.field-1 c.args.key.now Equal)

pub compare_ty-returns-in-Some : goal.compare_ty-returns-in-Some
compare_ty-returns-in-Some t c = subst (λ w. Compares (ty_at c.args.normals.now c.args.args.now w) (λ made. ty_cmp made c.args.key.now) c.cmp-in-Some.result) (sym c.in-Param.is) (param_found c.args.normals.now c.args.args.now c.in-Param.param c.in-Some.made.now c.args.key.now c.cmp-in-Some.result c.in-Some.ensures c.cmp-in-Some.ensures)

pub compare_ty-returns-in-None : goal.compare_ty-returns-in-None
compare_ty-returns-in-None t c = subst (λ w. Compares (ty_at c.args.normals.now c.args.args.now w) (λ made. ty_cmp made c.args.key.now) Equal) (sym c.in-Param.is) (param_none c.args.normals.now c.args.args.now c.in-Param.param c.args.key.now Equal c.in-None.ensures)

pub compare_tys-returns-then-i-others : goal.compare_tys-returns-then-i-others
compare_tys-returns-then-i-others t c = whole_list (ty_at c.args.normals.now c.args.args.now) ty_cmp c.args.tys.now c.as_slice-items.result.now c.args.keys.now c.as_slice-others.result.now _ c.as_slice-items.ensures c.as_slice-others.ensures (goes_on (ty_at c.args.normals.now c.args.args.now) ty_cmp c.as_slice-items.result.now c.as_slice-others.result.now c.loop-i.i c.index-items-i.result c.loop-i-test.true c.if-i-others.true c.loop-i.invariant)

pub compare_tys-returns-then-is_ne : goal.compare_tys-returns-then-is_ne
compare_tys-returns-then-is_ne t c = whole_list (ty_at c.args.normals.now c.args.args.now) ty_cmp c.args.tys.now c.as_slice-items.result.now c.args.keys.now c.as_slice-others.result.now _ c.as_slice-items.ensures c.as_slice-others.ensures (differs_here (ty_at c.args.normals.now c.args.args.now) ty_cmp c.as_slice-items.result.now c.as_slice-others.result.now c.loop-i.i c.index-items-i.result c.index-items-i.result c.index-others-i.result c.index-others-i.result c.compare_ty-first.result c.loop-i-test.true c.index-items-i.is c.if-i-others.false c.index-others-i.is c.compare_ty-first.ensures (sym c.is_ne.ensures ∙ c.if-is_ne.true) c.loop-i.invariant)

pub compare_tys-loop-i-preserved : goal.compare_tys-loop-i-preserved
compare_tys-loop-i-preserved t c = follows_more (ty_at c.args.normals.now c.args.args.now) ty_cmp c.as_slice-items.result.now c.as_slice-others.result.now c.loop-i.i c.index-items-i.result c.index-items-i.result c.index-others-i.result c.index-others-i.result c.compare_ty-first.result c.loop-i-test.true c.index-items-i.is c.if-i-others.false c.index-others-i.is c.compare_ty-first.ensures (sym c.is_ne.ensures ∙ c.if-is_ne.false) c.loop-i.invariant

pub compare_tys-returns-then-items-others : goal.compare_tys-returns-then-items-others
compare_tys-returns-then-items-others t c = whole_list (ty_at c.args.normals.now c.args.args.now) ty_cmp c.args.tys.now c.as_slice-items.result.now c.args.keys.now c.as_slice-others.result.now _ c.as_slice-items.ensures c.as_slice-others.ensures (ends_before (ty_at c.args.normals.now c.args.args.now) ty_cmp c.as_slice-items.result.now c.as_slice-others.result.now c.loop-i.i c.loop-i-test.false c.if-items-others.true c.loop-i.invariant)

pub compare_tys-returns : goal.compare_tys-returns
compare_tys-returns t c = whole_list (ty_at c.args.normals.now c.args.args.now) ty_cmp c.args.tys.now c.as_slice-items.result.now c.args.keys.now c.as_slice-others.result.now _ c.as_slice-items.ensures c.as_slice-others.ensures (ends_with (ty_at c.args.normals.now c.args.args.now) ty_cmp c.as_slice-items.result.now c.as_slice-others.result.now c.loop-i.i c.loop-i-test.false c.if-items-others.false c.loop-i.invariant)

pub compare_bounds-returns-then-i-others : goal.compare_bounds-returns-then-i-others
compare_bounds-returns-then-i-others t c = whole_list (bound_at c.args.normals.now c.args.args.now) bound_cmp c.args.bounds.now c.as_slice-items.result.now c.args.keys.now c.as_slice-others.result.now _ c.as_slice-items.ensures c.as_slice-others.ensures (goes_on (bound_at c.args.normals.now c.args.args.now) bound_cmp c.as_slice-items.result.now c.as_slice-others.result.now c.loop-i.i c.index-items-i.result c.loop-i-test.true c.if-i-others.true c.loop-i.invariant)

pub compare_bounds-returns-then-is_ne : goal.compare_bounds-returns-then-is_ne
compare_bounds-returns-then-is_ne t c = whole_list (bound_at c.args.normals.now c.args.args.now) bound_cmp c.args.bounds.now c.as_slice-items.result.now c.args.keys.now c.as_slice-others.result.now _ c.as_slice-items.ensures c.as_slice-others.ensures (differs_here (bound_at c.args.normals.now c.args.args.now) bound_cmp c.as_slice-items.result.now c.as_slice-others.result.now c.loop-i.i c.index-items-i.result c.index-items-i.result c.index-others-i.result c.index-others-i.result c.compare_bound-first.result c.loop-i-test.true c.index-items-i.is c.if-i-others.false c.index-others-i.is c.compare_bound-first.ensures (sym c.is_ne.ensures ∙ c.if-is_ne.true) c.loop-i.invariant)

pub compare_bounds-loop-i-preserved : goal.compare_bounds-loop-i-preserved
compare_bounds-loop-i-preserved t c = follows_more (bound_at c.args.normals.now c.args.args.now) bound_cmp c.as_slice-items.result.now c.as_slice-others.result.now c.loop-i.i c.index-items-i.result c.index-items-i.result c.index-others-i.result c.index-others-i.result c.compare_bound-first.result c.loop-i-test.true c.index-items-i.is c.if-i-others.false c.index-others-i.is c.compare_bound-first.ensures (sym c.is_ne.ensures ∙ c.if-is_ne.false) c.loop-i.invariant

pub compare_bounds-returns-then-items-others : goal.compare_bounds-returns-then-items-others
compare_bounds-returns-then-items-others t c = whole_list (bound_at c.args.normals.now c.args.args.now) bound_cmp c.args.bounds.now c.as_slice-items.result.now c.args.keys.now c.as_slice-others.result.now _ c.as_slice-items.ensures c.as_slice-others.ensures (ends_before (bound_at c.args.normals.now c.args.args.now) bound_cmp c.as_slice-items.result.now c.as_slice-others.result.now c.loop-i.i c.loop-i-test.false c.if-items-others.true c.loop-i.invariant)

pub compare_bounds-returns : goal.compare_bounds-returns
compare_bounds-returns t c = whole_list (bound_at c.args.normals.now c.args.args.now) bound_cmp c.args.bounds.now c.as_slice-items.result.now c.args.keys.now c.as_slice-others.result.now _ c.as_slice-items.ensures c.as_slice-others.ensures (ends_with (bound_at c.args.normals.now c.args.args.now) bound_cmp c.as_slice-items.result.now c.as_slice-others.result.now c.loop-i.i c.loop-i-test.false c.if-items-others.false c.loop-i.invariant)

pub compare_args-returns-then-i-others : goal.compare_args-returns-then-i-others
compare_args-returns-then-i-others t c = args_same c.args.normals.now c.args.args.now c.args.own.now c.args.key.now _ (whole_list (arg_at c.args.normals.now c.args.args.now) arg_cmp c.args.own.now.0 c.as_slice-items.result.now c.args.key.now.0 c.as_slice-others.result.now _ c.as_slice-items.ensures c.as_slice-others.ensures (goes_on (arg_at c.args.normals.now c.args.args.now) arg_cmp c.as_slice-items.result.now c.as_slice-others.result.now c.loop-i.i c.index-items-i.result c.loop-i-test.true c.if-i-others.true c.loop-i.invariant))

pub compare_args-returns-then-is_ne : goal.compare_args-returns-then-is_ne
compare_args-returns-then-is_ne t c = args_same c.args.normals.now c.args.args.now c.args.own.now c.args.key.now _ (whole_list (arg_at c.args.normals.now c.args.args.now) arg_cmp c.args.own.now.0 c.as_slice-items.result.now c.args.key.now.0 c.as_slice-others.result.now _ c.as_slice-items.ensures c.as_slice-others.ensures (differs_here (arg_at c.args.normals.now c.args.args.now) arg_cmp c.as_slice-items.result.now c.as_slice-others.result.now c.loop-i.i c.index-items-i.result c.index-items-i.result c.index-others-i.result c.index-others-i.result c.compare_arg-first.result c.loop-i-test.true c.index-items-i.is c.if-i-others.false c.index-others-i.is c.compare_arg-first.ensures (sym c.is_ne.ensures ∙ c.if-is_ne.true) c.loop-i.invariant))

pub compare_args-loop-i-preserved : goal.compare_args-loop-i-preserved
compare_args-loop-i-preserved t c = follows_more (arg_at c.args.normals.now c.args.args.now) arg_cmp c.as_slice-items.result.now c.as_slice-others.result.now c.loop-i.i c.index-items-i.result c.index-items-i.result c.index-others-i.result c.index-others-i.result c.compare_arg-first.result c.loop-i-test.true c.index-items-i.is c.if-i-others.false c.index-others-i.is c.compare_arg-first.ensures (sym c.is_ne.ensures ∙ c.if-is_ne.false) c.loop-i.invariant

pub compare_args-returns-then-items-others : goal.compare_args-returns-then-items-others
compare_args-returns-then-items-others t c = args_same c.args.normals.now c.args.args.now c.args.own.now c.args.key.now _ (whole_list (arg_at c.args.normals.now c.args.args.now) arg_cmp c.args.own.now.0 c.as_slice-items.result.now c.args.key.now.0 c.as_slice-others.result.now _ c.as_slice-items.ensures c.as_slice-others.ensures (ends_before (arg_at c.args.normals.now c.args.args.now) arg_cmp c.as_slice-items.result.now c.as_slice-others.result.now c.loop-i.i c.loop-i-test.false c.if-items-others.true c.loop-i.invariant))

pub compare_args-returns : goal.compare_args-returns
compare_args-returns t c = args_same c.args.normals.now c.args.args.now c.args.own.now c.args.key.now _ (whole_list (arg_at c.args.normals.now c.args.args.now) arg_cmp c.args.own.now.0 c.as_slice-items.result.now c.args.key.now.0 c.as_slice-others.result.now _ c.as_slice-items.ensures c.as_slice-others.ensures (ends_with (arg_at c.args.normals.now c.args.args.now) arg_cmp c.as_slice-items.result.now c.as_slice-others.result.now c.loop-i.i c.loop-i-test.false c.if-items-others.false c.loop-i.invariant))

pub compare_bound-returns : goal.compare_bound-returns
compare_bound-returns t c = bound_after c.args.normals.now c.args.args.now c.args.bound.now c.args.key.now _ _ c.cmp.ensures c.compare_args_after.ensures

pub compare_unevaluated-returns : goal.compare_unevaluated-returns
compare_unevaluated-returns t c = unevaluated_after c.args.normals.now c.args.args.now c.args.named.now c.args.key.now _ _ c.cmp.ensures c.compare_args_after.ensures

pub compare_complex-returns : goal.compare_complex-returns
compare_complex-returns t c = table_after c.args.normals.now c.args.args.now c.args.map.now c.args.key.now _ _ c.cmp.ensures c.compare_tys_after.ensures

pub compare_value-returns-then-is_ne : goal.compare_value-returns-then-is_ne
compare_value-returns-then-is_ne t c = value_differs c.args.normals.now c.args.args.now c.args.value.now c.args.key.now _ c.compare_ty-first.ensures (sym c.is_ne.ensures ∙ c.if-is_ne.true)

pub compare_value-returns : goal.compare_value-returns
compare_value-returns t c = value_after c.args.normals.now c.args.args.now c.args.value.now c.args.key.now _ _ _ c.compare_ty-first.ensures (sym c.is_ne.ensures ∙ c.if-is_ne.false) c.cmp-second.ensures c.compare_map_after.ensures

pub compare_arg-returns-in-Ty-key : goal.compare_arg-returns-in-Ty-key
compare_arg-returns-in-Ty-key t c = carry (arg_at c.args.normals.now c.args.args.now) arg_cmp c.args.arg.now (arg.Ty c.in-Ty.ty) c.args.key.now (arg.Ty c.in-Ty-key.key) _ c.in-Ty.is c.in-Ty-key.is (type_arg_same c.args.normals.now c.args.args.now c.in-Ty.ty c.in-Ty-key.key _ c.compare_ty.ensures)

pub compare_arg-returns-in_default : goal.compare_arg-returns-in_default
compare_arg-returns-in_default t c = type_arg_other c.args.normals.now c.args.args.now c.in-Ty.ty c.args.arg.now c.args.key.now _ c.in-Ty.is c.in_default.not-Ty c.arg_variants.ensures

pub compare_arg-returns-in-Konst-key : goal.compare_arg-returns-in-Konst-key
compare_arg-returns-in-Konst-key t c = carry (arg_at c.args.normals.now c.args.args.now) arg_cmp c.args.arg.now (arg.Konst c.in-Konst.konst) c.args.key.now (arg.Konst c.in-Konst-key.key) _ c.in-Konst.is c.in-Konst-key.is (const_arg_same c.args.normals.now c.args.args.now c.in-Konst.konst c.in-Konst-key.key _ c.compare_const.ensures)

pub compare_arg-returns-in_default-key : goal.compare_arg-returns-in_default-key
compare_arg-returns-in_default-key t c = const_arg_other c.args.normals.now c.args.args.now c.in-Konst.konst c.args.arg.now c.args.key.now _ c.in-Konst.is c.in_default-key.not-Konst c.arg_variants-in_default-key.ensures

pub compare_const-returns-in-Value-key : goal.compare_const-returns-in-Value-key
compare_const-returns-in-Value-key t c = carry (const_at c.args.normals.now c.args.args.now) const_cmp c.args.konst.now (constant.Value c.in-Value.value) c.args.key.now (constant.Value c.in-Value-key.key) _ c.in-Value.is c.in-Value-key.is (value_same c.args.normals.now c.args.args.now c.in-Value.value c.in-Value-key.key _ c.compare_value.ensures)

pub compare_const-returns-in_default : goal.compare_const-returns-in_default
compare_const-returns-in_default t c = value_other c.args.normals.now c.args.args.now c.in-Value.value c.args.konst.now c.args.key.now _ c.in-Value.is c.in_default.not-Value c.const_variants.ensures

pub compare_const-returns-in-Unevaluated-key : goal.compare_const-returns-in-Unevaluated-key
compare_const-returns-in-Unevaluated-key t c = carry (const_at c.args.normals.now c.args.args.now) const_cmp c.args.konst.now (constant.Unevaluated c.in-Unevaluated.named) c.args.key.now (constant.Unevaluated c.in-Unevaluated-key.key) _ c.in-Unevaluated.is c.in-Unevaluated-key.is (unevaluated_same c.args.normals.now c.args.args.now c.in-Unevaluated.named c.in-Unevaluated-key.key _ c.compare_unevaluated.ensures)

pub compare_const-returns-in_default-key : goal.compare_const-returns-in_default-key
compare_const-returns-in_default-key t c = unevaluated_other c.args.normals.now c.args.args.now c.in-Unevaluated.named c.args.konst.now c.args.key.now _ c.in-Unevaluated.is c.in_default-key.not-Unevaluated c.const_variants-in_default-key.ensures

pub compare_const-returns-in-Some : goal.compare_const-returns-in-Some
compare_const-returns-in-Some t c = subst (λ w. Compares (const_at c.args.normals.now c.args.args.now w) (λ made. const_cmp made c.args.key.now) c.cmp.result) (sym c.in-Param.is) (const_param_found c.args.normals.now c.args.args.now c.in-Param.param c.in-Some.made.now c.args.key.now c.cmp.result (c.in-Some.ensures c.args.normals.now) c.cmp.ensures)

pub compare_const-returns-in-None : goal.compare_const-returns-in-None
compare_const-returns-in-None t c = subst (λ w. Compares (const_at c.args.normals.now c.args.args.now w) (λ made. const_cmp made c.args.key.now) Equal) (sym c.in-Param.is) (const_param_none c.args.normals.now c.args.args.now c.in-Param.param c.args.key.now Equal (c.in-None.ensures c.args.normals.now))

pub compare_const-returns-in-Error : goal.compare_const-returns-in-Error
compare_const-returns-in-Error t c = const_leaf c.args.normals.now c.args.args.now c.args.konst.now constant.Error c.args.key.now _ c.in-Error.is (layers.error_const_is [] (with_normals c.args.normals.now c.args.args.now)) c.cmp-in-Error.ensures

pub compare_map-returns-in-Empty : goal.compare_map-returns-in-Empty
compare_map-returns-in-Empty t c = map_leaf c.args.normals.now c.args.args.now c.args.map.now memory.Empty c.args.key.now _ c.in-Empty.is (layers.empty_map_is [] (with_normals c.args.normals.now c.args.args.now)) c.cmp.ensures

pub compare_map-returns-in-Simple : goal.compare_map-returns-in-Simple
compare_map-returns-in-Simple t c = map_leaf c.args.normals.now c.args.args.now c.args.map.now (memory.Simple c.in-Simple.field-0) c.args.key.now _ c.in-Simple.is (layers.simple_map_is [] (with_normals c.args.normals.now c.args.args.now) c.in-Simple.field-0) c.cmp-in-Simple.ensures

pub compare_map-returns-in-Complex-key : goal.compare_map-returns-in-Complex-key
compare_map-returns-in-Complex-key t c = carry (map_at c.args.normals.now c.args.args.now) map_cmp c.args.map.now (memory.Complex c.in-Complex.complex) c.args.key.now (memory.Complex c.in-Complex-key.key) _ c.in-Complex.is c.in-Complex-key.is (complex_same c.args.normals.now c.args.args.now c.in-Complex.complex c.in-Complex-key.key _ c.compare_complex.ensures)

pub compare_map-returns-in_default : goal.compare_map-returns-in_default
compare_map-returns-in_default t c = complex_other c.args.normals.now c.args.args.now c.in-Complex.complex c.args.map.now c.args.key.now _ c.in-Complex.is c.in_default.not-Complex c.map_variants.ensures

pub compare_ty_after-returns-then-is_ne : goal.compare_ty_after-returns-then-is_ne
compare_ty_after-returns-then-is_ne t c = after_differs (ty_at c.args.normals.now c.args.args.now c.args.own.now) (λ made. ty_cmp made c.args.key.now) c.args.first (sym c.is_ne.ensures ∙ c.if-is_ne.true)

pub compare_ty_after-returns : goal.compare_ty_after-returns
compare_ty_after-returns t c = after_ties (ty_at c.args.normals.now c.args.args.now c.args.own.now) (λ made. ty_cmp made c.args.key.now) c.args.first _ (sym c.is_ne.ensures ∙ c.if-is_ne.false) c.compare_ty.ensures

pub compare_tys_after-returns-then-is_ne : goal.compare_tys_after-returns-then-is_ne
compare_tys_after-returns-then-is_ne t c = after_differs (all_there (map (ty_at c.args.normals.now c.args.args.now) c.args.own.now)) (λ made. slice_cmp ty_cmp made c.args.key.now) c.args.first (sym c.is_ne.ensures ∙ c.if-is_ne.true)

pub compare_tys_after-returns : goal.compare_tys_after-returns
compare_tys_after-returns t c = after_ties (all_there (map (ty_at c.args.normals.now c.args.args.now) c.args.own.now)) (λ made. slice_cmp ty_cmp made c.args.key.now) c.args.first _ (sym c.is_ne.ensures ∙ c.if-is_ne.false) c.compare_tys.ensures

pub compare_args_after-returns-then-is_ne : goal.compare_args_after-returns-then-is_ne
compare_args_after-returns-then-is_ne t c = after_differs (args_at c.args.normals.now c.args.args.now c.args.own.now) (λ made. args_cmp made c.args.key.now) c.args.first (sym c.is_ne.ensures ∙ c.if-is_ne.true)

pub compare_args_after-returns : goal.compare_args_after-returns
compare_args_after-returns t c = after_ties (args_at c.args.normals.now c.args.args.now c.args.own.now) (λ made. args_cmp made c.args.key.now) c.args.first _ (sym c.is_ne.ensures ∙ c.if-is_ne.false) c.compare_args.ensures

pub compare_const_after-returns-then-is_ne : goal.compare_const_after-returns-then-is_ne
compare_const_after-returns-then-is_ne t c = after_differs (const_at c.args.normals.now c.args.args.now c.args.own.now) (λ made. const_cmp made c.args.key.now) c.args.first (sym c.is_ne.ensures ∙ c.if-is_ne.true)

pub compare_const_after-returns : goal.compare_const_after-returns
compare_const_after-returns t c = after_ties (const_at c.args.normals.now c.args.args.now c.args.own.now) (λ made. const_cmp made c.args.key.now) c.args.first _ (sym c.is_ne.ensures ∙ c.if-is_ne.false) c.compare_const.ensures

pub compare_map_after-returns-then-is_ne : goal.compare_map_after-returns-then-is_ne
compare_map_after-returns-then-is_ne t c = after_differs (map_at c.args.normals.now c.args.args.now c.args.own.now) (λ made. map_cmp made c.args.key.now) c.args.first (sym c.is_ne.ensures ∙ c.if-is_ne.true)

pub compare_map_after-returns : goal.compare_map_after-returns
compare_map_after-returns t c = after_ties (map_at c.args.normals.now c.args.args.now c.args.own.now) (λ made. map_cmp made c.args.key.now) c.args.first _ (sym c.is_ne.ensures ∙ c.if-is_ne.false) c.compare_map.ensures
