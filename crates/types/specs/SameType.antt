-- `==` and `cmp` of types, generic arguments and constants tell two values apart exactly where they differ.
use denote.Enum.Compared.{by}
use denote.Enum.Declared.{Choice}
use denote.Hole.Carrier.{Values}
use denote.Hole.Compared.{compared_is}
use denote.Hole.Recursion.{ind}
use Rattle.std.proofs.Common.{sym, ◌∙◌, ap, subst}
use Rattle.std.specs.Prelude.{◌≡◌, Bool, true, false, ◌&&◌, List, [], ◌∷◌, map, refl}
use Rattle.std.specs.Bool.{Decides}
use Rattle.std.specs.Cmp.Lexicographic.{pointwise}
use Rattle.std.specs.Ordering.{is_eq}
use Rattle.types.specs.Orders.{ty_eq, ty_cmp, bound_eq, arg_eq, args_eq, args_cmp, const_eq, value_eq, unevaluated_eq, memory_map_eq, complex_eq}
use Rattle.types.specs.SameScalars.{differ, both, items_same, entry_eq, entry_same, bytes_same, int_same, uint_same, float_same, mutability_same, adt_same, alias_same, callable_def_same, general_const_same, interned_closure_same, trait_same, param_ty_same, param_const_same}
use Rattle.types.specs.contracts.bytes.BytesPartialEq.TheImpl as BytesPartialEq
use Rattle.types.specs.contracts.ids.AdtIdPartialEq.TheImpl as AdtIdPartialEq
use Rattle.types.specs.contracts.ids.AliasIdPartialEq.TheImpl as AliasIdPartialEq
use Rattle.types.specs.contracts.ids.CallableDefIdPartialEq.TheImpl as CallableDefIdPartialEq
use Rattle.types.specs.contracts.ids.GeneralConstIdPartialEq.TheImpl as GeneralConstIdPartialEq
use Rattle.types.specs.contracts.ids.InternedClosureIdPartialEq.TheImpl as InternedClosureIdPartialEq
use Rattle.types.specs.contracts.ids.TraitIdPartialEq.TheImpl as TraitIdPartialEq
use Rattle.types.specs.contracts.scalars.FloatTyPartialEq.TheImpl as FloatTyPartialEq
use Rattle.types.specs.contracts.scalars.IntTyPartialEq.TheImpl as IntTyPartialEq
use Rattle.types.specs.contracts.scalars.MutabilityPartialEq.TheImpl as MutabilityPartialEq
use Rattle.types.specs.contracts.scalars.UintTyPartialEq.TheImpl as UintTyPartialEq
use Rattle.types.specs.contracts.ty.ComplexMemoryMapEq.TheImpl.Laws as ComplexMemoryMapEq
use Rattle.types.specs.contracts.ty.Const as ConstParts
use Rattle.types.specs.contracts.ty.ConstEq.TheImpl.Laws as ConstEq
use Rattle.types.specs.contracts.ty.GenericArg as GenericArgParts
use Rattle.types.specs.contracts.ty.GenericArgEq.TheImpl.Laws as GenericArgEq
use Rattle.types.specs.contracts.ty.GenericArgsEq.TheImpl.Laws as GenericArgsEq
use Rattle.types.specs.contracts.ty.GenericArgsOrd.TheImpl.Laws as args_ordered
use Rattle.types.specs.contracts.ty.MemoryMap as MemoryMapParts
use Rattle.types.specs.contracts.ty.MemoryMapEq.TheImpl.Laws as MemoryMapEq
use Rattle.types.specs.contracts.ty.ParamConstPartialEq.TheImpl as ParamConstPartialEq
use Rattle.types.specs.contracts.ty.ParamTyPartialEq.TheImpl as ParamTyPartialEq
use Rattle.types.specs.contracts.ty.TraitRefEq.TheImpl.Laws as TraitRefEq
use Rattle.types.specs.contracts.ty.Ty as TyParts
use Rattle.types.specs.contracts.ty.TyEq.TheImpl.Laws as TyEq
use Rattle.types.specs.contracts.ty.TyOrd.TheImpl.Laws as ordered
use Rattle.types.specs.contracts.ty.TyPartialEq.TheImpl.{the_step}
use Rattle.types.specs.contracts.ty.TyPartialEq.TheImpl.Laws.{family, local}
use Rattle.types.specs.contracts.ty.UnevaluatedConstEq.TheImpl.Laws as UnevaluatedConstEq
use Rattle.types.specs.contracts.ty.ValueConstEq.TheImpl.Laws as ValueConstEq
use Rattle.types.specs.declared.ty.ComplexMemoryMap.{ComplexMemoryMap}
use Rattle.types.specs.declared.ty.Const.{Const}
use Rattle.types.specs.declared.ty.Const.TheBlock.{the_members, the_sigs, the_carrier, the_depth, split-Const, split-GenericArg, split-MemoryMap, split-Ty, member-Const, member-GenericArg, member-MemoryMap, member-Ty, member-ComplexMemoryMap, member-GenericArgs, member-TraitRef, member-UnevaluatedConst, member-ValueConst}
use Rattle.types.specs.declared.ty.Const.TheFolds.{claims, shows, map-Const, map-GenericArg, map-MemoryMap, map-Ty, map-ComplexMemoryMap, map-GenericArgs, map-TraitRef, map-UnevaluatedConst, map-ValueConst}
use Rattle.types.specs.declared.ty.Const.TheOpen as one
use Rattle.types.specs.declared.ty.Const.TheOpen.{Const-F, GenericArg-F, MemoryMap-F, Ty-F, ComplexMemoryMap-F, GenericArgs-F, TraitRef-F, UnevaluatedConst-F, ValueConst-F}
use Rattle.types.specs.declared.ty.Const.TheViews.{out-Const, roll-Const, out-roll-Const, roll-out-Const, out-GenericArg, roll-GenericArg, out-roll-GenericArg, roll-out-GenericArg, out-MemoryMap, roll-MemoryMap, out-roll-MemoryMap, roll-out-MemoryMap, out-Ty, roll-Ty, out-roll-Ty, roll-out-Ty, out-ComplexMemoryMap, roll-ComplexMemoryMap, out-roll-ComplexMemoryMap, roll-out-ComplexMemoryMap, out-GenericArgs, roll-GenericArgs, out-roll-GenericArgs, roll-out-GenericArgs, out-TraitRef, roll-TraitRef, out-roll-TraitRef, roll-out-TraitRef, out-UnevaluatedConst, roll-UnevaluatedConst, out-roll-UnevaluatedConst, roll-out-UnevaluatedConst, out-ValueConst, roll-ValueConst, out-roll-ValueConst, roll-out-ValueConst, parts_is-GenericArg}
use Rattle.types.specs.declared.ty.GenericArg.{GenericArg}
use Rattle.types.specs.declared.ty.GenericArgs.{GenericArgs}
use Rattle.types.specs.declared.ty.MemoryMap.{MemoryMap}
use Rattle.types.specs.declared.ty.TraitRef.{TraitRef}
use Rattle.types.specs.declared.ty.Ty.{Ty}
use Rattle.types.specs.declared.ty.UnevaluatedConst.{UnevaluatedConst}
use Rattle.types.specs.declared.ty.ValueConst.{ValueConst}

-- the values of each of the nine types that contain one another
abbrev Family : the_members → Type 0
Family = Values the_members the_sigs the_carrier

-- `==` of each
abbrev eq_at : (j : the_members) → Family j → Family j → Bool
eq_at = family

-- `==` compares two values part by part
is_at : (j : the_members) (a b : Family j) → eq_at j a b ≡ the_step eq_at j a b
is_at = compared_is the_members Family the_depth Bool true the_step local

-- a value that `==` finds equal to itself alone
abbrev IsKnown : (j : the_members) → Family j → Type 0
IsKnown j a = (b : Family j) → eq_at j a b ≡ true → a ≡ b

abbrev Known : the_members → Type 0
Known j = (a : Family j) × IsKnown j a

abbrev known : (j : the_members) → Known j → Family j
known j k = k.0

list_same : (j : the_members) (ks : List (Known j)) (bs : List (Family j)) → pointwise (eq_at j) (map (known j) ks) bs ≡ true → map (known j) ks ≡ bs
list_same j [] [] h = refl
list_same j [] (b ∷ bs) h = differ h
list_same j (k ∷ ks) [] h = differ h
list_same j (k ∷ ks) (b ∷ bs) h =
    let p = both (eq_at j k.0 b) (pointwise (eq_at j) (map (known j) ks) bs) h in
    λ i. k.1 b p.0 i ∷ list_same j ks bs p.1 i

-- the outermost layer of a value of each type: its variant or its fields, whose parts are of a given family
abbrev ConstLayer : (the_members → Type 0) → Type 0
ConstLayer X = Const-F (X member-Const) (X member-GenericArg) (X member-MemoryMap) (X member-Ty) (X member-ComplexMemoryMap) (X member-GenericArgs) (X member-TraitRef) (X member-UnevaluatedConst) (X member-ValueConst)

abbrev GenericArgLayer : (the_members → Type 0) → Type 0
GenericArgLayer X = GenericArg-F (X member-Const) (X member-GenericArg) (X member-MemoryMap) (X member-Ty) (X member-ComplexMemoryMap) (X member-GenericArgs) (X member-TraitRef) (X member-UnevaluatedConst) (X member-ValueConst)

abbrev MemoryMapLayer : (the_members → Type 0) → Type 0
MemoryMapLayer X = MemoryMap-F (X member-Const) (X member-GenericArg) (X member-MemoryMap) (X member-Ty) (X member-ComplexMemoryMap) (X member-GenericArgs) (X member-TraitRef) (X member-UnevaluatedConst) (X member-ValueConst)

abbrev TyLayer : (the_members → Type 0) → Type 0
TyLayer X = Ty-F (X member-Const) (X member-GenericArg) (X member-MemoryMap) (X member-Ty) (X member-ComplexMemoryMap) (X member-GenericArgs) (X member-TraitRef) (X member-UnevaluatedConst) (X member-ValueConst)

abbrev ComplexMemoryMapLayer : (the_members → Type 0) → Type 0
ComplexMemoryMapLayer X = ComplexMemoryMap-F (X member-Const) (X member-GenericArg) (X member-MemoryMap) (X member-Ty) (X member-ComplexMemoryMap) (X member-GenericArgs) (X member-TraitRef) (X member-UnevaluatedConst) (X member-ValueConst)

abbrev GenericArgsLayer : (the_members → Type 0) → Type 0
GenericArgsLayer X = GenericArgs-F (X member-Const) (X member-GenericArg) (X member-MemoryMap) (X member-Ty) (X member-ComplexMemoryMap) (X member-GenericArgs) (X member-TraitRef) (X member-UnevaluatedConst) (X member-ValueConst)

abbrev TraitRefLayer : (the_members → Type 0) → Type 0
TraitRefLayer X = TraitRef-F (X member-Const) (X member-GenericArg) (X member-MemoryMap) (X member-Ty) (X member-ComplexMemoryMap) (X member-GenericArgs) (X member-TraitRef) (X member-UnevaluatedConst) (X member-ValueConst)

abbrev UnevaluatedConstLayer : (the_members → Type 0) → Type 0
UnevaluatedConstLayer X = UnevaluatedConst-F (X member-Const) (X member-GenericArg) (X member-MemoryMap) (X member-Ty) (X member-ComplexMemoryMap) (X member-GenericArgs) (X member-TraitRef) (X member-UnevaluatedConst) (X member-ValueConst)

abbrev ValueConstLayer : (the_members → Type 0) → Type 0
ValueConstLayer X = ValueConst-F (X member-Const) (X member-GenericArg) (X member-MemoryMap) (X member-Ty) (X member-ComplexMemoryMap) (X member-GenericArgs) (X member-TraitRef) (X member-UnevaluatedConst) (X member-ValueConst)

-- a layer of known values as a layer of values
abbrev const_of : ConstLayer Known → ConstLayer Family
const_of = map-Const _ _ _ _ _ _ _ _ _ _ _ _ _ _ _ _ _ _ (known member-Const) (known member-GenericArg) (known member-MemoryMap) (known member-Ty) (known member-ComplexMemoryMap) (known member-GenericArgs) (known member-TraitRef) (known member-UnevaluatedConst) (known member-ValueConst)

abbrev arg_of : GenericArgLayer Known → GenericArgLayer Family
arg_of = map-GenericArg _ _ _ _ _ _ _ _ _ _ _ _ _ _ _ _ _ _ (known member-Const) (known member-GenericArg) (known member-MemoryMap) (known member-Ty) (known member-ComplexMemoryMap) (known member-GenericArgs) (known member-TraitRef) (known member-UnevaluatedConst) (known member-ValueConst)

abbrev memory_map_of : MemoryMapLayer Known → MemoryMapLayer Family
memory_map_of = map-MemoryMap _ _ _ _ _ _ _ _ _ _ _ _ _ _ _ _ _ _ (known member-Const) (known member-GenericArg) (known member-MemoryMap) (known member-Ty) (known member-ComplexMemoryMap) (known member-GenericArgs) (known member-TraitRef) (known member-UnevaluatedConst) (known member-ValueConst)

abbrev ty_of : TyLayer Known → TyLayer Family
ty_of = map-Ty _ _ _ _ _ _ _ _ _ _ _ _ _ _ _ _ _ _ (known member-Const) (known member-GenericArg) (known member-MemoryMap) (known member-Ty) (known member-ComplexMemoryMap) (known member-GenericArgs) (known member-TraitRef) (known member-UnevaluatedConst) (known member-ValueConst)

abbrev complex_of : ComplexMemoryMapLayer Known → ComplexMemoryMapLayer Family
complex_of = map-ComplexMemoryMap _ _ _ _ _ _ _ _ _ _ _ _ _ _ _ _ _ _ (known member-Const) (known member-GenericArg) (known member-MemoryMap) (known member-Ty) (known member-ComplexMemoryMap) (known member-GenericArgs) (known member-TraitRef) (known member-UnevaluatedConst) (known member-ValueConst)

abbrev args_of : GenericArgsLayer Known → GenericArgsLayer Family
args_of = map-GenericArgs _ _ _ _ _ _ _ _ _ _ _ _ _ _ _ _ _ _ (known member-Const) (known member-GenericArg) (known member-MemoryMap) (known member-Ty) (known member-ComplexMemoryMap) (known member-GenericArgs) (known member-TraitRef) (known member-UnevaluatedConst) (known member-ValueConst)

abbrev bound_of : TraitRefLayer Known → TraitRefLayer Family
bound_of = map-TraitRef _ _ _ _ _ _ _ _ _ _ _ _ _ _ _ _ _ _ (known member-Const) (known member-GenericArg) (known member-MemoryMap) (known member-Ty) (known member-ComplexMemoryMap) (known member-GenericArgs) (known member-TraitRef) (known member-UnevaluatedConst) (known member-ValueConst)

abbrev unevaluated_of : UnevaluatedConstLayer Known → UnevaluatedConstLayer Family
unevaluated_of = map-UnevaluatedConst _ _ _ _ _ _ _ _ _ _ _ _ _ _ _ _ _ _ (known member-Const) (known member-GenericArg) (known member-MemoryMap) (known member-Ty) (known member-ComplexMemoryMap) (known member-GenericArgs) (known member-TraitRef) (known member-UnevaluatedConst) (known member-ValueConst)

abbrev value_of : ValueConstLayer Known → ValueConstLayer Family
value_of = map-ValueConst _ _ _ _ _ _ _ _ _ _ _ _ _ _ _ _ _ _ (known member-Const) (known member-GenericArg) (known member-MemoryMap) (known member-Ty) (known member-ComplexMemoryMap) (known member-GenericArgs) (known member-TraitRef) (known member-UnevaluatedConst) (known member-ValueConst)

-- `==` of two layers: of two of one variant, that of their parts
abbrev const_layer_eq : ConstLayer Family → ConstLayer Family → Bool
const_layer_eq a b =
    by false false ConstParts.the_parts (
      λ x y. eq_at member-ValueConst x.0 y.0,
      (
        λ x y. ParamConstPartialEq.ghosts.eq x.0 y.0,
        (
          λ x y. eq_at member-UnevaluatedConst x.0 y.0,
          (
            λ x y. true,
            tt,
          ),
        ),
      ),
    )
    (split-Const Family a) (split-Const Family b)

const_layer_same : (k : ConstLayer Known) (b : ConstLayer Family) → const_layer_eq (const_of k) b ≡ true → const_of k ≡ b
const_layer_same (one.Value k) (one.Value b) h = ap one.Value (k.1 b h)
const_layer_same (one.Value k) _ h = differ h
const_layer_same (one.Const::Param k) (one.Const::Param b) h = ap one.Const::Param (param_const_same k b h)
const_layer_same (one.Const::Param k) _ h = differ h
const_layer_same (one.Unevaluated k) (one.Unevaluated b) h = ap one.Unevaluated (k.1 b h)
const_layer_same (one.Unevaluated k) _ h = differ h
const_layer_same one.Const::Error one.Const::Error h = refl
const_layer_same one.Const::Error _ h = differ h

abbrev arg_by : Choice GenericArgParts.the_parts → Choice GenericArgParts.the_parts → Bool
arg_by =
    by false false GenericArgParts.the_parts (
      λ x y. eq_at member-Ty x.0 y.0,
      (
        λ x y. eq_at member-Const x.0 y.0,
        tt,
      ),
    )

abbrev arg_layer_eq : GenericArgLayer Family → GenericArgLayer Family → Bool
arg_layer_eq a b = arg_by (split-GenericArg Family a) (split-GenericArg Family b)

arg_layer_same : (k : GenericArgLayer Known) (b : GenericArgLayer Family) → arg_layer_eq (arg_of k) b ≡ true → arg_of k ≡ b
arg_layer_same (one.Ty k) (one.Ty b) h = ap one.Ty (k.1 b h)
arg_layer_same (one.Ty k) _ h = differ h
arg_layer_same (one.Konst k) (one.Konst b) h = ap one.Konst (k.1 b h)
arg_layer_same (one.Konst k) _ h = differ h

abbrev memory_map_layer_eq : MemoryMapLayer Family → MemoryMapLayer Family → Bool
memory_map_layer_eq a b =
    by false false MemoryMapParts.the_parts (
      λ x y. true,
      (
        λ x y. BytesPartialEq.ghosts.eq x.0 y.0,
        (
          λ x y. eq_at member-ComplexMemoryMap x.0 y.0,
          tt,
        ),
      ),
    )
    (split-MemoryMap Family a) (split-MemoryMap Family b)

memory_map_layer_same : (k : MemoryMapLayer Known) (b : MemoryMapLayer Family) → memory_map_layer_eq (memory_map_of k) b ≡ true → memory_map_of k ≡ b
memory_map_layer_same one.Empty one.Empty h = refl
memory_map_layer_same one.Empty _ h = differ h
memory_map_layer_same (one.Simple k) (one.Simple b) h = ap one.Simple (bytes_same k b h)
memory_map_layer_same (one.Simple k) _ h = differ h
memory_map_layer_same (one.Complex k) (one.Complex b) h = ap one.Complex (k.1 b h)
memory_map_layer_same (one.Complex k) _ h = differ h

abbrev ty_layer_eq : TyLayer Family → TyLayer Family → Bool
ty_layer_eq a b =
    by false false TyParts.the_parts (
      λ x y. true,
      (
        λ x y. true,
        (
          λ x y. IntTyPartialEq.ghosts.eq x.0 y.0,
          (
            λ x y. UintTyPartialEq.ghosts.eq x.0 y.0,
            (
              λ x y. FloatTyPartialEq.ghosts.eq x.0 y.0,
              (
                λ x y. true,
                (
                  λ x y. true,
                  (
                    λ x y. pointwise (eq_at member-Ty) x.0 y.0,
                    (
                      λ x y. eq_at member-Ty x.0 y.0 && eq_at member-Const x.1.0 y.1.0,
                      (
                        λ x y. eq_at member-Ty x.0 y.0,
                        (
                          λ x y. eq_at member-Ty x.0 y.0 && MutabilityPartialEq.ghosts.eq x.1.0 y.1.0,
                          (
                            λ x y. eq_at member-Ty x.0 y.0 && MutabilityPartialEq.ghosts.eq x.1.0 y.1.0,
                            (
                              λ x y. AdtIdPartialEq.ghosts.eq x.0 y.0 && eq_at member-GenericArgs x.1.0 y.1.0,
                              (
                                λ x y. CallableDefIdPartialEq.ghosts.eq x.0 y.0 && eq_at member-GenericArgs x.1.0 y.1.0,
                                (
                                  λ x y. pointwise (eq_at member-Ty) x.0 y.0 && eq_at member-Ty x.1.0 y.1.0,
                                  (
                                    λ x y. InternedClosureIdPartialEq.ghosts.eq x.0 y.0 && eq_at member-GenericArgs x.1.0 y.1.0,
                                    (
                                      λ x y. pointwise (eq_at member-TraitRef) x.0 y.0,
                                      (
                                        λ x y. AliasIdPartialEq.ghosts.eq x.0 y.0 && eq_at member-GenericArgs x.1.0 y.1.0,
                                        (
                                          λ x y. ParamTyPartialEq.ghosts.eq x.0 y.0,
                                          (
                                            λ x y. true,
                                            tt,
                                          ),
                                        ),
                                      ),
                                    ),
                                  ),
                                ),
                              ),
                            ),
                          ),
                        ),
                      ),
                    ),
                  ),
                ),
              ),
            ),
          ),
        ),
      ),
    )
    (split-Ty Family a) (split-Ty Family b)

ty_layer_same : (k : TyLayer Known) (b : TyLayer Family) → ty_layer_eq (ty_of k) b ≡ true → ty_of k ≡ b
ty_layer_same one.Bool one.Bool h = refl
ty_layer_same one.Bool _ h = differ h
ty_layer_same one.Char one.Char h = refl
ty_layer_same one.Char _ h = differ h
ty_layer_same (one.Int k) (one.Int b) h = ap one.Int (int_same k b h)
ty_layer_same (one.Int k) _ h = differ h
ty_layer_same (one.Uint k) (one.Uint b) h = ap one.Uint (uint_same k b h)
ty_layer_same (one.Uint k) _ h = differ h
ty_layer_same (one.Float k) (one.Float b) h = ap one.Float (float_same k b h)
ty_layer_same (one.Float k) _ h = differ h
ty_layer_same one.Str one.Str h = refl
ty_layer_same one.Str _ h = differ h
ty_layer_same one.Never one.Never h = refl
ty_layer_same one.Never _ h = differ h
ty_layer_same (one.Tuple k) (one.Tuple b) h = ap one.Tuple (list_same member-Ty k b h)
ty_layer_same (one.Tuple k) _ h = differ h
ty_layer_same (one.Array k l) (one.Array b c) h =
    let p = both (eq_at member-Ty k.0 b) (eq_at member-Const l.0 c) h in
    λ i. one.Array (k.1 b p.0 i) (l.1 c p.1 i)
ty_layer_same (one.Array k l) _ h = differ h
ty_layer_same (one.Slice k) (one.Slice b) h = ap one.Slice (k.1 b h)
ty_layer_same (one.Slice k) _ h = differ h
ty_layer_same (one.Ref k l) (one.Ref b c) h =
    let p = both (eq_at member-Ty k.0 b) (MutabilityPartialEq.ghosts.eq l c) h in
    λ i. one.Ref (k.1 b p.0 i) (mutability_same l c p.1 i)
ty_layer_same (one.Ref k l) _ h = differ h
ty_layer_same (one.RawPtr k l) (one.RawPtr b c) h =
    let p = both (eq_at member-Ty k.0 b) (MutabilityPartialEq.ghosts.eq l c) h in
    λ i. one.RawPtr (k.1 b p.0 i) (mutability_same l c p.1 i)
ty_layer_same (one.RawPtr k l) _ h = differ h
ty_layer_same (one.Adt k l) (one.Adt b c) h =
    let p = both (AdtIdPartialEq.ghosts.eq k b) (eq_at member-GenericArgs l.0 c) h in
    λ i. one.Adt (adt_same k b p.0 i) (l.1 c p.1 i)
ty_layer_same (one.Adt k l) _ h = differ h
ty_layer_same (one.FnDef k l) (one.FnDef b c) h =
    let p = both (CallableDefIdPartialEq.ghosts.eq k b) (eq_at member-GenericArgs l.0 c) h in
    λ i. one.FnDef (callable_def_same k b p.0 i) (l.1 c p.1 i)
ty_layer_same (one.FnDef k l) _ h = differ h
ty_layer_same (one.FnPtr k l) (one.FnPtr b c) h =
    let p = both (pointwise (eq_at member-Ty) (map (known member-Ty) k) b) (eq_at member-Ty l.0 c) h in
    λ i. one.FnPtr (list_same member-Ty k b p.0 i) (l.1 c p.1 i)
ty_layer_same (one.FnPtr k l) _ h = differ h
ty_layer_same (one.Closure k l) (one.Closure b c) h =
    let p = both (InternedClosureIdPartialEq.ghosts.eq k b) (eq_at member-GenericArgs l.0 c) h in
    λ i. one.Closure (interned_closure_same k b p.0 i) (l.1 c p.1 i)
ty_layer_same (one.Closure k l) _ h = differ h
ty_layer_same (one.Dynamic k) (one.Dynamic b) h = ap one.Dynamic (list_same member-TraitRef k b h)
ty_layer_same (one.Dynamic k) _ h = differ h
ty_layer_same (one.Alias k l) (one.Alias b c) h =
    let p = both (AliasIdPartialEq.ghosts.eq k b) (eq_at member-GenericArgs l.0 c) h in
    λ i. one.Alias (alias_same k b p.0 i) (l.1 c p.1 i)
ty_layer_same (one.Alias k l) _ h = differ h
ty_layer_same (one.Ty::Param k) (one.Ty::Param b) h = ap one.Ty::Param (param_ty_same k b h)
ty_layer_same (one.Ty::Param k) _ h = differ h
ty_layer_same one.Ty::Error one.Ty::Error h = refl
ty_layer_same one.Ty::Error _ h = differ h

abbrev complex_layer_eq : ComplexMemoryMapLayer Family → ComplexMemoryMapLayer Family → Bool
complex_layer_eq a b = pointwise entry_eq a.memory b.memory && pointwise (eq_at member-Ty) a.vtable b.vtable

complex_layer_same : (k : ComplexMemoryMapLayer Known) (b : ComplexMemoryMapLayer Family) → complex_layer_eq (complex_of k) b ≡ true → complex_of k ≡ b
complex_layer_same k b h =
    let p = both _ _ h in
    λ i. record { memory = items_same entry_eq entry_same k.memory b.memory p.0 i; vtable = list_same member-Ty k.vtable b.vtable p.1 i }

abbrev args_layer_eq : GenericArgsLayer Family → GenericArgsLayer Family → Bool
args_layer_eq a b = pointwise (eq_at member-GenericArg) a.0 b.0

args_layer_same : (k : GenericArgsLayer Known) (b : GenericArgsLayer Family) → args_layer_eq (args_of k) b ≡ true → args_of k ≡ b
args_layer_same k b h i = record { 0 = list_same member-GenericArg k.0 b.0 h i }

abbrev bound_layer_eq : TraitRefLayer Family → TraitRefLayer Family → Bool
bound_layer_eq a b = TraitIdPartialEq.ghosts.eq a.def b.def && eq_at member-GenericArgs a.args b.args

bound_layer_same : (k : TraitRefLayer Known) (b : TraitRefLayer Family) → bound_layer_eq (bound_of k) b ≡ true → bound_of k ≡ b
bound_layer_same k b h =
    let p = both _ _ h in
    λ i. record { def = trait_same k.def b.def p.0 i; args = k.args.1 b.args p.1 i }

abbrev unevaluated_layer_eq : UnevaluatedConstLayer Family → UnevaluatedConstLayer Family → Bool
unevaluated_layer_eq a b = GeneralConstIdPartialEq.ghosts.eq a.def b.def && eq_at member-GenericArgs a.args b.args

unevaluated_layer_same : (k : UnevaluatedConstLayer Known) (b : UnevaluatedConstLayer Family) → unevaluated_layer_eq (unevaluated_of k) b ≡ true → unevaluated_of k ≡ b
unevaluated_layer_same k b h =
    let p = both _ _ h in
    λ i. record { def = general_const_same k.def b.def p.0 i; args = k.args.1 b.args p.1 i }

abbrev value_layer_eq : ValueConstLayer Family → ValueConstLayer Family → Bool
value_layer_eq a b = eq_at member-Ty a.ty b.ty && (BytesPartialEq.ghosts.eq a.memory b.memory && eq_at member-MemoryMap a.memory_map b.memory_map)

value_layer_same : (k : ValueConstLayer Known) (b : ValueConstLayer Family) → value_layer_eq (value_of k) b ≡ true → value_of k ≡ b
value_layer_same k b h =
    let p = both _ _ h in
    let q = both _ _ p.1 in
    λ i. record { ty = k.ty.1 b.ty p.0 i; memory = bytes_same k.memory b.memory q.0 i; memory_map = k.memory_map.1 b.memory_map q.1 i }

-- a value is compared by its outermost layer, and so it is known where its parts are
const_is : (a : ConstLayer Family) (b : Const) → eq_at member-Const (roll-Const a) b ≡ const_layer_eq a (out-Const b)
const_is a b = is_at member-Const (roll-Const a) b ∙ ap (λ l. const_layer_eq l (out-Const b)) (out-roll-Const a)

const_known : (a : ConstLayer Family) (k : ConstLayer Known) → const_of k ≡ a → IsKnown member-Const (roll-Const a)
const_known a k e = subst (λ l. IsKnown member-Const (roll-Const l)) e (λ b h. ap roll-Const (const_layer_same k (out-Const b) (sym (const_is (const_of k) b) ∙ h)) ∙ roll-out-Const b)

arg_is : (a : GenericArgLayer Family) (b : GenericArg) → eq_at member-GenericArg (roll-GenericArg a) b ≡ arg_layer_eq a (out-GenericArg b)
arg_is a b = is_at member-GenericArg (roll-GenericArg a) b ∙ ((λ i. arg_by (parts_is-GenericArg (roll-GenericArg a) i) (parts_is-GenericArg b i)) ∙ ap (λ l. arg_layer_eq l (out-GenericArg b)) (out-roll-GenericArg a))

arg_known : (a : GenericArgLayer Family) (k : GenericArgLayer Known) → arg_of k ≡ a → IsKnown member-GenericArg (roll-GenericArg a)
arg_known a k e = subst (λ l. IsKnown member-GenericArg (roll-GenericArg l)) e (λ b h. ap roll-GenericArg (arg_layer_same k (out-GenericArg b) (sym (arg_is (arg_of k) b) ∙ h)) ∙ roll-out-GenericArg b)

memory_map_is : (a : MemoryMapLayer Family) (b : MemoryMap) → eq_at member-MemoryMap (roll-MemoryMap a) b ≡ memory_map_layer_eq a (out-MemoryMap b)
memory_map_is a b = is_at member-MemoryMap (roll-MemoryMap a) b ∙ ap (λ l. memory_map_layer_eq l (out-MemoryMap b)) (out-roll-MemoryMap a)

memory_map_known : (a : MemoryMapLayer Family) (k : MemoryMapLayer Known) → memory_map_of k ≡ a → IsKnown member-MemoryMap (roll-MemoryMap a)
memory_map_known a k e = subst (λ l. IsKnown member-MemoryMap (roll-MemoryMap l)) e (λ b h. ap roll-MemoryMap (memory_map_layer_same k (out-MemoryMap b) (sym (memory_map_is (memory_map_of k) b) ∙ h)) ∙ roll-out-MemoryMap b)

ty_is : (a : TyLayer Family) (b : Ty) → eq_at member-Ty (roll-Ty a) b ≡ ty_layer_eq a (out-Ty b)
ty_is a b = is_at member-Ty (roll-Ty a) b ∙ ap (λ l. ty_layer_eq l (out-Ty b)) (out-roll-Ty a)

ty_known : (a : TyLayer Family) (k : TyLayer Known) → ty_of k ≡ a → IsKnown member-Ty (roll-Ty a)
ty_known a k e = subst (λ l. IsKnown member-Ty (roll-Ty l)) e (λ b h. ap roll-Ty (ty_layer_same k (out-Ty b) (sym (ty_is (ty_of k) b) ∙ h)) ∙ roll-out-Ty b)

complex_is : (a : ComplexMemoryMapLayer Family) (b : ComplexMemoryMap) → eq_at member-ComplexMemoryMap (roll-ComplexMemoryMap a) b ≡ complex_layer_eq a (out-ComplexMemoryMap b)
complex_is a b = is_at member-ComplexMemoryMap (roll-ComplexMemoryMap a) b ∙ ap (λ l. complex_layer_eq l (out-ComplexMemoryMap b)) (out-roll-ComplexMemoryMap a)

complex_known : (a : ComplexMemoryMapLayer Family) (k : ComplexMemoryMapLayer Known) → complex_of k ≡ a → IsKnown member-ComplexMemoryMap (roll-ComplexMemoryMap a)
complex_known a k e = subst (λ l. IsKnown member-ComplexMemoryMap (roll-ComplexMemoryMap l)) e (λ b h. ap roll-ComplexMemoryMap (complex_layer_same k (out-ComplexMemoryMap b) (sym (complex_is (complex_of k) b) ∙ h)) ∙ roll-out-ComplexMemoryMap b)

args_is : (a : GenericArgsLayer Family) (b : GenericArgs) → eq_at member-GenericArgs (roll-GenericArgs a) b ≡ args_layer_eq a (out-GenericArgs b)
args_is a b = is_at member-GenericArgs (roll-GenericArgs a) b ∙ ap (λ l. args_layer_eq l (out-GenericArgs b)) (out-roll-GenericArgs a)

args_known : (a : GenericArgsLayer Family) (k : GenericArgsLayer Known) → args_of k ≡ a → IsKnown member-GenericArgs (roll-GenericArgs a)
args_known a k e = subst (λ l. IsKnown member-GenericArgs (roll-GenericArgs l)) e (λ b h. ap roll-GenericArgs (args_layer_same k (out-GenericArgs b) (sym (args_is (args_of k) b) ∙ h)) ∙ roll-out-GenericArgs b)

bound_is : (a : TraitRefLayer Family) (b : TraitRef) → eq_at member-TraitRef (roll-TraitRef a) b ≡ bound_layer_eq a (out-TraitRef b)
bound_is a b = is_at member-TraitRef (roll-TraitRef a) b ∙ ap (λ l. bound_layer_eq l (out-TraitRef b)) (out-roll-TraitRef a)

bound_known : (a : TraitRefLayer Family) (k : TraitRefLayer Known) → bound_of k ≡ a → IsKnown member-TraitRef (roll-TraitRef a)
bound_known a k e = subst (λ l. IsKnown member-TraitRef (roll-TraitRef l)) e (λ b h. ap roll-TraitRef (bound_layer_same k (out-TraitRef b) (sym (bound_is (bound_of k) b) ∙ h)) ∙ roll-out-TraitRef b)

unevaluated_is : (a : UnevaluatedConstLayer Family) (b : UnevaluatedConst) → eq_at member-UnevaluatedConst (roll-UnevaluatedConst a) b ≡ unevaluated_layer_eq a (out-UnevaluatedConst b)
unevaluated_is a b = is_at member-UnevaluatedConst (roll-UnevaluatedConst a) b ∙ ap (λ l. unevaluated_layer_eq l (out-UnevaluatedConst b)) (out-roll-UnevaluatedConst a)

unevaluated_known : (a : UnevaluatedConstLayer Family) (k : UnevaluatedConstLayer Known) → unevaluated_of k ≡ a → IsKnown member-UnevaluatedConst (roll-UnevaluatedConst a)
unevaluated_known a k e = subst (λ l. IsKnown member-UnevaluatedConst (roll-UnevaluatedConst l)) e (λ b h. ap roll-UnevaluatedConst (unevaluated_layer_same k (out-UnevaluatedConst b) (sym (unevaluated_is (unevaluated_of k) b) ∙ h)) ∙ roll-out-UnevaluatedConst b)

value_is : (a : ValueConstLayer Family) (b : ValueConst) → eq_at member-ValueConst (roll-ValueConst a) b ≡ value_layer_eq a (out-ValueConst b)
value_is a b = is_at member-ValueConst (roll-ValueConst a) b ∙ ap (λ l. value_layer_eq l (out-ValueConst b)) (out-roll-ValueConst a)

value_known : (a : ValueConstLayer Family) (k : ValueConstLayer Known) → value_of k ≡ a → IsKnown member-ValueConst (roll-ValueConst a)
value_known a k e = subst (λ l. IsKnown member-ValueConst (roll-ValueConst l)) e (λ b h. ap roll-ValueConst (value_layer_same k (out-ValueConst b) (sym (value_is (value_of k) b) ∙ h)) ∙ roll-out-ValueConst b)

-- that a value of one of the nine types is known, by cases of the type
abbrev IsKnown_at : (j : the_members) → Family j → Type 0
IsKnown_at = claims (IsKnown member-Const) (IsKnown member-GenericArg) (IsKnown member-MemoryMap) (IsKnown member-Ty) (IsKnown member-ComplexMemoryMap) (IsKnown member-GenericArgs) (IsKnown member-TraitRef) (IsKnown member-UnevaluatedConst) (IsKnown member-ValueConst)

-- values that `==` finds equal are one, whichever of the nine types is theirs
same_at : (j : the_members) (a : Family j) → IsKnown_at j a
same_at =
    ind the_members the_sigs the_carrier IsKnown_at
    (shows (IsKnown member-Const) (IsKnown member-GenericArg) (IsKnown member-MemoryMap) (IsKnown member-Ty) (IsKnown member-ComplexMemoryMap) (IsKnown member-GenericArgs) (IsKnown member-TraitRef) (IsKnown member-UnevaluatedConst) (IsKnown member-ValueConst)
    const_known arg_known memory_map_known ty_known complex_known args_known bound_known unevaluated_known value_known)

pub type_decides : (a b : Ty) → Decides (ty_eq a b) (a ≡ b)
type_decides a b = (same_at member-Ty a b, λ e. subst (λ x. ty_eq a x ≡ true) e (TyEq.laws-law.refl a))

pub bound_decides : (a b : TraitRef) → Decides (bound_eq a b) (a ≡ b)
bound_decides a b = (same_at member-TraitRef a b, λ e. subst (λ x. bound_eq a x ≡ true) e (TraitRefEq.laws-law.refl a))

pub arg_decides : (a b : GenericArg) → Decides (arg_eq a b) (a ≡ b)
arg_decides a b = (same_at member-GenericArg a b, λ e. subst (λ x. arg_eq a x ≡ true) e (GenericArgEq.laws-law.refl a))

pub args_decides : (a b : GenericArgs) → Decides (args_eq a b) (a ≡ b)
args_decides a b = (same_at member-GenericArgs a b, λ e. subst (λ x. args_eq a x ≡ true) e (GenericArgsEq.laws-law.refl a))

pub const_decides : (a b : Const) → Decides (const_eq a b) (a ≡ b)
const_decides a b = (same_at member-Const a b, λ e. subst (λ x. const_eq a x ≡ true) e (ConstEq.laws-law.refl a))

pub value_decides : (a b : ValueConst) → Decides (value_eq a b) (a ≡ b)
value_decides a b = (same_at member-ValueConst a b, λ e. subst (λ x. value_eq a x ≡ true) e (ValueConstEq.laws-law.refl a))

pub unevaluated_decides : (a b : UnevaluatedConst) → Decides (unevaluated_eq a b) (a ≡ b)
unevaluated_decides a b = (same_at member-UnevaluatedConst a b, λ e. subst (λ x. unevaluated_eq a x ≡ true) e (UnevaluatedConstEq.laws-law.refl a))

pub memory_map_decides : (a b : MemoryMap) → Decides (memory_map_eq a b) (a ≡ b)
memory_map_decides a b = (same_at member-MemoryMap a b, λ e. subst (λ x. memory_map_eq a x ≡ true) e (MemoryMapEq.laws-law.refl a))

pub complex_decides : (a b : ComplexMemoryMap) → Decides (complex_eq a b) (a ≡ b)
complex_decides a b = (same_at member-ComplexMemoryMap a b, λ e. subst (λ x. complex_eq a x ≡ true) e (ComplexMemoryMapEq.laws-law.refl a))

pub type_cmp_decides : (a b : Ty) → Decides (is_eq (ty_cmp a b)) (a ≡ b)
type_cmp_decides a b = subst (λ r. Decides r (a ≡ b)) (ordered.matches_eq-law a b) (type_decides a b)

pub args_cmp_decides : (a b : GenericArgs) → Decides (is_eq (args_cmp a b)) (a ≡ b)
args_cmp_decides a b = subst (λ r. Decides r (a ≡ b)) (args_ordered.matches_eq-law a b) (args_decides a b)
