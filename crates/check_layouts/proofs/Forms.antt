-- Facts that are asked of types of one form alone.
use Rattle.std.proofs.Common.{◌≡◌, List, sym, ◌∙◌, ap, subst}
use Rattle.types.specs.declared.ids.AdtId.{AdtId}
use Rattle.types.specs.declared.ty.Const.{Const}
use Rattle.types.specs.declared.ty.Const.TheOpen as layer
use Rattle.types.specs.declared.ty.Const.TheViews.{out-Ty, out-roll-Ty, roll-Ty, roll-out-Ty}
use Rattle.types.specs.declared.ty.GenericArgs.{GenericArgs}
use Rattle.types.specs.declared.ty.Ty.{Ty}
use Rattle.types.specs.declared.ty.Ty.TheVariants as type

pub tuple_out : (types : List Ty) → out-Ty (type.Tuple types) ≡ layer.Tuple types
tuple_out types = ap out-Ty (sym (type.rolls-Tuple types)) ∙ out-roll-Ty (layer.Tuple types)

pub array_out : (element : Ty) (len : Const) → out-Ty (type.Array element len) ≡ layer.Array element len
array_out element len = ap out-Ty (sym (type.rolls-Array element len)) ∙ out-roll-Ty (layer.Array element len)

pub adt_out : (id : AdtId) (args : GenericArgs) → out-Ty (type.Adt id args) ≡ layer.Adt id args
adt_out id args = ap out-Ty (sym (type.rolls-Adt id args)) ∙ out-roll-Ty (layer.Adt id args)

pub adt_is : (ty : Ty) (id : AdtId) (args : GenericArgs) → out-Ty ty ≡ layer.Adt id args → ty ≡ type.Adt id args
adt_is ty id args e = sym (roll-out-Ty ty) ∙ ap roll-Ty e ∙ type.rolls-Adt id args

pub adt_not_tuple : (ty : Ty) (id : AdtId) (args : GenericArgs) (types : List Ty) → ty ≡ type.Adt id args → ty ≡ type.Tuple types → ⊥
adt_not_tuple ty id args types is also = let layers : layer.Adt id args ≡ layer.Tuple types = sym (adt_out id args) ∙ ap out-Ty (sym is ∙ also) ∙ tuple_out types in cc

pub only_array : (fact : Ty → Const → Type 0) (ty element : Ty) (len : Const) → ty ≡ type.Array element len → fact element len → (other : Ty) (count : Const) → ty ≡ type.Array other count → fact other count
only_array fact ty element len is holds other count also =
    let layers : layer.Array element len ≡ layer.Array other count = sym (array_out element len) ∙ ap out-Ty (sym is ∙ also) ∙ array_out other count in
    let e : element ≡ other = cc in
    let h : len ≡ count = cc in
    subst (fact other) h (subst (λ t. fact t len) e holds)

pub only_adt : (fact : AdtId → GenericArgs → Type 0) (ty : Ty) (id : AdtId) (args : GenericArgs) → ty ≡ type.Adt id args → fact id args → (other : AdtId) (given : GenericArgs) → ty ≡ type.Adt other given → fact other given
only_adt fact ty id args is holds other given also =
    let layers : layer.Adt id args ≡ layer.Adt other given = sym (adt_out id args) ∙ ap out-Ty (sym is ∙ also) ∙ adt_out other given in
    let e : id ≡ other = cc in
    let h : args ≡ given = cc in
    subst (fact other) h (subst (λ i. fact i args) e holds)
