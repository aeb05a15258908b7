-- What operations make of values of the types that they are on: a value of the result's size, or a panic.
use Rattle.std.proofs.Common.{⊎_elim, ◌⊎◌, ◌≡◌, ℕ, suc, ◌*◌, false, true, List, [], ◌∷◌, length, map, flat_map, slice_get, All, IfSome, Option, Some, unwrap_or, option_map, option_and_then, refl, sym, ap, ◌∙◌, subst, arith, length-append}
use Rattle.std.proofs.lemmas.List.Elements.{All-head, All-tail}
use Rattle.types.specs.declared.ty.Ty.{Ty, Bool as BoolTy, Int as IntType, Uint as UintType, Char as CharType}
use Rattle.types.specs.declared.ids.AdtId.TheVariants as adt
use Rattle.types.specs.declared.ids.StructId.{StructId}
use Rattle.types.specs.declared.ids.VariantId.TheVariants as variant
use Rattle.types.specs.declared.ty.GenericArgs.{GenericArgs}
use Rattle.types.specs.declared.ty.Ty.TheVariants.{Adt, Array, Tuple}
use Rattle.world.specs.declared.layout.Layout.{Layout}
use Rattle.world.specs.Checked.{IsChecked, fixed_size}
use Rattle.world.specs.Lookups.{fields_of, layout_of}
use Rattle.world.specs.declared.items.FieldRow.{FieldRow}
use Rattle.numbers.specs.declared.operator.Operator.{Operator}
use Rattle.numbers.specs.declared.operator.Operator.TheVariants.{Add, Sub, Mul, Div, Rem, BitXor, BitAnd, BitOr, Shl, Shr, Eq, Ne, Lt, Le, Gt, Ge}
use Rattle.numbers.specs.Operators.{computed, negated, inverted, is_shift, is_comparison, is_on_booleans, kind_of}
use Rattle.source_meaning.specs.Aggregates.{array_length, made, laid_out, repeated_for, IsPartInside, HasParts, HasAggregates}
use Rattle.source_meaning.specs.Core.{Operation, Negate, Invert, Keep, Convert, Combine, MakeTuple, MakeArray, Repeat, MakeStruct}
use Rattle.source_meaning.specs.Meaning.{Value, converted_to, answered, struct_of}
use Rattle.source_meaning.specs.Source.{Source}
use Rattle.source_meaning.specs.Structs.{AreFieldTypes}
use Rattle.source_meaning.specs.Valid.{IsNumber, IsBool, AreIntegers, AreScalars, AreShifted, AreCompared, IsCombined, IsTyped, IsLaidOut}
use Rattle.source_meaning.proofs.Aggregates.{AreInside, constructed-there, length-repeated, length_of_array}
use Rattle.source_meaning.proofs.Layouts.{number_has_length, number_has_size, integer_is_number, bool_is_number, scalar_is_number, bool_length_is_one}
use Rattle.source_meaning.proofs.Structs.{fields-are-parts}
use Rattle.source_meaning.proofs.Operators.{Fits, IsLengthOf, IsAllowed, allowed_on_integer, allowed_on_scalar, allowed_on_number, length_is_width, converted_fits, unshifted_fits, compared_fits, shift_fits, negated_fits, inverted_fits}

-- an operation that makes no struct
abbrev pub IsNoStruct : Operation → Type 0
IsNoStruct (MakeStruct id args places) = ⊥
IsNoStruct _ = Unit {0}

-- how many bytes the values of a type have
abbrev pub size_at : Source → Option Ty → ℕ
size_at source ty = unwrap_or (option_map (λ layout. layout.size) (option_and_then (layout_of source.world) ty)) 0

-- a value of a type: of its kind, and as long as its layout says, or as a truth value is
pub record IsValueOf (source : Source) (ty : Ty) (value : Value) : Type 0 where
  pub kind : value.kind ≡ kind_of ty
  pub long : IsNumber ty → IsLengthOf ty (length value.bytes)
  pub size : (length value.bytes ≡ size_at source (Some ty)) ⊎ IsBool ty

abbrev pub AreValues : Source → List Ty → List Value → Type 0
AreValues source [] [] = Unit {0}
AreValues source (ty ∷ types) (value ∷ values) = IsValueOf source ty value × AreValues source types values
AreValues source _ _ = ⊥

module _ (source : Source) where
  single : (ty : Ty) (values : List Value) → AreValues source (ty ∷ []) values → (value : Value) × (values ≡ value ∷ []) × IsValueOf source ty value
  single ty [] are = absurd are
  single ty (value ∷ []) are = (value, refl, are.0)
  single ty (value ∷ more ∷ rest) are = absurd are.1

  pair : (ty other : Ty) (values : List Value) → AreValues source (ty ∷ other ∷ []) values → (left : Value) × (right : Value) × (values ≡ left ∷ right ∷ []) × IsValueOf source ty left × IsValueOf source other right
  pair ty other [] are = absurd are
  pair ty other (left ∷ []) are = absurd are.1
  pair ty other (left ∷ right ∷ []) are = (left, right, refl, are.0, are.1.0)
  pair ty other (left ∷ right ∷ more ∷ rest) are = absurd are.1.1

  -- two values of one type have the same length
  same_length : (ty : Ty) (left right : Value) → IsNumber ty → IsValueOf source ty left → IsValueOf source ty right → length left.bytes ≡ length right.bytes
  same_length BoolTy left right scalar is is' = is.long tt ∙ sym (is'.long tt)
  same_length (IntType ty) left right scalar is is' = ⊎_elim (λ size. ⊎_elim (λ size'. size ∙ sym size') (λ none. absurd none) is'.size) (λ none. absurd none) is.size
  same_length (UintType ty) left right scalar is is' = ⊎_elim (λ size. ⊎_elim (λ size'. size ∙ sym size') (λ none. absurd none) is'.size) (λ none. absurd none) is.size
  same_length CharType left right scalar is is' = is.long tt ∙ sym (is'.long tt)
  same_length _ left right scalar is is' = absurd scalar

  -- and that of the type's layout, where it has the length of a value
  value_size : (ty : Ty) (value : Value) → IsNumber ty → IsLengthOf ty (size_at source (Some ty)) → IsValueOf source ty value → length value.bytes ≡ size_at source (Some ty)
  value_size ty value scalar long is =
      ⊎_elim (λ size. size) (λ is_bool. bool_length_is_one ty (length value.bytes) is_bool (is.long scalar) ∙ sym (bool_length_is_one ty (size_at source (Some ty)) is_bool long)) is.size

  module _ (op : Operator) (ty : Ty) (left right : Value) where
    abbrev ComputedFits : Type 0
    ComputedFits = Fits (size_at source (Some ty)) (computed op left.kind right.kind left.bytes right.bytes)

    unshifted : is_shift op ≡ false → is_comparison op ≡ false → IsAllowed op ty → IsNumber ty → IsLengthOf ty (size_at source (Some ty)) → IsValueOf source ty left → IsValueOf source ty right → ComputedFits
    unshifted no_shift no_comparison allowed scalar long is is' =
        subst (λ size. Fits size (computed op left.kind right.kind left.bytes right.bytes)) (value_size ty left scalar long is)
        (unshifted_fits op ty left.kind right.kind left.bytes right.bytes no_shift no_comparison allowed is.kind is'.kind (is.long scalar) (same_length ty left right scalar is is'))

    integers : (a b : Ty) → is_shift op ≡ false → is_comparison op ≡ false → AreIntegers a b ty → (IsNumber ty → IsLengthOf ty (size_at source (Some ty))) → IsValueOf source a left → IsValueOf source b right → ComputedFits
    integers a b no_shift no_comparison are long is is' =
        let scalar = integer_is_number ty are.0 in
        unshifted no_shift no_comparison (allowed_on_integer op ty are.0) scalar (long scalar) (subst (λ t. IsValueOf source t left) are.1 is) (subst (λ t. IsValueOf source t right) are.2 is')

    scalars : (a b : Ty) → is_shift op ≡ false → is_comparison op ≡ false → is_on_booleans op ≡ true → AreScalars a b ty → (IsNumber ty → IsLengthOf ty (size_at source (Some ty))) → IsValueOf source a left → IsValueOf source b right → ComputedFits
    scalars a b no_shift no_comparison on_booleans are long is is' =
        let number = scalar_is_number ty are.0 in
        unshifted no_shift no_comparison (allowed_on_scalar op ty on_booleans are.0) number (long number) (subst (λ t. IsValueOf source t left) are.1 is) (subst (λ t. IsValueOf source t right) are.2 is')

    shifted : (a b : Ty) → is_shift op ≡ true → is_comparison op ≡ false → AreShifted a b ty → (IsNumber ty → IsLengthOf ty (size_at source (Some ty))) → IsValueOf source a left → IsValueOf source b right → ComputedFits
    shifted a b shifts no_comparison are long is is' =
        let one = subst (λ t. IsValueOf source t left) are.2 is in
        let scalar = integer_is_number ty are.0 in
        subst (λ size. Fits size (computed op left.kind right.kind left.bytes right.bytes)) (value_size ty left scalar (long scalar) one)
        (shift_fits op ty b left.kind right.kind left.bytes right.bytes shifts no_comparison are.0 are.1 one.kind is'.kind (one.long scalar) (is'.long (integer_is_number b are.1)))

    compared : (a b : Ty) → is_shift op ≡ false → is_comparison op ≡ true → is_on_booleans op ≡ true → AreCompared a b ty → (IsNumber ty → IsLengthOf ty (size_at source (Some ty))) → IsValueOf source a left → IsValueOf source b right → ComputedFits
    compared a b no_shift compares on_booleans are long is is' =
        let other = subst (λ t. IsValueOf source t right) are.2 is' in
        subst (λ size. Fits size (computed op left.kind right.kind left.bytes right.bytes)) (sym (bool_length_is_one ty (size_at source (Some ty)) are.0 (long (bool_is_number ty are.0))))
        (compared_fits op a left.kind right.kind left.bytes right.bytes no_shift compares (allowed_on_number op a on_booleans compares are.1) is.kind other.kind (is.long are.1) (same_length a left right are.1 is other))

  -- what an operator makes of values of types that fit it has the size of its own type
  pub combined_fits : (op : Operator) (a b ty : Ty) (left right : Value) → IsCombined op a b ty → (IsNumber ty → IsLengthOf ty (size_at source (Some ty))) → IsValueOf source a left → IsValueOf source b right → Fits (size_at source (Some ty)) (computed op left.kind right.kind left.bytes right.bytes)
  unfolding is_shift is_comparison is_on_booleans
  combined_fits Add a b ty left right are = integers Add ty left right a b refl refl are
  combined_fits Sub a b ty left right are = integers Sub ty left right a b refl refl are
  combined_fits Mul a b ty left right are = integers Mul ty left right a b refl refl are
  combined_fits Div a b ty left right are = integers Div ty left right a b refl refl are
  combined_fits Rem a b ty left right are = integers Rem ty left right a b refl refl are
  combined_fits Shl a b ty left right are = shifted Shl ty left right a b refl refl are
  combined_fits Shr a b ty left right are = shifted Shr ty left right a b refl refl are
  combined_fits BitXor a b ty left right are = scalars BitXor ty left right a b refl refl refl are
  combined_fits BitOr a b ty left right are = scalars BitOr ty left right a b refl refl refl are
  combined_fits BitAnd a b ty left right are = scalars BitAnd ty left right a b refl refl refl are
  combined_fits Eq a b ty left right are = compared Eq ty left right a b refl refl refl are
  combined_fits Ne a b ty left right are = compared Ne ty left right a b refl refl refl are
  combined_fits Lt a b ty left right are = compared Lt ty left right a b refl refl refl are
  combined_fits Le a b ty left right are = compared Le ty left right a b refl refl refl are
  combined_fits Gt a b ty left right are = compared Gt ty left right a b refl refl refl are
  combined_fits Ge a b ty left right are = compared Ge ty left right a b refl refl refl are

  -- the size of a type with a layout
  laid_size : (ty : Ty) (laid : IsLaidOut source (Some ty)) → size_at source (Some ty) ≡ laid.layout.size
  laid_size ty laid = ap (λ given. unwrap_or (option_map (λ layout. layout.size) given) 0) laid.found

  -- a value keeps the size of its type
  kept_fits : (ty : Ty) (value : Value) → (IsNumber ty → IsLengthOf ty (size_at source (Some ty))) → IsValueOf source ty value → length value.bytes ≡ size_at source (Some ty)
  kept_fits ty value long is =
      ⊎_elim (λ size. size) (λ is_bool. (let number = bool_is_number ty is_bool in value_size ty value number (long number) is)) is.size

  module _ (checked : IsChecked source.world) where
    -- the values of a number's type with a layout have a length that it may have
    pub number_is_long : (ty : Ty) → IsLaidOut source (Some ty) → IsNumber ty → IsLengthOf ty (size_at source (Some ty))
    number_is_long ty laid number = subst (IsLengthOf ty) (sym (laid_size ty laid)) (number_has_length source.world ty laid.layout checked number laid.found)

    -- a value is as long as its type's layout says, a truth value too
    pub value_is_long : (ty : Ty) (layout : Layout) (value : Value) → layout_of source.world ty ≡ Some layout → IsValueOf source ty value → length value.bytes ≡ layout.size
    value_is_long ty layout value found is =
        let laid : IsLaidOut source (Some ty) = record { layout = layout; found = found } in
        kept_fits ty value (number_is_long ty laid) is ∙ laid_size ty laid

    -- the parts of a tuple lie where its layout says
    parts_are_inside : (size : ℕ) (offsets : List ℕ) (types : List Ty) (values : List Value) → length offsets ≡ length types →
        ((k offset : ℕ) (ty : Ty) → slice_get types k ≡ Some ty → slice_get offsets k ≡ Some offset → IsPartInside source.world size offset ty) → AreValues source types values →
        AreInside size offsets (map (λ value. value.bytes) values)
    parts_are_inside size offsets [] [] count inside are = tt
    parts_are_inside size offsets [] (value ∷ values) count inside are = absurd are
    parts_are_inside size offsets (ty ∷ types) [] count inside are = absurd are
    parts_are_inside size [] (ty ∷ types) (value ∷ values) count inside are = absurd (omega (arith, count))
    parts_are_inside size (offset ∷ offsets) (ty ∷ types) (value ∷ values) count inside are =
        let first = inside 0 offset ty refl refl in
        (omega (arith, first.ends, value_is_long ty first.layout value first.has are.0), parts_are_inside size offsets types values (omega (arith, count)) (λ k. inside (suc k)) are.1)

    -- so a tuple of them is there, and has its size
    tuple_fits : (types : List Ty) (values : List Value) (layout : Layout) → HasParts source.world types layout → AreValues source types values → Fits layout.size (laid_out (Some layout) (map (λ value. value.bytes) values))
    tuple_fits types values layout has are =
        let there = constructed-there layout.size layout.offsets (map (λ value. value.bytes) values) (parts_are_inside layout.size layout.offsets types values has.count has.inside are) in
        subst (λ given. Fits layout.size (made given)) (sym there.is) there.long

    -- a struct of values of its fields' types has its size
    pub struct_fits : HasAggregates source.world → (id : StructId) (args : GenericArgs) (fields : List FieldRow) (types : List Ty) (values : List Value) (ty : Ty) → IsLaidOut source (Some ty) → ty ≡ Adt (adt.StructId id) args →
        fields_of source.world (variant.StructId id) ≡ Some fields → AreFieldTypes source.world args fields types → AreValues source types values → Fits (size_at source (Some ty)) (struct_of (layout_of source.world (Adt (adt.StructId id) args)) (Some values))
    struct_fits aggregates id args fields types values ty laid is there typed are =
        let found : layout_of source.world (Adt (adt.StructId id) args) ≡ Some laid.layout = subst (λ t. layout_of source.world t ≡ Some laid.layout) is laid.found in
        let has = fields-are-parts source.world args fields types laid.layout typed (aggregates.structs id args fields laid.layout there found) in
        subst (λ size. Fits size (struct_of (layout_of source.world (Adt (adt.StructId id) args)) (Some values))) (sym (laid_size ty laid))
        (subst (λ layout. Fits laid.layout.size (struct_of layout (Some values))) (sym found)
        (tuple_fits types values laid.layout has are))

    -- the elements of an array have the size of its element each
    length-elements : (element : Ty) (inner : Layout) (types : List Ty) (values : List Value) → layout_of source.world element ≡ Some inner → All (λ one. one ≡ element) types → AreValues source types values →
        length (flat_map (λ value. value.bytes) values) ≡ length types * inner.size
    length-elements element inner [] [] found each are = omega arith
    length-elements element inner [] (value ∷ values) found each are = absurd are
    length-elements element inner (ty ∷ types) [] found each are = absurd are
    length-elements element inner (ty ∷ types) (value ∷ values) found each are =
        let is = subst (λ t. IsValueOf source t value) (All-head (λ one. one ≡ element) ty types each) are.0 in
        omega (arith, length-append value.bytes (flat_map (λ one. one.bytes) values), value_is_long element inner value found is, length-elements element inner types values found (All-tail (λ one. one ≡ element) ty types each) are.1)

    -- what an operation makes of values of types that fit it has the size of its own type, where it makes no struct
    pub typed_fits : HasAggregates source.world → (operation : Operation) → IsNoStruct operation → (types : List Ty) (values : List Value) (ty : Ty) → IsLaidOut source (Some ty) → IsTyped source.world operation types ty → AreValues source types values →
        Fits (size_at source (Some ty)) (answered source.world (Some ty) operation values)
    unfolding answered
    typed_fits aggregates Negate other (a ∷ []) values ty laid typed are =
        let value = single a values are in
        let one = subst (λ t. IsValueOf source t value.0) typed.1 value.2 in
        let number = integer_is_number ty typed.0 in
        subst (λ given. Fits (size_at source (Some ty)) (answered source.world (Some ty) Negate given)) (sym value.1)
        (subst (λ size. Fits size (negated value.0.kind value.0.bytes)) (value_size ty value.0 number (number_is_long ty laid number) one) (negated_fits ty value.0.kind value.0.bytes typed.0 one.kind (one.long number)))
    typed_fits aggregates Invert other (a ∷ []) values ty laid typed are =
        let value = single a values are in
        let one = subst (λ t. IsValueOf source t value.0) typed.1 value.2 in
        let number = scalar_is_number ty typed.0 in
        subst (λ given. Fits (size_at source (Some ty)) (answered source.world (Some ty) Invert given)) (sym value.1)
        (subst (λ size. Fits size (inverted value.0.kind value.0.bytes)) (value_size ty value.0 number (number_is_long ty laid number) one) (inverted_fits ty value.0.kind value.0.bytes typed.0 one.kind (one.long number)))
    typed_fits aggregates Keep other (a ∷ []) values ty laid typed are =
        let value = single a values are in
        let one = subst (λ t. IsValueOf source t value.0) typed value.2 in
        subst (λ given. Fits (size_at source (Some ty)) (answered source.world (Some ty) Keep given)) (sym value.1) (kept_fits ty value.0 (number_is_long ty laid) one)
    typed_fits aggregates Convert other (a ∷ []) values ty laid typed are =
        let value = single a values are in
        let size : fixed_size ty ≡ Some (size_at source (Some ty)) = number_has_size source.world ty laid.layout checked typed.1 laid.found ∙ ap Some (sym (laid_size ty laid)) in
        subst (λ given. Fits (size_at source (Some ty)) (answered source.world (Some ty) Convert given)) (sym value.1)
        (subst (λ size. Fits (size_at source (Some ty)) (converted_to size value.0)) (sym size)
        (converted_fits a value.0.kind (size_at source (Some ty)) value.0.bytes typed.0 value.2.kind (value.2.long typed.0) (length_is_width ty (size_at source (Some ty)) typed.1 (number_is_long ty laid typed.1))))
    typed_fits aggregates (Combine op) other (a ∷ b ∷ []) values ty laid typed are =
        let given = pair a b values are in
        subst (λ all. Fits (size_at source (Some ty)) (answered source.world (Some ty) (Combine op) all)) (sym given.2) (combined_fits op a b ty given.0 given.1 typed (number_is_long ty laid) given.3 given.4)
    typed_fits aggregates MakeTuple other types values ty laid typed are =
        let found : layout_of source.world (Tuple types) ≡ Some laid.layout = subst (λ t. layout_of source.world t ≡ Some laid.layout) typed laid.found in
        subst (λ size. Fits size (laid_out (layout_of source.world ty) (map (λ value. value.bytes) values))) (sym (laid_size ty laid))
        (subst (λ layout. Fits laid.layout.size (laid_out layout (map (λ value. value.bytes) values))) (sym laid.found)
        (tuple_fits types values laid.layout (aggregates.tuples types laid.layout found) are))
    typed_fits aggregates MakeArray other types values ty laid typed are =
        let found : layout_of source.world (Array typed.element typed.len) ≡ Some laid.layout = subst (λ t. layout_of source.world t ≡ Some laid.layout) typed.is laid.found in
        let has = aggregates.arrays typed.element typed.len laid.layout found in
        let product : laid.layout.size ≡ length types * has.inner.size = subst (λ count. IfSome count (λ n. laid.layout.size ≡ n * has.inner.size)) typed.count has.product in
        length-elements typed.element has.inner types values has.has typed.each are ∙ sym product ∙ sym (laid_size ty laid)
    typed_fits aggregates Repeat other (a ∷ []) values ty laid typed are =
        let value = single a values are in
        let found : layout_of source.world (Array a typed.len) ≡ Some laid.layout = subst (λ t. layout_of source.world t ≡ Some laid.layout) typed.is laid.found in
        let has = aggregates.arrays a typed.len laid.layout found in
        let product : laid.layout.size ≡ typed.count * has.inner.size = subst (λ count. IfSome count (λ n. laid.layout.size ≡ n * has.inner.size)) typed.known has.product in
        let count : array_length ty ≡ Some typed.count = ap array_length typed.is ∙ length_of_array a typed.len ∙ typed.known in
        subst (λ given. Fits (size_at source (Some ty)) (answered source.world (Some ty) Repeat given)) (sym value.1)
        (subst (λ count. Fits (size_at source (Some ty)) (repeated_for count value.0.bytes)) (sym count)
        (length-repeated typed.count value.0.bytes ∙ ap (λ size. typed.count * size) (value_is_long a has.inner value.0 has.has value.2) ∙ sym product ∙ sym (laid_size ty laid)))
    typed_fits aggregates (MakeStruct id args places) other types values ty laid typed are = absurd other
    typed_fits aggregates Negate other _ values ty laid typed are = absurd typed
    typed_fits aggregates Invert other _ values ty laid typed are = absurd typed
    typed_fits aggregates Keep other _ values ty laid typed are = absurd typed
    typed_fits aggregates Convert other _ values ty laid typed are = absurd typed
    typed_fits aggregates (Combine op) other _ values ty laid typed are = absurd typed
    typed_fits aggregates Repeat other _ values ty laid typed are = absurd typed
