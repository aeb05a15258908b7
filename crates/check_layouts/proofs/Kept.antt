-- Places that are kept for types without generic parameters.
use Rattle.std.proofs.Common.{◌≡◌, ℕ, ◌+◌, ◌<◌, List, [], ◌∷◌, ◌++◌, length, get_or, take, Option, None, Some, slice_get, unwrap_or, sym, ◌∙◌, ap, subst, false, refl}
use Rattle.std.proofs.lemmas.List.{take_more}
use Rattle.std.proofs.lemmas.Slice.Zip.{AllZip-left, all_zipped_more}
use Rattle.std.specs.List.{AllZip}
use Rattle.std.specs.Option.{IsSomeAnd, MatchOption, option_and_then, option_map}
use Rattle.check_instances.specs.Instances.{ty_instance}
use Rattle.mentions.specs.Mentions.{holds_param}
use Rattle.types.specs.Orders.{ty_cmp}
use Rattle.types.specs.Places.{place_at}
use Rattle.types.specs.declared.ids.VariantId.{VariantId}
use Rattle.types.specs.declared.ids.VariantId.TheVariants as variant
use Rattle.types.specs.declared.ty.GenericArgs.{GenericArgs}
use Rattle.types.specs.declared.ty.Ty.{Ty}
use Rattle.world.specs.Lookups.{fields_of}
use Rattle.world.specs.declared.closures.ClosureRow.{ClosureRow}
use Rattle.world.specs.declared.database.HirDatabase.{HirDatabase}
use Rattle.world.specs.declared.items.FieldRow.{FieldRow}
use Rattle.world.specs.declared.items.StructRow.{StructRow}
use Rattle.world.specs.declared.items.VariantRow.{VariantRow}
use Rattle.world.specs.declared.layout.Layout.{Layout}
use Rattle.check_layouts.specs.declared.places.FixedPlaces.{FixedPlaces}
use Rattle.check_layouts.specs.inner.Fields.{IsPlaceOf}
use Rattle.check_layouts.specs.inner.Places.{AreCapturesFixed, AreFieldsFixed, AreFixed, IsFixed, places_of_fields}
use Rattle.check_layouts.proofs.Deciding.{of_there}
use Rattle.check_layouts.proofs.Fixed.{same_instance}

-- the place of a type without parameters at some arguments is that at all of them
pub fixed_right : (world : HirDatabase) (ty : Ty) (args : GenericArgs) (place : Option ℕ) → holds_param ty ≡ false → IsPlaceOf world (ty_instance world.normals args ty) place → IsFixed world ty (Some place)
fixed_right world ty args place none is others = is ∙ ap (option_and_then (λ made. place_at {R = Ty × Layout} (λ row. row.0) (ty_cmp made) world.layouts)) (same_instance world.normals args others ty none)

-- a place that is kept is that of the type at any arguments
pub fixed_at : (world : HirDatabase) (args : GenericArgs) (ty : Ty) (fixed : Option (Option ℕ)) (place : Option ℕ) → fixed ≡ Some place → IsFixed world ty fixed → IsPlaceOf world (ty_instance world.normals args ty) place
fixed_at world args ty fixed place is right = of_there (λ (p : Option ℕ). (a : GenericArgs) → IsPlaceOf world (ty_instance world.normals a ty) p) fixed place is right args

-- what is kept at an index
pub kept_at : {X Y : Type 0} (fact : X → Y → Type 0) (xs : List X) (ys : List Y) (k : ℕ) (x : X) (d : Y) → slice_get xs k ≡ Some x → AllZip fact xs ys → fact x (unwrap_or (slice_get ys k) d)
kept_at {Y = Y} fact xs ys k x d at each = by (slice_get ys k) (subst (λ o. MatchOption o (Unit {0}) (λ z. IsSomeAnd (slice_get ys k) (fact z))) at (AllZip-left fact xs ys each k))
  where
    by : (o : Option Y) → IsSomeAnd o (fact x) → fact x (unwrap_or o d)
    by None h = absurd h
    by (Some y) h = h

-- one more is kept
pub kept_more : {X Y : Type 0} (fact : X → Y → Type 0) (xs : List X) (ys more : List Y) (k : ℕ) (x : X) (y : Y) → k < length xs → x ≡ get_or xs k x → more ≡ ys ++ y ∷ [] → fact x y → AllZip fact (take k xs) ys → AllZip fact (take (k + 1) xs) more
kept_more fact xs ys more k x y within at is holds each =
    subst (λ list. AllZip fact list more) (sym (take_more xs k x within ∙ ap (λ z. take k xs ++ z ∷ []) (sym at)))
    (subst (λ list. AllZip fact (take k xs ++ x ∷ []) list) (sym is) (all_zipped_more fact (take k xs) ys x y each holds))

fields_at : {X : Type 0} (fields_in : X → List FieldRow) (world : HirDatabase) (rows : List X) (kept : List (List (Option (Option ℕ)))) (k : ℕ) (fields : List FieldRow) → Some fields ≡ option_map fields_in (slice_get rows k) → AllZip (λ row own. AreFieldsFixed world (fields_in row) own) rows kept → AreFieldsFixed world fields (unwrap_or (slice_get kept k) [])
fields_at {X} fields_in world rows kept k fields is each = by (slice_get rows k) (λ row at. kept_at (λ row own. AreFieldsFixed world (fields_in row) own) rows kept k row [] at each) is
  where
    by : (o : Option X) → ((row : X) → o ≡ Some row → AreFieldsFixed world (fields_in row) (unwrap_or (slice_get kept k) [])) → Some fields ≡ option_map fields_in o → AreFieldsFixed world fields (unwrap_or (slice_get kept k) [])
    by None own e = cc
    by (Some row) own e =
        let same : fields_in row ≡ fields = cc in
        subst (λ f. AreFieldsFixed world f (unwrap_or (slice_get kept k) [])) same (own row refl)

-- the places of an item's fields
pub own_fields : (world : HirDatabase) (places : FixedPlaces) (v : VariantId) (fields : List FieldRow) → Some fields ≡ fields_of world v → AreFixed world places → AreFieldsFixed world fields (places_of_fields places v)
own_fields world places (variant.EnumVariantId id) fields at fixed = fields_at (λ (row : VariantRow). row.fields) world world.variants places.variants id.0 fields at fixed.variants
own_fields world places (variant.StructId id) fields at fixed = fields_at (λ (row : StructRow). row.fields) world world.structs places.structs id.0 fields at fixed.structs
own_fields world places (variant.UnionId id) fields at fixed = fields_at (λ (row : StructRow). row.fields) world world.unions places.unions id.0 fields at fixed.unions

-- the places of a closure's captures
pub own_captures : (world : HirDatabase) (places : FixedPlaces) (id : ℕ) (row : ClosureRow) → Some row ≡ slice_get world.closures id → AreFixed world places → AreCapturesFixed world row.captures (unwrap_or (slice_get places.closures id) [])
own_captures world places id row at fixed = kept_at (λ (closure : ClosureRow) own. AreCapturesFixed world closure.captures own) world.closures places.closures id row [] (sym at) fixed.closures
