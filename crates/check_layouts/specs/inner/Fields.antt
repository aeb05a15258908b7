-- What the walks over the parts of a layout find.
use Rattle.std.specs.Prelude.{◌≡◌, ℕ, List, [], ◌∷◌, Option, Some, slice_get, IfSome}
use Rattle.std.specs.Option.{option_and_then, option_map}
use Rattle.check_instances.specs.Instances.{ty_instance}
use Rattle.types.specs.Orders.{ty_cmp}
use Rattle.types.specs.Places.{place_at}
use Rattle.types.specs.declared.ids.AdtId.{AdtId}
use Rattle.types.specs.declared.ids.VariantId.{VariantId}
use Rattle.types.specs.declared.ty.GenericArgs.{GenericArgs}
use Rattle.types.specs.declared.ty.Ty.{Ty}
use Rattle.types.specs.declared.ty.Ty.TheVariants.{Adt, Tuple}
use Rattle.world.specs.declared.database.HirDatabase.{HirDatabase}
use Rattle.world.specs.declared.items.FieldRow.{FieldRow}
use Rattle.world.specs.declared.layout.Layout.{Layout}
use Rattle.world.specs.Lookups.{fields_of}
use Rattle.check_layouts.specs.Laid.{AreInside, HasLayout, LiesInside, field_type, variant_fields, variant_offsets}
use Rattle.check_layouts.specs.Sizes.{layout_above}

-- the index of the row of an optional type
abbrev pub IsPlaceOf : HirDatabase → Option Ty → Option ℕ → Type 0
IsPlaceOf world found place = place ≡ option_and_then (λ ty. place_at {R = Ty × Layout} (λ row. row.0) (ty_cmp ty) world.layouts) found

-- the size of a field's type, by its layout in one of the first i rows
abbrev pub field_size : HirDatabase → ℕ → Option Ty → Option ℕ
field_size world i found = option_map (λ (layout : Layout). layout.size) (option_and_then (layout_above world i) found)

-- stored sizes, by types before substitution: each is the size of the type at the generic arguments
unfoldable pub AreSizesRight : HirDatabase → ℕ → GenericArgs → List (Ty × ℕ) → Type 0
AreSizesRight world i args [] = Unit {0}
AreSizesRight world i args (entry ∷ sizes) = (field_size world i (ty_instance world.normals args entry.0) ≡ Some entry.1) × AreSizesRight world i args sizes

-- a part has a layout and, where it has an offset, lies inside
abbrev pub IsPartInside : (Ty → Option Layout) → ℕ → Option ℕ → Option Ty → Type 0
IsPartInside look size offset found = HasLayout look found × IfSome offset (λ start. LiesInside look size start found)

abbrev pub ArePartsInside : {X : Type 0} → (Ty → Option Layout) → ℕ → List ℕ → (X → Option Ty) → List X → Type 0
ArePartsInside look size offsets type_of parts = (k : ℕ) → IfSome (slice_get parts k) (λ part. IsPartInside look size (slice_get offsets k) (type_of part))

-- the fields of a struct, union or variant lie inside, with one offset each
abbrev pub IsItemInside : HirDatabase → (Ty → Option Layout) → ℕ → GenericArgs → List ℕ → VariantId → Type 0
IsItemInside world look size args offsets item = IfSome (fields_of world item) (λ rows. AreInside look size offsets (field_type world args) rows)

-- they have layouts
abbrev pub IsItemKnown : HirDatabase → (Ty → Option Layout) → GenericArgs → VariantId → Type 0
IsItemKnown world look args item = IfSome (fields_of world item) (λ rows. (k : ℕ) → IfSome (slice_get rows k) (λ field. HasLayout look (field_type world args field)))

-- the fields of each variant for which a layout has offsets lie inside
abbrev pub AreVariantsInside : HirDatabase → (Ty → Option Layout) → AdtId → GenericArgs → Layout → Type 0
AreVariantsInside world look id args layout = (v : ℕ) (rows : List FieldRow) (offsets : List ℕ) → variant_fields world id v ≡ Some rows → variant_offsets id layout v ≡ Some offsets → AreInside look layout.size offsets (field_type world args) rows

-- so do those of a type, and the parts of a tuple
abbrev pub AreFieldsInside : HirDatabase → (Ty → Option Layout) → Ty → Layout → Type 0
AreFieldsInside world look ty layout = ((id : AdtId) (args : GenericArgs) → ty ≡ Adt id args → AreVariantsInside world look id args layout) × ((types : List Ty) → ty ≡ Tuple types → AreInside look layout.size layout.offsets Some types)
