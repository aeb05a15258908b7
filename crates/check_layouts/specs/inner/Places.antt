-- Where the types of fields and captures stand in `layouts`, where that is the same at all generic arguments.
use Rattle.std.specs.Prelude.{ℕ, List, [], Option, slice_get, unwrap_or, IfSome}
use Rattle.std.specs.List.{AllZip}
use Rattle.check_instances.specs.Instances.{ty_instance}
use Rattle.types.specs.declared.ids.VariantId.{VariantId}
use Rattle.types.specs.declared.ids.VariantId.TheVariants as variant
use Rattle.types.specs.declared.ty.GenericArgs.{GenericArgs}
use Rattle.types.specs.declared.ty.Ty.{Ty}
use Rattle.world.specs.declared.closures.Capture.{Capture}
use Rattle.world.specs.declared.closures.ClosureRow.{ClosureRow}
use Rattle.world.specs.declared.database.HirDatabase.{HirDatabase}
use Rattle.world.specs.declared.items.FieldRow.{FieldRow}
use Rattle.world.specs.declared.items.StructRow.{StructRow}
use Rattle.world.specs.declared.items.VariantRow.{VariantRow}
use Rattle.check_layouts.specs.declared.places.FixedPlaces.{FixedPlaces}
use Rattle.check_layouts.specs.inner.Fields.{IsPlaceOf}

-- the place of a type, if one is kept, is the same at all generic arguments
abbrev pub IsFixed : HirDatabase → Ty → Option (Option ℕ) → Type 0
IsFixed world ty fixed = IfSome fixed (λ place. (args : GenericArgs) → IsPlaceOf world (ty_instance world.normals args ty) place)

-- so are those of the fields of an item, and of the captures of a closure
abbrev pub AreFieldsFixed : HirDatabase → List FieldRow → List (Option (Option ℕ)) → Type 0
AreFieldsFixed world fields places = AllZip (λ field place. IsFixed world field.ty place) fields places

abbrev pub AreCapturesFixed : HirDatabase → List Capture → List (Option (Option ℕ)) → Type 0
AreCapturesFixed world captures places = AllZip (λ capture place. IsFixed world capture.ty place) captures places

-- those of all fields and captures
pub record AreFixed (world : HirDatabase) (places : FixedPlaces) : Type 0 where
  pub structs : AllZip (λ (row : StructRow) own. AreFieldsFixed world row.fields own) world.structs places.structs
  pub unions : AllZip (λ (row : StructRow) own. AreFieldsFixed world row.fields own) world.unions places.unions
  pub variants : AllZip (λ (row : VariantRow) own. AreFieldsFixed world row.fields own) world.variants places.variants
  pub closures : AllZip (λ (row : ClosureRow) own. AreCapturesFixed world row.captures own) world.closures places.closures

-- the places of the fields of a variant, struct or union
abbrev pub places_of_fields : FixedPlaces → VariantId → List (Option (Option ℕ))
places_of_fields places (variant.EnumVariantId id) = unwrap_or (slice_get places.variants id.0) []
places_of_fields places (variant.StructId id) = unwrap_or (slice_get places.structs id.0) []
places_of_fields places (variant.UnionId id) = unwrap_or (slice_get places.unions id.0) []
