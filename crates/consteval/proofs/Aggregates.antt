-- Where the parts of tuples, of arrays and of structs lie in a world that passed the check.
use Rattle.std.proofs.Common.{◌≡◌, ℕ, Some, refl, subst}
use Rattle.types.specs.declared.ids.AdtId.TheVariants.{StructId}
use Rattle.types.specs.declared.ty.GenericArgs.{GenericArgs}
use Rattle.types.specs.declared.ty.Ty.{Ty}
use Rattle.types.specs.declared.ty.Ty.TheVariants.{Adt, Array, Tuple}
use Rattle.world.specs.Lookups.{layout_of}
use Rattle.world.specs.declared.database.HirDatabase.{HirDatabase}
use Rattle.world.specs.declared.items.FieldRow.{FieldRow}
use Rattle.world_check.specs.Laid.{LiesInside, field_type as laid_type}
use Rattle.world_check.specs.Rows.{Holds}
use Rattle.world_check.proofs.Laid.{laid_out}
use Rattle.source_meaning.specs.Aggregates.{HasAggregates, IsPartInside}
use Rattle.source_meaning.specs.Structs.{field_type}

lies-inside : (world : HirDatabase) (size offset : ℕ) (ty : Ty) → LiesInside (layout_of world) size offset (Some ty) → IsPartInside world size offset ty
lies-inside world size offset ty lies =
    let is = lies.is in
    let same : lies.ty ≡ ty = cc in
    record { layout = lies.layout; has = subst (λ (t : Ty). layout_of world t ≡ Some lies.layout) same lies.has; ends = lies.ends }

field-inside : (world : HirDatabase) (args : GenericArgs) (size offset : ℕ) (field : FieldRow) (ty : Ty) → field_type world args field ≡ Some ty → LiesInside (layout_of world) size offset (laid_type world args field) → IsPartInside world size offset ty
field-inside world args size offset field ty typed lies =
    let is = lies.is in
    let same : lies.ty ≡ ty = cc in
    record { layout = lies.layout; has = subst (λ (t : Ty). layout_of world t ≡ Some lies.layout) same lies.has; ends = lies.ends }

pub has-aggregates : (world : HirDatabase) → Holds world → HasAggregates world
has-aggregates world holds = record {
  tuples = λ types layout found.
      let parts = (laid_out world holds (Tuple types) layout found).0.parts types refl in
      record { count = parts.count; inside = λ k offset ty at begins. lies-inside world layout.size offset ty (parts.inside k offset ty at begins) };
  structs = λ id args fields layout rows found.
      let parts = (laid_out world holds (Adt (StructId id) args) layout found).0.fields (StructId id) args 0 fields layout.offsets refl rows refl in
      record { count = parts.count; inside = λ k offset field ty at typed begins. field-inside world args layout.size offset field ty typed (parts.inside k offset field at begins) };
  arrays = λ element len layout found.
      let elements = (laid_out world holds (Array element len) layout found).0.elements element len refl in
      record { inner = elements.layout; has = elements.has; product = elements.product };
}
