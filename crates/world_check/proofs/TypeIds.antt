-- The ids in the types of a world in which each row of the check holds.
use Rattle.std.proofs.Common.{◌≡◌, ℕ, ◌&&◌, Bool, true, Option, Some, List, length, slice_get, sym, ◌∙◌, ap, subst}
use Rattle.std.specs.List.{list_all}
use Rattle.mentions.specs.Mentions.{ty_mentions}
use Rattle.types.specs.declared.ids.VariantId.{VariantId}
use Rattle.types.specs.declared.ids.VariantId.TheVariants as variant
use Rattle.types.specs.declared.ty.Ty.{Ty}
use Rattle.world.specs.Lookups.{fields_of}
use Rattle.world.specs.declared.database.BodyRow.{BodyRow}
use Rattle.world.specs.declared.database.HirDatabase.{HirDatabase}
use Rattle.world.specs.declared.items.FieldRow.{FieldRow}
use Rattle.world.specs.declared.items.StructRow.{StructRow}
use Rattle.world.specs.declared.items.VariantRow.{VariantRow}
use Rattle.world.specs.declared.layout.Layout.{Layout}
use Rattle.check_ids.specs.Inferred.{are_types_named, has_type_each, is_inferred_right}
use Rattle.check_ids.specs.Parts.{are_roots_known, if_there, is_part_right}
use Rattle.check_ids.specs.declared.part.BodyPart.TheVariants as part
use Rattle.check_items.specs.Names.{are_fields_named, are_variants_named, is_layout_named, is_struct_named, is_variant_named}
use Rattle.check_names.specs.Known.{is_named, is_nameable, is_ty_named}
use Rattle.world_check.specs.Meets.{has_new_type}
use Rattle.world_check.specs.Rows.{Holds}
use Rattle.world_check.specs.TypeIds.{AreIdsKnown, HasKnownIds}
use Rattle.world_check.specs.declared.fault.CheckRow.TheVariants.{C1}
use Rattle.world_check.specs.declared.place.Place.TheVariants.{Row}
use Rattle.world_check.specs.declared.place.TableName.TheVariants.{Bodies, Layouts, Structs, Unions, Variants}
use Rattle.check_layouts.proofs.Listed.{all_has}
use Rattle.world_check.proofs.Laid.{layout_row, mapped}
use Rattle.world_check.proofs.Passing.{both}

known : (world : HirDatabase) (ty : Ty) → is_ty_named world ty ≡ true → HasKnownIds world ty
known world ty e mention at = all_has (is_named world) (ty_mentions ty) mention at.0 e at.1

one_known : (world : HirDatabase) (types : List Ty) (k : ℕ) (ty : Ty) → list_all (is_ty_named world) types ≡ true → slice_get types k ≡ Some ty → HasKnownIds world ty
one_known world types k ty e at = known world ty (all_has (is_ty_named world) types ty k e at)

-- a test of the element at an index
at_index : {X : Type 0} (test : X → Bool) (found : Option X) (x : X) → found ≡ Some x → if_there test found ≡ true → test x ≡ true
at_index test found x there e = ap (if_there test) (sym there) ∙ e

-- all types that inference found in a body
inferred : (world : HirDatabase) (b : ℕ) (row : BodyRow) → Holds world → slice_get world.bodies b ≡ Some row → are_types_named world row.infer ≡ true
inferred world b row holds there =
    let whole = at_index (λ (r : BodyRow). is_part_right world r.body r.infer part.Rest) (slice_get world.bodies b) row there (holds.met C1 (Row Bodies b)) in
    let parts = both (are_roots_known row.body) (is_inferred_right world row.body row.infer) whole in
    let a = both _ _ parts.1 in
    let c = both _ _ a.0 in
    let d = both _ _ c.0 in
    (both (has_type_each row.body row.infer) (are_types_named world row.infer) d.0).1

module _ (world : HirDatabase) (holds : Holds world) where
  fields_named : (id : VariantId) (rows : List FieldRow) → fields_of world id ≡ Some rows → are_fields_named world rows ≡ true
  fields_named (variant.StructId id) rows e =
      let found = mapped (λ (row : StructRow). row.fields) (slice_get world.structs id.0) rows e in
      ap (are_fields_named world) (sym found.2) ∙ at_index (is_struct_named world) (slice_get world.structs id.0) found.0 found.1 (holds.met C1 (Row Structs id.0))
  fields_named (variant.UnionId id) rows e =
      let found = mapped (λ (row : StructRow). row.fields) (slice_get world.unions id.0) rows e in
      ap (are_fields_named world) (sym found.2) ∙ at_index (is_struct_named world) (slice_get world.unions id.0) found.0 found.1 (holds.met C1 (Row Unions id.0))
  fields_named (variant.EnumVariantId id) rows e =
      let found = mapped (λ (row : VariantRow). row.fields) (slice_get world.variants id.0) rows e in
      let whole = at_index (is_variant_named world) (slice_get world.variants id.0) found.0 found.1 (holds.met C1 (Row Variants id.0)) in
      let last = both _ _ whole in
      ap (are_fields_named world) (sym found.2) ∙ (both _ (are_fields_named world found.0.fields) last.0).1

  layout_known : (ty : Ty) (layout : Layout) (i : ℕ) (row : Ty × Layout) → slice_get world.layouts i ≡ Some row → ty ≡ row.0 → HasKnownIds world ty
  layout_known ty layout i row at same =
      let whole = at_index (λ (r : Ty × Layout). is_layout_named world r && has_new_type world i r) (slice_get world.layouts i) row at (holds.met C1 (Row Layouts i)) in
      let named = (both (is_layout_named world row) (has_new_type world i row) whole).0 in
      let last = both _ (are_variants_named row.1.variants) named in
      let first = both (is_ty_named world row.0) (is_nameable (length row.1.offsets)) last.0 in
      subst (HasKnownIds world) (sym same) (known world row.0 first.0)

  -- all ids in the types of a world where each row of the check holds
  pub ids_known : AreIdsKnown world
  ids_known = record {
    exprs = λ b e row ty there at.
        let a = both _ _ (inferred world b row holds there) in
        let c = both _ (list_all (is_ty_named world) row.infer.binding_types) a.0 in
        let d = both (list_all (is_ty_named world) row.infer.expr_types) (list_all (is_ty_named world) row.infer.pat_types) c.0 in
        one_known world row.infer.expr_types e ty d.0 at;
    pats = λ b p row ty there at.
        let a = both _ _ (inferred world b row holds there) in
        let c = both _ (list_all (is_ty_named world) row.infer.binding_types) a.0 in
        let d = both (list_all (is_ty_named world) row.infer.expr_types) (list_all (is_ty_named world) row.infer.pat_types) c.0 in
        one_known world row.infer.pat_types p ty d.1 at;
    bindings = λ b i row ty there at.
        let a = both _ _ (inferred world b row holds there) in
        let c = both _ (list_all (is_ty_named world) row.infer.binding_types) a.0 in
        one_known world row.infer.binding_types i ty c.1 at;
    fields = λ id k rows field found at.
        let all = (both (is_nameable (length rows)) _ (fields_named id rows found)).1 in
        known world field.ty (all_has (λ (f : FieldRow). is_ty_named world f.ty) rows field k all at);
    layouts = λ ty layout e.
        let found = layout_row world ty layout e in
        layout_known ty layout found.0 found.1 found.2 found.3;
  }
