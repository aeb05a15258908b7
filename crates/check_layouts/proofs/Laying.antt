-- What `IsLaidOut` asks of a type, part by part.
use Rattle.std.proofs.Common.{◌≡◌, ℕ, ◌*◌, true, List, Option, Some, slice_get, IfSome, Decides, refl, sym, ◌∙◌, ap, subst}
use Rattle.std.proofs.lemmas.Bool.{false≢true}
use Rattle.std.specs.Option.{option_and_then}
use Rattle.types.specs.declared.ids.AdtId.{AdtId}
use Rattle.types.specs.declared.ids.AdtId.TheVariants.{StructId, UnionId, EnumId}
use Rattle.types.specs.declared.ids.EnumId.{EnumId as EnumName}
use Rattle.types.specs.declared.ids.EnumVariantId.{EnumVariantId}
use Rattle.types.specs.declared.ids.InternedClosureId.{InternedClosureId}
use Rattle.types.specs.declared.ids.VariantId.TheVariants as variant
use Rattle.types.specs.declared.ty.Const.TheOpen as layer
use Rattle.types.specs.declared.ty.Const.TheViews.{out-Ty}
use Rattle.types.specs.declared.ty.GenericArgs.{GenericArgs}
use Rattle.types.specs.declared.ty.Ty.{Ty}
use Rattle.types.specs.declared.ty.Ty.TheVariants as type
use Rattle.mentions.specs.Mentions.{ty_mentions}
use Rattle.mentions.specs.declared.mention.Mention.{Mention}
use Rattle.mentions.specs.declared.mention.Mention.TheVariants as mention
use Rattle.world.specs.Checked.{IsAlignment}
use Rattle.world.specs.Lookups.{fields_of}
use Rattle.world.specs.declared.closures.ClosureRow.{ClosureRow}
use Rattle.world.specs.declared.database.HirDatabase.{HirDatabase}
use Rattle.world.specs.declared.items.FieldRow.{FieldRow}
use Rattle.world.specs.declared.layout.Layout.{Layout}
use Rattle.world.specs.declared.layout.MultiLayout.{MultiLayout}
use Rattle.world.specs.declared.layout.Variants.{Variants}
use Rattle.world.specs.declared.layout.Variants.TheVariants.{Multiple}
use Rattle.check_names.specs.Known.{is_closed, is_ty_closed}
use Rattle.check_layouts.specs.Laid.{AreCaptured, AreInside, Has, HasLayout, IsClosed, IsLaidOut, IsTagInside, field_type, variant_fields, variants_of}
use Rattle.check_layouts.specs.Sizes.{known_size}
use Rattle.check_layouts.specs.inner.Fields.{AreFieldsInside, AreVariantsInside, IsItemKnown}
use Rattle.check_layouts.proofs.Deciding.{of_there, there}
use Rattle.check_layouts.proofs.Elements.{HasElements}
use Rattle.check_layouts.proofs.Forms.{adt_not_tuple, adt_out, only_adt}
use Rattle.check_layouts.proofs.Listed.{all_has, has_all}
use Rattle.check_layouts.proofs.Placed.{known_at, of_inside, of_variant}

closed : (ty : Ty) → is_ty_closed ty ≡ true → IsClosed ty
closed ty e = record {
  no_alias = λ id at. false≢true (all_has is_closed (ty_mentions ty) (mention.Alias id) at.0 e at.1);
  no_type_param = λ id at. false≢true (all_has is_closed (ty_mentions ty) (mention.TypeParam id) at.0 e at.1);
  no_const_param = λ id at. false≢true (all_has is_closed (ty_mentions ty) (mention.ConstParam id) at.0 e at.1);
}

closed_is : (ty : Ty) → IsClosed ty → is_ty_closed ty ≡ true
closed_is ty closed = has_all is_closed (ty_mentions ty) by
  where
    by : (m : Mention) → Has (ty_mentions ty) m → is_closed m ≡ true
    by (mention.Alias id) at = absurd (closed.no_alias id at)
    by (mention.TypeParam id) at = absurd (closed.no_type_param id at)
    by (mention.ConstParam id) at = absurd (closed.no_const_param id at)
    by _ at = refl

pub closed_decides : (ty : Ty) → Decides (is_ty_closed ty) (IsClosed ty)
closed_decides ty = (closed ty, closed_is ty)

-- The size and the tag.

module _ (world : HirDatabase) (ty : Ty) (layout : Layout) where
  abbrev pub IsSized : Type 0
  IsSized = IsAlignment layout.align × ((n : ℕ) × (layout.size ≡ n * layout.align)) × IfSome (known_size world ty) (λ known. layout.size ≡ known)

module _ (size : ℕ) where
  abbrev pub IsTagWithin : Variants → Type 0
  IsTagWithin variants = (multiple : MultiLayout) → variants ≡ Multiple multiple → IsTagInside size multiple

-- The fields of all variants of an enum have layouts.
module _ (world : HirDatabase) (look : Ty → Option Layout) (ty : Ty) where
  abbrev pub AreEnumFieldsKnown : Type 0
  AreEnumFieldsKnown = (id : EnumName) (args : GenericArgs) (v k : ℕ) (rows : List FieldRow) (field : FieldRow) → ty ≡ type.Adt (EnumId id) args → variant_fields world (EnumId id) v ≡ Some rows → slice_get rows k ≡ Some field → HasLayout look (field_type world args field)

  abbrev Known : GenericArgs → EnumVariantId → Type 0
  Known args v = IsItemKnown world look args (variant.EnumVariantId v)

  abbrev pub AreVariantsKnown : EnumName → GenericArgs → Type 0
  AreVariantsKnown id args = (v : ℕ) → IfSome (slice_get (variants_of world id.0) v) (Known args)

  pub known_of : (id : EnumName) (args : GenericArgs) → ty ≡ type.Adt (EnumId id) args → AreVariantsKnown id args → AreEnumFieldsKnown
  known_of id args is known other given v k rows field also found at =
      let layers : layer.Adt (EnumId id) args ≡ layer.Adt (EnumId other) given = sym (adt_out (EnumId id) args) ∙ ap out-Ty (sym is ∙ also) ∙ adt_out (EnumId other) given in
      let one : id ≡ other = cc in
      let same_args : args ≡ given = cc in
      let own = of_variant (λ (w : EnumVariantId). fields_of world (variant.EnumVariantId w)) (slice_get (variants_of world other.0) v) rows found in
      subst (λ (a : GenericArgs). HasLayout look (field_type world a field)) same_args
      (of_there (λ f. HasLayout look (field_type world args f)) (slice_get rows k) field at
      (of_there (λ (fields : List FieldRow). (j : ℕ) → IfSome (slice_get fields j) (λ f. HasLayout look (field_type world args f))) (fields_of world (variant.EnumVariantId own.0)) rows own.2
      (of_there (Known args) (slice_get (variants_of world id.0) v) own.0 (ap (λ (e : EnumName). slice_get (variants_of world e.0) v) one ∙ own.1) (known v)) k))

  pub of_known : (id : EnumName) (args : GenericArgs) → ty ≡ type.Adt (EnumId id) args → AreEnumFieldsKnown → AreVariantsKnown id args
  of_known id args is known v =
      there (Known args) (slice_get (variants_of world id.0) v)
      (λ w at. there (λ (fields : List FieldRow). (j : ℕ) → IfSome (slice_get fields j) (λ f. HasLayout look (field_type world args f))) (fields_of world (variant.EnumVariantId w))
      (λ rows own k. there (λ f. HasLayout look (field_type world args f)) (slice_get rows k)
      (λ field here. known id args v k rows field is (ap (option_and_then (λ (e : EnumVariantId). fields_of world (variant.EnumVariantId e))) at ∙ own) here)))

-- The fields, by the form of the type.
module _ (world : HirDatabase) (look : Ty → Option Layout) (ty : Ty) (layout : Layout) where
  abbrev Fields : Type 0
  Fields = AreFieldsInside world look ty layout

  pub adt_of : (id : AdtId) (args : GenericArgs) → ty ≡ type.Adt id args → AreVariantsInside world look id args layout → Fields
  adt_of id args is inside = (only_adt (λ i a. AreVariantsInside world look i a layout) ty id args is inside, λ types also. absurd (adt_not_tuple ty id args types is also))

  -- The captures of a closure.
  abbrev pub AreClosuresCaptured : Type 0
  AreClosuresCaptured = (id : InternedClosureId) (args : GenericArgs) (row : ClosureRow) → ty ≡ type.Closure id args → slice_get world.closures id.0 ≡ Some row → AreCaptured world look layout.size layout.offsets args row.captures

  -- All parts of what is asked of the type.
  abbrev pub Parts : Type 0
  Parts = IsClosed ty × (IsSized world ty layout × (Fields × (AreEnumFieldsKnown world look ty × (AreClosuresCaptured × (HasElements look ty layout.size × IsTagWithin layout.size layout.variants)))))

  field_known : (args : GenericArgs) (rows : List FieldRow) → AreInside look layout.size layout.offsets (field_type world args) rows → (k : ℕ) (field : FieldRow) → slice_get rows k ≡ Some field → HasLayout look (field_type world args field)
  field_known args rows inside = known_at look layout.size layout.offsets (field_type world args) rows (of_inside look layout.size layout.offsets (field_type world args) rows inside)

  pub laid_of : Parts → IsLaidOut world look ty layout
  laid_of (closed, (sized, (fields, (known, (captures, (elements, tag)))))) = record {
    closed = closed;
    align = sized.0;
    multiple = sized.1;
    size = sized.2;
    fields = λ id args v rows offsets is found begins. fields.0 id args is v rows offsets found begins;
    known = each;
    parts = fields.1;
    captures = captures;
    elements = elements;
    tag = tag;
  }
    where
      each : (id : AdtId) (args : GenericArgs) (v k : ℕ) (rows : List FieldRow) (field : FieldRow) → ty ≡ type.Adt id args → variant_fields world id v ≡ Some rows → slice_get rows k ≡ Some field → HasLayout look (field_type world args field)
      each (StructId id) args v k rows field is found at = field_known args rows (fields.0 (StructId id) args is v rows layout.offsets found refl) k field at
      each (UnionId id) args v k rows field is found at = field_known args rows (fields.0 (UnionId id) args is v rows layout.offsets found refl) k field at
      each (EnumId id) args v k rows field is found at = known id args v k rows field is found at

  pub of_laid : IsLaidOut world look ty layout → Parts
  of_laid laid =
      (laid.closed, ((laid.align, laid.multiple, laid.size), (((λ id args is v rows offsets found begins. laid.fields id args v rows offsets is found begins), laid.parts), ((λ id args v k rows field is found at. laid.known (EnumId id) args v k rows field is found at), (laid.captures, (laid.elements, laid.tag))))))
