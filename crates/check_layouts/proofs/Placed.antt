-- Answers that decide whether the parts of a type lie inside its layout.
use Rattle.std.proofs.Common.{◌≡◌, ℕ, ◌+◌, ◌<◌, ◌≤◌, Bool, true, false, cond, eqb, List, [], length, get_or, Option, Some, None, slice_get, IfSome, Decides, refl, sym, ◌∙◌, ap, subst, arith}
use Rattle.std.proofs.lemmas.Bool.Decides.{Decides-eqb, Decides-like}
use Rattle.std.proofs.lemmas.Option.{slice_get-get_or, slice_get_read, slice_get_within}
use Rattle.std.specs.Option.{option_and_then, option_map}
use Rattle.types.specs.declared.ids.AdtId.TheVariants.{StructId, UnionId, EnumId}
use Rattle.types.specs.declared.ids.EnumId.{EnumId as EnumName}
use Rattle.types.specs.declared.ids.EnumVariantId.{EnumVariantId}
use Rattle.types.specs.declared.ids.StructId.{StructId as StructName}
use Rattle.types.specs.declared.ids.UnionId.{UnionId as UnionName}
use Rattle.types.specs.declared.ids.VariantId.{VariantId}
use Rattle.types.specs.declared.ids.VariantId.TheVariants as variant
use Rattle.types.specs.declared.ty.GenericArgs.{GenericArgs}
use Rattle.types.specs.declared.ty.Ty.{Ty}
use Rattle.world.specs.Lookups.{fields_of}
use Rattle.world.specs.declared.closures.Capture.{Capture}
use Rattle.world.specs.declared.database.HirDatabase.{HirDatabase}
use Rattle.world.specs.declared.items.FieldRow.{FieldRow}
use Rattle.world.specs.declared.layout.Layout.{Layout}
use Rattle.world.specs.declared.layout.MultiLayout.{MultiLayout}
use Rattle.world.specs.declared.layout.Variants.{Variants}
use Rattle.world.specs.declared.layout.Variants.TheVariants.{Empty, Single, Multiple}
use Rattle.check_layouts.specs.Laid.{AreCaptured, AreInside, HasLayout, LiesInside, capture_type, field_type, offsets_among, variants_of}
use Rattle.check_layouts.specs.inner.Fields.{ArePartsInside, AreVariantsInside, IsItemInside, IsPartInside}
use Rattle.check_layouts.proofs.Deciding.{Answer, at_most, both_of, if_each, if_there, like, no, of_there, same, there, walk_end, walk_fails, walk_next, yes}

module _ (look : Ty → Option Layout) (size : ℕ) where
  abbrev pub part_size : Option Ty → Option ℕ
  part_size found = option_map (λ (layout : Layout). layout.size) (option_and_then look found)

  -- a part has a size and, where it has an offset, ends within the size of the whole
  abbrev pub EndsInside : Option ℕ → Option ℕ → Type 0
  EndsInside offset part = (n : ℕ) × (part ≡ Some n) × IfSome offset (λ start. start + n ≤ size)

  lies : (ty : Ty) (layout : Layout) → look ty ≡ Some layout → (offset : Option ℕ) → IfSome offset (λ start. start + layout.size ≤ size) → IfSome offset (λ start. LiesInside look size start (Some ty))
  lies ty layout has None h = tt
  lies ty layout has (Some start) h = record { ty = ty; layout = layout; is = refl; has = has; ends = h }

  part_from_size : (offset : Option ℕ) (found : Option Ty) → EndsInside offset (part_size found) → IsPartInside look size offset found
  part_from_size offset None h = cc
  part_from_size offset (Some ty) h = by (look ty) refl h
    where
      by : (o : Option Layout) → look ty ≡ o → EndsInside offset (option_map (λ (layout : Layout). layout.size) o) → IsPartInside look size offset (Some ty)
      by None has h = cc
      by (Some layout) has (n, is, ends) =
          let e : n ≡ layout.size = cc in
          (record { ty = ty; layout = layout; is = refl; has = has }, lies ty layout has offset (subst (λ m. IfSome offset (λ start. start + m ≤ size)) e ends))

  size_from_part : (offset : Option ℕ) (found : Option Ty) → IsPartInside look size offset found → EndsInside offset (part_size found)
  size_from_part offset found (known, inside) = (known.layout.size, own known, ends offset inside)
    where
      own : (part : HasLayout look found) → part_size found ≡ Some part.layout.size
      own part = ap part_size part.is ∙ ap (option_map (λ (layout : Layout). layout.size)) part.has

      ends : (offset : Option ℕ) → IfSome offset (λ start. LiesInside look size start found) → IfSome offset (λ start. start + known.layout.size ≤ size)
      ends None inside = tt
      ends (Some start) inside =
          let sizes : Some inside.layout.size ≡ Some known.layout.size = sym (own (record { ty = inside.ty; layout = inside.layout; is = inside.is; has = inside.has })) ∙ own known in
          let e : inside.layout.size ≡ known.layout.size = cc in
          subst (λ n. start + n ≤ size) e inside.ends

  ends_answer : (offset part : Option ℕ) → Answer (EndsInside offset part)
  ends_answer offset None = (_, no (λ h. cc))
  ends_answer offset (Some n) = like (λ h. (n, refl, h)) back (if_there (λ start. start + n ≤ size) offset (λ start. at_most (start + n) size))
    where
      back : EndsInside offset (Some n) → IfSome offset (λ start. start + n ≤ size)
      back (m, is, h) = let e : m ≡ n = cc in subst (λ l. IfSome offset (λ start. start + l ≤ size)) e h

  pub part_decides : (offset part : Option ℕ) (found : Option Ty) (b : Bool) → part ≡ part_size found → Decides b (EndsInside offset part) → Decides b (IsPartInside look size offset found)
  part_decides offset part found b is decides = Decides-like b (part_from_size offset found) (size_from_part offset found) (subst (λ o. Decides b (EndsInside offset o)) is decides)

  part_answer : (offset : Option ℕ) (found : Option Ty) → Answer (IsPartInside look size offset found)
  part_answer offset found = like (part_from_size offset found) (size_from_part offset found) (ends_answer offset (part_size found))

module _ {X : Type 0} (look : Ty → Option Layout) (size : ℕ) (offsets : List ℕ) (type_of : X → Option Ty) (parts : List X) where
  abbrev Part : ℕ → X → Type 0
  Part k part = IsPartInside look size (slice_get offsets k) (type_of part)

  -- what the walk says of one part
  pub known_at : ArePartsInside look size offsets type_of parts → (k : ℕ) (part : X) → slice_get parts k ≡ Some part → HasLayout look (type_of part)
  known_at each k part at = (of_there (Part k) (slice_get parts k) part at (each k)).0

  inside_at : ArePartsInside look size offsets type_of parts → (k offset : ℕ) (part : X) → slice_get parts k ≡ Some part → slice_get offsets k ≡ Some offset → LiesInside look size offset (type_of part)
  inside_at each k offset part at begins = of_there (λ start. LiesInside look size start (type_of part)) (slice_get offsets k) offset begins (of_there (Part k) (slice_get parts k) part at (each k)).1

  from_each : ((k : ℕ) (part : X) → slice_get parts k ≡ Some part → HasLayout look (type_of part)) → ((k offset : ℕ) (part : X) → slice_get parts k ≡ Some part → slice_get offsets k ≡ Some offset → LiesInside look size offset (type_of part)) → ArePartsInside look size offsets type_of parts
  from_each known inside k =
      there (Part k) (slice_get parts k) (λ part at. (known k part at, there (λ start. LiesInside look size start (type_of part)) (slice_get offsets k) (λ offset begins. inside k offset part at begins)))

  pub inside_of : length offsets ≡ length parts → ArePartsInside look size offsets type_of parts → AreInside look size offsets type_of parts
  inside_of count each = record { count = count; inside = inside_at each }

  pub of_inside : AreInside look size offsets type_of parts → ArePartsInside look size offsets type_of parts
  of_inside are = from_each known are.inside
    where
      known : (k : ℕ) (part : X) → slice_get parts k ≡ Some part → HasLayout look (type_of part)
      known k part at =
          let within = slice_get_within parts k part at in
          let count = are.count in
          let part_inside = are.inside k (get_or offsets k 0) part at (slice_get-get_or offsets k 0 (omega arith)) in
          record { ty = part_inside.ty; layout = part_inside.layout; is = part_inside.is; has = part_inside.has }

  -- The walk over the parts, at the part with an index.
  module _ (k : ℕ) (part : X) (offset : Option ℕ) (begins : offset ≡ slice_get offsets k) (within : k < length parts) (at : part ≡ get_or parts k part) where
    pub part_next : IsPartInside look size offset (type_of part) → ((j : ℕ) → j < k → IfSome (slice_get parts j) (Part j)) → (j : ℕ) → j < k + 1 → IfSome (slice_get parts j) (Part j)
    part_next inside before = walk_next Part parts k part (slice_get_read parts (length parts) k part refl within at) (subst (λ o. IsPartInside look size o (type_of part)) begins inside) before

    pub part_fails : (IsPartInside look size offset (type_of part) → ⊥) → ArePartsInside look size offsets type_of parts → ⊥
    part_fails wrong all = walk_fails Part parts k part (slice_get_read parts (length parts) k part refl within at) (λ inside. wrong (subst (λ o. IsPartInside look size o (type_of part)) (sym begins) inside)) all

  pub parts_end : (k : ℕ) → length parts ≤ k → ((j : ℕ) → j < k → IfSome (slice_get parts j) (Part j)) → ArePartsInside look size offsets type_of parts
  parts_end k past before = walk_end Part parts k past before

  each_answer : Answer (ArePartsInside look size offsets type_of parts)
  each_answer = if_each Part parts (λ k part. part_answer look size (slice_get offsets k) (type_of part))

  pub inside_answer : Answer (AreInside look size offsets type_of parts)
  inside_answer = like (λ h. inside_of h.0 h.1) (λ are. (are.count, of_inside are)) (both_of (same (length offsets) (length parts)) each_answer)

module _ (world : HirDatabase) (look : Ty → Option Layout) (size : ℕ) (args : GenericArgs) where
  pub captured_of : (offsets : List ℕ) (captures : List Capture) → ArePartsInside look size offsets (capture_type world args) captures → AreCaptured world look size offsets args captures
  captured_of offsets captures each = record { known = known_at look size offsets (capture_type world args) captures each; inside = inside_at look size offsets (capture_type world args) captures each }

  pub of_captured : (offsets : List ℕ) (captures : List Capture) → AreCaptured world look size offsets args captures → ArePartsInside look size offsets (capture_type world args) captures
  of_captured offsets captures are = from_each look size offsets (capture_type world args) captures are.known are.inside

  abbrev Known : List FieldRow → Type 0
  Known rows = (k : ℕ) → IfSome (slice_get rows k) (λ field. HasLayout look (field_type world args field))

  pub known_of : (rows : List FieldRow) → ArePartsInside look size [] (field_type world args) rows → Known rows
  known_of rows each k = there (λ field. HasLayout look (field_type world args field)) (slice_get rows k) (λ field at. known_at look size [] (field_type world args) rows each k field at)

  pub of_known : (rows : List FieldRow) → Known rows → ArePartsInside look size [] (field_type world args) rows
  of_known rows known =
      from_each look size [] (field_type world args) rows
      (λ k field at. of_there (λ f. HasLayout look (field_type world args f)) (slice_get rows k) field at (known k))
      (λ k offset field at begins. cc)

  item_answer : (offsets : List ℕ) (item : VariantId) → Answer (IsItemInside world look size args offsets item)
  item_answer offsets item = if_there (λ rows. AreInside look size offsets (field_type world args) rows) (fields_of world item) (λ rows. inside_answer look size offsets (field_type world args) rows)

pub of_variant : {A B : Type 0} (f : A → Option B) (o : Option A) (b : B) → option_and_then f o ≡ Some b → (a : A) × (o ≡ Some a) × (f a ≡ Some b)
of_variant f None b e = cc
of_variant f (Some a) b e = (a, refl, e)

-- The variants of a type.
module _ (world : HirDatabase) (look : Ty → Option Layout) (args : GenericArgs) (layout : Layout) where
  abbrev Item : List ℕ → VariantId → Type 0
  Item offsets item = IsItemInside world look layout.size args offsets item

  abbrev Rows : List ℕ → List FieldRow → Type 0
  Rows offsets rows = AreInside look layout.size offsets (field_type world args) rows

  pub struct_of : (id : StructName) → Item layout.offsets (variant.StructId id) → AreVariantsInside world look (StructId id) args layout
  struct_of id inside v rows offsets found begins =
      let e : layout.offsets ≡ offsets = cc in
      subst (λ o. Rows o rows) e (of_there (Rows layout.offsets) (fields_of world (variant.StructId id)) rows found inside)

  pub of_struct : (id : StructName) → AreVariantsInside world look (StructId id) args layout → Item layout.offsets (variant.StructId id)
  of_struct id all = there (Rows layout.offsets) (fields_of world (variant.StructId id)) (λ rows found. all 0 rows layout.offsets found refl)

  pub union_of : (id : UnionName) → Item layout.offsets (variant.UnionId id) → AreVariantsInside world look (UnionId id) args layout
  union_of id inside v rows offsets found begins =
      let e : layout.offsets ≡ offsets = cc in
      subst (λ o. Rows o rows) e (of_there (Rows layout.offsets) (fields_of world (variant.UnionId id)) rows found inside)

  pub of_union : (id : UnionName) → AreVariantsInside world look (UnionId id) args layout → Item layout.offsets (variant.UnionId id)
  of_union id all = there (Rows layout.offsets) (fields_of world (variant.UnionId id)) (λ rows found. all 0 rows layout.offsets found refl)

  module _ (id : EnumName) where
    abbrev ids : List EnumVariantId
    ids = variants_of world id.0

    abbrev AllInside : Type 0
    AllInside = AreVariantsInside world look (EnumId id) args layout

    abbrev fields_of_variant : EnumVariantId → Option (List FieldRow)
    fields_of_variant v = fields_of world (variant.EnumVariantId v)

    -- the variant that stands at an index of the enum
    abbrev pub OneVariant : Option EnumVariantId → Type 0
    OneVariant found = IfSome found (λ v. Item layout.offsets (variant.EnumVariantId v))

    -- each variant, at the offsets in its list
    abbrev OneList : ℕ → List ℕ → Type 0
    OneList k offsets = IfSome (slice_get ids k) (λ v. Item offsets (variant.EnumVariantId v))

    abbrev pub EachVariant : List (List ℕ) → Type 0
    EachVariant lists = (k : ℕ) → IfSome (slice_get lists k) (OneList k)

    empty_of : layout.variants ≡ Empty → AllInside
    empty_of is v rows offsets found begins = let none : None ≡ Some offsets = ap (λ (some : Variants). offsets_among some layout.offsets v) (sym is) ∙ begins in cc

    one_begins : (v s : ℕ) (offsets : List ℕ) → cond (eqb v s) (Some layout.offsets) None ≡ Some offsets → (v ≡ s) × (layout.offsets ≡ offsets)
    one_begins v s offsets begins = by (eqb v s) (Decides-eqb v s).0 begins
      where
        by : (b : Bool) → (b ≡ true → v ≡ s) → cond b (Some layout.offsets) None ≡ Some offsets → (v ≡ s) × (layout.offsets ≡ offsets)
        by true is e = let own : layout.offsets ≡ offsets = cc in (is refl, own)
        by false is e = cc

    pub single_of : (s : ℕ) → layout.variants ≡ Single s → OneVariant (slice_get ids s) → AllInside
    single_of s is inside v rows offsets found begins =
        let one = one_begins v s offsets (ap (λ (some : Variants). offsets_among some layout.offsets v) (sym is) ∙ begins) in
        let own = of_variant fields_of_variant (slice_get ids v) rows found in
        subst (λ o. Rows o rows) one.1
        (of_there (Rows layout.offsets) (fields_of_variant own.0) rows own.2
        (of_there (λ w. Item layout.offsets (variant.EnumVariantId w)) (slice_get ids s) own.0 (ap (slice_get ids) (sym one.0) ∙ own.1) inside))

    pub of_single : (s : ℕ) → layout.variants ≡ Single s → AllInside → OneVariant (slice_get ids s)
    of_single s is all =
        there (λ w. Item layout.offsets (variant.EnumVariantId w)) (slice_get ids s)
        (λ w at. there (Rows layout.offsets) (fields_of_variant w)
        (λ rows own. all s rows layout.offsets (ap (option_and_then fields_of_variant) at ∙ own)
        (ap (λ (some : Variants). offsets_among some layout.offsets s) is ∙ ap (λ b. cond b (Some layout.offsets) None) ((Decides-eqb s s).1 refl))))

    pub multiple_of : (multiple : MultiLayout) → layout.variants ≡ Multiple multiple → EachVariant multiple.variants → AllInside
    multiple_of multiple is each v rows offsets found begins =
        let own = of_variant fields_of_variant (slice_get ids v) rows found in
        let list : slice_get multiple.variants v ≡ Some offsets = ap (λ (some : Variants). offsets_among some layout.offsets v) (sym is) ∙ begins in
        of_there (Rows offsets) (fields_of_variant own.0) rows own.2
        (of_there (λ w. Item offsets (variant.EnumVariantId w)) (slice_get ids v) own.0 own.1 (of_there (OneList v) (slice_get multiple.variants v) offsets list (each v)))

    pub of_multiple : (multiple : MultiLayout) → layout.variants ≡ Multiple multiple → AllInside → EachVariant multiple.variants
    of_multiple multiple is all k =
        there (OneList k) (slice_get multiple.variants k)
        (λ offsets list. there (λ w. Item offsets (variant.EnumVariantId w)) (slice_get ids k)
        (λ w at. there (Rows offsets) (fields_of_variant w)
        (λ rows own. all k rows offsets (ap (option_and_then fields_of_variant) at ∙ own) (ap (λ (some : Variants). offsets_among some layout.offsets k) is ∙ list))))

    enum_answer : (variants : Variants) → layout.variants ≡ variants → Answer AllInside
    enum_answer Empty is = (true, yes (empty_of is))
    enum_answer (Single s) is =
        like (single_of s is) (of_single s is)
        (if_there (λ w. Item layout.offsets (variant.EnumVariantId w)) (slice_get ids s) (λ w. item_answer world look layout.size args layout.offsets (variant.EnumVariantId w)))
    enum_answer (Multiple multiple) is =
        like (multiple_of multiple is) (of_multiple multiple is)
        (if_each OneList multiple.variants (λ k offsets. if_there (λ w. Item offsets (variant.EnumVariantId w)) (slice_get ids k) (λ w. item_answer world look layout.size args offsets (variant.EnumVariantId w))))
