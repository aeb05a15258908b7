-- What layouts have in common on all 64-bit targets: their sizes and alignments, where fields, captures, elements and tags lie, and how tags fit their enums. A
-- look-up gives the layouts of parts: the check takes the rows above for it (`IsRowLaidOut`), and in a world that passed the facts hold with all rows too.
use Rattle.std.specs.Prelude.{◌≡◌, ℕ, ◌+◌, ◌-◌, ◌*◌, ◌^◌, ◌==◌, ◌<◌, ◌≤◌, if◌then◌else◌, List, [], ◌∷◌, length, Option, Some, None, slice_get, IfSome}
use Rattle.std.specs.Option.{option_and_then}
use Rattle.types.specs.declared.ids.AdtId.{AdtId}
use Rattle.types.specs.declared.ids.AdtId.TheVariants.{StructId, UnionId, EnumId}
use Rattle.types.specs.declared.ids.AliasId.{AliasId}
use Rattle.types.specs.declared.ids.ConstParamId.{ConstParamId}
use Rattle.types.specs.declared.ids.EnumId.{EnumId as EnumName}
use Rattle.types.specs.declared.ids.EnumVariantId.{EnumVariantId}
use Rattle.types.specs.declared.ids.InternedClosureId.{InternedClosureId}
use Rattle.types.specs.declared.ids.TypeParamId.{TypeParamId}
use Rattle.types.specs.declared.ids.VariantId.TheVariants as variant
use Rattle.types.specs.declared.ty.Const.{Const}
use Rattle.types.specs.declared.ty.GenericArgs.{GenericArgs}
use Rattle.types.specs.declared.ty.Ty.{Ty}
use Rattle.types.specs.declared.ty.Ty.TheVariants.{Tuple, Array, Adt, Closure}
use Rattle.mentions.specs.Mentions.{ty_mentions}
use Rattle.mentions.specs.declared.mention.Mention.TheVariants as mention
use Rattle.world.specs.Checked.{IsAlignment}
use Rattle.world.specs.Lookups.{fields_of}
use Rattle.world.specs.declared.closures.Capture.{Capture}
use Rattle.world.specs.declared.closures.ClosureRow.{ClosureRow}
use Rattle.world.specs.declared.database.HirDatabase.{HirDatabase}
use Rattle.world.specs.declared.items.EnumRow.{EnumRow}
use Rattle.world.specs.declared.items.FieldRow.{FieldRow}
use Rattle.world.specs.declared.layout.Layout.{Layout}
use Rattle.world.specs.declared.layout.MultiLayout.{MultiLayout}
use Rattle.world.specs.declared.layout.TagEncoding.{TagEncoding}
use Rattle.world.specs.declared.layout.TagEncoding.TheVariants.{Direct, Niche}
use Rattle.world.specs.declared.layout.Variants.{Variants}
use Rattle.world.specs.declared.layout.Variants.TheVariants.{Empty, Single, Multiple}
use Rattle.check_instances.specs.Instances.{ty_instance}
use Rattle.check_layouts.specs.Sizes.{known_size, layout_above}
use Rattle.numbers.specs.Constants.{number_in}

-- an element stands in a list
abbrev pub Has : {X : Type 0} → List X → X → Type 0
Has xs x = (k : ℕ) × (slice_get xs k ≡ Some x)

-- a type holds no alias and no generic parameter, at any depth
pub record IsClosed (ty : Ty) : Type 0 where
  pub no_alias : (id : AliasId) → Has (ty_mentions ty) (mention.Alias id) → ⊥
  pub no_type_param : (id : TypeParamId) → Has (ty_mentions ty) (mention.TypeParam id) → ⊥
  pub no_const_param : (id : ConstParamId) → Has (ty_mentions ty) (mention.ConstParam id) → ⊥

-- the variants of an enum
abbrev pub variants_of : HirDatabase → ℕ → List EnumVariantId
variants_of world e = rows (slice_get world.enums e)
  where
    rows : Option EnumRow → List EnumVariantId
    rows None = []
    rows (Some row) = row.variants

-- The fields of variant `v` of a type. A struct or a union is its own only variant, whatever the number.
abbrev pub variant_fields : HirDatabase → AdtId → ℕ → Option (List FieldRow)
variant_fields world (StructId id) v = fields_of world (variant.StructId id)
variant_fields world (UnionId id) v = fields_of world (variant.UnionId id)
variant_fields world (EnumId id) v = option_and_then (λ (found : EnumVariantId). fields_of world (variant.EnumVariantId found)) (slice_get (variants_of world id.0) v)

-- where the fields of variant `v` of an enum begin: an enum with one inhabited variant has offsets for it alone
abbrev pub offsets_among : Variants → List ℕ → ℕ → Option (List ℕ)
offsets_among Empty offsets v = None
offsets_among (Single i) offsets v = if v == i then Some offsets else None
offsets_among (Multiple multiple) offsets v = slice_get multiple.variants v

-- where the fields of variant `v` of a type begin in its layout
abbrev pub variant_offsets : AdtId → Layout → ℕ → Option (List ℕ)
variant_offsets (StructId id) layout v = Some layout.offsets
variant_offsets (UnionId id) layout v = Some layout.offsets
variant_offsets (EnumId id) layout v = offsets_among layout.variants layout.offsets v

-- the type of a field or a capture at generic arguments, if it has one there: a parameter is its argument, an alias the type in `normals`
abbrev pub field_type : HirDatabase → GenericArgs → FieldRow → Option Ty
field_type world args field = ty_instance world.normals args field.ty

abbrev pub capture_type : HirDatabase → GenericArgs → Capture → Option Ty
capture_type world args capture = ty_instance world.normals args capture.ty

-- the type of a part is found, and has a layout
pub record HasLayout (look : Ty → Option Layout) (found : Option Ty) : Type 0 where
  pub ty : Ty
  pub layout : Layout
  pub is : found ≡ Some ty
  pub has : look ty ≡ Some layout

-- a part that begins at an offset has a layout, and ends within the size of the whole
pub record LiesInside (look : Ty → Option Layout) (size offset : ℕ) (found : Option Ty) : Type 0 where
  pub ty : Ty
  pub layout : Layout
  pub is : found ≡ Some ty
  pub has : look ty ≡ Some layout
  pub ends : offset + layout.size ≤ size

-- there is an offset for each of some parts, and each part lies inside
pub record AreInside {X : Type 0} (look : Ty → Option Layout) (size : ℕ) (offsets : List ℕ) (type_of : X → Option Ty) (parts : List X) : Type 0 where
  pub count : length offsets ≡ length parts
  pub inside : (k offset : ℕ) (part : X) → slice_get parts k ≡ Some part → slice_get offsets k ≡ Some offset → LiesInside look size offset (type_of part)

-- the captures of a closure have layouts, and those with an offset lie inside
pub record AreCaptured (world : HirDatabase) (look : Ty → Option Layout) (size : ℕ) (offsets : List ℕ) (args : GenericArgs) (captures : List Capture) : Type 0 where
  pub known : (k : ℕ) (capture : Capture) → slice_get captures k ≡ Some capture → HasLayout look (capture_type world args capture)
  pub inside : (k offset : ℕ) (capture : Capture) → slice_get captures k ≡ Some capture → slice_get offsets k ≡ Some offset → LiesInside look size offset (capture_type world args capture)

-- the element of an array has a layout, and the array, where its length is known, has the size of so many elements
pub record AreElements (look : Ty → Option Layout) (size : ℕ) (element : Ty) (len : Const) : Type 0 where
  pub layout : Layout
  pub has : look element ≡ Some layout
  pub product : IfSome (number_in len) (λ count. size ≡ count * layout.size)

-- a tag has 1, 2, 4, 8 or 16 bytes, and ends within the size of the whole
pub record IsTagInside (size : ℕ) (multiple : MultiLayout) : Type 0 where
  pub width : Has (1 ∷ 2 ∷ 4 ∷ 8 ∷ 16 ∷ []) multiple.tag_size
  pub ends : multiple.tag_offset + multiple.tag_size ≤ size

-- What the layout of a type says, by the form of the type. A size that `known_size` fixes is the layout's; all fields of the variants of an enum have layouts, also
-- those to which the layout gives no place.
pub record IsLaidOut (world : HirDatabase) (look : Ty → Option Layout) (ty : Ty) (layout : Layout) : Type 0 where
  pub closed : IsClosed ty
  pub align : IsAlignment layout.align
  pub multiple : (n : ℕ) × (layout.size ≡ n * layout.align)
  pub size : IfSome (known_size world ty) (λ known. layout.size ≡ known)
  pub fields : (id : AdtId) (args : GenericArgs) (v : ℕ) (rows : List FieldRow) (offsets : List ℕ) → ty ≡ Adt id args → variant_fields world id v ≡ Some rows → variant_offsets id layout v ≡ Some offsets → AreInside look layout.size offsets (field_type world args) rows
  pub known : (id : AdtId) (args : GenericArgs) (v k : ℕ) (rows : List FieldRow) (field : FieldRow) → ty ≡ Adt id args → variant_fields world id v ≡ Some rows → slice_get rows k ≡ Some field → HasLayout look (field_type world args field)
  pub parts : (types : List Ty) → ty ≡ Tuple types → AreInside look layout.size layout.offsets Some types
  pub captures : (id : InternedClosureId) (args : GenericArgs) (row : ClosureRow) → ty ≡ Closure id args → slice_get world.closures id.0 ≡ Some row → AreCaptured world look layout.size layout.offsets args row.captures
  pub elements : (element : Ty) (len : Const) → ty ≡ Array element len → AreElements look layout.size element len
  pub tag : (multiple : MultiLayout) → layout.variants ≡ Multiple multiple → IsTagInside layout.size multiple

-- row `i` of `layouts`, if there is one, is laid out, and the rows above it have the layouts of its parts
abbrev pub IsRowLaidOut : HirDatabase → ℕ → Type 0
IsRowLaidOut world i = IfSome (slice_get world.layouts i) (λ (row : Ty × Layout). IsLaidOut world (layout_above world i) row.0 row.1)

-- a niche leaves one of the enum's variants without a value of the tag, and has room for one of each other variant, from `start` on
abbrev pub IsNiche : ℕ → ℕ → TagEncoding → Type 0
IsNiche variants size Direct = Unit {0}
IsNiche variants size (Niche untagged first last start) = (untagged < variants) × (start + (variants - 1) ≤ 2 ^ (8 * size))

-- there are offsets for each of an enum's variants, and the tag has a value for each
pub record IsTag (variants : ℕ) (multiple : MultiLayout) : Type 0 where
  pub count : length multiple.variants ≡ variants
  pub values : variants ≤ 2 ^ (8 * multiple.tag_size)
  pub niche : IsNiche variants multiple.tag_size multiple.encoding

-- only the layout of an enum has a tag, and it fits the variants of the enum; a single variant is one of these
pub record HasRightTag (world : HirDatabase) (ty : Ty) (layout : Layout) : Type 0 where
  pub of_enum : (multiple : MultiLayout) → layout.variants ≡ Multiple multiple → (id : EnumName) × (args : GenericArgs) × (ty ≡ Adt (EnumId id) args)
  pub tag : (id : EnumName) (args : GenericArgs) (multiple : MultiLayout) → ty ≡ Adt (EnumId id) args → layout.variants ≡ Multiple multiple → IsTag (length (variants_of world id.0)) multiple
  pub only : (id : EnumName) (args : GenericArgs) (i : ℕ) → ty ≡ Adt (EnumId id) args → layout.variants ≡ Single i → i < length (variants_of world id.0)
