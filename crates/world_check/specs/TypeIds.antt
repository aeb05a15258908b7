-- What the types of a world that passed the check mention. Each fact follows from `Holds`.
use Rattle.std.specs.Prelude.{◌≡◌, ℕ, true, List, Some, slice_get}
use Rattle.mentions.specs.Mentions.{ty_mentions}
use Rattle.mentions.specs.declared.mention.Mention.{Mention}
use Rattle.types.specs.declared.ids.VariantId.{VariantId}
use Rattle.types.specs.declared.ty.Ty.{Ty}
use Rattle.world.specs.Lookups.{fields_of, layout_of, type_of}
use Rattle.world.specs.declared.database.BodyRow.{BodyRow}
use Rattle.world.specs.declared.database.HirDatabase.{HirDatabase}
use Rattle.world.specs.declared.items.FieldRow.{FieldRow}
use Rattle.world.specs.declared.layout.Layout.{Layout}
use Rattle.check_names.specs.Known.{is_named}
use Rattle.check_layouts.specs.Laid.{Has}

-- every id that a type mentions, at any depth, is in range of its table, and every list that it mentions has fewer than 2^32 entries
abbrev pub HasKnownIds : HirDatabase → Ty → Type 0
HasKnownIds world ty = (mention : Mention) → Has (ty_mentions ty) mention → is_named world mention ≡ true

-- so it is in the types of expressions, patterns, bindings and fields, and in those that have a layout
pub record AreIdsKnown (world : HirDatabase) : Type 0 where
  pub exprs : (b e : ℕ) (row : BodyRow) (ty : Ty) → slice_get world.bodies b ≡ Some row → type_of row.infer e ≡ Some ty → HasKnownIds world ty
  pub pats : (b p : ℕ) (row : BodyRow) (ty : Ty) → slice_get world.bodies b ≡ Some row → slice_get row.infer.pat_types p ≡ Some ty → HasKnownIds world ty
  pub bindings : (b i : ℕ) (row : BodyRow) (ty : Ty) → slice_get world.bodies b ≡ Some row → slice_get row.infer.binding_types i ≡ Some ty → HasKnownIds world ty
  pub fields : (id : VariantId) (k : ℕ) (rows : List FieldRow) (field : FieldRow) → fields_of world id ≡ Some rows → slice_get rows k ≡ Some field → HasKnownIds world field.ty
  pub layouts : (ty : Ty) (layout : Layout) → layout_of world ty ≡ Some layout → HasKnownIds world ty
