-- Structs: which one a struct literal or a call of a constructor makes a value of, which written field, which field of a base or which argument gives
-- each of its fields, and of which types these are.
use Rattle.std.specs.Prelude.{◌≡◌, ℕ, ◌==◌, Bool, true, false, suc, List, [], ◌∷◌, length, filter, position, ◌||◌, Option, Some, None, slice_get, option_map, option_and_then, if◌then◌else◌}
use Rattle.std.specs.Cmp.Lexicographic.{pointwise}
use Rattle.std.specs.List.{list_all}
use Rattle.std.specs.Option.{is_some}
use Rattle.check_instances.specs.Instances.{ty_instance}
use Rattle.check_instances.specs.Ready.{ready_instance}
use Rattle.types.specs.declared.ids.AdtId.TheVariants as adt
use Rattle.types.specs.declared.ids.CallableDefId.TheVariants.{StructId as ConstructorOf}
use Rattle.types.specs.declared.ids.ExprId.{ExprId}
use Rattle.types.specs.declared.ids.FieldId.{FieldId}
use Rattle.types.specs.declared.ids.StructId.{StructId}
use Rattle.types.specs.declared.ids.VariantId.{VariantId}
use Rattle.types.specs.declared.ids.VariantId.TheVariants as variant
use Rattle.types.specs.declared.ty.ComplexMemoryMap.{ComplexMemoryMap}
use Rattle.types.specs.declared.ty.Const.{Const}
use Rattle.types.specs.declared.ty.Const.TheOpen as layer
use Rattle.types.specs.declared.ty.GenericArg.{GenericArg}
use Rattle.types.specs.declared.ty.GenericArgs.{GenericArgs}
use Rattle.types.specs.declared.ty.MemoryMap.{MemoryMap}
use Rattle.types.specs.declared.ty.TraitRef.{TraitRef}
use Rattle.types.specs.declared.ty.Ty.{Ty, Ty-F, out-Ty}
use Rattle.types.specs.declared.ty.UnevaluatedConst.{UnevaluatedConst}
use Rattle.types.specs.declared.ty.ValueConst.{ValueConst}
use Rattle.world.specs.declared.database.HirDatabase.{HirDatabase}
use Rattle.world.specs.declared.expr.RecordLitField.{RecordLitField}
use Rattle.world.specs.declared.items.FieldRow.{FieldRow}
use Rattle.world.specs.Lookups.{fields_of}

-- a type's variant
abbrev TyLayer : Type 0
TyLayer = Ty-F Const GenericArg MemoryMap Ty ComplexMemoryMap GenericArgs TraitRef UnevaluatedConst ValueConst

-- a struct at generic arguments, with the rows of its fields
pub record StructAt : Type 0 where
  pub id : StructId
  pub args : GenericArgs
  pub fields : List FieldRow

-- the generic arguments of a type, where it is a struct
abbrev args_at : StructId → TyLayer → Option GenericArgs
args_at id (layer.Adt (adt.StructId other) args) = if id.0 == other.0 then Some args else None
args_at id _ = None

abbrev pub struct_args : StructId → Ty → Option GenericArgs
struct_args id ty = args_at id (out-Ty ty)

-- the struct that a type is, if it is one
abbrev struct_at : TyLayer → Option StructId
struct_at (layer.Adt (adt.StructId id) args) = Some id
struct_at _ = None

abbrev pub struct_of : Ty → Option StructId
struct_of ty = struct_at (out-Ty ty)

-- a struct with its fields, at arguments
abbrev pub struct_with : HirDatabase → StructId → GenericArgs → Option StructAt
struct_with world id args = option_map (λ fields. record { id = id; args = args; fields = fields }) (fields_of world (variant.StructId id))

-- the struct that an expression makes a value of, by what its path is resolved to and by its type, where these agree
abbrev pub struct_made : HirDatabase → (named : Option VariantId) → Option Ty → Option StructAt
struct_made world (Some (variant.StructId id)) ty = option_and_then (struct_with world id) (option_and_then (struct_args id) ty)
struct_made world _ ty = None

-- the struct whose constructor a type is the one of, at the type's generic arguments, with its fields
abbrev constructor_of : HirDatabase → TyLayer → Option StructAt
constructor_of world (layer.FnDef (ConstructorOf id) args) = struct_with world id args
constructor_of world _ = None

abbrev pub struct_constructed : HirDatabase → Ty → Option StructAt
struct_constructed world ty = constructor_of world (out-Ty ty)

-- the places of the elements of a list, the first of which has this one
unfoldable pub places_from : {A : Type 0} → (first : ℕ) → List A → List ℕ
places_from first [] = []
places_from first (x ∷ xs) = first ∷ places_from (suc first) xs

-- the places of the arguments of a constructor that give the fields of its struct, in the order of these, where there is one for each, and no other
abbrev pub places_in_order : List FieldRow → (args : List ExprId) → Option (List ℕ)
places_in_order fields args = if length fields == length args then Some (places_from 0 args) else None

-- the place, among the written fields of a literal, of the first one with a name
abbrev pub place_named : (name : List ℕ) → List RecordLitField → Option ℕ
place_named name written = position (λ field. pointwise ◌==◌ field.name name) written

-- whether each field of a struct that isn't written has a type that needn't be made at generic arguments
abbrev pub are_others_ready : GenericArgs → List FieldRow → List RecordLitField → Bool
are_others_ready args fields written = list_all (λ (field : FieldRow). is_some (place_named field.name written) || is_some (ready_instance args field.ty)) fields

-- the places of the written fields that give the fields of a struct, in the order of these
unfoldable pub places_named : List FieldRow → List RecordLitField → Option (List ℕ)
places_named [] written = Some []
places_named (field ∷ fields) written =
    option_and_then (λ place. option_map (λ places. place ∷ places) (places_named fields written)) (place_named field.name written)

-- the same where the literal has as many fields as the struct, so that each is written once, and no other
abbrev pub all_places : List FieldRow → List RecordLitField → Option (List ℕ)
all_places fields written = if length fields == length written then places_named fields written else None

-- what gives a field of a struct literal with a base: the written field at a place, or a field of the base
pub data FieldSource : Type 0 where
  Written : (place : ℕ) → FieldSource
  OfBase : (field : FieldId) → FieldSource

abbrev pub is_written : FieldSource → Bool
is_written (Written place) = true
is_written (OfBase field) = false

-- what gives the field of a struct at an index, by the place of the first written field of its name, if there is one
abbrev pub source_by : StructId → (index : ℕ) → (place : Option ℕ) → FieldSource
source_by id index (Some place) = Written place
source_by id index None = OfBase (record { parent = variant.StructId id; local_id = index })

-- what gives the fields of a struct, in their order, from the one at an index on
unfoldable pub field_sources : StructId → (index : ℕ) → List FieldRow → List RecordLitField → List FieldSource
field_sources id index [] written = []
field_sources id index (field ∷ fields) written = source_by id index (place_named field.name written) ∷ field_sources id (suc index) fields written

-- The same where as many of the struct's fields are given by written fields as fields are written: so none is written twice, and none is written
-- that the struct lacks.
abbrev pub all_sources : StructId → List FieldRow → List RecordLitField → Option (List FieldSource)
all_sources id fields written =
    if length (filter is_written (field_sources id 0 fields written)) == length written then Some (field_sources id 0 fields written) else None

-- the elements of a list at places, in the order of the places, where there is one at each
unfoldable pub picked : {A : Type 0} → (places : List ℕ) → List A → Option (List A)
picked [] xs = Some []
picked (place ∷ places) xs = option_and_then (λ x. option_map (λ others. x ∷ others) (picked places xs)) (slice_get xs place)

-- the type of the field of a struct at an index, at generic arguments, where it needn't be made
abbrev pub ready_field : HirDatabase → StructId → (index : ℕ) → GenericArgs → Option Ty
ready_field world id index args =
    option_and_then (λ (row : FieldRow). ready_instance args row.ty) (option_and_then (λ fields. slice_get fields index) (fields_of world (variant.StructId id)))

-- the type of a field at generic arguments, if it has one there: a parameter is its argument, an alias the type that it stands for
abbrev pub field_type : HirDatabase → GenericArgs → FieldRow → Option Ty
field_type world args field = ty_instance world.normals args field.ty

-- fields have these types at generic arguments, one each
abbrev pub AreFieldTypes : HirDatabase → GenericArgs → List FieldRow → List Ty → Type 0
AreFieldTypes world args [] [] = Unit {0}
AreFieldTypes world args (field ∷ fields) (ty ∷ types) = (field_type world args field ≡ Some ty) × AreFieldTypes world args fields types
AreFieldTypes world args _ _ = ⊥
