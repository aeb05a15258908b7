-- The height of a laid-out type in a world that passed the check, by the heights of its parts.
use Rattle.std.proofs.Common.{◌≡◌, ◌∙◌, ℕ, zero, suc, Bool, true, false, cond, List, [], ◌∷◌, Option, Some, None, get_or, map, slice_get, refl, sym, ap, subst, ⊎_elim, arith}
use Rattle.std.proofs.lemmas.Bool.{cases_lt}
use Rattle.std.proofs.lemmas.Option.{none-some, slice_get-get_or, slice_get_within}
use Rattle.std.specs.BTreeMap.{is_at}
use Rattle.std.specs.List.{find}
use Rattle.types.proofs.Places.{no_position, position_finds}
use Rattle.types.specs.Orders.{ty_cmp}
use Rattle.types.specs.SameType.{type_cmp_decides}
use Rattle.types.specs.declared.ids.AdtId.TheVariants as adt
use Rattle.types.specs.declared.ids.StructId.{StructId}
use Rattle.types.specs.declared.ids.VariantId.TheVariants as variant
use Rattle.types.specs.declared.ty.Const.{Const}
use Rattle.types.specs.declared.ty.GenericArgs.{GenericArgs}
use Rattle.types.specs.declared.ty.Ty.{Ty}
use Rattle.types.specs.declared.ty.Ty.TheVariants.{Adt, Array, Tuple}
use Rattle.world.specs.Lookups.{fields_of, layout_of}
use Rattle.world.specs.declared.database.HirDatabase.{HirDatabase}
use Rattle.world.specs.declared.items.FieldRow.{FieldRow}
use Rattle.world.specs.declared.layout.Layout.{Layout}
use Rattle.numbers.specs.Constants.{number_in}
use Rattle.check_layouts.proofs.Above.{found_nowhere, found_past}
use Rattle.check_layouts.specs.Laid.{IsLaidOut}
use Rattle.check_layouts.specs.Sizes.{layout_above}
use Rattle.world_check.proofs.Laid.{mapped, of_there}
use Rattle.world_check.specs.Rows.{Holds}
use Rattle.world_check.specs.declared.fault.CheckRow.TheVariants.{C5}
use Rattle.world_check.specs.declared.place.Place.TheVariants.{Row}
use Rattle.world_check.specs.declared.place.TableName.TheVariants.{Layouts}
use Rattle.source_meaning.specs.Heights.{element_parts, field_parts, greatest, height, parts_of, row_place}
use Rattle.source_meaning.specs.Structs.{field_type}
use Rattle.heights.proofs.Law.{AreAbove, HasRow, IsAbove, height-over-parts, part_height, parts-of-array, parts-of-struct, parts-of-tuple}

abbrev has_type : Ty → Ty × Layout → Bool
has_type ty row = is_at (ty_cmp ty) row.0

-- what a search finds passes its test
passes : {R : Type 0} (test : R → Bool) (rows : List R) (row : R) → find test rows ≡ Some row → test row ≡ true
passes test [] row is = absurd cc
passes {R = R} test (x ∷ rows) row is = by (test x) refl is (λ later. passes test rows row later)
  where
    by : (b : Bool) → test x ≡ b → cond b (Some x) (find test rows) ≡ Some row → (find test rows ≡ Some row → test row ≡ true) → test row ≡ true
    by true so here further = let same : x ≡ row = cc in ap test (sym same) ∙ so
    by false so later further = further later

-- a laid-out type has a row
has-row : (world : HirDatabase) (ty : Ty) (layout : Layout) → layout_of world ty ≡ Some layout → HasRow world ty
unfolding row_place
has-row world ty layout laid = by (row_place world ty) refl
  where
    found : (row : Ty × Layout) × (find (has_type ty) world.layouts ≡ Some row) × (row.1 ≡ layout)
    found = mapped (λ (row : Ty × Layout). row.1) (find (has_type ty) world.layouts) layout laid

    same : (ty, found.0.1) ≡ found.0
    same = ap (λ (t : Ty). (t, found.0.1)) ((type_cmp_decides ty found.0.0).0 (passes (has_type ty) world.layouts found.0 found.1))

    by : (place : Option ℕ) → row_place world ty ≡ place → HasRow world ty
    by None is = absurd (none-some found.0 (no_position (has_type ty) world.layouts (sym is) ∙ found.1))
    by (Some place) is = record {
      place = place;
      layout = found.0.1;
      first = is;
      there = position_finds (has_type ty) world.layouts place (sym is) ∙ found.1 ∙ ap Some (sym same);
    }

-- a type with a layout above a place has its row there
is-above : (world : HirDatabase) (i : ℕ) (ty : Ty) (layout : Layout) → layout_above world i ty ≡ Some layout → IsAbove world i ty
unfolding row_place
is-above world i ty layout has = by (row_place world ty) refl
  where
    by : (place : Option ℕ) → row_place world ty ≡ place → IsAbove world i ty
    by None is = absurd (none-some layout (found_nowhere world i (Some ty) (sym is) ∙ has))
    by (Some q) is = ⊎_elim (λ less. (q, is, less)) (λ past. absurd (none-some layout (found_past world i (Some ty) q (sym is) past ∙ has))) (cases_lt q i)

-- what stands in a list of types
get-types : (types : List Ty) (k : ℕ) (part : Ty) → slice_get (map Some types) k ≡ Some (Some part) → slice_get types k ≡ Some part
get-types [] k part is = absurd cc
get-types (first ∷ types) zero part is = cc
get-types (first ∷ types) (suc k) part is = get-types types k part is

get-field : (world : HirDatabase) (args : GenericArgs) (fields : List FieldRow) (k : ℕ) (part : Ty) → slice_get (map (field_type world args) fields) k ≡ Some (Some part) →
    (field : FieldRow) × (slice_get fields k ≡ Some field) × (field_type world args field ≡ Some part)
get-field world args [] k part is = absurd cc
get-field world args (first ∷ fields) zero part is = (first, refl, cc)
get-field world args (first ∷ fields) (suc k) part is = get-field world args fields k part is

part-heights : (world : HirDatabase) (types : List Ty) → map (part_height world) (map Some types) ≡ map (height world) types
part-heights world [] = refl
part-heights world (ty ∷ types) = ap (λ (ns : List ℕ). height world ty ∷ ns) (part-heights world types)

module _ (world : HirDatabase) (holds : Holds world) where
  laid-at : (ty : Ty) (row : HasRow world ty) → IsLaidOut world (layout_above world row.place) ty row.layout
  laid-at ty row = of_there (λ (r : Ty × Layout). IsLaidOut world (layout_above world row.place) r.0 r.1) (slice_get world.layouts row.place) (ty, row.layout) row.there (holds.met C5 (Row Layouts row.place))

  -- a tuple is one higher than its highest part; without parts it is 1 high
  pub tuple-height : (types : List Ty) (layout : Layout) → layout_of world (Tuple types) ≡ Some layout → height world (Tuple types) ≡ suc (greatest (map (height world) types))
  tuple-height types layout laid =
      height-over-parts world (Tuple types) row (subst (AreAbove world row.place) (sym (parts-of-tuple world types)) above)
      ∙ ap (λ (parts : List (Option Ty)). suc (greatest (map (part_height world) parts))) (parts-of-tuple world types)
      ∙ ap (λ (ns : List ℕ). suc (greatest ns)) (part-heights world types)
    where
      row : HasRow world (Tuple types)
      row = has-row world (Tuple types) layout laid

      above : AreAbove world row.place (map Some types)
      above k part is =
          let at = get-types types k part is in
          let parts = (laid-at (Tuple types) row).parts types refl in
          let within = slice_get_within types k part at in
          let lies = parts.inside k (get_or row.layout.offsets k 0) part at (slice_get-get_or row.layout.offsets k 0 (omega (arith, within, parts.count))) in
          let is = lies.is in
          let same : lies.ty ≡ part = cc in
          is-above world row.place part lies.layout (subst (λ (t : Ty). layout_above world row.place t ≡ Some lies.layout) same lies.has)

  -- an array with elements is one higher than its element
  pub array-height : (element : Ty) (len : Const) (layout : Layout) → layout_of world (Array element len) ≡ Some layout →
      height world (Array element len) ≡ suc (greatest (map (part_height world) (element_parts (number_in len) element)))
  array-height element len layout laid =
      height-over-parts world (Array element len) row (subst (AreAbove world row.place) (sym (parts-of-array world element len)) (above (number_in len)))
      ∙ ap (λ (parts : List (Option Ty)). suc (greatest (map (part_height world) parts))) (parts-of-array world element len)
    where
      row : HasRow world (Array element len)
      row = has-row world (Array element len) layout laid

      element-above : IsAbove world row.place element
      element-above = let elements = (laid-at (Array element len) row).elements element len refl in is-above world row.place element elements.layout elements.has

      only : (k : ℕ) (part : Ty) → slice_get (element_parts None element) k ≡ Some (Some part) → IsAbove world row.place part
      only zero part at = let same : element ≡ part = cc in subst (IsAbove world row.place) same element-above
      only (suc k) part at = absurd cc

      above : (count : Option ℕ) → AreAbove world row.place (element_parts count element)
      above None k part is = only k part is
      above (Some zero) k part is = absurd cc
      above (Some (suc n)) k part is = only k part is

  -- a struct is one higher than its highest field at its generic arguments; without fields it is 1 high
  pub struct-height : (id : StructId) (args : GenericArgs) (fields : List FieldRow) (layout : Layout) → fields_of world (variant.StructId id) ≡ Some fields → layout_of world (Adt (adt.StructId id) args) ≡ Some layout →
      height world (Adt (adt.StructId id) args) ≡ suc (greatest (map (part_height world) (map (field_type world args) fields)))
  struct-height id args fields layout found laid =
      height-over-parts world (Adt (adt.StructId id) args) row (subst (AreAbove world row.place) (sym parts-are) above)
      ∙ ap (λ (parts : List (Option Ty)). suc (greatest (map (part_height world) parts))) parts-are
    where
      parts-are : parts_of world (Adt (adt.StructId id) args) ≡ map (field_type world args) fields
      parts-are = parts-of-struct world id args ∙ ap (field_parts world args) found

      row : HasRow world (Adt (adt.StructId id) args)
      row = has-row world (Adt (adt.StructId id) args) layout laid

      above : AreAbove world row.place (map (field_type world args) fields)
      above k part is =
          let field = get-field world args fields k part is in
          let known = (laid-at (Adt (adt.StructId id) args) row).known (adt.StructId id) args 0 k fields field.0 refl found field.1 in
          let one = known.is in
          let typed = field.2 in
          let same : known.ty ≡ part = cc in
          is-above world row.place part known.layout (subst (λ (t : Ty). layout_above world row.place t ≡ Some known.layout) same known.has)
