-- The layouts of a world in which each row of the check holds.
use Rattle.std.proofs.Common.{◌≡◌, ℕ, zero, suc, Bool, true, false, cond, Option, Some, None, List, [], ◌∷◌, take, slice_get, IfSome, refl, sym, ◌∙◌, ap, subst}
use Rattle.std.specs.BTreeMap.{is_at}
use Rattle.std.specs.List.{find}
use Rattle.std.specs.Option.{option_map}
use Rattle.types.specs.Orders.{ty_cmp}
use Rattle.types.specs.SameType.{type_cmp_decides}
use Rattle.types.specs.declared.ty.Ty.{Ty}
use Rattle.world.specs.Lookups.{layout_of}
use Rattle.world.specs.declared.database.HirDatabase.{HirDatabase}
use Rattle.world.specs.declared.layout.Layout.{Layout}
use Rattle.check_layouts.specs.Sizes.{layout_above}
use Rattle.world_check.specs.Laid.{AreLaidOut}
use Rattle.check_layouts.specs.Laid.{AreInside, HasLayout, HasRightTag, IsLaidOut, LiesInside, capture_type, field_type}
use Rattle.world_check.specs.Rows.{Holds}
use Rattle.world_check.specs.declared.fault.CheckRow.TheVariants.{C5, C6}
use Rattle.world_check.specs.declared.place.Place.TheVariants.{Row}
use Rattle.world_check.specs.declared.place.TableName.TheVariants.{Layouts}

-- a fact of an element that is there
pub of_there : {X : Type 0} (fact : X → Type 0) (found : Option X) (x : X) → found ≡ Some x → IfSome found fact → fact x
of_there {X} fact found x at h = subst (λ (o : Option X). IfSome o fact) at h

-- The row of a layout.

pub mapped : {A B : Type 0} (f : A → B) (o : Option A) (b : B) → option_map f o ≡ Some b → (a : A) × (o ≡ Some a) × (f a ≡ b)
mapped f None b e = cc
mapped f (Some a) b e = let same : f a ≡ b = cc in (a, refl, same)

-- the first row that passes a test stands in the list, and passes
found_row : {R : Type 0} (test : R → Bool) (rows : List R) (row : R) → find test rows ≡ Some row → (i : ℕ) × (slice_get rows i ≡ Some row) × (test row ≡ true)
found_row test [] row e = cc
found_row {R} test (x ∷ rows) row e = by (test x) refl e (λ later. found_row test rows row later)
  where
    by : (b : Bool) → test x ≡ b → cond b (Some x) (find test rows) ≡ Some row → (find test rows ≡ Some row → (i : ℕ) × (slice_get rows i ≡ Some row) × (test row ≡ true)) → (i : ℕ) × (slice_get (x ∷ rows) i ≡ Some row) × (test row ≡ true)
    by true passes here further = let same : x ≡ row = cc in (zero, here, ap test (sym same) ∙ passes)
    by false fails later further = let found = further later in (suc found.0, found.1, found.2)

-- the first row of some first rows that passes a test is the first of all
found_above : {R : Type 0} (test : R → Bool) (rows : List R) (i : ℕ) (row : R) → find test (take i rows) ≡ Some row → find test rows ≡ Some row
found_above test [] zero row e = cc
found_above test [] (suc i) row e = cc
found_above test (x ∷ rows) zero row e = cc
found_above {R} test (x ∷ rows) (suc i) row e = by (test x) e (λ later. found_above test rows i row later)
  where
    by : (b : Bool) → cond b (Some x) (find test (take i rows)) ≡ Some row → (find test (take i rows) ≡ Some row → find test rows ≡ Some row) → cond b (Some x) (find test rows) ≡ Some row
    by true here further = here
    by false later further = further later

abbrev has_type : Ty → Ty × Layout → Bool
has_type ty row = is_at (ty_cmp ty) row.0

-- a layout in an earlier row is the type's layout
seen_above : (world : HirDatabase) (i : ℕ) (ty : Ty) (layout : Layout) → layout_above world i ty ≡ Some layout → layout_of world ty ≡ Some layout
seen_above world i ty layout e =
    let found = mapped (λ (row : Ty × Layout). row.1) (find (has_type ty) (take i world.layouts)) layout e in
    ap (option_map (λ (row : Ty × Layout). row.1)) (found_above (has_type ty) world.layouts i found.0 found.1) ∙ ap Some found.2

-- Layouts that one look-up finds, and another one too.

module _ (look whole : Ty → Option Layout) (also : (ty : Ty) (layout : Layout) → look ty ≡ Some layout → whole ty ≡ Some layout) where
  still_has : (found : Option Ty) → HasLayout look found → HasLayout whole found
  still_has found has = record { ty = has.ty; layout = has.layout; is = has.is; has = also has.ty has.layout has.has }

  still_lies : (size offset : ℕ) (found : Option Ty) → LiesInside look size offset found → LiesInside whole size offset found
  still_lies size offset found lies = record { ty = lies.ty; layout = lies.layout; is = lies.is; has = also lies.ty lies.layout lies.has; ends = lies.ends }

  still_inside : {X : Type 0} (size : ℕ) (offsets : List ℕ) (type_of : X → Option Ty) (parts : List X) → AreInside look size offsets type_of parts → AreInside whole size offsets type_of parts
  still_inside size offsets type_of parts are = record { count = are.count; inside = λ k offset part at begins. still_lies size offset (type_of part) (are.inside k offset part at begins) }

  still_laid_out : (world : HirDatabase) (ty : Ty) (layout : Layout) → IsLaidOut world look ty layout → IsLaidOut world whole ty layout
  still_laid_out world ty layout laid = record {
    closed = laid.closed;
    align = laid.align;
    multiple = laid.multiple;
    size = laid.size;
    fields = λ id args v rows offsets is found begins. still_inside layout.size offsets (field_type world args) rows (laid.fields id args v rows offsets is found begins);
    known = λ id args v k rows field is found at. still_has (field_type world args field) (laid.known id args v k rows field is found at);
    parts = λ types is. still_inside layout.size layout.offsets Some types (laid.parts types is);
    captures = λ id args row is there.
        let captured = laid.captures id args row is there in
        record {
          known = λ k capture at. still_has (capture_type world args capture) (captured.known k capture at);
          inside = λ k offset capture at begins. still_lies layout.size offset (capture_type world args capture) (captured.inside k offset capture at begins);
        };
    elements = λ element len is.
        let elements = laid.elements element len is in
        record { layout = elements.layout; has = also element elements.layout elements.has; product = elements.product };
    tag = laid.tag;
  }

-- the row of a layout
pub layout_row : (world : HirDatabase) (ty : Ty) (layout : Layout) → layout_of world ty ≡ Some layout → (i : ℕ) × (row : Ty × Layout) × (slice_get world.layouts i ≡ Some row) × (ty ≡ row.0) × (row.1 ≡ layout)
layout_row world ty layout e =
    let found = mapped (λ (row : Ty × Layout). row.1) (find (has_type ty) world.layouts) layout e in
    let at = found_row (has_type ty) world.layouts found.0 found.1 in
    (at.0, found.0, at.1, (type_cmp_decides ty found.0.0).0 at.2, found.2)

-- in a world where each row of the check holds, every layout tells where the parts of its type lie
pub laid_out : (world : HirDatabase) → Holds world → AreLaidOut world
laid_out world holds ty layout e =
    let found = layout_row world ty layout e in
    let row = found.1 in
    let laid = of_there (λ (r : Ty × Layout). IsLaidOut world (layout_above world found.0) r.0 r.1) (slice_get world.layouts found.0) row found.2 (holds.met C5 (Row Layouts found.0)) in
    let tagged = of_there (λ (r : Ty × Layout). HasRightTag world r.0 r.1) (slice_get world.layouts found.0) row found.2 (holds.met C6 (Row Layouts found.0)) in
    let whole = still_laid_out (layout_above world found.0) (layout_of world) (seen_above world found.0) world row.0 row.1 laid in
    subst (λ t. IsLaidOut world (layout_of world) t layout × HasRightTag world t layout) (sym found.3) (subst (λ l. IsLaidOut world (layout_of world) row.0 l × HasRightTag world row.0 l) found.4 (whole, tagged))
