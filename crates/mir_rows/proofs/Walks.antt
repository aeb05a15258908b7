-- Walks over the elements of a projection, and the cells that they lead to.
use Rattle.std.proofs.Common.{◌≡◌, ℕ, ◌+◌, ◌^◌, ◌<◌, ◌≤◌, Bool, true, false, ◌||◌, List, [], ◌∷◌, length, drop, get_or, Option, Some, None, Bor, slice_get, refl, sym, ap, ◌∙◌, arith, eqb-true, leb-true, lit≤}
use borrow.Author.Tests.{leb-false}
use Rattle.std.specs.Prelude.{IfSome, if◌then◌else◌, ◌==◌, min, nat_le, option_and_then, option_map}
use Rattle.std.specs.Option.{option_copied}
use Rattle.std.proofs.lemmas.Bool.Decides.{nat_tests}
use Rattle.std.proofs.lemmas.List.{drop_all, drop_more}
use Rattle.types.specs.declared.ty.Ty.{Ty}
use Rattle.world.specs.declared.database.HirDatabase.{HirDatabase}
use Rattle.world.specs.declared.layout.Layout.{Layout}
use Rattle.world.specs.Lookups.{layout_of}
use Rattle.mir.specs.declared.address.Address.{Address}
use Rattle.mir.specs.declared.address.Address.TheVariants.{Stack, Heap, Invalid}
use Rattle.mir.specs.declared.address.Interval.{Interval}
use Rattle.mir.specs.declared.body.MirBody.{MirBody}
use Rattle.mir.specs.declared.ids.LocalId.{LocalId}
use Rattle.mir.specs.declared.operand.Place.{Place}
use Rattle.mir.specs.Addresses.{moved, usize_of}
use Rattle.mir.specs.Elements.{PlaceElem}
use Rattle.mir.specs.Places.{added, cell_at, cell_behind, elem_offset, elem_past, elem_type, leads_past, local_type, offset_behind, part_of_cell, type_behind}
use Rattle.mir.specs.Projections.{Projection}
use Rattle.mir_rows.specs.Places.{farthest, saturated, HasEnd, HaveEnds}

-- numbers that are saturated after each step, and once at the end
saturates : (most one other rest : ℕ) → min (min (one + min other most) most + rest) most ≡ min (one + (other + rest)) most
saturates most one other rest = omega arith

saturated-next : (offset meant : ℕ) (rest : Option ℕ) → option_map saturated (added (Some (min (offset + saturated meant) farthest)) rest) ≡ option_map saturated (added (Some offset) (added (Some meant) rest))
saturated-next offset meant None = refl
saturated-next offset meant (Some n) = ap Some (saturates farthest offset meant n)

least-twice : (most n : ℕ) → min (min n most) most ≡ min n most
least-twice most n = omega arith

pub saturated-twice : (n : ℕ) → saturated (saturated n) ≡ saturated n
saturated-twice n = least-twice farthest n

least-of : (most n : ℕ) → n ≤ most → min n most ≡ n
least-of most n less = omega arith

under : (n short most : ℕ) → n < short → short ≤ most → n < most
under n short most less near = omega arith

inside-most : (meant size whole most : ℕ) → meant + size ≤ whole → whole < most → meant ≤ most
inside-most meant size whole most inside less = omega arith

under-le : (n short most : ℕ) → n < short → short ≤ most → n ≤ most
under-le n short most less near = omega arith

pub saturated-small : (n : ℕ) → n < 2 ^ 64 → saturated n ≡ n
saturated-small n less = least-of farthest n (under-le n (2 ^ 64) farthest less (lit≤ tt))

below-most : (most n offset : ℕ) → offset ≡ min n most → offset < most → n ≡ offset
below-most most n offset is less = omega arith

-- an offset that isn't saturated
pub saturated-is : (meant offset : ℕ) → offset ≡ saturated meant → offset < 2 ^ 64 → meant ≡ offset
saturated-is meant offset is less = below-most farthest meant offset is (under offset (2 ^ 64) farthest less (lit≤ tt))

-- the number that was saturated
pub meant-of : (found : Option ℕ) (offset : ℕ) → Some offset ≡ option_map saturated found → (meant : ℕ) × (found ≡ Some meant) × (offset ≡ saturated meant)
meant-of (Some n) offset is = (n, refl, (let same : offset ≡ saturated n = cc in same))
meant-of None offset is = absurd cc

pub none-meant : (found : Option ℕ) → None ≡ option_map saturated found → found ≡ None
none-meant (Some n) is = absurd cc
none-meant None is = refl

-- the elements from a place on are the one there and those behind it
from-here : (elements : Projection) (i : ℕ) (elem : PlaceElem) → i < length elements → elem ≡ get_or elements i elem → drop i elements ≡ elem ∷ drop (i + 1) elements
from-here elements i elem less is = drop_more elements i elem less ∙ ap (λ (e : PlaceElem). e ∷ drop (i + 1) elements) (sym is)

module _ (elements : Projection) (i : ℕ) (elem : PlaceElem) (less : i < length elements) (is : elem ≡ get_or elements i elem) where
  -- the type behind one more element
  pub type-next : (world : HirDatabase) (ty : Option Ty) → type_behind world (drop i elements) ty ≡ type_behind world (drop (i + 1) elements) (option_and_then (elem_type world elem) ty)
  unfolding type_behind
  type-next world ty = ap (λ (es : Projection). type_behind world es ty) (from-here elements i elem less is)

  -- the offset behind one more element
  pub offset-next : (world : HirDatabase) (numbers : LocalId → Option ℕ) (ty : Option Ty) → offset_behind world numbers (drop i elements) ty ≡ added (option_and_then (elem_offset world numbers elem) ty) (offset_behind world numbers (drop (i + 1) elements) (option_and_then (elem_type world elem) ty))
  unfolding offset_behind
  offset-next world numbers ty = ap (λ (es : Projection). offset_behind world numbers es ty) (from-here elements i elem less is)

  -- whether one more element is past its array's end, or one behind it
  pub past-next : (world : HirDatabase) (numbers : LocalId → Option ℕ) (ty : Option Ty) → leads_past world numbers (drop i elements) ty ≡ (elem_past numbers elem ty || leads_past world numbers (drop (i + 1) elements) (option_and_then (elem_type world elem) ty))
  unfolding leads_past
  past-next world numbers ty = ap (λ (es : Projection). leads_past world numbers es ty) (from-here elements i elem less is)

  pub past-here : (world : HirDatabase) (numbers : LocalId → Option ℕ) (ty : Option Ty) → elem_past numbers elem ty ≡ true → leads_past world numbers (drop i elements) ty ≡ true
  past-here world numbers ty past = past-next world numbers ty ∙ ap (λ (b : Bool). b || leads_past world numbers (drop (i + 1) elements) (option_and_then (elem_type world elem) ty)) past

  pub past-behind : (world : HirDatabase) (numbers : LocalId → Option ℕ) (ty : Option Ty) → elem_past numbers elem ty ≡ false → leads_past world numbers (drop i elements) ty ≡ leads_past world numbers (drop (i + 1) elements) (option_and_then (elem_type world elem) ty)
  past-behind world numbers ty past = past-next world numbers ty ∙ ap (λ (b : Bool). b || leads_past world numbers (drop (i + 1) elements) (option_and_then (elem_type world elem) ty)) past

  -- an offset that is known so far is added to those behind it
  module _ (world : HirDatabase) (numbers : LocalId → Option ℕ) (offset : ℕ) (ty : Option Ty) (whole : Option ℕ) (so_far : option_map saturated (added (Some offset) (offset_behind world numbers (drop i elements) ty)) ≡ whole) where
    abbrev first : Option ℕ
    first = option_and_then (elem_offset world numbers elem) ty

    abbrev others : Option ℕ
    others = offset_behind world numbers (drop (i + 1) elements) (option_and_then (elem_type world elem) ty)

    all-by : option_map saturated (added (Some offset) (added first others)) ≡ whole
    all-by = ap (λ (o : Option ℕ). option_map saturated (added (Some offset) o)) (sym (offset-next world numbers ty)) ∙ so_far

    pub offset-more : (more : ℕ) → Some more ≡ option_map saturated first → option_map saturated (added (Some (min (offset + more) farthest)) others) ≡ whole
    offset-more more found =
        let meant = meant-of first more found in
        ap (λ (m : ℕ). option_map saturated (added (Some (min (offset + m) farthest)) others)) meant.2
        ∙ saturated-next offset meant.0 others
        ∙ ap (λ (o : Option ℕ). option_map saturated (added (Some offset) (added o others))) (sym meant.1)
        ∙ all-by

    pub offset-missing : None ≡ option_map saturated first → None ≡ whole
    offset-missing missing =
        ap (λ (o : Option ℕ). option_map saturated (added (Some offset) (added o others))) (sym (none-meant first missing))
        ∙ all-by

-- no element is left
module _ (elements : Projection) (i : ℕ) (none : length elements ≤ i) where
  pub type-last : (world : HirDatabase) (ty : Option Ty) → type_behind world (drop i elements) ty ≡ ty
  unfolding type_behind
  type-last world ty = ap (λ (es : Projection). type_behind world es ty) (drop_all i elements none)

  pub offset-last : (world : HirDatabase) (numbers : LocalId → Option ℕ) (offset : ℕ) (ty : Option Ty) → saturated offset ≡ offset → option_map saturated (added (Some offset) (offset_behind world numbers (drop i elements) ty)) ≡ Some offset
  unfolding offset_behind
  offset-last world numbers offset ty small =
      let plain : offset + 0 ≡ offset = omega arith in
      ap (λ (es : Projection). option_map saturated (added (Some offset) (offset_behind world numbers es ty))) (drop_all i elements none) ∙ ap (λ (n : ℕ). Some (saturated n)) plain ∙ ap Some small

  pub past-last : (world : HirDatabase) (numbers : LocalId → Option ℕ) (ty : Option Ty) → leads_past world numbers (drop i elements) ty ≡ false
  unfolding leads_past
  past-last world numbers ty = ap (λ (es : Projection). leads_past world numbers es ty) (drop_all i elements none)

-- nothing was added yet
pub added-zero : (offset : Option ℕ) → added (Some 0) offset ≡ offset
added-zero None = refl
added-zero (Some n) = let same : 0 + n ≡ n = omega arith in ap Some same

-- the type that one more element leads to, where there is one so far
pub seen-next : (world : HirDatabase) (elem : PlaceElem) (seen : Option (Bor Ty)) (ty : Bor Ty) (next : Option (Bor Ty)) → seen ≡ Some ty → option_copied next ≡ elem_type world elem ty.now → option_copied next ≡ option_and_then (elem_type world elem) (option_copied seen)
seen-next world elem seen ty next is leads = leads ∙ ap (λ (s : Option (Bor Ty)). option_and_then (elem_type world elem) (option_copied s)) (sym is)

pub none-next : (world : HirDatabase) (elem : PlaceElem) (seen : Option (Bor Ty)) → seen ≡ None → None ≡ option_and_then (elem_type world elem) (option_copied seen)
none-next world elem seen is = ap (λ (s : Option (Bor Ty)). option_and_then (elem_type world elem) (option_copied s)) (sym is)

-- the part of a cell that has this offset and is of this type
module _ (world : HirDatabase) (numbers : LocalId → Option ℕ) (elements : Projection) (ty : Option Ty) (cell : Interval) where
  abbrev Found : Option ℕ → Option Ty → Option Interval
  Found offset seen = option_and_then (λ n. option_and_then (part_of_cell cell n) (option_map (λ layout. layout.size) (option_and_then (layout_of world) seen))) offset

  pub behind-none : (length elements == 0) ≡ true → Some cell ≡ cell_behind world numbers elements ty cell
  unfolding cell_behind
  behind-none = by elements where
    by : (elems : Projection) → (length elems == 0) ≡ true → Some cell ≡ cell_behind world numbers elems ty cell
    by [] none = refl
    by (elem ∷ rest) none = absurd (let zero-long : length (elem ∷ rest) ≡ 0 = eqb-true (length (elem ∷ rest)) 0 none in omega (arith, zero-long))

  behind-some : (length elements == 0) ≡ false → Found (offset_behind world numbers elements ty) (type_behind world elements ty) ≡ cell_behind world numbers elements ty cell
  unfolding cell_behind
  behind-some = by elements where
    by : (elems : Projection) → (length elems == 0) ≡ false → Found (offset_behind world numbers elems ty) (type_behind world elems ty) ≡ cell_behind world numbers elems ty cell
    by [] some = absurd cc
    by (elem ∷ rest) some = refl

  pub behind-by : (length elements == 0) ≡ false → (offset : Option ℕ) → offset ≡ offset_behind world numbers elements ty → (seen : Option Ty) → seen ≡ type_behind world elements ty → Found offset seen ≡ cell_behind world numbers elements ty cell
  behind-by some offset is seen same =
      ap (λ (o : Option ℕ). Found o seen) is ∙ ap (Found (offset_behind world numbers elements ty)) same ∙ behind-some some

  -- the layout of the type, or none
  pub laid-by : (length elements == 0) ≡ false → (offset : ℕ) → Some offset ≡ offset_behind world numbers elements ty → (seen : Ty) → Some seen ≡ type_behind world elements ty → (layout : Option Layout) → layout ≡ layout_of world seen
      → option_and_then (part_of_cell cell offset) (option_map (λ layout. layout.size) layout) ≡ cell_behind world numbers elements ty cell
  laid-by some offset is seen same layout laid =
      ap (λ (l : Option Layout). option_and_then (part_of_cell cell offset) (option_map (λ layout. layout.size) l)) laid
      ∙ behind-by some (Some offset) is (Some seen) same

  -- the same of an offset that there may be
  pub laid-all : (length elements == 0) ≡ false → (seen : Ty) → Some seen ≡ type_behind world elements ty → (layout : Layout) → Some layout ≡ layout_of world seen
      → option_and_then (λ offset. part_of_cell cell offset layout.size) (offset_behind world numbers elements ty) ≡ cell_behind world numbers elements ty cell
  laid-all some seen same layout laid =
      ap (λ (l : Option Layout). option_and_then (λ n. option_and_then (part_of_cell cell n) (option_map (λ layout. layout.size) l)) (offset_behind world numbers elements ty)) laid
      ∙ behind-by some (offset_behind world numbers elements ty) refl (Some seen) same

-- where a place's value lies whose elements are known
pub cell-by : (world : HirDatabase) (body : MirBody) (numbers : LocalId → Option ℕ) (cells : List Interval) (place : Place) (elements : Projection) (cell : Interval) → Some cell ≡ slice_get cells place.local.0
    → cell_behind world numbers elements (local_type body place.local) cell ≡ cell_at world body numbers cells place (Some elements)
unfolding cell_behind
cell-by world body numbers cells place [] cell there = there
cell-by world body numbers cells place (elem ∷ rest) cell there = ap (option_and_then (cell_behind world numbers (elem ∷ rest) (local_type body place.local))) there

-- a cell behind which there is such an address has a size of 64 bits
end-size : (address : Address) (size : ℕ) → usize_of (moved address size) < 2 ^ 64 → size < 2 ^ 64
end-size (Stack place) size ends = omega (arith, ends)
end-size (Heap place) size ends = omega (arith, ends)
end-size (Invalid n) size ends = omega (arith, ends)

-- so many bytes of a cell from an offset on
abbrev part : Interval → ℕ → ℕ → Interval
part cell offset size = record { addr = moved cell.addr offset; size = size }

past-cell : (meant size whole most : ℕ) → whole < meant + size → whole < most → nat_le (min meant most + size) whole ≡ false
past-cell meant size whole most less near =
    let above : whole < min meant most + size = omega arith in
    grind (arith, nat_tests)

-- a part of a cell by its saturated offset is the same: what isn't in the cell isn't in it by either
pub part-saturated : (cell : Interval) (meant size : ℕ) → HasEnd cell → part_of_cell cell (saturated meant) size ≡ part_of_cell cell meant size
part-saturated cell meant size ends = by (nat_le (meant + size) cell.size) refl where
  short : cell.size < farthest
  short = under cell.size (2 ^ 64) farthest (end-size cell.addr cell.size ends) (lit≤ tt)

  by : (fits : Bool) → nat_le (meant + size) cell.size ≡ fits → part_of_cell cell (saturated meant) size ≡ part_of_cell cell meant size
  by true fits =
      let inside : meant + size ≤ cell.size = leb-true (meant + size) cell.size fits in
      ap (λ (n : ℕ). part_of_cell cell n size) (least-of farthest meant (inside-most meant size cell.size farthest inside short))
  by false fits =
      let outside : cell.size < meant + size = leb-false (meant + size) cell.size fits in
      ap (λ (b : Bool). if b then Some (part cell (saturated meant) size) else None) (past-cell meant size cell.size farthest outside short)
      ∙ sym (ap (λ (b : Bool). if b then Some (part cell meant size) else None) fits)

-- behind a part of a cell there is such an address too
part-end : (address : Address) (offset part size : ℕ) → offset + part ≤ size → usize_of (moved address size) < 2 ^ 64 → usize_of (moved (moved address offset) part) < 2 ^ 64
part-end (Stack place) offset part size fits ends = omega (arith, fits, ends)
part-end (Heap place) offset part size fits ends = omega (arith, fits, ends)
part-end (Invalid n) offset part size fits ends = omega (arith, fits, ends)

part-ends : (cell : Interval) (offset size : ℕ) → HasEnd cell → IfSome (part_of_cell cell offset size) HasEnd
part-ends cell offset size ends = by (nat_le (offset + size) cell.size) refl where
  by : (fits : Bool) → nat_le (offset + size) cell.size ≡ fits → IfSome (if fits then Some (part cell offset size) else None) HasEnd
  by true fits = part-end cell.addr offset size cell.size (leb-true (offset + size) cell.size fits) ends
  by false fits = tt

behind-ends : (world : HirDatabase) (numbers : LocalId → Option ℕ) (elements : Projection) (ty : Option Ty) (cell : Interval) → HasEnd cell → IfSome (cell_behind world numbers elements ty cell) HasEnd
unfolding cell_behind
behind-ends world numbers [] ty cell ends = ends
behind-ends world numbers (elem ∷ rest) ty cell ends =
    by (offset_behind world numbers (elem ∷ rest) ty) (option_map (λ layout. layout.size) (option_and_then (layout_of world) (type_behind world (elem ∷ rest) ty))) where
      by : (offset size : Option ℕ) → IfSome (option_and_then (λ n. option_and_then (part_of_cell cell n) size) offset) HasEnd
      by None size = tt
      by (Some offset) None = tt
      by (Some offset) (Some size) = part-ends cell offset size ends

pub at-ends : (world : HirDatabase) (body : MirBody) (numbers : LocalId → Option ℕ) (cells : List Interval) (place : Place) (elements : Option Projection) → HaveEnds cells → IfSome (cell_at world body numbers cells place elements) HasEnd
at-ends world body numbers cells place None ends = tt
at-ends world body numbers cells place (Some []) ends = by (slice_get cells place.local.0) refl where
  by : (found : Option Interval) → slice_get cells place.local.0 ≡ found → IfSome found HasEnd
  by None is = tt
  by (Some cell) is = ends place.local.0 cell is
at-ends world body numbers cells place (Some (elem ∷ rest)) ends = by (slice_get cells place.local.0) refl where
  by : (found : Option Interval) → slice_get cells place.local.0 ≡ found → IfSome (option_and_then (cell_behind world numbers (elem ∷ rest) (local_type body place.local)) found) HasEnd
  by None is = tt
  by (Some cell) is = behind-ends world numbers (elem ∷ rest) (local_type body place.local) cell (ends place.local.0 cell is)
