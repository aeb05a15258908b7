-- The values of a struct's fields: those that are at the places of the written fields.
use Rattle.std.proofs.Common.{◌≡◌, ℕ, zero, suc, List, [], ◌∷◌, length, slice_get, Option, Some, None, option_map, option_and_then, refl, sym, ap, ◌∙◌}
use Rattle.types.specs.declared.ty.GenericArgs.{GenericArgs}
use Rattle.types.specs.declared.ty.Ty.{Ty}
use Rattle.world.specs.declared.database.HirDatabase.{HirDatabase}
use Rattle.world.specs.declared.items.FieldRow.{FieldRow}
use Rattle.world.specs.declared.layout.Layout.{Layout}
use Rattle.source_meaning.specs.Aggregates.{HasFields, HasParts}
use Rattle.source_meaning.specs.Structs.{AreFieldTypes, field_type, picked}

-- elements are picked where the first one is, and the others are
pub record PicksFirst {A : Type 0} (place : ℕ) (places : List ℕ) (xs given : List A) : Type 0 where
  pub first : A
  pub others : List A
  pub there : slice_get xs place ≡ Some first
  pub rest : picked places xs ≡ Some others
  pub are : given ≡ first ∷ others

pub picks-first : {A : Type 0} (place : ℕ) (places : List ℕ) (xs given : List A) → picked (place ∷ places) xs ≡ Some given → PicksFirst place places xs given
unfolding picked
picks-first {A} place places xs given is = by_both (slice_get xs place) refl (picked places xs) refl is
  where
    by_both : (at : Option A) → slice_get xs place ≡ at → (more : Option (List A)) → picked places xs ≡ more → option_and_then (λ x. option_map (λ others. x ∷ others) more) at ≡ Some given → PicksFirst place places xs given
    by_both (Some first) there (Some others) rest same = record { first = first; others = others; there = there; rest = rest; are = (let are : first ∷ others ≡ given = cc in sym are) }
    by_both (Some first) there None rest same = absurd cc
    by_both None there more rest same = absurd cc

pub picked-more : {A : Type 0} (place : ℕ) (places : List ℕ) (xs : List A) (first : A) (others : List A) → slice_get xs place ≡ Some first → picked places xs ≡ Some others → picked (place ∷ places) xs ≡ Some (first ∷ others)
unfolding picked
picked-more {A} place places xs first others there rest =
    ap (option_and_then (λ (x : A). option_map (λ (more : List A). x ∷ more) (picked places xs))) there
    ∙ ap (option_map (λ (more : List A). first ∷ more)) rest

pub picked-none : {A : Type 0} (xs : List A) → picked [] xs ≡ Some []
unfolding picked
picked-none xs = refl

-- the types of fields are those at the same indices
record HasRow (world : HirDatabase) (args : GenericArgs) (fields : List FieldRow) (k : ℕ) (ty : Ty) : Type 0 where
  field : FieldRow
  there : slice_get fields k ≡ Some field
  typed : field_type world args field ≡ Some ty

row-of : (world : HirDatabase) (args : GenericArgs) (fields : List FieldRow) (types : List Ty) → AreFieldTypes world args fields types → (k : ℕ) (ty : Ty) → slice_get types k ≡ Some ty → HasRow world args fields k ty
row-of world args [] [] are k ty at = absurd cc
row-of world args [] (one ∷ types) are k ty at = absurd are
row-of world args (field ∷ fields) [] are k ty at = absurd are
row-of world args (field ∷ fields) (one ∷ types) are zero ty at = let same : one ≡ ty = cc in record { field = field; there = refl; typed = are.0 ∙ ap Some same }
row-of world args (field ∷ fields) (one ∷ types) are (suc k) ty at =
    let later = row-of world args fields types are.1 k ty at in record { field = later.field; there = later.there; typed = later.typed }

as-many : (world : HirDatabase) (args : GenericArgs) (fields : List FieldRow) (types : List Ty) → AreFieldTypes world args fields types → length fields ≡ length types
as-many world args [] [] are = refl
as-many world args [] (one ∷ types) are = absurd are
as-many world args (field ∷ fields) [] are = absurd are
as-many world args (field ∷ fields) (one ∷ types) are = ap suc (as-many world args fields types are.1)

-- so values of these types lie inside as the fields do
pub fields-are-parts : (world : HirDatabase) (args : GenericArgs) (fields : List FieldRow) (types : List Ty) (layout : Layout) → AreFieldTypes world args fields types → HasFields world args fields layout → HasParts world types layout
fields-are-parts world args fields types layout are has = record {
  count = has.count ∙ as-many world args fields types are;
  inside = λ k offset ty at begins. (let row = row-of world args fields types are k ty at in has.inside k offset row.field ty row.there row.typed begins);
}
