-- What is known of a row that a look-up finds.
use Rattle.std.proofs.Common.{◌≡◌, ℕ, suc, Bool, true, false, cond, List, [], ◌∷◌, Option, Some, None, slice_get, refl, sym, ap, ◌∙◌}
use Rattle.std.specs.List.{find}
use Rattle.std.specs.Option.{option_map}
use Rattle.types.specs.SameType.{type_cmp_decides}
use Rattle.types.specs.declared.ty.Ty.{Ty}
use Rattle.world.specs.declared.database.HirDatabase.{HirDatabase}
use Rattle.world.specs.declared.layout.Layout.{Layout}
use Rattle.world.specs.Lookups.{layout_of}

-- what is found stands in the list, and passes the test
pub found_at : {X : Type 0} (test : X → Bool) (xs : List X) (x : X) → find test xs ≡ Some x → (i : ℕ) × (slice_get xs i ≡ Some x) × (test x ≡ true)
found_at test [] x h = cc
found_at {X} test (y ∷ ys) x h = by (test y) refl h (λ further. found_at test ys x further)
  where
    by : (b : Bool) → test y ≡ b → cond b (Some y) (find test ys) ≡ Some x → (find test ys ≡ Some x → (i : ℕ) × (slice_get ys i ≡ Some x) × (test x ≡ true)) → (i : ℕ) × (slice_get (y ∷ ys) i ≡ Some x) × (test x ≡ true)
    by true e h in_rest = let same : y ≡ x = cc in (0, ap Some same, ap test (sym same) ∙ e)
    by false e h in_rest = let at = in_rest h in (suc at.0, at.1, at.2)

layout_from : (row : Option (Ty × Layout)) (layout : Layout) → option_map (λ r. r.1) row ≡ Some layout → (ty : Ty) × (row ≡ Some (ty, layout))
layout_from None layout h = cc
layout_from (Some row) layout h = let same : row.1 ≡ layout = cc in (row.0, ap (λ (l : Layout). Some (row.0, l)) same)

-- a type's layout stands in a row with the type
pub layout_row : (world : HirDatabase) (ty : Ty) (layout : Layout) → layout_of world ty ≡ Some layout → (i : ℕ) × (slice_get world.layouts i ≡ Some (ty, layout))
layout_row world ty layout h =
    let row = layout_from _ layout h in
    let at = found_at _ world.layouts (row.0, layout) row.1 in
    let same : ty ≡ row.0 = (type_cmp_decides ty row.0).0 at.2 in
    (at.0, at.1 ∙ ap (λ (t : Ty). Some (t, layout)) (sym same))
