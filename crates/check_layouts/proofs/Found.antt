-- Facts about the stored sizes of field types.
use Rattle.std.proofs.Common.{◌≡◌, ℕ, Bool, true, false, cond, List, [], ◌∷◌, Option, Some, Ordering, Less, Equal, Greater, refl, sym, ◌∙◌, ap, subst}
use Rattle.std.specs.BTreeMap.{insert_entry, is_at}
use Rattle.std.specs.Map.{lookup}
use Rattle.std.specs.Ordering.{match_ordering, is_eq}
use Rattle.check_instances.specs.Instances.{ty_instance}
use Rattle.types.specs.Orders.{ty_cmp}
use Rattle.types.specs.SameType.{type_cmp_decides}
use Rattle.types.specs.declared.ty.GenericArgs.{GenericArgs}
use Rattle.types.specs.declared.ty.Ty.{Ty}
use Rattle.world.specs.declared.database.HirDatabase.{HirDatabase}
use Rattle.check_layouts.specs.inner.Fields.{AreSizesRight, field_size}

module _ (world : HirDatabase) (i : ℕ) (args : GenericArgs) where
  abbrev size_of : Ty → Option ℕ
  size_of ty = field_size world i (ty_instance world.normals args ty)

  -- no size is stored yet
  pub none_found : (sizes : List (Ty × ℕ)) → sizes ≡ [] → AreSizesRight world i args sizes
  unfolding AreSizesRight
  none_found sizes e = subst (λ (s : List (Ty × ℕ)). AreSizesRight world i args s) (sym e) tt

  more_right : (entry : Ty × ℕ) (sizes : List (Ty × ℕ)) → size_of entry.0 ≡ Some entry.1 → AreSizesRight world i args sizes → AreSizesRight world i args (entry ∷ sizes)
  unfolding AreSizesRight
  more_right entry sizes is right = (is, right)

  first_right : (entry : Ty × ℕ) (sizes : List (Ty × ℕ)) → AreSizesRight world i args (entry ∷ sizes) → size_of entry.0 ≡ Some entry.1
  unfolding AreSizesRight
  first_right entry sizes right = right.0

  rest_right : (entry : Ty × ℕ) (sizes : List (Ty × ℕ)) → AreSizesRight world i args (entry ∷ sizes) → AreSizesRight world i args sizes
  unfolding AreSizesRight
  rest_right entry sizes right = right.1

  -- a stored size is that of the type
  pub found_right : (ty : Ty) (sizes : List (Ty × ℕ)) (size : ℕ) → AreSizesRight world i args sizes → lookup (is_at (ty_cmp ty)) sizes ≡ Some size → size_of ty ≡ Some size
  found_right ty [] size right h = cc
  found_right ty (entry ∷ sizes) size right h = by (is_eq (ty_cmp ty entry.0)) refl (first_right entry sizes right) h (λ rest. found_right ty sizes size (rest_right entry sizes right) rest)
    where
      by : (b : Bool) → is_eq (ty_cmp ty entry.0) ≡ b → size_of entry.0 ≡ Some entry.1 → cond b (Some entry.1) (lookup (is_at (ty_cmp ty)) sizes) ≡ Some size → (lookup (is_at (ty_cmp ty)) sizes ≡ Some size → size_of ty ≡ Some size) → size_of ty ≡ Some size
      by true tied is h further = let same : ty ≡ entry.0 = (type_cmp_decides ty entry.0).0 tied in ap size_of same ∙ is ∙ h
      by false apart is h further = further h

  -- one more stored size
  pub put_right : (ty : Ty) (size : ℕ) (sizes : List (Ty × ℕ)) → size_of ty ≡ Some size → AreSizesRight world i args sizes → AreSizesRight world i args (insert_entry ty_cmp sizes ty size)
  put_right ty size [] is right = more_right (ty, size) [] is right
  put_right ty size (entry ∷ sizes) is right = by (ty_cmp ty entry.0) refl (first_right entry sizes right) (rest_right entry sizes right) (put_right ty size sizes is (rest_right entry sizes right))
    where
      by : (o : Ordering) → ty_cmp ty entry.0 ≡ o → size_of entry.0 ≡ Some entry.1 → AreSizesRight world i args sizes → AreSizesRight world i args (insert_entry ty_cmp sizes ty size) → AreSizesRight world i args (match_ordering o ((ty, size) ∷ entry ∷ sizes) ((entry.0, size) ∷ sizes) (entry ∷ insert_entry ty_cmp sizes ty size))
      by Less e first rest put = more_right (ty, size) (entry ∷ sizes) is (more_right entry sizes first rest)
      by Equal e first rest put = let same : ty ≡ entry.0 = (type_cmp_decides ty entry.0).0 (ap is_eq e) in more_right (entry.0, size) sizes (ap size_of (sym same) ∙ is) rest
      by Greater e first rest put = more_right entry (insert_entry ty_cmp sizes ty size) first put
