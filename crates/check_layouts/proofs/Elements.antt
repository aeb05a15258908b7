-- Tests that decide what is asked of the elements of an array.
use Rattle.std.proofs.Common.{◌≡◌, ℕ, ◌*◌, Bool, Option, Some, None, IfSome, Decides, refl, sym, subst}
use Rattle.std.proofs.lemmas.Bool.Decides.{Decides-like}
use Rattle.types.specs.declared.ty.Const.{Const}
use Rattle.types.specs.declared.ty.Ty.{Ty}
use Rattle.types.specs.declared.ty.Ty.TheVariants as type
use Rattle.world.specs.declared.layout.Layout.{Layout}
use Rattle.check_layouts.specs.Laid.{AreElements}
use Rattle.numbers.specs.Constants.{number_in}
use Rattle.check_layouts.proofs.Forms.{only_array}

-- there is a layout, and a size is that of so many elements of it
abbrev pub IsProduct : Option ℕ → Option Layout → ℕ → Type 0
IsProduct len found size = (layout : Layout) × (found ≡ Some layout) × IfSome len (λ count. size ≡ count * layout.size)

product_is : (len : Option ℕ) (layout : Layout) (size : ℕ) → IsProduct len (Some layout) size → IfSome len (λ count. size ≡ count * layout.size)
product_is len layout size (other, is, holds) = let e : other ≡ layout = cc in subst (λ (l : Layout). IfSome len (λ count. size ≡ count * l.size)) e holds

-- the layout is there, and the length is known
pub counted_product : (len : Option ℕ) (found : Option Layout) (count : ℕ) (layout : Layout) (size : ℕ) (b : Bool) → len ≡ Some count → found ≡ Some layout → Decides b (size ≡ count * layout.size) → Decides b (IsProduct len found size)
counted_product len found count layout size b counts is decides =
    subst (λ n. Decides b (IsProduct n found size)) (sym counts) (subst (λ o. Decides b (IsProduct (Some count) o size)) (sym is) (Decides-like b (λ e. (layout, refl, e)) (product_is (Some count) layout size) decides))

-- the layout is there, and the length is not known
pub uncounted_product : (len : Option ℕ) (found : Option Layout) (layout : Layout) (size : ℕ) → len ≡ None → found ≡ Some layout → IsProduct len found size
uncounted_product len found layout size counts is = (layout, is, subst (λ n. IfSome n (λ count. size ≡ count * layout.size)) (sym counts) tt)

module _ (look : Ty → Option Layout) (ty : Ty) (size : ℕ) where
  abbrev pub HasElements : Type 0
  HasElements = (element : Ty) (len : Const) → ty ≡ type.Array element len → AreElements look size element len

  pub array_decides : (element : Ty) (len : Const) (b : Bool) → ty ≡ type.Array element len → Decides b (IsProduct (number_in len) (look element) size) → Decides b HasElements
  array_decides element len b is decides =
      Decides-like b
      (λ product. only_array (AreElements look size) ty element len is (record { layout = product.0; has = product.1; product = product.2 }))
      (λ elements. let own = elements element len is in (own.layout, own.has, own.product))
      decides
