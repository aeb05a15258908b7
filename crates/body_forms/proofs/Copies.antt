-- A type that is added to a set of types.
use Rattle.std.proofs.Common.{◌≡◌, Bool, true, false, cond, sym, refl, ap, ◌∙◌}
use Rattle.std.specs.Bool.{one_answer}
use Rattle.std.specs.Ordering.{is_eq}
use Rattle.std.specs.Prelude.{◌||◌}
use Rattle.types.specs.Orders.{ty_eq, ty_cmp}
use Rattle.types.specs.SameType.{type_decides, type_cmp_decides}
use Rattle.types.specs.declared.ty.Ty.{Ty}

by-either : (added there : Bool) → cond added true there ≡ (there || added)
by-either true true = refl
by-either true false = refl
by-either false true = refl
by-either false false = refl

-- a type is in the set with one more where it is that one, or was there
pub one-more : (one ty : Ty) (there : Bool) → cond (is_eq (ty_cmp one ty)) true there ≡ (there || ty_eq ty one)
one-more one ty there =
    let equal = type_decides ty one in
    let same : is_eq (ty_cmp one ty) ≡ ty_eq ty one = one_answer (is_eq (ty_cmp one ty)) (ty_eq ty one) (type_cmp_decides one ty) ((λ is. sym (equal.0 is)), (λ is. equal.1 (sym is))) in
    ap (λ (b : Bool). cond b true there) same ∙ by-either (ty_eq ty one) there
