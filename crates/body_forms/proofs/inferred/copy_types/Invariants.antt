use Rattle.std.proofs.Common.{◌≡◌, take}
use Rattle.std.specs.BTreeSet.{contains}
use Rattle.std.specs.List.{list_any}
use Rattle.types.specs.Orders.{ty_cmp, ty_eq}
use Rattle.types.specs.declared.ty.Ty.{Ty}
use Rattle.body_forms.proofs.inferred.copy_types.Given as goal

-- the types so far are in the set
abbrev pub invariant-loop-ty : goal.invariant-loop-ty
invariant-loop-ty l = (t : Ty) → contains ty_cmp l.types t ≡ list_any (ty_eq t) (take l.ty-index l.listed)
