use Rattle.check_instances.specs.Comparisons.{arg_at, arg_cmp, bound_at, bound_cmp, ty_at}
use Rattle.types.specs.Orders.{ty_cmp}
use Rattle.check_instances.proofs.Following.{Follows}
use Rattle.check_instances.proofs.comparing.+comparisons.Given as goal

abbrev pub invariant-compare_tys-loop-i : goal.invariant-compare_tys-loop-i
invariant-compare_tys-loop-i l = Follows (ty_at l.normals l.args) ty_cmp l.items l.others l.i

abbrev pub invariant-compare_bounds-loop-i : goal.invariant-compare_bounds-loop-i
invariant-compare_bounds-loop-i l = Follows (bound_at l.normals l.args) bound_cmp l.items l.others l.i

abbrev pub invariant-compare_args-loop-i : goal.invariant-compare_args-loop-i
invariant-compare_args-loop-i l = Follows (arg_at l.normals l.args) arg_cmp l.items l.others l.i
