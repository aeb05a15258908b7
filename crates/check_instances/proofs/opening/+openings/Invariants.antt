use Rattle.check_instances.specs.Comparisons.{arg_at, bound_at, ty_at}
use Rattle.check_instances.specs.Instances.{arg_instance, bound_instance, ty_instance}
use Rattle.check_instances.proofs.Opened.{Opened}
use Rattle.check_instances.proofs.opening.+openings.Given as goal

abbrev pub invariant-open_tys-loop-ty : goal.invariant-open_tys-loop-ty
invariant-open_tys-loop-ty l = Opened (ty_at l.normals l.args) (ty_instance l.normals l.args) l.items l.ty-index l.made

abbrev pub invariant-open_bounds-loop-bound : goal.invariant-open_bounds-loop-bound
invariant-open_bounds-loop-bound l = Opened (bound_at l.normals l.args) (bound_instance l.normals l.args) l.items l.bound-index l.made

abbrev pub invariant-open_args-loop-arg : goal.invariant-open_args-loop-arg
invariant-open_args-loop-arg l = Opened (arg_at l.normals l.args) (arg_instance l.normals l.args) l.items l.arg-index l.made
