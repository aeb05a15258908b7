use Rattle.std.proofs.Common.{◌≡◌, Some, map, take}
use Rattle.check_instances.specs.Instances.{all_there, arg_instance, bound_instance, ty_instance}
use Rattle.check_instances.proofs.instances.+instances.Given as goal

abbrev pub invariant-instances_of_tys-loop-ty : goal.invariant-instances_of_tys-loop-ty
invariant-instances_of_tys-loop-ty l = all_there (map (ty_instance l.normals l.args) (take l.ty-index l.items)) ≡ Some l.made

abbrev pub invariant-instances_of_bounds-loop-bound : goal.invariant-instances_of_bounds-loop-bound
invariant-instances_of_bounds-loop-bound l = all_there (map (bound_instance l.normals l.args) (take l.bound-index l.items)) ≡ Some l.made

abbrev pub invariant-instance_of_args-loop-arg : goal.invariant-instance_of_args-loop-arg
invariant-instance_of_args-loop-arg l = all_there (map (arg_instance l.normals l.args) (take l.arg-index l.items)) ≡ Some l.made
