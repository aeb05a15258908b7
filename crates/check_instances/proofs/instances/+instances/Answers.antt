use Rattle.std.proofs.Common.{◌≡◌, Some, None, map, sym, ◌∙◌, ap, rules}
use Rattle.check_instances.specs.Instances.{all_there, arg_instance, bound_instance, ty_instance}
use Rattle.check_instances.proofs.AllThere.{all_there_more, all_there_missing, all_there_end}
use Rattle.check_instances.proofs.Layers.{args_missing, args_there}
use Rattle.check_instances.proofs.instances.+instances.Goals as goal

pub instances_of_tys-loop-ty-preserved : goal.instances_of_tys-loop-ty-preserved
instances_of_tys-loop-ty-preserved t c =
    all_there_more (ty_instance c.args.normals.now c.args.args.now) c.as_slice-items.result.now c.loop-ty.ty-index c.ty-item.result c.ty-item.result c.in_ok-instance_of_ty.field-0 c.loop-ty.made c.loop-ty-test.true c.ty-item.is c.in_ok-instance_of_ty.ensures.given c.loop-ty.invariant
    ∙ ap Some (sym c.in_ok-push.ensures.ok)

pub instances_of_tys-returns-in_err-instance_of_ty-clause-missing : goal.instances_of_tys-returns-in_err-instance_of_ty-clause-missing
instances_of_tys-returns-in_err-instance_of_ty-clause-missing t c = λ fails.
    let gone : ty_instance c.args.normals.now c.args.args.now c.ty-item.result ≡ None = c.in_err-instance_of_ty.ensures.missing (search rules) in
    let whole = all_there_missing (ty_instance c.args.normals.now c.args.args.now) c.as_slice-items.result.now c.loop-ty.ty-index c.ty-item.result c.ty-item.result c.loop-ty-test.true c.ty-item.is gone in
    ap (λ items. all_there (map (ty_instance c.args.normals.now c.args.args.now) items)) (sym c.as_slice-items.ensures) ∙ whole

pub instances_of_bounds-loop-bound-preserved : goal.instances_of_bounds-loop-bound-preserved
instances_of_bounds-loop-bound-preserved t c =
    all_there_more (bound_instance c.args.normals.now c.args.args.now) c.as_slice-items.result.now c.loop-bound.bound-index c.bound-item.result c.bound-item.result c.in_ok-instance_of_bound.field-0 c.loop-bound.made c.loop-bound-test.true c.bound-item.is c.in_ok-instance_of_bound.ensures.given c.loop-bound.invariant
    ∙ ap Some (sym c.in_ok-push.ensures.ok)

pub instances_of_bounds-returns-in_err-instance_of_bound-clause-missing : goal.instances_of_bounds-returns-in_err-instance_of_bound-clause-missing
instances_of_bounds-returns-in_err-instance_of_bound-clause-missing t c = λ fails.
    let gone : bound_instance c.args.normals.now c.args.args.now c.bound-item.result ≡ None = c.in_err-instance_of_bound.ensures.missing (search rules) in
    let whole = all_there_missing (bound_instance c.args.normals.now c.args.args.now) c.as_slice-items.result.now c.loop-bound.bound-index c.bound-item.result c.bound-item.result c.loop-bound-test.true c.bound-item.is gone in
    ap (λ items. all_there (map (bound_instance c.args.normals.now c.args.args.now) items)) (sym c.as_slice-items.ensures) ∙ whole

pub instance_of_args-loop-arg-preserved : goal.instance_of_args-loop-arg-preserved
instance_of_args-loop-arg-preserved t c =
    all_there_more (arg_instance c.args.normals.now c.args.args.now) c.as_slice-items.result.now c.loop-arg.arg-index c.arg-item.result c.arg-item.result c.in_ok-instance_of_arg.field-0 c.loop-arg.made c.loop-arg-test.true c.arg-item.is c.in_ok-instance_of_arg.ensures.given c.loop-arg.invariant
    ∙ ap Some (sym c.in_ok-push.ensures.ok)

pub instance_of_args-returns-in_err-instance_of_arg-clause-missing : goal.instance_of_args-returns-in_err-instance_of_arg-clause-missing
instance_of_args-returns-in_err-instance_of_arg-clause-missing t c = λ fails.
    let gone : arg_instance c.args.normals.now c.args.args.now c.arg-item.result ≡ None = c.in_err-instance_of_arg.ensures.missing (search rules) in
    let whole = all_there_missing (arg_instance c.args.normals.now c.args.args.now) c.as_slice-items.result.now c.loop-arg.arg-index c.arg-item.result c.arg-item.result c.loop-arg-test.true c.arg-item.is gone in
    args_missing c.args.normals.now c.args.args.now c.args.own.now (ap (λ items. all_there (map (arg_instance c.args.normals.now c.args.args.now) items)) (sym c.as_slice-items.ensures) ∙ whole)

pub instance_of_args-returns-clause-given : goal.instance_of_args-returns-clause-given
instance_of_args-returns-clause-given t c =
    let whole = all_there_end (arg_instance c.args.normals.now c.args.args.now) c.as_slice-items.result.now c.loop-arg.arg-index c.loop-arg.made c.loop-arg-test.false c.loop-arg.invariant in
    args_there c.args.normals.now c.args.args.now c.args.own.now c.loop-arg.made (ap (λ items. all_there (map (arg_instance c.args.normals.now c.args.args.now) items)) (sym c.as_slice-items.ensures) ∙ whole)
