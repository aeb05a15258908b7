use Rattle.std.proofs.Common.{◌≡◌, None, map, sym, ◌∙◌, ap, rules}
use Rattle.check_instances.specs.Comparisons.{arg_at, bound_at, ty_at}
use Rattle.check_instances.specs.Instances.{all_there, arg_instance, bound_instance, ty_instance}
use Rattle.check_instances.proofs.AllThere.{all_there_missing}
use Rattle.check_instances.proofs.Layers.{args_missing}
use Rattle.check_instances.proofs.Opened.{args_opened, args_there, opened_all, opened_more, opened_none, there_all}
use Rattle.check_instances.proofs.opening.+openings.Goals as goal

pub open_tys-loop-ty-init : goal.open_tys-loop-ty-init
open_tys-loop-ty-init t c = opened_none (ty_at c.args.normals.now c.args.args.now) (ty_instance c.args.normals.now c.args.args.now) c.as_slice-items.result.now c.new-made.result c.new-made.ensures

pub open_tys-loop-ty-preserved : goal.open_tys-loop-ty-preserved
open_tys-loop-ty-preserved t c = opened_more (ty_at c.args.normals.now c.args.args.now) (ty_instance c.args.normals.now c.args.args.now) c.as_slice-items.result.now c.loop-ty.ty-index c.ty-item.result c.ty-item.result c.in_ok-open_ty.field-0 c.loop-ty.made _ c.loop-ty-test.true c.ty-item.is c.in_ok-open_ty.ensures.same c.in_ok-open_ty.ensures.there c.in_ok-push.ensures.ok c.loop-ty.invariant

pub open_tys-returns-clause-same : goal.open_tys-returns-clause-same
open_tys-returns-clause-same t c = opened_all (ty_at c.args.normals.now c.args.args.now) (ty_instance c.args.normals.now c.args.args.now) c.args.tys.now c.as_slice-items.result.now c.loop-ty.made c.loop-ty.ty-index c.as_slice-items.ensures c.loop-ty-test.false c.loop-ty.invariant

pub open_tys-returns-clause-there : goal.open_tys-returns-clause-there
open_tys-returns-clause-there t c = there_all (ty_at c.args.normals.now c.args.args.now) (ty_instance c.args.normals.now c.args.args.now) c.args.tys.now c.as_slice-items.result.now c.loop-ty.made c.loop-ty.ty-index c.as_slice-items.ensures c.loop-ty-test.false c.loop-ty.invariant

pub open_tys-returns-in_err-open_ty-clause-missing : goal.open_tys-returns-in_err-open_ty-clause-missing
open_tys-returns-in_err-open_ty-clause-missing t c = λ fails.
    let gone : ty_instance c.args.normals.now c.args.args.now c.ty-item.result ≡ None = c.in_err-open_ty.ensures.missing (search rules) in
    let whole = all_there_missing (ty_instance c.args.normals.now c.args.args.now) c.as_slice-items.result.now c.loop-ty.ty-index c.ty-item.result c.ty-item.result c.loop-ty-test.true c.ty-item.is gone in
    ap (λ items. all_there (map (ty_instance c.args.normals.now c.args.args.now) items)) (sym c.as_slice-items.ensures) ∙ whole

pub open_bounds-loop-bound-init : goal.open_bounds-loop-bound-init
open_bounds-loop-bound-init t c = opened_none (bound_at c.args.normals.now c.args.args.now) (bound_instance c.args.normals.now c.args.args.now) c.as_slice-items.result.now c.new-made.result c.new-made.ensures

pub open_bounds-loop-bound-preserved : goal.open_bounds-loop-bound-preserved
open_bounds-loop-bound-preserved t c = opened_more (bound_at c.args.normals.now c.args.args.now) (bound_instance c.args.normals.now c.args.args.now) c.as_slice-items.result.now c.loop-bound.bound-index c.bound-item.result c.bound-item.result c.in_ok-open_bound.field-0 c.loop-bound.made _ c.loop-bound-test.true c.bound-item.is c.in_ok-open_bound.ensures.same c.in_ok-open_bound.ensures.there c.in_ok-push.ensures.ok c.loop-bound.invariant

pub open_bounds-returns-clause-same : goal.open_bounds-returns-clause-same
open_bounds-returns-clause-same t c = opened_all (bound_at c.args.normals.now c.args.args.now) (bound_instance c.args.normals.now c.args.args.now) c.args.bounds.now c.as_slice-items.result.now c.loop-bound.made c.loop-bound.bound-index c.as_slice-items.ensures c.loop-bound-test.false c.loop-bound.invariant

pub open_bounds-returns-clause-there : goal.open_bounds-returns-clause-there
open_bounds-returns-clause-there t c = there_all (bound_at c.args.normals.now c.args.args.now) (bound_instance c.args.normals.now c.args.args.now) c.args.bounds.now c.as_slice-items.result.now c.loop-bound.made c.loop-bound.bound-index c.as_slice-items.ensures c.loop-bound-test.false c.loop-bound.invariant

pub open_bounds-returns-in_err-open_bound-clause-missing : goal.open_bounds-returns-in_err-open_bound-clause-missing
open_bounds-returns-in_err-open_bound-clause-missing t c = λ fails.
    let gone : bound_instance c.args.normals.now c.args.args.now c.bound-item.result ≡ None = c.in_err-open_bound.ensures.missing (search rules) in
    let whole = all_there_missing (bound_instance c.args.normals.now c.args.args.now) c.as_slice-items.result.now c.loop-bound.bound-index c.bound-item.result c.bound-item.result c.loop-bound-test.true c.bound-item.is gone in
    ap (λ items. all_there (map (bound_instance c.args.normals.now c.args.args.now) items)) (sym c.as_slice-items.ensures) ∙ whole

pub open_args-loop-arg-init : goal.open_args-loop-arg-init
open_args-loop-arg-init t c = opened_none (arg_at c.args.normals.now c.args.args.now) (arg_instance c.args.normals.now c.args.args.now) c.as_slice-items.result.now c.new-made.result c.new-made.ensures

pub open_args-loop-arg-preserved : goal.open_args-loop-arg-preserved
open_args-loop-arg-preserved t c = opened_more (arg_at c.args.normals.now c.args.args.now) (arg_instance c.args.normals.now c.args.args.now) c.as_slice-items.result.now c.loop-arg.arg-index c.arg-item.result c.arg-item.result c.in_ok-open_arg.field-0 c.loop-arg.made _ c.loop-arg-test.true c.arg-item.is c.in_ok-open_arg.ensures.same c.in_ok-open_arg.ensures.there c.in_ok-push.ensures.ok c.loop-arg.invariant

pub open_args-returns-clause-same : goal.open_args-returns-clause-same
open_args-returns-clause-same t c = args_opened c.args.normals.now c.args.args.now (record { 0 = c.loop-arg.made }) c.args.own.now (opened_all (arg_at c.args.normals.now c.args.args.now) (arg_instance c.args.normals.now c.args.args.now) c.args.own.now.0 c.as_slice-items.result.now c.loop-arg.made c.loop-arg.arg-index c.as_slice-items.ensures c.loop-arg-test.false c.loop-arg.invariant)

pub open_args-returns-clause-there : goal.open_args-returns-clause-there
open_args-returns-clause-there t c = args_there c.args.normals.now c.args.args.now c.args.own.now (there_all (arg_at c.args.normals.now c.args.args.now) (arg_instance c.args.normals.now c.args.args.now) c.args.own.now.0 c.as_slice-items.result.now c.loop-arg.made c.loop-arg.arg-index c.as_slice-items.ensures c.loop-arg-test.false c.loop-arg.invariant)

pub open_args-returns-in_err-open_arg-clause-missing : goal.open_args-returns-in_err-open_arg-clause-missing
open_args-returns-in_err-open_arg-clause-missing t c = λ fails.
    let gone : arg_instance c.args.normals.now c.args.args.now c.arg-item.result ≡ None = c.in_err-open_arg.ensures.missing (search rules) in
    let whole = all_there_missing (arg_instance c.args.normals.now c.args.args.now) c.as_slice-items.result.now c.loop-arg.arg-index c.arg-item.result c.arg-item.result c.loop-arg-test.true c.arg-item.is gone in
    args_missing c.args.normals.now c.args.args.now c.args.own.now (ap (λ items. all_there (map (arg_instance c.args.normals.now c.args.args.now) items)) (sym c.as_slice-items.ensures) ∙ whole)
