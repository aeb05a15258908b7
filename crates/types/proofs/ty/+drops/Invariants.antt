use Rattle.std.proofs.Common.{length}
use Rattle.types.proofs.ty.+drops.Given as goal

abbrev pub invariant-GenericArgs::drop-loop-arg : goal.invariant-GenericArgs::drop-loop-arg
invariant-GenericArgs::drop-loop-arg l = goal.no_deeper-GenericArgs::drop-loop-arg l

abbrev pub decreases-GenericArgs::drop-loop-arg : goal.decreases-GenericArgs::drop-loop-arg
decreases-GenericArgs::drop-loop-arg l = length l.left

abbrev pub invariant-Ty::drop-loop-bound : goal.invariant-Ty::drop-loop-bound
invariant-Ty::drop-loop-bound l = goal.no_deeper-Ty::drop-loop-bound l

abbrev pub decreases-Ty::drop-loop-bound : goal.decreases-Ty::drop-loop-bound
decreases-Ty::drop-loop-bound l = length l.left

abbrev pub invariant-drop_tys-loop-ty : goal.invariant-drop_tys-loop-ty
invariant-drop_tys-loop-ty l = goal.no_deeper-drop_tys-loop-ty l

abbrev pub decreases-drop_tys-loop-ty : goal.decreases-drop_tys-loop-ty
decreases-drop_tys-loop-ty l = length l.left
