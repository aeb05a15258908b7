use Rattle.std.proofs.Common.{◌≡◌, take}
use Rattle.types.proofs.copies.+copies.Given as goal

abbrev pub invariant-copy_tys-loop-ty : goal.invariant-copy_tys-loop-ty
invariant-copy_tys-loop-ty l = l.copy ≡ take l.ty-index l.items

abbrev pub invariant-copy_bounds-loop-bound : goal.invariant-copy_bounds-loop-bound
invariant-copy_bounds-loop-bound l = l.copy ≡ take l.bound-index l.items

abbrev pub invariant-copy_args-loop-arg : goal.invariant-copy_args-loop-arg
invariant-copy_args-loop-arg l = l.copy ≡ take l.arg-index l.items
