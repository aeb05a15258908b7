use Rattle.std.proofs.Common.{◌≡◌, map, take}
use Rattle.report_text.specs.Types.{type_text, bound_text, arg_text}
use Rattle.report_text.proofs.ty.+types.Given as goal

abbrev pub invariant-type_texts-loop-ty : goal.invariant-type_texts-loop-ty
invariant-type_texts-loop-ty l = l.texts ≡ map (type_text l.db) (take l.ty-index l.items)

abbrev pub invariant-bound_texts-loop-bound : goal.invariant-bound_texts-loop-bound
invariant-bound_texts-loop-bound l = l.texts ≡ map (bound_text l.db) (take l.bound-index l.items)

abbrev pub invariant-args_texts-loop-arg : goal.invariant-args_texts-loop-arg
invariant-args_texts-loop-arg l = l.texts ≡ map (arg_text l.db) (take l.arg-index l.items)
