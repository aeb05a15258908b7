use Rattle.types.specs.SameType.{type_decides, type_cmp_decides, bound_decides, args_decides, args_cmp_decides, arg_decides, const_decides, value_decides, unevaluated_decides, memory_map_decides, complex_decides}
use Rattle.types.proofs.decides.types_decide.Goals as goal

pub returns-clause-types : goal.returns-clause-types
returns-clause-types c = type_decides

pub returns-clause-order : goal.returns-clause-order
returns-clause-order c = type_cmp_decides

pub returns-clause-bounds : goal.returns-clause-bounds
returns-clause-bounds c = bound_decides

pub returns-clause-args : goal.returns-clause-args
returns-clause-args c = args_decides

pub returns-clause-args_order : goal.returns-clause-args_order
returns-clause-args_order c = args_cmp_decides

pub returns-clause-arg : goal.returns-clause-arg
returns-clause-arg c = arg_decides

pub returns-clause-consts : goal.returns-clause-consts
returns-clause-consts c = const_decides

pub returns-clause-values : goal.returns-clause-values
returns-clause-values c = value_decides

pub returns-clause-unevaluated : goal.returns-clause-unevaluated
returns-clause-unevaluated c = unevaluated_decides

pub returns-clause-memory_maps : goal.returns-clause-memory_maps
returns-clause-memory_maps c = memory_map_decides

pub returns-clause-complex : goal.returns-clause-complex
returns-clause-complex c = complex_decides
