-- The machine of an evaluation.
use Rattle.mir_mem.specs.Flat.{areas_of}
use Rattle.mir_mem.specs.declared.flat.FlatMemory.{FlatMemory}
use Rattle.mir_eval.specs.Evaluators.{machine_of as machine_over}
use Rattle.mir_eval.specs.Machine.{Machine}
use Rattle.mir_eval.specs.declared.evaluator.Evaluator.{Evaluator}

-- the machine that an evaluator over a flat memory is
abbrev pub machine_of : Evaluator FlatMemory → Machine
machine_of evaluator = machine_over areas_of evaluator
