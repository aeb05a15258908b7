-- The lines of the report for a goal, which is a definition that was evaluated as a constant.
use Rattle.std.specs.Prelude.{ℕ, List, [], ◌∷◌, ◌++◌, codes, decimal, Result, Ok, Err}
use Rattle.mir.specs.declared.errors.ConstEvalError.{ConstEvalError}
use Rattle.types.specs.declared.ty.ComplexMemoryMap.{ComplexMemoryMap}
use Rattle.types.specs.declared.ty.Const.{Const, Const-F, out-Const}
use Rattle.types.specs.declared.ty.Const.TheOpen as one
use Rattle.types.specs.declared.ty.GenericArg.{GenericArg}
use Rattle.types.specs.declared.ty.GenericArgs.{GenericArgs}
use Rattle.types.specs.declared.ty.MemoryMap.{MemoryMap}
use Rattle.types.specs.declared.ty.TraitRef.{TraitRef}
use Rattle.types.specs.declared.ty.Ty.{Ty}
use Rattle.types.specs.declared.ty.UnevaluatedConst.{UnevaluatedConst}
use Rattle.types.specs.declared.ty.ValueConst.{ValueConst}
use Rattle.world.specs.declared.database.HirDatabase.{HirDatabase}
use Rattle.report_text.specs.Faults.{fault_text}
use Rattle.report_text.specs.Memory.{memory_lines}
use Rattle.report_text.specs.Texts.{digits_or_dash}
use Rattle.report_text.specs.Types.{const_text, type_text}

-- the outermost constructor of the constant that an evaluation gave
abbrev ConstLayer : Type 0
ConstLayer = Const-F Const GenericArg MemoryMap Ty ComplexMemoryMap GenericArgs TraitRef UnevaluatedConst ValueConst

-- the text of the constant that an evaluation gave, by its outermost constructor: for a value its type and its bytes, else as a
-- constant is written in a type
abbrev pub answer_layer_text : HirDatabase → Const → ConstLayer → List ℕ
answer_layer_text world konst (one.Value value) = type_text world value.ty ++ (codes " " ++ digits_or_dash value.memory)
answer_layer_text world konst _ = const_text world konst

-- the text of the constant that an evaluation gave
abbrev pub answer_text : HirDatabase → Const → List ℕ
answer_text world konst = answer_layer_text world konst (out-Const konst)

-- the text of the result of an evaluation: a constant or an error
abbrev pub result_text : HirDatabase → Result Const ConstEvalError → List ℕ
result_text world (Ok konst) = codes "value " ++ answer_text world konst
result_text world (Err error) = codes "error " ++ fault_text world error

-- the line with the bytes that an evaluation wrote to an output stream; empty if there are none
abbrev pub output_line : List ℕ → List ℕ → List ℕ
output_line name [] = []
output_line name (byte ∷ bytes) = codes "  " ++ (name ++ (codes " " ++ (digits_or_dash (byte ∷ bytes) ++ codes "\n")))

-- the lines with the bytes that an evaluation wrote to the standard output and the standard error
abbrev pub output_lines : List ℕ × List ℕ → List ℕ
output_lines output = output_line (codes "stdout") output.0 ++ output_line (codes "stderr") output.1

-- the line with the number of basic blocks that an evaluation entered
abbrev pub turns_line : ℕ → List ℕ
turns_line turns = codes "  turns " ++ (decimal turns ++ codes "\n")

-- the line with the result of a goal's evaluation
abbrev pub answer_line : HirDatabase → ℕ → Result Const ConstEvalError → List ℕ
answer_line world number answer = codes "goal " ++ (decimal number ++ (codes " " ++ (result_text world answer ++ codes "\n")))

-- the lines for the memory behind the addresses in a constant, by the constant's outermost constructor: only a value has any
abbrev pub answer_layer_lines : HirDatabase → ConstLayer → List ℕ
answer_layer_lines world (one.Value value) = memory_lines world value.memory_map
answer_layer_lines world _ = []

-- the lines for the memory behind the addresses in the result of an evaluation
abbrev pub result_lines : HirDatabase → Result Const ConstEvalError → List ℕ
result_lines world (Ok konst) = answer_layer_lines world (out-Const konst)
result_lines world (Err _) = []

-- the lines of the report for a goal, from the result of its evaluation, what the evaluation wrote, and how many basic blocks it
-- entered; goals are counted from 0
abbrev pub goal_text : HirDatabase → ℕ → Result Const ConstEvalError → List ℕ × List ℕ → ℕ → List ℕ
goal_text world number answer output turns =
    answer_line world number answer ++ (turns_line turns ++ (output_lines output ++ result_lines world answer))
