-- A part has a lower number than its expression. At one expression the operand comes before the place, the place before
-- its local, that before what is evaluated into it, then the expression itself, the forms, the targets of assignments, the
-- statements of a block, one of them, and its kind.
use Rattle.std.proofs.Common.{◌≡◌, ◌+◌, ◌*◌, drop, length, map, take}
use Rattle.std.specs.Prelude.{All}
use Rattle.types.specs.declared.ids.ExprId.{ExprId}
use Rattle.mir.specs.declared.operand.Operand.{Operand}
use Rattle.world.specs.Nodes.{expr_numbers}
use Rattle.mir_lower.specs.Built.{IsBuilt, IsBuiltThrough}
use Rattle.mir_lower.proofs.Calls.{Collects}
use Rattle.body_forms.specs.Contexts.{source_of}
use Rattle.mir_graph.specs.Graph.{shape}
use Rattle.mir_lower.specs.Lowered.{LowersStatements}
use Rattle.mir_lower.proofs.lower.+lower.Given as goal

abbrev pub decreases-lower_operand : goal.decreases-lower_operand
decreases-lower_operand g l = 11 * l.e.0 + 10

abbrev pub decreases-lower_place : goal.decreases-lower_place
decreases-lower_place g l = 11 * l.e.0 + 9

abbrev pub decreases-lower_temp : goal.decreases-lower_temp
decreases-lower_temp g l = 11 * l.e.0 + 8

abbrev pub decreases-lower_into : goal.decreases-lower_into
decreases-lower_into g l = 11 * l.e.0 + 7

abbrev pub decreases-lower_own : goal.decreases-lower_own
decreases-lower_own g l = 11 * l.e.0 + 6

abbrev pub decreases-field_into : goal.decreases-field_into
decreases-field_into g l = 11 * l.e.0 + 4

abbrev pub decreases-lower_field : goal.decreases-lower_field
decreases-lower_field g l = 11 * l.e.0 + 3

abbrev pub decreases-lower_index : goal.decreases-lower_index
decreases-lower_index g l = 11 * l.e.0 + 2

abbrev pub decreases-lower_single : goal.decreases-lower_single
decreases-lower_single g l = 11 * l.e.0 + 4

abbrev pub decreases-lower_aggregate : goal.decreases-lower_aggregate
decreases-lower_aggregate g l = 11 * l.e.0 + 4

abbrev pub decreases-lower_struct : goal.decreases-lower_struct
decreases-lower_struct g l = 11 * l.e.0 + 4

abbrev pub decreases-lower_update : goal.decreases-lower_update
decreases-lower_update g l = 11 * l.e.0 + 4

abbrev pub decreases-lower_compound : goal.decreases-lower_compound
decreases-lower_compound g l = 11 * l.e.0 + 5

abbrev pub decreases-lower_assigned : goal.decreases-lower_assigned
decreases-lower_assigned g l = 11 * l.e.0 + 4

abbrev pub decreases-lower_binary : goal.decreases-lower_binary
decreases-lower_binary g l = 11 * l.e.0 + 4

abbrev pub decreases-lower_logic : goal.decreases-lower_logic
decreases-lower_logic g l = 11 * l.e.0 + 4

abbrev pub decreases-lower_if : goal.decreases-lower_if
decreases-lower_if g l = 11 * l.e.0 + 4

abbrev pub decreases-lower_assignment : goal.decreases-lower_assignment
decreases-lower_assignment g l = 11 * l.e.0 + 4

abbrev pub decreases-lower_assignee : goal.decreases-lower_assignee
decreases-lower_assignee g l = 11 * l.e.0 + 3

abbrev pub decreases-lower_block : goal.decreases-lower_block
decreases-lower_block g l = 11 * l.e.0 + 4

abbrev pub decreases-lower_labelled : goal.decreases-lower_labelled
decreases-lower_labelled g l = 11 * l.e.0 + 4

abbrev pub decreases-lower_loop : goal.decreases-lower_loop
decreases-lower_loop g l = 11 * l.e.0 + 4

abbrev pub decreases-lower_break : goal.decreases-lower_break
decreases-lower_break g l = 11 * l.e.0 + 4

abbrev pub decreases-lower_return : goal.decreases-lower_return
decreases-lower_return g l = 11 * l.e.0 + 4

abbrev pub decreases-lower_method_call : goal.decreases-lower_method_call
decreases-lower_method_call g l = 11 * l.e.0 + 5

abbrev pub decreases-lower_call : goal.decreases-lower_call
decreases-lower_call g l = 11 * l.e.0 + 4

abbrev pub decreases-lower_operands : goal.decreases-lower_operands
decreases-lower_operands g l = 11 * l.e.0 + 3

abbrev pub decreases-lower_statements : goal.decreases-lower_statements
decreases-lower_statements g l = 11 * l.e.0 + 3

abbrev pub decreases-lower_tail : goal.decreases-lower_tail
decreases-lower_tail g l = 11 * l.e.0 + 3

abbrev pub decreases-lower_statement : goal.decreases-lower_statement
decreases-lower_statement g l = 11 * l.e.0 + 2

abbrev pub decreases-lower_let : goal.decreases-lower_let
decreases-lower_let g l = 11 * l.e.0 + 1

abbrev pub decreases-lower_expr_statement : goal.decreases-lower_expr_statement
decreases-lower_expr_statement g l = 11 * l.e.0 + 1

-- the statements so far were lowered, and are built
abbrev pub invariant-lower_statements-loop-statement : goal.invariant-lower_statements-loop-statement
invariant-lower_statements-loop-statement g l =
    LowersStatements (source_of l.context) (shape g.I.Interner.projections l.initial.graph) (shape g.I.Interner.projections l.graph) (take l.statement-index l.statements)
    × All (IsBuiltThrough (source_of l.context)) (take l.statement-index l.statements)

-- the arguments so far were lowered, and are built
abbrev pub invariant-lower_operands-loop-arg : goal.invariant-lower_operands-loop-arg
invariant-lower_operands-loop-arg g l =
    Collects (source_of l.context) (shape g.I.Interner.projections l.initial.graph) (shape g.I.Interner.projections l.graph) (expr_numbers l.args) (expr_numbers (drop l.arg-index l.args)) (map (λ (operand : Operand). operand.kind) l.operands)
    × All (λ (arg : ExprId). IsBuilt (source_of l.context) arg.0) (take l.arg-index l.args)
    × (length l.operands + length (drop l.arg-index l.args) ≡ length l.args)
