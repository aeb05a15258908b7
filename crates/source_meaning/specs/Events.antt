-- Which scopes open and close, and which cells come into use in them, in the order of lowering. From this listing derive
-- the cells that leaving a scope drops, and those of all scopes that are open at a point.
use Rattle.std.specs.Prelude.{Bool, ℕ, zero, suc, cond, List, [], ◌∷◌, ◌++◌, length, map, flat_map, Option, Some, None}
use Rattle.types.specs.declared.ids.ExprId.{ExprId}
use Rattle.world.specs.declared.body.Statement.{Statement}
use Rattle.source_meaning.specs.Core.{Assigned, Assignee, CoreExpr, PlaceElem, is_literal, is_path, is_place}
use Rattle.source_meaning.specs.Source.{Source, Cell, IndexOf, Node, node, unadjusted, never_marks, pattern, bound_by}
use Rattle.source_meaning.specs.Steps.{Step, assigned_steps, assignee_steps, elem_steps, statement_steps, tail_steps, block_steps, steps_of}
use Rattle.source_meaning.specs.Steps as step

-- a scope opens, a cell is marked as live in the innermost open scope, or the innermost open scope closes
pub data Event : Type 0 where
  Opens : Event
  Marks : (cell : Cell) → Event
  Closes : Event

-- the mark of an expression's own cell; an expression that names a place has none
abbrev pub own_mark : (has_none : Bool) → ℕ → List Event
own_mark has_none e = cond has_none [] (Marks (Node e) ∷ [])

-- An expression that is evaluated to a place and is none itself has its own cell marked, before what it is made of. A field
-- as a place marks what its base marks as a place; an element marks, after that, the cell of its index, before what the index is made of. A literal as an
-- operand has no cell.
abbrev pub place_events : Source → (ℕ → List Event) → ℕ → List Event
place_events source below e = cond (is_path (unadjusted source e)) [] (own_mark (is_place (unadjusted source e)) e ++ below e)

abbrev pub operand_events : Source → (ℕ → List Event) → ℕ → List Event
operand_events source below e = cond (is_literal (unadjusted source e)) [] (place_events source below e)

abbrev pub step_events : Source → (ℕ → List Event) → Step → List Event
step_events source below (step.Operand e) = operand_events source below e
step_events source below (step.Place e) = place_events source below e
step_events source below (step.Into e) = below e
step_events source below (step.Index e index) = Marks (IndexOf e) ∷ below index
step_events source below (step.Bind pat) = map Marks (bound_by (pattern source pat))
step_events source below step.Open = Opens ∷ []
step_events source below step.Close = Closes ∷ []

abbrev pub form_events : Source → (ℕ → List Event) → Option CoreExpr → List Event
form_events source below (Some form) = flat_map (step_events source below) (steps_of form)
form_events source below None = []

-- The events of an expression that is evaluated into a place, as far down as the depth says. Where it is adjusted by
-- `NeverToAny`, its `!` cell is marked first.
unfoldable pub events_in : ℕ → Source → ℕ → List Event
events_in zero source e = []
events_in (suc depth) source e = map Marks (never_marks source e) ++ form_events source (events_in depth source) (node source e)

-- the same, however deep the expression is
unfoldable pub events : Source → ℕ → List Event
events source e = events_in (length source.body.exprs) source e

-- the events of steps
abbrev pub events_through : Source → List Step → List Event
events_through source steps = flat_map (step_events source (events source)) steps

-- the cells marked in each open scope, the innermost scope first
abbrev pub Scopes : Type 0
Scopes = List (List Cell)

-- the open scopes after an event
abbrev pub after_event : Scopes → Event → Scopes
after_event scopes Opens = [] ∷ scopes
after_event (marks ∷ outer) (Marks cell) = (marks ++ cell ∷ []) ∷ outer
after_event (marks ∷ outer) Closes = outer
after_event [] _ = []

-- the open scopes after events
unfoldable pub scopes_after : Scopes → List Event → Scopes
scopes_after scopes [] = scopes
scopes_after scopes (event ∷ rest) = scopes_after (after_event scopes event) rest

-- the cells marked in the innermost scope
abbrev pub innermost : Scopes → List Cell
innermost [] = []
innermost (marks ∷ outer) = marks

-- the cells that events mark in the scope that is open around them: those marked in no scope that opens and closes there
unfoldable pub marks_of : List Event → List Cell
marks_of listed = innermost (scopes_after ([] ∷ []) listed)

-- The cells that come into use in the scope that is open around: in an expression that is evaluated into a place, to a
-- place, or to an operand; in a step into a value; in the target of an assignment, and of a compound one; in a statement; in a tail; and in a block's own
-- scope.
unfoldable pub marked : Source → ℕ → List Cell
marked source e = marks_of (events source e)

-- the same in an expression itself that is evaluated into a place, without the cell of its `!`
unfoldable pub marked_itself : Source → ℕ → List Cell
marked_itself source e = marks_of (form_events source (events source) (node source e))

unfoldable pub marked_as_place : Source → ℕ → List Cell
marked_as_place source e = marks_of (place_events source (events source) e)

unfoldable pub marked_as_operand : Source → ℕ → List Cell
marked_as_operand source e = marks_of (operand_events source (events source) e)

unfoldable pub marked_by_elem : Source → PlaceElem → List Cell
marked_by_elem source elem = marks_of (events_through source (elem_steps elem))

unfoldable pub marked_by_assignee : Source → Assignee → List Cell
marked_by_assignee source to = marks_of (events_through source (assignee_steps to))

unfoldable pub marked_by_assigned : Source → Assigned → List Cell
marked_by_assigned source to = marks_of (events_through source (assigned_steps to))

unfoldable pub marked_by_statement : Source → Statement → List Cell
marked_by_statement source statement = marks_of (events_through source (statement_steps statement))

unfoldable pub marked_by_tail : Source → Option ExprId → List Cell
marked_by_tail source tail = marks_of (events_through source (tail_steps tail))

unfoldable pub marked_in_block : Source → List Statement → Option ExprId → List Cell
marked_in_block source statements tail = marks_of (events_through source (block_steps statements tail))
