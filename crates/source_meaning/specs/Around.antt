-- What stands around an expression while it is evaluated.
use Rattle.std.specs.Prelude.{ℕ, Bool, true, false, ◌==◌, List, [], ◌∷◌, ◌++◌, length, Option, Some, None, if◌then◌else◌}
use Rattle.types.specs.declared.ids.LabelId.{LabelId}
use Rattle.source_meaning.specs.Source.{Cell, Path}

-- a loop or a labelled block that is being evaluated: its expression, and its label
pub record Opened : Type 0 where
  pub node : ℕ
  pub label : Option LabelId

-- where a jump leads: which loop or labelled block it leaves or starts again, where the value of that goes, and how many cells
-- were in use when it was entered
pub record Target : Type 0 where
  pub opened : Opened
  pub path : Path
  pub kept : ℕ

-- `targets`: the open loops and labelled blocks, the innermost first. `marks`: the cells marked as live (`StorageLive`) in all open
-- scopes, the oldest first; a jump drops those behind the first `kept` of its target. `result`: the return path that was handed in
-- with the body: where its value goes, and where `return` writes.
pub record Around : Type 0 where
  pub targets : List Target
  pub marks : List Cell
  pub result : Path

-- around the root of a body whose value goes where a path leads, nothing is open, and nothing is in use
abbrev pub at_root : Path → Around
at_root result = record { targets = []; marks = []; result = result }

-- where more cells came into use
abbrev pub marking : List Cell → Around → Around
marking cells around = record { targets = around.targets; marks = around.marks ++ cells; result = around.result }

-- the target that a loop or a labelled block is, where it is entered
abbrev pub entered : ℕ → Option LabelId → Path → Around → Target
entered e label path around = record { opened = record { node = e; label = label }; path = path; kept = length around.marks }

-- inside a loop or a labelled block whose value goes where a path leads
abbrev pub inside : ℕ → Option LabelId → Path → Around → Around
inside e label path around = record { targets = entered e label path around ∷ around.targets; marks = around.marks; result = around.result }

-- whether something has a label
abbrev pub has_label : LabelId → Option LabelId → Bool
has_label label (Some own) = label.0 == own.0
has_label label None = false

-- whether a jump means a loop or a labelled block: any, where the jump has no label
abbrev pub is_meant : Option LabelId → Opened → Bool
is_meant None opened = true
is_meant (Some label) opened = has_label label opened.label

-- the innermost of those that are open and that a jump means
unfoldable pub meant : Option LabelId → List Opened → Option Opened
meant label [] = None
meant label (opened ∷ outer) = if is_meant label opened then Some opened else meant label outer

-- and where it leads
unfoldable pub target_of : Option LabelId → List Target → Option Target
target_of label [] = None
target_of label (target ∷ outer) = if is_meant label target.opened then Some target else target_of label outer
