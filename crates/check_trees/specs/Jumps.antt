-- Jumps that name the label of an enclosing loop or block.
use Rattle.std.specs.Prelude.{◌≡◌, ℕ, zero, suc, ◌<◌, ◌==◌, Bool, true, false, Option, Some, None, option_and_then, slice_get}
use Rattle.types.specs.declared.ids.LabelId.{LabelId}
use Rattle.world.specs.declared.body.Body.{Body}
use Rattle.world.specs.declared.expr.Expr.{Expr as Expression}
use Rattle.world.specs.Nodes.{jump_label, scope_label}
use Rattle.check_trees.specs.Tree.{holder_of, is_top}
use Rattle.check_trees.specs.declared.node.BodyNode.{BodyNode}
use Rattle.check_trees.specs.declared.node.BodyNode.TheVariants.{Expr, Pat}

-- whether an optional label is this one
abbrev pub is_label : Option LabelId → LabelId → Bool
is_label None label = false
is_label (Some other) label = other.0 == label.0

-- whether a node is a loop or a block with the label
abbrev pub is_labelled : Body → LabelId → BodyNode → Bool
is_labelled body label (Expr e) = is_label (option_and_then scope_label (slice_get body.exprs e)) label
is_labelled body label (Pat p) = false

-- one node is held by another, so many steps up; the way up ends at the root and at the parameters
unfoldable pub IsAbove : Body → ℕ → BodyNode → BodyNode → Type 0
IsAbove body zero node above = node ≡ above
IsAbove body (suc steps) node above = (is_top body node ≡ false) × ((holder : BodyNode) × (holder_of body node ≡ Some holder) × IsAbove body steps holder above)

-- A loop or a block with the label holds a node, directly or through other nodes. The way to it has at most 401 steps; in a tree none has more than 400.
pub record IsEnclosed (body : Body) (label : LabelId) (node : BodyNode) : Type 0 where
  pub steps : ℕ
  pub above : BodyNode
  pub few : steps < 401
  pub way : IsAbove body (suc steps) node above
  pub labelled : is_labelled body label above ≡ true

-- an expression is no jump to a label, or is enclosed by a loop or a block with this label
abbrev pub IsJumpInside : Body → ℕ → Expression → Type 0
IsJumpInside body e node = (label : LabelId) → jump_label node ≡ Some label → IsEnclosed body label (Expr e)
