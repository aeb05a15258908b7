-- What the walks over a body keep of its nodes: their parents, how often each is held, which are parameters, their heights, and the ids inside patterns.
use Rattle.std.specs.Prelude.{◌≡◌, ℕ, ◌<◌, ◌≤◌, ◌==◌, nat_le, nat_lt, Bool, true, false, List, [], ◌∷◌, length, count_by, Option, Some, None, slice_index, slice_index_or, Decides}
use Rattle.std.specs.List.{list_any}
use Rattle.std.specs.Map.{lookup}
use Rattle.types.specs.declared.ids.PatId.{PatId}
use Rattle.world.specs.declared.body.Body.{Body}
use Rattle.check_trees.specs.First.{Has}
use Rattle.check_trees.specs.Tree.{holder_of, is_top, same_node, times_held, HasPath, HoldBelow}
use Rattle.check_trees.specs.declared.counts.NodeCounts.{NodeCounts}
use Rattle.check_trees.specs.declared.facts.Facts.{Facts}
use Rattle.check_trees.specs.declared.heights.Heights.{Heights}
use Rattle.check_trees.specs.declared.heights.Known.{Known}
use Rattle.check_trees.specs.declared.heights.Known.TheVariants.{Nothing, Open, Height}
use Rattle.check_trees.specs.declared.holders.Holders.{Holders}
use Rattle.check_trees.specs.declared.node.BodyNode.{BodyNode}
use Rattle.check_trees.specs.declared.node.BodyNode.TheVariants.{Expr, Pat}
use Rattle.check_trees.specs.declared.reach.Reach.{Reach}
use Rattle.check_trees.specs.declared.reach.Reach.TheVariants as reach
use Rattle.check_trees.specs.declared.reach.Reaches.{Reaches}

-- whether a table of expressions or one of patterns has a node
abbrev pub is_node : {X Y : Type 0} → List X → List Y → BodyNode → Bool
is_node exprs pats (Expr e) = nat_lt e (length exprs)
is_node exprs pats (Pat p) = nat_lt p (length pats)

-- the entry of a node in a table of expressions or one of patterns; `none` for a node that they don't have
abbrev pub entry_of : {X : Type 0} → List X → List X → X → BodyNode → X
entry_of exprs pats none (Expr e) = slice_index_or exprs e none
entry_of exprs pats none (Pat p) = slice_index_or pats p none

-- each entry is the first parent of its node in these pairs
abbrev pub AreFirstHolders : (ℕ → BodyNode) → List (BodyNode × BodyNode) → List (Option BodyNode) → Type 0
AreFirstHolders node_at pairs slots = (k : ℕ) → k < length slots → slice_index_or slots k None ≡ lookup (same_node (node_at k)) pairs

-- each entry counts how often its node is the child in these pairs
abbrev pub AreTimes : (ℕ → BodyNode) → List (BodyNode × BodyNode) → List ℕ → Type 0
AreTimes node_at pairs counts = (k : ℕ) → k < length counts → slice_index counts k ≡ count_by (λ (pair : BodyNode × BodyNode). same_node (node_at k) pair.0) pairs

-- a table has the first parent of each node of a body
abbrev pub AreHolders : Body → Holders → Type 0
AreHolders body holders = (node : BodyNode) → is_node body.exprs body.pats node ≡ true → entry_of holders.exprs.items holders.pats.items None node ≡ holder_of body node

-- a table counts for each node of a body how often it occurs as a child
abbrev pub AreCounts : Body → NodeCounts → Type 0
AreCounts body counts = (node : BodyNode) → is_node body.exprs body.pats node ≡ true → entry_of counts.exprs.items counts.pats.items 0 node ≡ times_held body node

-- a pattern is marked exactly if it is one of these parameters
abbrev pub AreMarked : List PatId → List Bool → Type 0
AreMarked params marks = (k : ℕ) → k < length marks → slice_index_or marks k false ≡ list_any (λ (id : PatId). id.0 == k) params

-- the patterns of a body that are marked are its parameters
abbrev pub AreTops : Body → List Bool → Type 0
AreTops body marks = (p : ℕ) → p < length body.pats → slice_index_or marks p false ≡ is_top body (Pat p)

-- how often each node occurs as a child, and which patterns are parameters
abbrev pub AreFacts : Body → Facts → Type 0
AreFacts body facts = AreCounts body facts.counts × AreTops body facts.tops.items

-- a path of so many steps leads down from one of some nodes
abbrev pub HaveAPath : Body → ℕ → List BodyNode → Type 0
HaveAPath body steps nodes = (node : BodyNode) × Has nodes node × HasPath body steps node

-- a node's height is the length of the longest path down from it
abbrev pub HasHeight : Body → BodyNode → ℕ → Type 0
HasHeight body node height = (steps : ℕ) → Decides (nat_le steps height) (HasPath body steps node)

-- what a table has for a node
abbrev pub known_of : Heights → BodyNode → Known
known_of heights node = entry_of heights.exprs.items heights.pats.items Nothing node

-- each height in a table is its node's height
abbrev pub AreHeights : Body → Heights → Type 0
AreHeights body heights = (node : BodyNode) (height : ℕ) → known_of heights node ≡ Height height → HasHeight body node height

-- a path of this many steps leads down from each open node
abbrev pub HaveOpenPaths : Body → Heights → ℕ → Type 0
HaveOpenPaths body heights steps = (node : BodyNode) → known_of heights node ≡ Open → HasPath body steps node

-- The answer of a walk down from a node: its height, below the budget; or none, where for any number of steps up to the budget a path of that length
-- leads down from the node, provided that one leads down from each node that the walk was already inside.
abbrev pub IsHeight : Body → Heights → ℕ → BodyNode → Option ℕ → Type 0
IsHeight body before budget node None = (steps : ℕ) → steps ≤ budget → HaveOpenPaths body before steps → HasPath body steps node
IsHeight body before budget node (Some height) = (height < budget) × HasHeight body node height

-- the same for several nodes: one more than their greatest height, at most the budget, or none
abbrev pub AreLevels : Body → Heights → ℕ → List BodyNode → Option ℕ → Type 0
AreLevels body before budget nodes None = (steps : ℕ) → steps ≤ budget → HaveOpenPaths body before steps → HaveAPath body steps nodes
AreLevels body before budget nodes (Some levels) = (levels ≤ budget) × ((steps : ℕ) → Decides (nat_lt steps levels) (HaveAPath body steps nodes))

-- each node that is open after a walk was open before it
abbrev pub LeavesNoneOpen : Heights → Heights → Type 0
LeavesNoneOpen before after = (node : BodyNode) → known_of after node ≡ Open → known_of before node ≡ Open

-- a table between two walks: its heights are right, and no node is open
pub record AreSettled (body : Body) (heights : Heights) : Type 0 where
  pub known : AreHeights body heights
  pub closed : (node : BodyNode) → known_of heights node ≡ Open → ⊥

-- whether the greatest of some ids is below `e`
abbrev pub is_before : Reach → ℕ → Bool
is_before reach.Nothing e = true
is_before (reach.UpTo last) e = nat_lt last e

-- a reach is the greatest id of the expressions inside some patterns
abbrev pub HaveReach : Body → List ℕ → Reach → Type 0
HaveReach body ids reach = (e : ℕ) → Decides (is_before reach e) (HoldBelow body ids e)

-- each reach in a table is its pattern's
abbrev pub AreReaches : Body → Reaches → Type 0
AreReaches body reaches = (p : ℕ) (reach : Reach) → slice_index_or reaches.pats.items p None ≡ Some reach → HaveReach body (p ∷ []) reach
