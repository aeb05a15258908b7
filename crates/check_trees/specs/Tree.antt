-- Bodies that are trees. A node holds its direct children.
use Rattle.std.specs.Prelude.{◌≡◌, ℕ, zero, suc, ◌+◌, ◌==◌, ◌<◌, ◌||◌, nat_le, Bool, true, false, List, [], ◌∷◌, ◌++◌, map, count_by, Option, Some, None, slice_get}
use Rattle.std.specs.List.{list_any}
use Rattle.std.specs.Map.{lookup}
use Rattle.std.specs.Option.{option_map_or}
use Rattle.types.specs.declared.ids.PatId.{PatId}
use Rattle.world.specs.declared.body.Body.{Body}
use Rattle.world.specs.declared.expr.Expr.{Expr as Expression}
use Rattle.world.specs.declared.pat.Pat.{Pat as Pattern}
use Rattle.world.specs.Nodes.{children_of, inner_exprs_of, patterns_of, subpatterns_of}
use Rattle.check_trees.specs.First.{FindsFirst, Has}
use Rattle.check_trees.specs.declared.node.BodyNode.{BodyNode}
use Rattle.check_trees.specs.declared.node.BodyNode.TheVariants.{Expr, Pat}

abbrev pub same_node : BodyNode → BodyNode → Bool
same_node (Expr a) (Expr b) = a == b
same_node (Pat a) (Pat b) = a == b
same_node _ _ = false

-- the children of an expression: expressions, then patterns
abbrev pub held_by_expr : Expression → List BodyNode
held_by_expr e = map Expr (children_of e) ++ map Pat (patterns_of e)

-- the children of a pattern: subpatterns, then expressions
abbrev pub held_by_pat : Pattern → List BodyNode
held_by_pat p = map Pat (subpatterns_of p) ++ map Expr (inner_exprs_of p)

-- the children of a node; none if the body doesn't have the node
abbrev pub held_by : Body → BodyNode → List BodyNode
held_by body (Expr e) = option_map_or held_by_expr (slice_get body.exprs e) []
held_by body (Pat p) = option_map_or held_by_pat (slice_get body.pats p) []

-- pairs of each child and its parent
abbrev pub with_holder : BodyNode → List BodyNode → List (BodyNode × BodyNode)
with_holder holder nodes = map (λ (node : BodyNode). (node, holder)) nodes

-- the same for all nodes of a kind, from the node with the id `i` on
abbrev pub pairs_of : {X : Type 0} → (ℕ → BodyNode) → (X → List BodyNode) → ℕ → List X → List (BodyNode × BodyNode)
pairs_of node_at held i [] = []
pairs_of node_at held i (x ∷ xs) = with_holder (node_at i) (held x) ++ pairs_of node_at held (i + 1) xs

-- all pairs of a child and its parent in a body, one for each time that the child occurs
abbrev pub held_pairs : Body → List (BodyNode × BodyNode)
held_pairs body = pairs_of Expr held_by_expr 0 body.exprs ++ pairs_of Pat held_by_pat 0 body.pats

-- the first parent of a node
abbrev pub holder_of : Body → BodyNode → Option BodyNode
holder_of body node = lookup (same_node node) (held_pairs body)

-- how often a node occurs as a child
abbrev pub times_held : Body → BodyNode → ℕ
times_held body node = count_by (λ (pair : BodyNode × BodyNode). same_node node pair.0) (held_pairs body)

-- the root or the pattern of a parameter: it may occur any number of times as a child, and the way up ends there
abbrev pub is_top : Body → BodyNode → Bool
is_top body (Expr e) = e == body.body_expr.0
is_top body (Pat p) = list_any (λ (id : PatId). id.0 == p) body.params

-- the root, a parameter, or a node that occurs at most once as a child
abbrev pub has_one_holder : Body → BodyNode → Bool
has_one_holder body node = is_top body node || nat_le (times_held body node) 1

-- a path of so many steps leads down from a node: each step goes to a node that the last one holds
unfoldable pub HasPath : Body → ℕ → BodyNode → Type 0
HasPath body zero node = Unit {0}
HasPath body (suc steps) node = (next : BodyNode) × Has (held_by body node) next × HasPath body steps next

-- no path of more than 400 steps leads down from a node
abbrev pub IsShallow : Body → BodyNode → Type 0
IsShallow body node = HasPath body 401 node → ⊥

-- the expressions that stand directly in the pattern with this id
abbrev pub inner_exprs_at : Body → ℕ → List ℕ
inner_exprs_at body p = option_map_or inner_exprs_of (slice_get body.pats p) []

-- the direct subpatterns of the pattern with this id
abbrev pub subpatterns_at : Body → ℕ → List ℕ
subpatterns_at body p = option_map_or subpatterns_of (slice_get body.pats p) []

-- an expression stands inside a pattern, in a pattern so many levels below it
unfoldable pub StandsInside : Body → ℕ → ℕ → ℕ → Type 0
StandsInside body zero p inner = Has (inner_exprs_at body p) inner
StandsInside body (suc levels) p inner = (part : ℕ) × Has (subpatterns_at body p) part × StandsInside body levels part inner

-- ids below a limit
abbrev pub AreBelow : List ℕ → ℕ → Type 0
AreBelow ids limit = (id : ℕ) → Has ids id → id < limit

-- patterns with only expressions below a limit inside them
abbrev pub HoldBelow : Body → List ℕ → ℕ → Type 0
HoldBelow body ids limit = (p levels inner : ℕ) → Has ids p → StandsInside body levels p inner → inner < limit

-- an expression stands after the expressions that it holds and after those inside its patterns, is held once at most unless it is the root, and is shallow
pub record IsExprInOrder (body : Body) (e : ℕ) (node : Expression) : Type 0 where
  pub children : AreBelow (children_of node) e
  pub inside : HoldBelow body (patterns_of node) e
  pub held : has_one_holder body (Expr e) ≡ true
  pub shallow : IsShallow body (Expr e)

-- a pattern stands after the patterns that it holds, is held once at most unless it is a parameter, and is shallow
pub record IsPatInOrder (body : Body) (p : ℕ) (node : Pattern) : Type 0 where
  pub parts : AreBelow (subpatterns_of node) p
  pub held : has_one_holder body (Pat p) ≡ true
  pub shallow : IsShallow body (Pat p)

-- the first node that is not in order, expressions first
abbrev pub FindsWrongNode : Body → Option BodyNode → Type 0
FindsWrongNode body None = FindsFirst (IsExprInOrder body) body.exprs None × FindsFirst (IsPatInOrder body) body.pats None
FindsWrongNode body (Some (Expr e)) = FindsFirst (IsExprInOrder body) body.exprs (Some e)
FindsWrongNode body (Some (Pat p)) = FindsFirst (IsExprInOrder body) body.exprs None × FindsFirst (IsPatInOrder body) body.pats (Some p)
