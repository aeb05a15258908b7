-- The first node of a body that is not in order, its first jump to a label that doesn't enclose it, and its first pattern with a misplaced `..`, as places.
use Rattle.std.proofs.Common.{◌≡◌, ℕ, true, Option, Some, None, IfSome, sym, subst}
use Rattle.std.specs.List.{slice_get}
use Rattle.std.specs.Option.{option_map}
use Rattle.world.specs.declared.body.Body.{Body}
use Rattle.world.specs.declared.database.BodyRow.{BodyRow}
use Rattle.world.specs.declared.database.HirDatabase.{HirDatabase}
use Rattle.check_trees.specs.First.{FindsFailing, FindsFirst}
use Rattle.check_trees.specs.Ellipsis.{is_ellipsis_inside}
use Rattle.check_trees.specs.Jumps.{IsJumpInside}
use Rattle.check_trees.specs.Tree.{FindsWrongNode, IsExprInOrder, IsPatInOrder}
use Rattle.check_trees.specs.declared.node.BodyNode.{BodyNode}
use Rattle.check_trees.specs.declared.node.BodyNode.TheVariants.{Expr, Pat}
use Rattle.world_check.specs.Meets.{Meets}
use Rattle.world_check.specs.WorldPlaces.{node_place, of_body}
use Rattle.world_check.proofs.Searches.{nodes_found, nodes_met, of_nodes}
use Rattle.world_check.specs.declared.fault.CheckRow.TheVariants.{C2, C3, C7}
use Rattle.world_check.specs.declared.place.NodeKind.TheVariants.{Exprs, Pats, Bindings, Labels}
use Rattle.world_check.specs.declared.place.Place.TheVariants.{Nodes, Node, Row}
use Rattle.world_check.specs.declared.place.TableName.TheVariants.{Bodies}
use Rattle.world_check.proofs.Segments.{first_expr, one_body, or_none, two_met}

-- a fact of a node of the body that is there, and of an optional node of an optional body
to_node : {X : Type 0} (fact : Body → X → Type 0) (nodes : Body → Option X) (found : Option BodyRow) (row : BodyRow) (x : X) → found ≡ Some row → nodes row.body ≡ Some x → fact row.body x → IfSome found (λ (r : BodyRow). IfSome (nodes r.body) (fact r.body))
to_node fact nodes found row x there at has = subst (λ (o : Option BodyRow). IfSome o (λ (r : BodyRow). IfSome (nodes r.body) (fact r.body))) (sym there) (subst (λ o. IfSome o (fact row.body)) (sym at) has)

of_node : {X : Type 0} (fact : Body → X → Type 0) (nodes : Body → Option X) (found : Option BodyRow) (row : BodyRow) (x : X) → found ≡ Some row → nodes row.body ≡ Some x → IfSome found (λ (r : BodyRow). IfSome (nodes r.body) (fact r.body)) → fact row.body x
of_node fact nodes found row x there at has = subst (λ o. IfSome o (fact row.body)) at (subst (λ (o : Option BodyRow). IfSome o (λ (r : BodyRow). IfSome (nodes r.body) (fact r.body))) there has)

exprs_found : (world : HirDatabase) (b : ℕ) (row : BodyRow) (found : Option ℕ) → slice_get world.bodies b ≡ Some row → FindsFirst (IsExprInOrder row.body) row.body.exprs found → FindsFailing (Meets C2 world) (of_nodes b Exprs row.body.exprs) (option_map (Node b Exprs) found)
exprs_found world b row found there first =
    nodes_found (Meets C2 world) b Exprs (IsExprInOrder row.body) row.body.exprs found tt
    (λ e node at. to_node (λ body. IsExprInOrder body e) (λ body. slice_get body.exprs e) (slice_get world.bodies b) row node there at)
    (λ e node at. of_node (λ body. IsExprInOrder body e) (λ body. slice_get body.exprs e) (slice_get world.bodies b) row node there at)
    first

pats_found : (world : HirDatabase) (b : ℕ) (row : BodyRow) (found : Option ℕ) → slice_get world.bodies b ≡ Some row → FindsFirst (IsPatInOrder row.body) row.body.pats found → FindsFailing (Meets C2 world) (of_nodes b Pats row.body.pats) (option_map (Node b Pats) found)
pats_found world b row found there first =
    nodes_found (Meets C2 world) b Pats (IsPatInOrder row.body) row.body.pats found tt
    (λ p node at. to_node (λ body. IsPatInOrder body p) (λ body. slice_get body.pats p) (slice_get world.bodies b) row node there at)
    (λ p node at. of_node (λ body. IsPatInOrder body p) (λ body. slice_get body.pats p) (slice_get world.bodies b) row node there at)
    first

bindings_met : (world : HirDatabase) (b : ℕ) (row : BodyRow) → FindsFailing (Meets C2 world) (of_nodes b Bindings row.body.bindings) None
bindings_met world b row = nodes_met (Meets C2 world) b Bindings row.body.bindings tt (λ i. tt)

-- the first node that is not in order
pub tree_in_body : (world : HirDatabase) (b : ℕ) (row : BodyRow) (found : Option BodyNode) → slice_get world.bodies b ≡ Some row → FindsWrongNode row.body found → FindsFailing (Meets C2 world) (of_body b row.body) (option_map (node_place b) found)
tree_in_body world b row None there wrong =
    one_body (Meets C2 world) b row.body None None None None (exprs_found world b row None there wrong.0) (pats_found world b row None there wrong.1) (bindings_met world b row) (two_met (Meets C2 world) (Nodes b Labels) (Row Bodies b) tt tt)
tree_in_body world b row (Some (Expr e)) there wrong = first_expr (Meets C2 world) b row.body (Node b Exprs e) (exprs_found world b row (Some e) there wrong)
tree_in_body world b row (Some (Pat p)) there wrong =
    one_body (Meets C2 world) b row.body None (Some (Node b Pats p)) None None (exprs_found world b row None there wrong.0) (pats_found world b row (Some p) there wrong.1) (bindings_met world b row) (two_met (Meets C2 world) (Nodes b Labels) (Row Bodies b) tt tt)

-- the first jump to a label that doesn't enclose it
pub jump_in_body : (world : HirDatabase) (b : ℕ) (row : BodyRow) (found : Option ℕ) → slice_get world.bodies b ≡ Some row → FindsFirst (IsJumpInside row.body) row.body.exprs found → FindsFailing (Meets C3 world) (of_body b row.body) (option_map (Node b Exprs) found)
jump_in_body world b row found there first =
    subst (FindsFailing (Meets C3 world) (of_body b row.body)) (or_none (option_map (Node b Exprs) found))
    (one_body (Meets C3 world) b row.body (option_map (Node b Exprs) found) None None None
    (nodes_found (Meets C3 world) b Exprs (IsJumpInside row.body) row.body.exprs found tt
    (λ e node at. to_node (λ body. IsJumpInside body e) (λ body. slice_get body.exprs e) (slice_get world.bodies b) row node there at)
    (λ e node at. of_node (λ body. IsJumpInside body e) (λ body. slice_get body.exprs e) (slice_get world.bodies b) row node there at)
    first)
    (nodes_met (Meets C3 world) b Pats row.body.pats tt (λ i. tt))
    (nodes_met (Meets C3 world) b Bindings row.body.bindings tt (λ i. tt))
    (two_met (Meets C3 world) (Nodes b Labels) (Row Bodies b) tt tt))

-- the first pattern whose `..` stands past the end of its subpatterns
pub ellipsis_in_body : (world : HirDatabase) (b : ℕ) (row : BodyRow) (found : Option ℕ) → slice_get world.bodies b ≡ Some row → FindsFirst (λ p pattern. is_ellipsis_inside pattern ≡ true) row.body.pats found → FindsFailing (Meets C7 world) (of_body b row.body) (option_map (Node b Pats) found)
ellipsis_in_body world b row found there first =
    subst (FindsFailing (Meets C7 world) (of_body b row.body)) (or_none (option_map (Node b Pats) found))
    (one_body (Meets C7 world) b row.body None (option_map (Node b Pats) found) None None
    (nodes_met (Meets C7 world) b Exprs row.body.exprs tt (λ i. tt))
    (nodes_found (Meets C7 world) b Pats (λ p pattern. is_ellipsis_inside pattern ≡ true) row.body.pats found tt
    (λ p node at. to_node (λ body pattern. is_ellipsis_inside pattern ≡ true) (λ body. slice_get body.pats p) (slice_get world.bodies b) row node there at)
    (λ p node at. of_node (λ body pattern. is_ellipsis_inside pattern ≡ true) (λ body. slice_get body.pats p) (slice_get world.bodies b) row node there at)
    first)
    (nodes_met (Meets C7 world) b Bindings row.body.bindings tt (λ i. tt))
    (two_met (Meets C7 world) (Nodes b Labels) (Row Bodies b) tt tt))
