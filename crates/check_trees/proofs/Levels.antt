-- A node's height is one more than the greatest height of its children.
use Rattle.std.proofs.Common.{◌≡◌, ℕ, suc, zero, ◌+◌, ◌-◌, ◌<◌, ◌≤◌, Bool, true, false, ◌||◌, ◌&&◌, ◌⊎◌, inl, inr, cond, eqb, ltb, leb, max, List, length, get_or, take, Decides, refl, sym, ◌∙◌, ap, arith, subst, Option, Some, None}
use Rattle.std.proofs.lemmas.Bool.Decides.{nat_tests, Decides-at, Decides-like, Decides-or}
use Rattle.std.proofs.lemmas.List.{take_all}
use Rattle.std.specs.Option.{IfSome}
use Rattle.world.specs.declared.body.Body.{Body}
use Rattle.check_trees.specs.First.{Has}
use Rattle.check_trees.specs.inner.Walks.{is_node, known_of, AreHeights, AreLevels, HasHeight, HaveAPath, HaveOpenPaths, IsHeight, LeavesNoneOpen}
use Rattle.check_trees.specs.Tree.{held_by, same_node, HasPath}
use Rattle.check_trees.specs.declared.heights.Heights.{Heights}
use Rattle.check_trees.specs.declared.heights.Known.{Known}
use Rattle.check_trees.specs.declared.heights.Known.TheVariants.{Open, Height}
use Rattle.check_trees.specs.declared.node.BodyNode.{BodyNode}
use Rattle.check_trees.specs.declared.node.BodyNode.TheVariants.{Expr, Pat}
use Rattle.check_trees.proofs.Listed.{has_before, has_more, has_next}
use Rattle.check_trees.proofs.Paths.{path-suc, path-zero, path_step, prefix}

eqb_true : (a b : ℕ) → eqb a b ≡ true → a ≡ b
eqb_true a b e = grind (arith, nat_tests)

pub same_node-eq : (a b : BodyNode) → same_node a b ≡ true → a ≡ b
same_node-eq (Expr a) (Expr b) e = ap Expr (eqb_true a b e)
same_node-eq (Pat a) (Pat b) e = ap Pat (eqb_true a b e)
same_node-eq (Expr a) (Pat b) e = cc
same_node-eq (Pat a) (Expr b) e = cc

chosen : (same there : Bool) (old new : Known) (A : Type 0) → new ≡ cond (same && there) Open old → new ≡ Open → (same ≡ true → A) → (old ≡ Open) ⊎ A
chosen true there old new A e is_open h = inr (h refl)
chosen false there old new A e is_open h = inl (sym e ∙ is_open)

-- what a table has for `other` after `known` was stored for `node`
abbrev pub noted_of : Heights → BodyNode → Known → BodyNode → Known
noted_of heights node known other = cond (same_node other node && is_node heights.exprs.items heights.pats.items node) known (known_of heights other)

-- the nodes that are open after one was opened: those before, and that one
opened_from : (before opened : Heights) (node other : BodyNode) → known_of opened other ≡ noted_of before node Open other → known_of opened other ≡ Open → (known_of before other ≡ Open) ⊎ (other ≡ node)
opened_from before opened node other noted is_open =
    chosen (same_node other node) (is_node before.exprs.items before.pats.items node) (known_of before other) (known_of opened other) (other ≡ node) noted is_open (same_node-eq other node)

chosen_height : (taken : Bool) (old new : Known) (height noted : ℕ) → new ≡ cond taken (Height noted) old → new ≡ Height height → (old ≡ Height height) ⊎ ((taken ≡ true) × (noted ≡ height))
chosen_height true old new height noted e h = inr (refl, let k : Height noted ≡ Height height = sym e ∙ h in cc)
chosen_height false old new height noted e h = inl (sym e ∙ h)

and_first : (a b : Bool) → (a && b) ≡ true → a ≡ true
and_first true b e = refl
and_first false b e = e

-- a table of heights stays right when a node's height is stored
pub heights_more : (body : Body) (before after : Heights) (node : BodyNode) (height : ℕ) → AreHeights body before → HasHeight body node height → ((other : BodyNode) → known_of after other ≡ noted_of before node (Height height) other) → AreHeights body after
heights_more body before after node height are is_height noted other h fact =
    by_choice (chosen_height (same_node other node && is_node before.exprs.items before.pats.items node) (known_of before other) (known_of after other) h height (noted other) fact)
  where
    by_choice : (known_of before other ≡ Height h) ⊎ (((same_node other node && is_node before.exprs.items before.pats.items node) ≡ true) × (height ≡ h)) → HasHeight body other h
    by_choice (inl was) = are other h was
    by_choice (inr both) =
        let same : node ≡ other = sym (same_node-eq other node (and_first (same_node other node) _ both.0)) in
        subst (λ n. HasHeight body n h) same (subst (HasHeight body node) both.1 is_height)

-- with budget 0 a walk finds no height
pub path_of_none : (body : Body) (before : Heights) (budget : ℕ) (node : BodyNode) → budget ≡ 0 → IsHeight body before budget node None
path_of_none body before budget node e steps h open_paths = prefix body steps 0 node (omega arith) (path-zero body node)

reached : (n b h : ℕ) → n ≤ b → b ≤ h → leb n h ≡ true
reached n b h e f = grind (arith, nat_tests)

-- where the height is at least the budget, a walk finds no height
pub path_within : (body : Body) (before : Heights) (budget : ℕ) (node : BodyNode) (height : ℕ) → HasHeight body node height → budget ≤ height → IsHeight body before budget node None
path_within body before budget node height h e steps low open_paths = (h steps).0 (reached steps budget height low e)

low_pred : (n budget : ℕ) → suc n ≤ budget → n ≤ budget - 1
low_pred n budget h = omega arith

low_less : (n budget : ℕ) → suc n ≤ budget → n ≤ budget
low_less n budget h = omega arith

one_more : (n : ℕ) → n ≤ suc n
one_more n = omega arith

below_open : (body : Body) (before : Heights) (n : ℕ) (node other : BodyNode) → HaveOpenPaths body before (suc n) → HasPath body n node → (known_of before other ≡ Open) ⊎ (other ≡ node) → HasPath body n other
below_open body before n node other open_paths here (inl was) = prefix body n (suc n) other (one_more n) (open_paths other was)
below_open body before n node other open_paths here (inr same) = subst (HasPath body n) (sym same) here

-- a path through one of a node's children, which may lead back to the node itself
pub path_through : (body : Body) (before opened : Heights) (budget : ℕ) (node : BodyNode) (nodes : List BodyNode) → nodes ≡ held_by body node → ((other : BodyNode) → known_of opened other ≡ noted_of before node Open other) → AreLevels body opened (budget - 1) nodes None → IsHeight body before budget node None
path_through body before opened budget node nodes e noted through zero low open_paths = path-zero body node
path_through body before opened budget node nodes e noted through (suc n) low open_paths =
    let here = path_through body before opened budget node nodes e noted through n (low_less n budget low) (λ x was. prefix body n (suc n) x (one_more n) (open_paths x was)) in
    let found = through n (low_pred n budget low) (λ other is_open. below_open body before n node other open_paths here (opened_from before opened node other (noted other) is_open)) in
    path-suc body n node found.0 (subst (λ ns. Has ns found.0) e found.1) found.2

zero_below : (h : ℕ) → leb zero h ≡ true
zero_below h = grind (arith, nat_tests)

ltb-leb : (n h : ℕ) → ltb n h ≡ leb (suc n) h
ltb-leb n h = grind (arith, nat_tests)

-- a node's height is the levels of its children: one more than their greatest height
pub height_of_levels : (body : Body) (node : BodyNode) (nodes : List BodyNode) (levels : ℕ) → nodes ≡ held_by body node → ((steps : ℕ) → Decides (ltb steps levels) (HaveAPath body steps nodes)) → HasHeight body node levels
height_of_levels body node nodes levels e h zero = ((λ _. path-zero body node), (λ _. zero_below levels))
height_of_levels body node nodes levels e h (suc n) = (asked, tested)
  where
    asked : leb (suc n) levels ≡ true → HasPath body (suc n) node
    asked low = let found = (h n).0 (ltb-leb n levels ∙ low) in path-suc body n node found.0 (subst (λ ns. Has ns found.0) e found.1) found.2

    tested : HasPath body (suc n) node → leb (suc n) levels ≡ true
    tested path =
        let step = path_step body n node path in
        sym (ltb-leb n levels) ∙ (h n).1 (step.0, subst (λ ns. Has ns step.0) (sym e) step.1, step.2)

ltb-max : (n m h : ℕ) → ltb n (max m (h + 1)) ≡ (ltb n m || leb n h)
ltb-max n m h = grind (arith, nat_tests)

-- the levels after one more node was walked
pub levels_more : (body : Body) (nodes : List BodyNode) (i : ℕ) (d : BodyNode) (levels height : ℕ) → i < length nodes → HasHeight body (get_or nodes i d) height → ((steps : ℕ) → Decides (ltb steps levels) (HaveAPath body steps (take i nodes))) → (steps : ℕ) → Decides (ltb steps (max levels (height + 1))) (HaveAPath body steps (take (i + 1) nodes))
levels_more body nodes i d levels height h is_height before steps =
    Decides-at (ltb steps (max levels (height + 1))) (ltb steps levels || leb steps height) (ltb-max steps levels height)
    (Decides-like (ltb steps levels || leb steps height) more less (Decides-or (ltb steps levels) (leb steps height) (before steps) (is_height steps)))
  where
    more : HaveAPath body steps (take i nodes) ⊎ HasPath body steps (get_or nodes i d) → HaveAPath body steps (take (i + 1) nodes)
    more (inl found) = (found.0, has_before nodes i d found.0 h found.1, found.2)
    more (inr path) = (get_or nodes i d, has_next nodes i d h, path)

    split : (node : BodyNode) → HasPath body steps node → Has (take i nodes) node ⊎ (node ≡ get_or nodes i d) → HaveAPath body steps (take i nodes) ⊎ HasPath body steps (get_or nodes i d)
    split node path (inl found) = inl (node, found, path)
    split node path (inr same) = inr (subst (HasPath body steps) same path)

    less : HaveAPath body steps (take (i + 1) nodes) → HaveAPath body steps (take i nodes) ⊎ HasPath body steps (get_or nodes i d)
    less found = split found.0 found.2 (has_more nodes i d found.0 h found.1)

pub levels_whole : (body : Body) (nodes : List BodyNode) (i levels : ℕ) → length nodes ≤ i → ((steps : ℕ) → Decides (ltb steps levels) (HaveAPath body steps (take i nodes))) → (steps : ℕ) → Decides (ltb steps levels) (HaveAPath body steps nodes)
levels_whole body nodes i levels h fact steps = subst (λ ns. Decides (ltb steps levels) (HaveAPath body steps ns)) (take_all i nodes h) (fact steps)

-- `AreLevels` at a known answer
pub levels_at : (body : Body) (before : Heights) (budget : ℕ) (nodes : List BodyNode) (found is : Option ℕ) → AreLevels body before budget nodes found → found ≡ is → AreLevels body before budget nodes is
levels_at body before budget nodes found is h e = subst (AreLevels body before budget nodes) e h

-- `LeavesNoneOpen` at a known answer
pub closed_at : (before after : Heights) (found : Option ℕ) (height : ℕ) → IfSome found (λ _. LeavesNoneOpen before after) → found ≡ Some height → LeavesNoneOpen before after
closed_at before after found height h e = subst (λ o. IfSome o (λ _. LeavesNoneOpen before after)) e h

-- `IsHeight` at a known answer
pub height_at : (body : Body) (before : Heights) (budget : ℕ) (node : BodyNode) (found is : Option ℕ) → IsHeight body before budget node found → found ≡ is → IsHeight body before budget node is
height_at body before budget node found is h e = subst (IsHeight body before budget node) e h
