-- The parent of a node holds it.
use Rattle.std.proofs.Common.{◌≡◌, ℕ, zero, suc, ◌+◌, ◌<◌, ◌≤◌, Bool, true, false, cond, ltb, Option, Some, None, List, [], ◌∷◌, ◌++◌, length, slice_get, ◌⊎◌, inl, inr, refl, sym, ◌∙◌, ap, subst, arith}
use Rattle.std.proofs.lemmas.Bool.{cases_lt}
use Rattle.std.proofs.lemmas.Bool.Decides.{nat_tests}
use Rattle.std.proofs.lemmas.Option.{slice_get_within}
use Rattle.std.specs.Map.{lookup}
use Rattle.std.specs.Option.{option_map_or}
use Rattle.types.specs.declared.ids.LabelId.{LabelId}
use Rattle.world.specs.declared.body.Body.{Body}
use Rattle.world.specs.declared.expr.Expr.{Expr as Expression}
use Rattle.world.specs.declared.pat.Pat.{Pat as Pattern}
use Rattle.check_trees.specs.First.{Has}
use Rattle.check_trees.specs.inner.Walks.{is_node}
use Rattle.check_trees.specs.Jumps.{is_labelled, IsAbove, IsEnclosed}
use Rattle.check_trees.specs.Tree.{held_by, held_by_expr, held_by_pat, holder_of, is_top, pairs_of, same_node, with_holder, HasPath, IsShallow}
use Rattle.check_trees.specs.declared.node.BodyNode.{BodyNode}
use Rattle.check_trees.specs.declared.node.BodyNode.TheVariants.{Expr, Pat}
use Rattle.check_trees.proofs.Levels.{same_node-eq}
use Rattle.check_trees.proofs.Listed.{has_none}
use Rattle.check_trees.proofs.Paths.{path-suc, path-zero, prefix}

-- a look-up in two lists joined
lookup_split : {K X : Type 0} (test : K → Bool) (es fs : List (K × X)) (x : X) → lookup test (es ++ fs) ≡ Some x → (lookup test es ≡ Some x) ⊎ (lookup test fs ≡ Some x)
lookup_split test [] fs x e = inr e
lookup_split {K} {X} test (p ∷ es) fs x e = by (test p.0) e (λ later. lookup_split test es fs x later)
  where
    by : (b : Bool) → cond b (Some p.1) (lookup test (es ++ fs)) ≡ Some x → (lookup test (es ++ fs) ≡ Some x → (lookup test es ≡ Some x) ⊎ (lookup test fs ≡ Some x)) → (cond b (Some p.1) (lookup test es) ≡ Some x) ⊎ (lookup test fs ≡ Some x)
    by true e further = inl e
    by false e further = further e

-- a look-up among the children of one node
lookup_held : (node owner holder : BodyNode) (children : List BodyNode) → lookup (same_node node) (with_holder owner children) ≡ Some holder → Has children node × (owner ≡ holder)
lookup_held node owner holder [] e = cc
lookup_held node owner holder (child ∷ children) e = by (same_node node child) refl e (λ later. lookup_held node owner holder children later)
  where
    by : (b : Bool) → same_node node child ≡ b → cond b (Some owner) (lookup (same_node node) (with_holder owner children)) ≡ Some holder → (lookup (same_node node) (with_holder owner children) ≡ Some holder → Has children node × (owner ≡ holder)) → Has (child ∷ children) node × (owner ≡ holder)
    by true same here further = let is : owner ≡ holder = cc in ((zero, ap Some (sym (same_node-eq node child same))), is)
    by false other later further = let found = further later in ((suc found.0.0, found.0.1), found.1)

in_pairs : {X : Type 0} (body : Body) (node holder : BodyNode) (node_at : ℕ → BodyNode) (held : X → List BodyNode) (i : ℕ) (xs : List X) → ((k : ℕ) (x : X) → slice_get xs k ≡ Some x → held_by body (node_at (i + k)) ≡ held x) → lookup (same_node node) (pairs_of node_at held i xs) ≡ Some holder → Has (held_by body holder) node
in_pairs body node holder node_at held i [] fits e = cc
in_pairs {X} body node holder node_at held i (x ∷ xs) fits e = by (lookup_split (same_node node) (with_holder (node_at i) (held x)) (pairs_of node_at held (i + 1) xs) holder e) (λ later. in_pairs body node holder node_at held (i + 1) xs next later)
  where
    next : (k : ℕ) (y : X) → slice_get xs k ≡ Some y → held_by body (node_at (i + 1 + k)) ≡ held y
    next k y at = let step : i + 1 + k ≡ i + suc k = omega arith in ap (λ n. held_by body (node_at n)) step ∙ fits (suc k) y at

    here : held_by body (node_at i) ≡ held x
    here = let start : i ≡ i + zero = omega arith in ap (λ n. held_by body (node_at n)) start ∙ fits zero x refl

    by : (lookup (same_node node) (with_holder (node_at i) (held x)) ≡ Some holder) ⊎ (lookup (same_node node) (pairs_of node_at held (i + 1) xs) ≡ Some holder) → (lookup (same_node node) (pairs_of node_at held (i + 1) xs) ≡ Some holder → Has (held_by body holder) node) → Has (held_by body holder) node
    by (inl first) further =
        let found = lookup_held node (node_at i) holder (held x) first in
        subst (λ h. Has (held_by body h) node) found.1 (subst (λ nodes. Has nodes node) (sym here) found.0)
    by (inr later) further = further later

pub parent_holds : (body : Body) (node holder : BodyNode) → holder_of body node ≡ Some holder → Has (held_by body holder) node
parent_holds body node holder e = by (lookup_split (same_node node) (pairs_of Expr held_by_expr 0 body.exprs) (pairs_of Pat held_by_pat 0 body.pats) holder e)
  where
    of_expr : (k : ℕ) (x : Expression) → slice_get body.exprs k ≡ Some x → held_by body (Expr (0 + k)) ≡ held_by_expr x
    of_expr k x at = let start : 0 + k ≡ k = omega arith in ap (λ n. held_by body (Expr n)) start ∙ ap (λ found. option_map_or held_by_expr found []) at

    of_pat : (k : ℕ) (x : Pattern) → slice_get body.pats k ≡ Some x → held_by body (Pat (0 + k)) ≡ held_by_pat x
    of_pat k x at = let start : 0 + k ≡ k = omega arith in ap (λ n. held_by body (Pat n)) start ∙ ap (λ found. option_map_or held_by_pat found []) at

    by : (lookup (same_node node) (pairs_of Expr held_by_expr 0 body.exprs) ≡ Some holder) ⊎ (lookup (same_node node) (pairs_of Pat held_by_pat 0 body.pats) ≡ Some holder) → Has (held_by body holder) node
    by (inl found) = in_pairs body node holder Expr held_by_expr 0 body.exprs of_expr found
    by (inr found) = in_pairs body node holder Pat held_by_pat 0 body.pats of_pat found

pub below_is : (i n : ℕ) → i < n → ltb i n ≡ true
below_is i n h = grind (arith, nat_tests)

-- what holds a node is a node of the body
holds_inside : (body : Body) (holder node : BodyNode) → Has (held_by body holder) node → is_node body.exprs body.pats holder ≡ true
holds_inside body (Expr e) node at = by (slice_get body.exprs e) refl at
  where
    by : (found : Option Expression) → slice_get body.exprs e ≡ found → Has (option_map_or held_by_expr found []) node → ltb e (length body.exprs) ≡ true
    by None is at = has_none node (ltb e (length body.exprs) ≡ true) at.0 at.1
    by (Some x) is at = below_is e (length body.exprs) (slice_get_within body.exprs e x is)
holds_inside body (Pat p) node at = by (slice_get body.pats p) refl at
  where
    by : (found : Option Pattern) → slice_get body.pats p ≡ found → Has (option_map_or held_by_pat found []) node → ltb p (length body.pats) ≡ true
    by None is at = has_none node (ltb p (length body.pats) ≡ true) at.0 at.1
    by (Some x) is at = below_is p (length body.pats) (slice_get_within body.pats p x is)

-- so is the parent that a table has for a node
pub kept_inside : (body : Body) (node holder : BodyNode) (found : Option BodyNode) → found ≡ holder_of body node → found ≡ Some holder → is_node body.exprs body.pats holder ≡ true
kept_inside body node holder found e f = holds_inside body holder node (parent_holds body node holder (sym e ∙ f))

-- Ways up.

pub above-zero : (body : Body) (node : BodyNode) → IsAbove body zero node node
unfolding IsAbove
above-zero body node = refl

pub above_same : (body : Body) (node above : BodyNode) → IsAbove body zero node above → node ≡ above
unfolding IsAbove
above_same body node above way = way

pub above-suc : (body : Body) (steps : ℕ) (node holder above : BodyNode) → is_top body node ≡ false → holder_of body node ≡ Some holder → IsAbove body steps holder above → IsAbove body (suc steps) node above
unfolding IsAbove
above-suc body steps node holder above inner held way = (inner, (holder, held, way))

pub above_step : (body : Body) (steps : ℕ) (node above : BodyNode) → IsAbove body (suc steps) node above → (is_top body node ≡ false) × ((holder : BodyNode) × (holder_of body node ≡ Some holder) × IsAbove body steps holder above)
unfolding IsAbove
above_step body steps node above way = way

-- a way up is a path down, and goes on as the path from its start does
down_again : (body : Body) (n : ℕ) (node above : BodyNode) (m : ℕ) → IsAbove body n node above → HasPath body m node → HasPath body (n + m) above
down_again body zero node above m way path =
    let same : m ≡ zero + m = omega arith in
    subst (λ k. HasPath body k above) same (subst (HasPath body m) (above_same body node above way) path)
down_again body (suc n) node above m way path =
    let step = above_step body n node above way in
    let same : n + suc m ≡ suc n + m = omega arith in
    subst (λ k. HasPath body k above) same (down_again body n step.1.0 above (suc m) step.1.2 (path-suc body m step.1.0 node (parent_holds body node step.1.0 step.1.1) path))

-- where no long path leads down from any expression, a label encloses a node however far up it stands
pub enclosed_anywhere : (body : Body) (label : LabelId) (steps : ℕ) (node above : BodyNode) → ((e : ℕ) (found : Expression) → slice_get body.exprs e ≡ Some found → IsShallow body (Expr e)) → IsAbove body (suc steps) node above → is_labelled body label above ≡ true → IsEnclosed body label node
enclosed_anywhere body label steps node (Pat p) shallow way named = cc
enclosed_anywhere body label steps node (Expr e) shallow way named = by (cases_lt steps 401)
  where
    there : (found : Option Expression) → slice_get body.exprs e ≡ found → is_labelled body label (Expr e) ≡ true → IsShallow body (Expr e)
    there None at h = cc
    there (Some found) at h = shallow e found at

    by : (steps < 401) ⊎ (401 ≤ steps) → IsEnclosed body label node
    by (inl few) = record { steps = steps; above = Expr e; few = few; way = way; labelled = named }
    by (inr many) =
        let low : 401 ≤ suc steps + 0 = omega arith in
        absurd (there (slice_get body.exprs e) refl named (prefix body 401 (suc steps + 0) (Expr e) low (down_again body (suc steps) node (Expr e) 0 way (path-zero body node))))
