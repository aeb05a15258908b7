-- The greatest id inside a pattern, from those inside its parts.
use Rattle.std.proofs.Common.{◌≡◌, ℕ, suc, zero, ◌+◌, ◌-◌, ◌<◌, ◌≤◌, ◌&&◌, ltb, List, [], ◌∷◌, length, get_or, take, Decides, ◌⊎◌, inl, inr, refl, sym, ap, subst, arith, Some, slice_get}
use Rattle.std.proofs.lemmas.Bool.Decides.{Decides-and, Decides-at, Decides-like, Decides-ltb}
use Rattle.std.proofs.lemmas.List.{take_all}
use Rattle.world.specs.Nodes.{patterns_of}
use Rattle.world.specs.declared.body.Body.{Body}
use Rattle.world.specs.declared.expr.Expr.{Expr as Expression}
use Rattle.check_trees.specs.First.{Has}
use Rattle.check_trees.specs.inner.Walks.{is_before, HaveReach}
use Rattle.check_trees.specs.Tree.{inner_exprs_at, subpatterns_at, AreBelow, HasPath, HoldBelow, IsShallow}
use Rattle.check_trees.specs.declared.node.BodyNode.TheVariants.{Expr, Pat}
use Rattle.check_trees.specs.declared.reach.Reach.{Reach}
use Rattle.check_trees.specs.declared.reach.Reach.TheVariants.{UpTo}
use Rattle.check_trees.proofs.Listed.{has_before, has_more, has_next, only}
use Rattle.check_trees.proofs.Paths.{at-suc, at-zero, holds_part, holds_pattern, inside-suc, inside-zero, path-suc, path-zero}

-- a path of no steps leads down from each node, so a budget without paths is positive
pub some_budget : (body : Body) (budget p : ℕ) → (HasPath body budget (Pat p) → ⊥) → 0 < budget
some_budget body zero p none = absurd (none (path-zero body (Pat p)))
some_budget body (suc n) p none = omega arith

-- where no path of so many steps leads down from a pattern, none of one step less does from its subpatterns
pub parts_below : (body : Body) (budget p : ℕ) (parts : List ℕ) → parts ≡ subpatterns_at body p → (HasPath body budget (Pat p) → ⊥) → (part : ℕ) → Has parts part → HasPath body (budget - 1) (Pat part) → ⊥
parts_below body zero p parts e none part at path = none (path-zero body (Pat p))
parts_below body (suc n) p parts e none part at path =
    let less : suc n - 1 ≡ n = omega arith in
    none (path-suc body n (Pat p) (Pat part) (holds_part body p part (subst (λ ids. Has ids part) e at)) (subst (λ m. HasPath body m (Pat part)) less path))

-- no path of 400 steps leads down from the patterns of a shallow expression
pub patterns_shallow : (body : Body) (e : ℕ) (node : Expression) (ids : List ℕ) → ids ≡ patterns_of node → slice_get body.exprs e ≡ Some node → IsShallow body (Expr e) → (p : ℕ) → Has ids p → HasPath body 400 (Pat p) → ⊥
patterns_shallow body e node ids all there shallow p at path =
    shallow (path-suc body 400 (Expr e) (Pat p) (holds_pattern body e p node there (subst (λ ps. Has ps p) all at)) path)

-- the reach of a pattern is the greater of those of its own expressions and of its subpatterns
pub reach_of_parts : (body : Body) (p : ℕ) (parts inner : List ℕ) (here below reach : Reach) → parts ≡ subpatterns_at body p → inner ≡ inner_exprs_at body p → ((e : ℕ) → Decides (is_before here e) (AreBelow inner e)) → HaveReach body parts below → ((e : ℕ) → is_before reach e ≡ (is_before here e && is_before below e)) → HaveReach body (p ∷ []) reach
reach_of_parts body p parts inner here below reach parts_are inner_are is_here is_below both e =
    Decides-at (is_before reach e) (is_before here e && is_before below e) (both e)
    (Decides-like (is_before here e && is_before below e) into out (Decides-and (is_before here e) (is_before below e) (is_here e) (is_below e)))
  where
    into : AreBelow inner e × HoldBelow body parts e → HoldBelow body (p ∷ []) e
    into h q zero x at stands =
        let own = subst (λ y. Has (inner_exprs_at body y) x) (only q p at) (inside-zero body q x stands) in
        h.0 x (subst (λ ids. Has ids x) (sym inner_are) own)
    into h q (suc n) x at stands =
        let part = inside-suc body n q x stands in
        let own = subst (λ y. Has (subpatterns_at body y) part.0) (only q p at) part.1 in
        h.1 part.0 n x (subst (λ ids. Has ids part.0) (sym parts_are) own) part.2

    out : HoldBelow body (p ∷ []) e → AreBelow inner e × HoldBelow body parts e
    out h = (
      λ x at. h p zero x (zero, refl) (at-zero body p x (subst (λ ids. Has ids x) inner_are at)),
      λ part n x at stands. h p (suc n) x (zero, refl) (at-suc body n p part x (subst (λ ids. Has ids part) parts_are at) stands),
    )

-- the reach after one more pattern
pub reach_more : (body : Body) (ids : List ℕ) (i d : ℕ) (before found reach : Reach) → i < length ids → HaveReach body (take i ids) before → HaveReach body (get_or ids i d ∷ []) found → ((e : ℕ) → is_before reach e ≡ (is_before before e && is_before found e)) → HaveReach body (take (i + 1) ids) reach
reach_more body ids i d before found reach h is_before_ is_found both e =
    Decides-at (is_before reach e) (is_before before e && is_before found e) (both e)
    (Decides-like (is_before before e && is_before found e) into out (Decides-and (is_before before e) (is_before found e) (is_before_ e) (is_found e)))
  where
    into : HoldBelow body (take i ids) e × HoldBelow body (get_or ids i d ∷ []) e → HoldBelow body (take (i + 1) ids) e
    into all p levels inner at stands = by (has_more ids i d p h at)
      where
        by : Has (take i ids) p ⊎ (p ≡ get_or ids i d) → inner < e
        by (inl there) = all.0 p levels inner there stands
        by (inr next) = all.1 p levels inner (zero, ap Some (sym next)) stands

    out : HoldBelow body (take (i + 1) ids) e → HoldBelow body (take i ids) e × HoldBelow body (get_or ids i d ∷ []) e
    out all = (
      λ p levels inner at stands. all p levels inner (has_before ids i d p h at) stands,
      λ p levels inner at stands. all p levels inner (subst (Has (take (i + 1) ids)) (sym (only p (get_or ids i d) at)) (has_next ids i d h)) stands,
    )

pub greatest_whole : (ids : List ℕ) (i : ℕ) (reach : Reach) → length ids ≤ i → ((e : ℕ) → Decides (is_before reach e) (AreBelow (take i ids) e)) → (e : ℕ) → Decides (is_before reach e) (AreBelow ids e)
greatest_whole ids i reach h fact e = subst (λ ps. Decides (is_before reach e) (AreBelow ps e)) (take_all i ids h) (fact e)

-- the greatest after one more id
pub greatest_more : (ids : List ℕ) (i d : ℕ) (before reach : Reach) → i < length ids → ((e : ℕ) → Decides (is_before before e) (AreBelow (take i ids) e)) → ((e : ℕ) → is_before reach e ≡ (is_before before e && is_before (UpTo (get_or ids i d)) e)) → (e : ℕ) → Decides (is_before reach e) (AreBelow (take (i + 1) ids) e)
greatest_more ids i d before reach h are both e =
    Decides-at (is_before reach e) (is_before before e && ltb (get_or ids i d) e) (both e)
    (Decides-like (is_before before e && ltb (get_or ids i d) e) into out (Decides-and (is_before before e) (ltb (get_or ids i d) e) (are e) (Decides-ltb (get_or ids i d) e)))
  where
    into : AreBelow (take i ids) e × (get_or ids i d < e) → AreBelow (take (i + 1) ids) e
    into all x at = by (has_more ids i d x h at)
      where
        by : Has (take i ids) x ⊎ (x ≡ get_or ids i d) → x < e
        by (inl there) = all.0 x there
        by (inr next) = subst (λ y. y < e) (sym next) all.1

    out : AreBelow (take (i + 1) ids) e → AreBelow (take i ids) e × (get_or ids i d < e)
    out all = ((λ x at. all x (has_before ids i d x h at)), all (get_or ids i d) (has_next ids i d h))
