-- Nodes in order, by their parts.
use Rattle.std.proofs.Common.{◌≡◌, ℕ, zero, suc, ◌&&◌, ◌<◌, Bool, true, false, ltb, Some, List, [], ◌∷◌, slice_get, Decides, refl, sym, ◌∙◌, ap, subst, arith}
use Rattle.std.proofs.lemmas.Bool.Decides.{nat_tests, Decides-ltb}
use Rattle.std.specs.List.{list_all}
use Rattle.world.specs.Nodes.{children_of, patterns_of, subpatterns_of}
use Rattle.world.specs.declared.body.Body.{Body}
use Rattle.world.specs.declared.expr.Expr.{Expr as Expression}
use Rattle.world.specs.declared.pat.Pat.{Pat as Pattern}
use Rattle.check_trees.specs.Tree.{has_one_holder, AreBelow, HoldBelow, IsExprInOrder, IsPatInOrder, IsShallow}
use Rattle.check_trees.specs.declared.node.BodyNode.TheVariants.{Expr, Pat}

both : (a b : Bool) → (a && b) ≡ true → (a ≡ true) × (b ≡ true)
both true b e = (refl, e)
both false b e = (e, cc)

both_true : (a b : Bool) → a ≡ true → b ≡ true → (a && b) ≡ true
both_true a b e f = ap (λ c. c && b) e ∙ f

is_below : (m n : ℕ) → ltb m n ≡ true → m < n
is_below m n e = grind (arith, nat_tests)

all_below : (ids : List ℕ) (limit x k : ℕ) → list_all (λ id. ltb id limit) ids ≡ true → slice_get ids k ≡ Some x → x < limit
all_below [] limit x k e at = cc
all_below (id ∷ ids) limit x zero e at = let same : id ≡ x = cc in subst (λ y. y < limit) same (is_below id limit (both (ltb id limit) _ e).0)
all_below (id ∷ ids) limit x (suc k) e at = all_below ids limit x k (both (ltb id limit) _ e).1 at

below_all : (ids : List ℕ) (limit : ℕ) → AreBelow ids limit → list_all (λ id. ltb id limit) ids ≡ true
below_all [] limit h = refl
below_all (id ∷ ids) limit h = both_true (ltb id limit) _ ((Decides-ltb id limit).1 (h id (zero, refl))) (below_all ids limit (λ x at. h x (suc at.0, at.1)))

pub below_decides : (ids : List ℕ) (limit : ℕ) → Decides (list_all (λ id. ltb id limit) ids) (AreBelow ids limit)
below_decides ids limit = ((λ e x at. all_below ids limit x at.0 e at.1), below_all ids limit)

pub below_at : (ids all : List ℕ) (limit : ℕ) (b : Bool) → ids ≡ all → Decides b (AreBelow ids limit) → Decides b (AreBelow all limit)
below_at ids all limit b e h = subst (λ xs. Decides b (AreBelow xs limit)) e h

-- an expression whose patterns and children are as they are to be, by how often it is held
pub expr_order : (body : Body) (e : ℕ) (node : Expression) (before inner once : Bool) → before ≡ true → inner ≡ true → IsShallow body (Expr e) → Decides before (AreBelow (children_of node) e) → Decides inner (HoldBelow body (patterns_of node) e) → once ≡ has_one_holder body (Expr e) → Decides once (IsExprInOrder body e node)
expr_order body e node before inner once first second shallow children inside held = (
  λ yes. record { children = children.0 first; inside = inside.0 second; held = sym held ∙ yes; shallow = shallow },
  λ h. held ∙ h.held,
)

-- a pattern whose subpatterns are as they are to be, and which is held once at most, by how deep it is
pub pat_order : (body : Body) (p : ℕ) (node : Pattern) (before once shallow : Bool) → before ≡ true → once ≡ true → Decides before (AreBelow (subpatterns_of node) p) → once ≡ has_one_holder body (Pat p) → Decides shallow (IsShallow body (Pat p)) → Decides shallow (IsPatInOrder body p node)
pat_order body p node before once shallow first second parts held down = (
  λ yes. record { parts = parts.0 first; held = sym held ∙ second; shallow = down.0 yes },
  λ h. down.1 h.shallow,
)
