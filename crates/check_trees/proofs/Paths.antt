-- Paths down, and what stands inside patterns.
use Rattle.std.proofs.Common.{◌≡◌, ℕ, zero, suc, ◌≤◌, Option, Some, None, [], map, slice_get, sym, subst, arith}
use Rattle.std.specs.Option.{option_map_or}
use Rattle.world.specs.Nodes.{children_of, inner_exprs_of, patterns_of, subpatterns_of}
use Rattle.world.specs.declared.body.Body.{Body}
use Rattle.world.specs.declared.expr.Expr.{Expr as Expression}
use Rattle.world.specs.declared.pat.Pat.{Pat as Pattern}
use Rattle.check_trees.specs.First.{Has}
use Rattle.check_trees.specs.Tree.{held_by, held_by_expr, held_by_pat, subpatterns_at, inner_exprs_at, HasPath, StandsInside}
use Rattle.check_trees.specs.declared.node.BodyNode.{BodyNode}
use Rattle.check_trees.specs.declared.node.BodyNode.TheVariants.{Expr, Pat}
use Rattle.check_trees.proofs.Listed.{has_left, has_mapped, has_none, has_right}

pub path-zero : (body : Body) (node : BodyNode) → HasPath body zero node
unfolding HasPath
path-zero body node = tt

pub path-suc : (body : Body) (steps : ℕ) (node next : BodyNode) → Has (held_by body node) next → HasPath body steps next → HasPath body (suc steps) node
unfolding HasPath
path-suc body steps node next at rest = (next, at, rest)

pub path_step : (body : Body) (steps : ℕ) (node : BodyNode) → HasPath body (suc steps) node → (next : BodyNode) × Has (held_by body node) next × HasPath body steps next
unfolding HasPath
path_step body steps node path = path

-- a path has each shorter one in it
pub prefix : (body : Body) (m n : ℕ) (node : BodyNode) → m ≤ n → HasPath body n node → HasPath body m node
prefix body zero n node h path = path-zero body node
prefix body (suc m) zero node h path = absurd (omega arith)
prefix body (suc m) (suc n) node h path =
    let step = path_step body n node path in
    path-suc body m node step.0 step.1 (prefix body m n step.0 (omega arith) step.2)

pub inside-zero : (body : Body) (p inner : ℕ) → StandsInside body zero p inner → Has (inner_exprs_at body p) inner
unfolding StandsInside
inside-zero body p inner h = h

pub inside-suc : (body : Body) (levels p inner : ℕ) → StandsInside body (suc levels) p inner → (part : ℕ) × Has (subpatterns_at body p) part × StandsInside body levels part inner
unfolding StandsInside
inside-suc body levels p inner h = h

pub at-zero : (body : Body) (p inner : ℕ) → Has (inner_exprs_at body p) inner → StandsInside body zero p inner
unfolding StandsInside
at-zero body p inner h = h

pub at-suc : (body : Body) (levels p part inner : ℕ) → Has (subpatterns_at body p) part → StandsInside body levels part inner → StandsInside body (suc levels) p inner
unfolding StandsInside
at-suc body levels p part inner at rest = (part, at, rest)

-- a pattern holds its subpatterns
pub holds_part : (body : Body) (p part : ℕ) → Has (subpatterns_at body p) part → Has (held_by body (Pat p)) (Pat part)
holds_part body p part at = by (slice_get body.pats p) at
  where
    by : (found : Option Pattern) → Has (option_map_or subpatterns_of found []) part → Has (option_map_or held_by_pat found []) (Pat part)
    by None at = has_none part (Has [] (Pat part)) at.0 at.1
    by (Some pattern) at =
        let found = has_mapped Pat (subpatterns_of pattern) part at.0 at.1 in
        has_left (map Pat (subpatterns_of pattern)) (map Expr (inner_exprs_of pattern)) (Pat part) found.0 found.1

-- an expression holds its patterns
pub holds_pattern : (body : Body) (e p : ℕ) (node : Expression) → slice_get body.exprs e ≡ Some node → Has (patterns_of node) p → Has (held_by body (Expr e)) (Pat p)
holds_pattern body e p node there at =
    subst (λ found. Has (option_map_or held_by_expr found []) (Pat p)) (sym there)
    (has_right (map Expr (children_of node)) (map Pat (patterns_of node)) (Pat p) (has_mapped Pat (patterns_of node) p at.0 at.1))
