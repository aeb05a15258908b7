-- The searches in one typed body find nothing exactly where the body is right by itself.
use Rattle.std.proofs.Common.{◌≡◌, ℕ, ◌&&◌, Bool, true, false, not, Option, Some, None, List, is_none, is_some, Decides, refl, sym, ◌∙◌, ap, subst}
use Rattle.world.specs.declared.body.Body.{Body}
use Rattle.world.specs.declared.database.HirDatabase.{HirDatabase}
use Rattle.world.specs.declared.infer.InferenceResult.{InferenceResult}
use Rattle.check_ids.specs.Parts.{FindsWrong, parts_of}
use Rattle.check_ids.specs.declared.part.BodyPart.{BodyPart}
use Rattle.check_ids.proofs.Wrong.{each_right}
use Rattle.check_trees.specs.Ellipsis.{is_ellipsis_inside}
use Rattle.check_trees.specs.First.{FindsFailing, FindsFirst}
use Rattle.check_trees.specs.Jumps.{IsJumpInside}
use Rattle.check_trees.specs.Tree.{FindsWrongNode}
use Rattle.check_trees.specs.declared.node.BodyNode.{BodyNode}
use Rattle.check_trees.specs.declared.node.BodyNode.TheVariants as node
use Rattle.world_check.specs.Valid.{IsBodyRight}
use Rattle.world_check.proofs.Passing.{both}

both_true : (a b : Bool) → a ≡ true → b ≡ true → (a && b) ≡ true
both_true a b e f = ap (λ c. c && b) e ∙ f

-- a search finds none exactly where there is none
none_decides : {X : Type 0} (P : X → Type 0) (xs : List X) (found : Option X) → FindsFailing P xs found → Decides (is_none found) (FindsFailing P xs None)
none_decides P xs None all = ((λ e. all), (λ h. refl))
none_decides P xs (Some x) first = ((λ e. cc), (λ h. absurd (first.fails (h first.index x first.at))))

none_first_decides : {X : Type 0} (Asked : ℕ → X → Type 0) (xs : List X) (found : Option ℕ) → FindsFirst Asked xs found → Decides (is_none found) (FindsFirst Asked xs None)
none_first_decides Asked xs None all = ((λ e. all), (λ h. refl))
none_first_decides Asked xs (Some k) first = ((λ e. cc), (λ h. absurd (first.2 (h k first.0 first.1))))

-- the search for a node that isn't in order finds none exactly where all are in order
pub node_decides : (body : Body) (found : Option BodyNode) (none : Bool) → is_some found ≡ not none → FindsWrongNode body found → Decides none (FindsWrongNode body None)
node_decides body None true is all = ((λ e. all), (λ h. refl))
node_decides body None false is all = cc
node_decides body (Some (node.Expr e)) true is first = cc
node_decides body (Some (node.Expr e)) false is first = ((λ same. cc), (λ h. absurd (first.2 (h.0 e first.0 first.1))))
node_decides body (Some (node.Pat p)) true is first = cc
node_decides body (Some (node.Pat p)) false is first = ((λ same. cc), (λ h. absurd (first.1.2 (h.1 p first.1.0 first.1.1))))

-- the searches in a typed body for a part with an id out of range, a node out of order, a jump without its label and a misplaced `..` decide it
pub body_decides : (world : HirDatabase) (body : Body) (infer : InferenceResult) (part : Option BodyPart) (tree inside : Bool) (ellipsis : Option ℕ) (all : Bool) → FindsWrong world body infer (parts_of body) part → Decides tree (FindsWrongNode body None) → Decides inside (FindsFirst (IsJumpInside body) body.exprs None)
    → FindsFirst (λ p pattern. is_ellipsis_inside pattern ≡ true) body.pats ellipsis → all ≡ (is_none part && tree && inside && is_none ellipsis) → Decides all (IsBodyRight world body infer)
body_decides world body infer part tree inside ellipsis all wrong is_tree is_inside misplaced is =
    subst (λ b. Decides b (IsBodyRight world body infer)) (sym is) (asked, tested)
  where
    parts : Decides (is_none part) (FindsWrong world body infer (parts_of body) None)
    parts = none_decides _ (parts_of body) part wrong

    ellipses : Decides (is_none ellipsis) (FindsFirst (λ p pattern. is_ellipsis_inside pattern ≡ true) body.pats None)
    ellipses = none_first_decides _ body.pats ellipsis misplaced

    asked : (is_none part && tree && inside && is_none ellipsis) ≡ true → IsBodyRight world body infer
    asked e =
        let last = both _ (is_none ellipsis) e in
        let third = both _ inside last.0 in
        let second = both (is_none part) tree third.0 in
        let ordered = is_tree.0 second.1 in
        record { parts = each_right world body infer (parts.0 second.0); exprs = ordered.0; pats = ordered.1; jumps = is_inside.0 third.1; ellipses = ellipses.0 last.1 }

    tested : IsBodyRight world body infer → (is_none part && tree && inside && is_none ellipsis) ≡ true
    tested h =
        both_true _ _
        (both_true _ _
        (both_true _ _ (parts.1 (λ i part at. h.parts part)) (is_tree.1 (h.exprs, h.pats)))
        (is_inside.1 h.jumps))
        (ellipses.1 h.ellipses)
