-- The first wrong part of a typed body, by what is found in its lists.
use Rattle.std.proofs.Common.{◌≡◌, ℕ, Bool, true, false, cond, true≢false, Option, Some, None, List, [], ◌∷◌, ◌++◌, length, slice_get, sym, ◌∙◌, ap, Decides}
use Rattle.std.specs.Option.{option_map, option_or}
use Rattle.world.specs.declared.body.Body.{Body}
use Rattle.world.specs.declared.database.HirDatabase.{HirDatabase}
use Rattle.world.specs.declared.infer.InferenceResult.{InferenceResult}
use Rattle.check_names.specs.Known.{is_nameable}
use Rattle.check_trees.specs.First.{FindsFailing, FindsFirst, numbered}
use Rattle.check_trees.proofs.First.{apart, four, head, joined, met_here, single, unmet_here}
use Rattle.check_trees.proofs.Numbered.{entry, numbered_found}
use Rattle.check_ids.specs.declared.part.BodyPart.{BodyPart}
use Rattle.check_ids.specs.declared.part.BodyPart.TheVariants as part
use Rattle.check_ids.specs.Nodes.{is_binding_in_range, is_expr_in_range, is_pat_in_range}
use Rattle.check_ids.specs.Parts.{FindsWrong, if_there, is_part_right, list_parts, parts_of}

-- a list that is short enough, and the first of its nodes that fails a test
list_found : {X : Type 0} (P : BodyPart → Type 0) (whole : BodyPart) (at : ℕ → BodyPart) (test : X → Bool) (nodes : List X) (found : Option ℕ) → P whole → ((k : ℕ) → if_there test (slice_get nodes k) ≡ true → P (at k)) → ((k : ℕ) → P (at k) → if_there test (slice_get nodes k) ≡ true) → FindsFirst (λ k node. test node ≡ true) nodes found
    → FindsFailing P (list_parts whole at nodes) (option_map at found)
list_found P whole at test nodes found short from to first =
    met_here P whole (numbered at 0 nodes) (option_map at found) short
    (numbered_found P at (λ k node. test node ≡ true) nodes found (λ k node there passes. from k (ap (if_there test) there ∙ passes)) (λ k node there has. sym (ap (if_there test) there) ∙ to k has) first)

-- a list that is too long
list_too_long : {X : Type 0} (P : BodyPart → Type 0) (whole : BodyPart) (at : ℕ → BodyPart) (nodes : List X) → (P whole → is_nameable (length nodes) ≡ true) → is_nameable (length nodes) ≡ false → FindsFailing P (list_parts whole at nodes) (Some whole)
list_too_long P whole at nodes to long = unmet_here P whole (numbered at 0 nodes) (λ has. true≢false (sym (to has) ∙ long))

module _ (world : HirDatabase) (body : Body) (infer : InferenceResult) where
  abbrev Right : BodyPart → Type 0
  Right part = is_part_right world body infer part ≡ true

  pub exprs_found : (found : Option ℕ) → is_nameable (length body.exprs) ≡ true → FindsFirst (λ e node. is_expr_in_range body node ≡ true) body.exprs found → FindsWrong world body infer (list_parts part.Exprs part.Expr body.exprs) (option_map part.Expr found)
  exprs_found found short first = list_found Right part.Exprs part.Expr (is_expr_in_range body) body.exprs found short (λ k passes. passes) (λ k has. has) first

  pub too_many_exprs : is_nameable (length body.exprs) ≡ false → FindsWrong world body infer (list_parts part.Exprs part.Expr body.exprs) (Some part.Exprs)
  too_many_exprs long = list_too_long Right part.Exprs part.Expr body.exprs (λ has. has) long

  pub pats_found : (found : Option ℕ) → is_nameable (length body.pats) ≡ true → FindsFirst (λ p node. is_pat_in_range body node ≡ true) body.pats found → FindsWrong world body infer (list_parts part.Pats part.Pat body.pats) (option_map part.Pat found)
  pats_found found short first = list_found Right part.Pats part.Pat (is_pat_in_range body) body.pats found short (λ k passes. passes) (λ k has. has) first

  pub too_many_pats : is_nameable (length body.pats) ≡ false → FindsWrong world body infer (list_parts part.Pats part.Pat body.pats) (Some part.Pats)
  too_many_pats long = list_too_long Right part.Pats part.Pat body.pats (λ has. has) long

  pub bindings_found : (found : Option ℕ) → is_nameable (length body.bindings) ≡ true → FindsFirst (λ i binding. is_binding_in_range body binding ≡ true) body.bindings found → FindsWrong world body infer (list_parts part.Bindings part.Binding body.bindings) (option_map part.Binding found)
  bindings_found found short first = list_found Right part.Bindings part.Binding (is_binding_in_range body) body.bindings found short (λ k passes. passes) (λ k has. has) first

  pub too_many_bindings : is_nameable (length body.bindings) ≡ false → FindsWrong world body infer (list_parts part.Bindings part.Binding body.bindings) (Some part.Bindings)
  too_many_bindings long = list_too_long Right part.Bindings part.Binding body.bindings (λ has. has) long

  -- the labels, then the rest, by the test of each
  pub rest_found : (short right : Bool) → short ≡ is_part_right world body infer part.Labels → right ≡ is_part_right world body infer part.Rest → FindsWrong world body infer (part.Labels ∷ part.Rest ∷ []) (option_or (cond short None (Some part.Labels)) (cond right None (Some part.Rest)))
  rest_found short right is_short is_right =
      joined Right (part.Labels ∷ []) (part.Rest ∷ []) (cond short None (Some part.Labels)) (cond right None (Some part.Rest))
      (single Right part.Labels short (as_tested short part.Labels is_short))
      (single Right part.Rest right (as_tested right part.Rest is_right))
    where
      as_tested : (b : Bool) (part : BodyPart) → b ≡ is_part_right world body infer part → Decides b (Right part)
      as_tested b part is = ((λ e. sym is ∙ e), (λ has. is ∙ has))

  -- all parts, by what is found in each list and among the labels and the rest
  pub parts_found : (exprs pats bindings rest : Option BodyPart) → FindsWrong world body infer (list_parts part.Exprs part.Expr body.exprs) exprs → FindsWrong world body infer (list_parts part.Pats part.Pat body.pats) pats → FindsWrong world body infer (list_parts part.Bindings part.Binding body.bindings) bindings → FindsWrong world body infer (part.Labels ∷ part.Rest ∷ []) rest
      → FindsWrong world body infer (parts_of body) (option_or exprs (option_or pats (option_or bindings rest)))
  parts_found exprs pats bindings rest e p b r =
      four Right (list_parts part.Exprs part.Expr body.exprs) (list_parts part.Pats part.Pat body.pats) (list_parts part.Bindings part.Binding body.bindings) (part.Labels ∷ part.Rest ∷ []) exprs pats bindings rest e p b r

  -- where no part is wrong, each is right, and a node that the body doesn't have is asked nothing
  pub each_right : FindsWrong world body infer (parts_of body) None → (part : BodyPart) → is_part_right world body infer part ≡ true
  each_right clear = by
    where
      exprs : List BodyPart
      exprs = list_parts part.Exprs part.Expr body.exprs

      pats : List BodyPart
      pats = list_parts part.Pats part.Pat body.pats

      bindings : List BodyPart
      bindings = list_parts part.Bindings part.Binding body.bindings

      rest : List BodyPart
      rest = part.Labels ∷ part.Rest ∷ []

      first : FindsFailing Right exprs None × FindsFailing Right (pats ++ (bindings ++ rest)) None
      first = apart Right exprs (pats ++ (bindings ++ rest)) clear

      second : FindsFailing Right pats None × FindsFailing Right (bindings ++ rest) None
      second = apart Right pats (bindings ++ rest) first.1

      third : FindsFailing Right bindings None × FindsFailing Right rest None
      third = apart Right bindings rest second.1

      by : (part : BodyPart) → is_part_right world body infer part ≡ true
      by part.Exprs = (head Right part.Exprs (numbered part.Expr 0 body.exprs) first.0).0
      by (part.Expr e) = entry Right part.Expr e body.exprs (head Right part.Exprs (numbered part.Expr 0 body.exprs) first.0).1 (λ none. ap (if_there (is_expr_in_range body)) none)
      by part.Pats = (head Right part.Pats (numbered part.Pat 0 body.pats) second.0).0
      by (part.Pat p) = entry Right part.Pat p body.pats (head Right part.Pats (numbered part.Pat 0 body.pats) second.0).1 (λ none. ap (if_there (is_pat_in_range body)) none)
      by part.Bindings = (head Right part.Bindings (numbered part.Binding 0 body.bindings) third.0).0
      by (part.Binding i) = entry Right part.Binding i body.bindings (head Right part.Bindings (numbered part.Binding 0 body.bindings) third.0).1 (λ none. ap (if_there (is_binding_in_range body)) none)
      by part.Labels = (head Right part.Labels (part.Rest ∷ []) third.1).0
      by part.Rest = (head Right part.Rest [] (head Right part.Labels (part.Rest ∷ []) third.1).1).0
