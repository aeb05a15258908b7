-- The parts of a typed body, in the order of a body's fields, and what the check asks of each: that ids are in range, lists short enough for ids of 32 bits, `char`
-- literals Unicode scalar values, and that each node has one type.
use Rattle.std.specs.Prelude.{◌≡◌, ℕ, ◌&&◌, Bool, true, List, [], ◌∷◌, ◌++◌, length, Option, Some, None, slice_get}
use Rattle.std.specs.List.{list_all}
use Rattle.types.specs.declared.ids.PatId.{PatId}
use Rattle.world.specs.declared.body.Body.{Body}
use Rattle.world.specs.declared.database.HirDatabase.{HirDatabase}
use Rattle.world.specs.declared.infer.InferenceResult.{InferenceResult}
use Rattle.check_names.specs.Known.{is_in_range, is_nameable}
use Rattle.check_trees.specs.First.{FindsFailing, numbered}
use Rattle.check_ids.specs.declared.part.BodyPart.{BodyPart}
use Rattle.check_ids.specs.declared.part.BodyPart.TheVariants as part
use Rattle.check_ids.specs.Inferred.{is_inferred_right}
use Rattle.check_ids.specs.Nodes.{is_binding_in_range, is_binding_known, is_expr_in_range, is_pat_in_range}

-- an optional element passes where there is none, or by the test
abbrev pub if_there : {X : Type 0} → (X → Bool) → Option X → Bool
if_there test None = true
if_there test (Some x) = test x

-- the ids of the parameters, of `self` and of the root are in range
abbrev pub are_roots_known : Body → Bool
are_roots_known body =
    list_all (λ (id : PatId). is_in_range body.pats id.0) body.params
    && is_binding_known body body.self_param
    && is_in_range body.exprs body.body_expr.0

-- what is asked of a part; a node that the body doesn't have passes
abbrev pub is_part_right : HirDatabase → Body → InferenceResult → BodyPart → Bool
is_part_right world body infer part.Exprs = is_nameable (length body.exprs)
is_part_right world body infer (part.Expr e) = if_there (is_expr_in_range body) (slice_get body.exprs e)
is_part_right world body infer part.Pats = is_nameable (length body.pats)
is_part_right world body infer (part.Pat p) = if_there (is_pat_in_range body) (slice_get body.pats p)
is_part_right world body infer part.Bindings = is_nameable (length body.bindings)
is_part_right world body infer (part.Binding i) = if_there (is_binding_in_range body) (slice_get body.bindings i)
is_part_right world body infer part.Labels = is_nameable (length body.labels)
is_part_right world body infer part.Rest = are_roots_known body && is_inferred_right world body infer

-- a list as a whole, then each of its nodes
abbrev pub list_parts : {X : Type 0} → BodyPart → (ℕ → BodyPart) → List X → List BodyPart
list_parts whole at nodes = whole ∷ numbered at 0 nodes

-- all parts of a body; of labels only the list is one
abbrev pub parts_of : Body → List BodyPart
parts_of body =
    list_parts part.Exprs part.Expr body.exprs
    ++ (list_parts part.Pats part.Pat body.pats
    ++ (list_parts part.Bindings part.Binding body.bindings
    ++ (part.Labels ∷ part.Rest ∷ [])))

-- what a search among some parts finds: the first that isn't right, or none where all are
abbrev pub FindsWrong : HirDatabase → Body → InferenceResult → List BodyPart → Option BodyPart → Type 0
FindsWrong world body infer parts found = FindsFailing (λ part. is_part_right world body infer part ≡ true) parts found
