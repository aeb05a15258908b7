-- Readers of inference results.
use Rattle.std.specs.Prelude.{ℕ, Bool, List, [], ◌∷◌, Option, Ok, codes, false}
use Rattle.std.specs.Ordering.{nat_cmp}
use Rattle.serde_json.specs.Data.{Data}
use Rattle.either.specs.declared.Either.{Either}
use Rattle.types.specs.declared.ids.ExprId.{ExprId}
use Rattle.types.specs.declared.ids.FieldId.{FieldId}
use Rattle.types.specs.declared.ids.PatId.{PatId}
use Rattle.types.specs.declared.ids.TupleFieldId.{TupleFieldId}
use Rattle.types.specs.declared.ids.VariantId.{VariantId}
use Rattle.types.specs.declared.ty.Ty.{Ty}
use Rattle.world.specs.declared.adjust.Adjustment.{Adjustment}
use Rattle.world.specs.declared.infer.AssocRes.{AssocRes}
use Rattle.world.specs.declared.infer.BindingMode.TheVariants as the_binding_mode
use Rattle.world.specs.declared.infer.BindingMode.{BindingMode}
use Rattle.world.specs.declared.infer.CandidateId.TheVariants as the_candidate_id
use Rattle.world.specs.declared.infer.CandidateId.{CandidateId}
use Rattle.world.specs.declared.infer.InferenceResult.{InferenceResult}
use Rattle.world.specs.declared.infer.MethodRes.{MethodRes}
use Rattle.world.specs.declared.infer.ValueNs.TheVariants as the_value_ns
use Rattle.world.specs.declared.infer.ValueNs.{ValueNs}
use Rattle.json_items.specs.Adjusts.{adjustment_of}
use Rattle.json_kit.specs.Choices.{either_of}
use Rattle.json_kit.specs.Fit.{Fit, ◌>>=◌}
use Rattle.json_types.specs.Ids.{binding_id_of, const_id_of, const_param_id_of, enum_variant_id_of, expr_id_of, field_id_of, function_id_of, pat_id_of, static_id_of, struct_id_of, tuple_field_id_of, variant_id_of}
use Rattle.json_kit.specs.Keys.{members_of, optional, required, with_no_other}
use Rattle.json_types.specs.Kinds.{mutability_of}
use Rattle.json_kit.specs.Maps.{map_of}
use Rattle.json_kit.specs.Parts.{list_of, pair_of}
use Rattle.json_kit.specs.Scalars.{bool_of, u32_of}
use Rattle.json_types.specs.Types.{generic_args_of, ty_of}
use Rattle.json_kit.specs.Variants.{Named, enum_of, first_of, payload, unit}

unfoldable pub candidate_id_of : Data → Fit CandidateId
candidate_id_of = enum_of (payload (codes "ConstId") const_id_of the_candidate_id.ConstId ∷ payload (codes "FunctionId") function_id_of the_candidate_id.FunctionId ∷ [])

unfoldable pub assoc_res_of : Data → Fit AssocRes
assoc_res_of d = do
  ms ← members_of d
  def ← required (codes "def") candidate_id_of d
  args ← optional (record { 0 = [] }) (codes "args") generic_args_of d
  with_no_other (codes "def" ∷ codes "args" ∷ []) ms (record { def = def; args = args })

unfoldable pub method_res_of : Data → Fit MethodRes
method_res_of d = do
  ms ← members_of d
  function ← required (codes "function") function_id_of d
  args ← optional (record { 0 = [] }) (codes "args") generic_args_of d
  with_no_other (codes "function" ∷ codes "args" ∷ []) ms (record { function = function; args = args })

unfoldable pub item_value_ns_of : Named → Fit (Option ValueNs)
item_value_ns_of = first_of (payload (codes "LocalBinding") binding_id_of the_value_ns.LocalBinding ∷ payload (codes "FunctionId") function_id_of the_value_ns.FunctionId ∷ payload (codes "ConstId") const_id_of the_value_ns.ConstId ∷ payload (codes "StaticId") static_id_of the_value_ns.StaticId ∷ [])

unfoldable pub data_value_ns_of : Named → Fit (Option ValueNs)
data_value_ns_of = first_of (payload (codes "StructId") struct_id_of the_value_ns.StructId ∷ payload (codes "EnumVariantId") enum_variant_id_of the_value_ns.EnumVariantId ∷ payload (codes "GenericParam") const_param_id_of the_value_ns.GenericParam ∷ unit (codes "ImplSelf") the_value_ns.ImplSelf ∷ [])

unfoldable pub value_ns_of : Data → Fit ValueNs
value_ns_of = enum_of (item_value_ns_of ∷ data_value_ns_of ∷ [])

unfoldable pub binding_mode_of : Data → Fit BindingMode
binding_mode_of = enum_of (unit (codes "Move") the_binding_mode.Move ∷ payload (codes "Ref") mutability_of the_binding_mode.Ref ∷ [])

-- the types of expressions, patterns and bindings
unfoldable pub inference_result_node_types_of : Data → Fit ((List Ty) × (List Ty) × (List Ty))
inference_result_node_types_of d = do
  expr_types ← optional [] (codes "expr_types") (list_of ty_of) d
  pat_types ← optional [] (codes "pat_types") (list_of ty_of) d
  binding_types ← optional [] (codes "binding_types") (list_of ty_of) d
  Ok (expr_types, pat_types, binding_types)

-- the adjustments of expressions and patterns
unfoldable pub inference_result_adjustments_of : Data → Fit ((List (ExprId × (List Adjustment))) × (List (PatId × ℕ)))
inference_result_adjustments_of d = do
  expr_adjustments ← optional [] (codes "expr_adjustments") (map_of (λ (x : ExprId) (y : ExprId). nat_cmp x.0 y.0) (pair_of expr_id_of (list_of adjustment_of))) d
  pat_adjustments ← optional [] (codes "pat_adjustments") (map_of (λ (x : PatId) (y : PatId). nat_cmp x.0 y.0) (pair_of pat_id_of u32_of)) d
  Ok (expr_adjustments, pat_adjustments)

-- the resolutions of paths
unfoldable pub inference_result_values_of : Data → Fit ((List (ExprId × ValueNs)) × (List (PatId × ValueNs)) × (List (ExprId × AssocRes)) × (List (PatId × AssocRes)))
inference_result_values_of d = do
  value_res ← optional [] (codes "value_res") (map_of (λ (x : ExprId) (y : ExprId). nat_cmp x.0 y.0) (pair_of expr_id_of value_ns_of)) d
  pat_value_res ← optional [] (codes "pat_value_res") (map_of (λ (x : PatId) (y : PatId). nat_cmp x.0 y.0) (pair_of pat_id_of value_ns_of)) d
  assoc_res ← optional [] (codes "assoc_res") (map_of (λ (x : ExprId) (y : ExprId). nat_cmp x.0 y.0) (pair_of expr_id_of assoc_res_of)) d
  pat_assoc_res ← optional [] (codes "pat_assoc_res") (map_of (λ (x : PatId) (y : PatId). nat_cmp x.0 y.0) (pair_of pat_id_of assoc_res_of)) d
  Ok (value_res, pat_value_res, assoc_res, pat_assoc_res)

-- the resolutions of variants, fields and methods
unfoldable pub inference_result_members_of : Data → Fit ((List (ExprId × VariantId)) × (List (PatId × VariantId)) × (List (ExprId × (Either FieldId TupleFieldId))) × (List (ExprId × MethodRes)))
inference_result_members_of d = do
  variant_res ← optional [] (codes "variant_res") (map_of (λ (x : ExprId) (y : ExprId). nat_cmp x.0 y.0) (pair_of expr_id_of variant_id_of)) d
  pat_variant_res ← optional [] (codes "pat_variant_res") (map_of (λ (x : PatId) (y : PatId). nat_cmp x.0 y.0) (pair_of pat_id_of variant_id_of)) d
  field_res ← optional [] (codes "field_res") (map_of (λ (x : ExprId) (y : ExprId). nat_cmp x.0 y.0) (pair_of expr_id_of (either_of field_id_of tuple_field_id_of))) d
  method_res ← optional [] (codes "method_res") (map_of (λ (x : ExprId) (y : ExprId). nat_cmp x.0 y.0) (pair_of expr_id_of method_res_of)) d
  Ok (variant_res, pat_variant_res, field_res, method_res)

-- the binding modes, the casts that are coercions, and the expressions that diverge
unfoldable pub inference_result_marks_of : Data → Fit ((List (PatId × BindingMode)) × (List ExprId) × (List ExprId))
inference_result_marks_of d = do
  binding_modes ← optional [] (codes "binding_modes") (map_of (λ (x : PatId) (y : PatId). nat_cmp x.0 y.0) (pair_of pat_id_of binding_mode_of)) d
  coercion_casts ← optional [] (codes "coercion_casts") (list_of expr_id_of) d
  diverging ← optional [] (codes "diverging") (list_of expr_id_of) d
  Ok (binding_modes, coercion_casts, diverging)

-- the types that are `Copy`, and the errors of inference
unfoldable pub inference_result_judgements_of : Data → Fit ((List Ty) × Bool × (List ExprId))
inference_result_judgements_of d = do
  copy_types ← optional [] (codes "copy_types") (list_of ty_of) d
  erroneous ← optional false (codes "erroneous") bool_of d
  mismatches ← optional [] (codes "mismatches") (list_of expr_id_of) d
  Ok (copy_types, erroneous, mismatches)

unfoldable pub inference_result_of : Data → Fit InferenceResult
inference_result_of d = do
  ms ← members_of d
  node_types ← inference_result_node_types_of d
  adjustments ← inference_result_adjustments_of d
  values ← inference_result_values_of d
  members ← inference_result_members_of d
  marks ← inference_result_marks_of d
  judgements ← inference_result_judgements_of d
  with_no_other (codes "expr_types" ∷ codes "pat_types" ∷ codes "binding_types" ∷ codes "expr_adjustments" ∷ codes "pat_adjustments" ∷ codes "value_res" ∷ codes "pat_value_res" ∷ codes "assoc_res" ∷ codes "pat_assoc_res" ∷ codes "variant_res" ∷ codes "pat_variant_res" ∷ codes "field_res" ∷ codes "method_res" ∷ codes "binding_modes" ∷ codes "coercion_casts" ∷ codes "diverging" ∷ codes "copy_types" ∷ codes "erroneous" ∷ codes "mismatches" ∷ []) ms (record { expr_types = node_types.0; pat_types = node_types.1; binding_types = node_types.2; expr_adjustments = adjustments.0; pat_adjustments = adjustments.1; value_res = values.0; pat_value_res = values.1; assoc_res = values.2; pat_assoc_res = values.3; variant_res = members.0; pat_variant_res = members.1; field_res = members.2; method_res = members.3; binding_modes = marks.0; coercion_casts = marks.1; diverging = marks.2; copy_types = judgements.0; erroneous = judgements.1; mismatches = judgements.2 })
