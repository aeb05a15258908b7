-- Inference results all of whose ids are in range.
use Rattle.std.specs.Prelude.{ℕ, ◌==◌, ◌&&◌, Bool, true, List, length}
use Rattle.std.specs.List.{list_all}
use Rattle.either.specs.declared.Either.{Either}
use Rattle.either.specs.declared.Either.TheVariants as either
use Rattle.types.specs.declared.ids.ExprId.{ExprId}
use Rattle.types.specs.declared.ids.FieldId.{FieldId}
use Rattle.types.specs.declared.ids.PatId.{PatId}
use Rattle.types.specs.declared.ids.TupleFieldId.{TupleFieldId}
use Rattle.world.specs.declared.adjust.Adjustment.{Adjustment}
use Rattle.world.specs.declared.body.Body.{Body}
use Rattle.world.specs.declared.database.HirDatabase.{HirDatabase}
use Rattle.world.specs.declared.infer.AssocRes.{AssocRes}
use Rattle.world.specs.declared.infer.BindingMode.{BindingMode}
use Rattle.world.specs.declared.infer.CandidateId.{CandidateId}
use Rattle.world.specs.declared.infer.CandidateId.TheVariants as candidate
use Rattle.world.specs.declared.infer.InferenceResult.{InferenceResult}
use Rattle.world.specs.declared.infer.MethodRes.{MethodRes}
use Rattle.world.specs.declared.infer.ValueNs.{ValueNs}
use Rattle.world.specs.declared.infer.ValueNs.TheVariants as value
use Rattle.check_names.specs.Known.{are_args_named, is_field_known, is_in_range, is_ty_named, is_variant_known}

-- each key of a map is an expression of the body, and each value passes the test
abbrev pub are_by_expr : {V : Type 0} → Body → (V → Bool) → List (ExprId × V) → Bool
are_by_expr body test entries = list_all (λ entry. is_in_range body.exprs entry.0.0 && test entry.1) entries

-- each key of a map is a pattern of the body, and each value passes the test
abbrev pub are_by_pat : {V : Type 0} → Body → (V → Bool) → List (PatId × V) → Bool
are_by_pat body test entries = list_all (λ entry. is_in_range body.pats entry.0.0 && test entry.1) entries

abbrev pub are_exprs_known : Body → List ExprId → Bool
are_exprs_known body ids = list_all (λ (id : ExprId). is_in_range body.exprs id.0) ids

abbrev pub are_adjustments_named : HirDatabase → List Adjustment → Bool
are_adjustments_named world steps = list_all (λ (step : Adjustment). is_ty_named world step.target) steps

-- the id in the resolution of a path is in range
abbrev pub is_value_known : HirDatabase → Body → ValueNs → Bool
is_value_known world body (value.LocalBinding id) = is_in_range body.bindings id.0
is_value_known world body (value.FunctionId id) = is_in_range world.functions id.0
is_value_known world body (value.ConstId id) = is_in_range world.consts id.0
is_value_known world body (value.StaticId id) = is_in_range world.statics id.0
is_value_known world body (value.StructId id) = is_in_range world.structs id.0
is_value_known world body (value.EnumVariantId id) = is_in_range world.variants id.0
is_value_known world body (value.GenericParam id) = is_in_range world.const_params id.0
is_value_known world body value.ImplSelf = true

abbrev pub is_candidate_known : HirDatabase → CandidateId → Bool
is_candidate_known world (candidate.ConstId id) = is_in_range world.consts id.0
is_candidate_known world (candidate.FunctionId id) = is_in_range world.functions id.0

abbrev pub is_assoc_named : HirDatabase → AssocRes → Bool
is_assoc_named world found = is_candidate_known world found.def && are_args_named world found.args

abbrev pub is_method_named : HirDatabase → MethodRes → Bool
is_method_named world found = is_in_range world.functions found.function.0 && are_args_named world found.args

-- a field that its struct, union or variant has, or any field of a tuple
abbrev pub is_field_named : HirDatabase → Either FieldId TupleFieldId → Bool
is_field_named world (either.Left field) = is_field_known world field
is_field_named world (either.Right field) = true

-- one type for each expression, pattern and binding
abbrev pub has_type_each : Body → InferenceResult → Bool
has_type_each body infer =
    length infer.expr_types == length body.exprs
    && length infer.pat_types == length body.pats
    && length infer.binding_types == length body.bindings

abbrev pub are_types_named : HirDatabase → InferenceResult → Bool
are_types_named world infer =
    list_all (is_ty_named world) infer.expr_types
    && list_all (is_ty_named world) infer.pat_types
    && list_all (is_ty_named world) infer.binding_types
    && list_all (is_ty_named world) infer.copy_types

abbrev pub are_node_results_named : HirDatabase → Body → InferenceResult → Bool
are_node_results_named world body infer =
    are_by_expr body (are_adjustments_named world) infer.expr_adjustments
    && are_by_pat body (λ (count : ℕ). true) infer.pat_adjustments
    && are_by_pat body (λ (mode : BindingMode). true) infer.binding_modes
    && are_exprs_known body infer.coercion_casts
    && are_exprs_known body infer.diverging
    && are_exprs_known body infer.mismatches

abbrev pub are_values_named : HirDatabase → Body → InferenceResult → Bool
are_values_named world body infer =
    are_by_expr body (is_value_known world body) infer.value_res
    && are_by_pat body (is_value_known world body) infer.pat_value_res
    && are_by_expr body (is_assoc_named world) infer.assoc_res
    && are_by_pat body (is_assoc_named world) infer.pat_assoc_res

abbrev pub are_parts_named : HirDatabase → Body → InferenceResult → Bool
are_parts_named world body infer =
    are_by_expr body (is_variant_known world) infer.variant_res
    && are_by_pat body (is_variant_known world) infer.pat_variant_res
    && are_by_expr body (is_field_named world) infer.field_res
    && are_by_expr body (is_method_named world) infer.method_res

-- an inference result has one type for each node of the body, and all its ids are in range
abbrev pub is_inferred_right : HirDatabase → Body → InferenceResult → Bool
is_inferred_right world body infer =
    has_type_each body infer
    && are_types_named world infer
    && are_node_results_named world body infer
    && are_values_named world body infer
    && are_parts_named world body infer
