-- Tables, bodies and results of inference with nothing in them.
use Rattle.std.specs.Prelude.{[], None, false}
use Rattle.types.specs.declared.ids.ExprId.{ExprId}
use Rattle.world.specs.declared.body.Body.{Body}
use Rattle.world.specs.declared.database.HirDatabase.{HirDatabase}
use Rattle.world.specs.declared.infer.InferenceResult.{InferenceResult}

-- a body of no nodes
abbrev pub empty_body : ExprId → Body
empty_body root = record {
  exprs = [];
  pats = [];
  bindings = [];
  labels = [];
  params = [];
  self_param = None;
  body_expr = root;
}

-- what inference found of no nodes
abbrev pub empty_infer : InferenceResult
empty_infer = record {
  expr_types = [];
  pat_types = [];
  binding_types = [];
  expr_adjustments = [];
  pat_adjustments = [];
  value_res = [];
  pat_value_res = [];
  assoc_res = [];
  pat_assoc_res = [];
  variant_res = [];
  pat_variant_res = [];
  field_res = [];
  method_res = [];
  binding_modes = [];
  coercion_casts = [];
  diverging = [];
  copy_types = [];
  erroneous = false;
  mismatches = [];
}

-- a world of no rows
abbrev pub empty_world : HirDatabase
empty_world = record {
  crates = [];
  functions = [];
  consts = [];
  statics = [];
  structs = [];
  unions = [];
  enums = [];
  variants = [];
  traits = [];
  aliases = [];
  type_params = [];
  const_params = [];
  closures = [];
  bodies = [];
  layouts = [];
  normals = [];
  impls = [];
  const_impls = [];
  drop_fn = None;
  deref_fn = None;
  deref_mut_fn = None;
  call_fn = None;
  call_mut_fn = None;
  call_once_fn = None;
}
