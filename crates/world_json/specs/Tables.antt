-- Readers of the world's tables.
use Rattle.std.specs.Prelude.{ℕ, List, [], ◌∷◌, Option, None, Ok, codes}
use Rattle.serde_json.specs.Data.{Data}
use Rattle.types.specs.declared.ids.AliasId.{AliasId}
use Rattle.types.specs.declared.ids.FunctionId.{FunctionId}
use Rattle.types.specs.declared.ty.GenericArgs.{GenericArgs}
use Rattle.types.specs.declared.ty.Ty.{Ty}
use Rattle.world.specs.declared.closures.ClosureRow.{ClosureRow}
use Rattle.world.specs.declared.database.BodyRow.{BodyRow}
use Rattle.world.specs.declared.database.HirDatabase.{HirDatabase}
use Rattle.world.specs.declared.impls.ConstImplRow.{ConstImplRow}
use Rattle.world.specs.declared.impls.ImplRow.{ImplRow}
use Rattle.world.specs.declared.items.ConstParamRow.{ConstParamRow}
use Rattle.world.specs.declared.items.ConstRow.{ConstRow}
use Rattle.world.specs.declared.items.CrateRow.{CrateRow}
use Rattle.world.specs.declared.items.EnumRow.{EnumRow}
use Rattle.world.specs.declared.items.FunctionRow.{FunctionRow}
use Rattle.world.specs.declared.items.StaticRow.{StaticRow}
use Rattle.world.specs.declared.items.StructRow.{StructRow}
use Rattle.world.specs.declared.items.VariantRow.{VariantRow}
use Rattle.world.specs.declared.layout.Layout.{Layout}
use Rattle.json_bodies.specs.Bodies.{body_of}
use Rattle.json_items.specs.Closures.{closure_row_of}
use Rattle.json_kit.specs.Fit.{Fit, ◌>>=◌}
use Rattle.json_types.specs.Ids.{alias_id_of, function_id_of}
use Rattle.json_items.specs.Impls.{const_impl_row_of, impl_row_of}
use Rattle.json_items.specs.Inference.{inference_result_of}
use Rattle.json_items.specs.Items.{const_param_row_of, const_row_of, crate_row_of, enum_row_of, function_row_of, static_row_of, struct_row_of, variant_row_of}
use Rattle.json_kit.specs.Keys.{members_of, optional, required, with_no_other}
use Rattle.json_items.specs.Layouts.{layout_of}
use Rattle.json_kit.specs.Parts.{list_of, option_of, pair_of, triple_of}
use Rattle.json_kit.specs.Scalars.{text_of}
use Rattle.json_types.specs.Types.{generic_args_of, ty_of}

unfoldable pub body_row_of : Data → Fit BodyRow
body_row_of d = do
  ms ← members_of d
  body ← required (codes "body") body_of d
  infer ← required (codes "infer") inference_result_of d
  with_no_other (codes "body" ∷ codes "infer" ∷ []) ms (record { body = body; infer = infer })

-- crates, functions, constants and statics
unfoldable pub hir_database_items_of : Data → Fit ((List CrateRow) × (List FunctionRow) × (List ConstRow) × (List StaticRow))
hir_database_items_of d = do
  crates ← optional [] (codes "crates") (list_of crate_row_of) d
  functions ← optional [] (codes "functions") (list_of function_row_of) d
  consts ← optional [] (codes "consts") (list_of const_row_of) d
  statics ← optional [] (codes "statics") (list_of static_row_of) d
  Ok (crates, functions, consts, statics)

-- structs, unions, enums and variants
unfoldable pub hir_database_adts_of : Data → Fit ((List StructRow) × (List StructRow) × (List EnumRow) × (List VariantRow))
hir_database_adts_of d = do
  structs ← optional [] (codes "structs") (list_of struct_row_of) d
  unions ← optional [] (codes "unions") (list_of struct_row_of) d
  enums ← optional [] (codes "enums") (list_of enum_row_of) d
  variants ← optional [] (codes "variants") (list_of variant_row_of) d
  Ok (structs, unions, enums, variants)

-- traits, aliases and generic parameters
unfoldable pub hir_database_names_of : Data → Fit ((List (List ℕ)) × (List (List ℕ)) × (List (List ℕ)) × (List ConstParamRow))
hir_database_names_of d = do
  traits ← optional [] (codes "traits") (list_of text_of) d
  aliases ← optional [] (codes "aliases") (list_of text_of) d
  type_params ← optional [] (codes "type_params") (list_of text_of) d
  const_params ← optional [] (codes "const_params") (list_of const_param_row_of) d
  Ok (traits, aliases, type_params, const_params)

-- closures, bodies and layouts
unfoldable pub hir_database_bodies_of : Data → Fit ((List ClosureRow) × (List BodyRow) × (List (Ty × Layout)))
hir_database_bodies_of d = do
  closures ← optional [] (codes "closures") (list_of closure_row_of) d
  bodies ← optional [] (codes "bodies") (list_of body_row_of) d
  layouts ← optional [] (codes "layouts") (list_of (pair_of ty_of layout_of)) d
  Ok (closures, bodies, layouts)

-- normalized types and resolved impl items
unfoldable pub hir_database_choices_of : Data → Fit ((List (AliasId × GenericArgs × Ty)) × (List ImplRow) × (List ConstImplRow))
hir_database_choices_of d = do
  normals ← optional [] (codes "normals") (list_of (triple_of alias_id_of generic_args_of ty_of)) d
  impls ← optional [] (codes "impls") (list_of impl_row_of) d
  const_impls ← optional [] (codes "const_impls") (list_of const_impl_row_of) d
  Ok (normals, impls, const_impls)

-- the functions of `Drop`, `Deref` and `DerefMut`
unfoldable pub hir_database_dereferences_of : Data → Fit ((Option FunctionId) × (Option FunctionId) × (Option FunctionId))
hir_database_dereferences_of d = do
  drop_fn ← optional None (codes "drop_fn") (option_of function_id_of) d
  deref_fn ← optional None (codes "deref_fn") (option_of function_id_of) d
  deref_mut_fn ← optional None (codes "deref_mut_fn") (option_of function_id_of) d
  Ok (drop_fn, deref_fn, deref_mut_fn)

-- the functions of `Fn`, `FnMut` and `FnOnce`
unfoldable pub hir_database_calls_of : Data → Fit ((Option FunctionId) × (Option FunctionId) × (Option FunctionId))
hir_database_calls_of d = do
  call_fn ← optional None (codes "call_fn") (option_of function_id_of) d
  call_mut_fn ← optional None (codes "call_mut_fn") (option_of function_id_of) d
  call_once_fn ← optional None (codes "call_once_fn") (option_of function_id_of) d
  Ok (call_fn, call_mut_fn, call_once_fn)

-- crates, functions, constants, statics, structs, unions, enums and variants
unfoldable pub hir_database_definitions_of : Data → Fit (((List CrateRow) × (List FunctionRow) × (List ConstRow) × (List StaticRow)) × ((List StructRow) × (List StructRow) × (List EnumRow) × (List VariantRow)))
hir_database_definitions_of d = do
  items ← hir_database_items_of d
  adts ← hir_database_adts_of d
  Ok (items, adts)

-- normalized types, resolved impl items and the lang functions
unfoldable pub hir_database_meanings_of : Data → Fit (((List (AliasId × GenericArgs × Ty)) × (List ImplRow) × (List ConstImplRow)) × ((Option FunctionId) × (Option FunctionId) × (Option FunctionId)) × ((Option FunctionId) × (Option FunctionId) × (Option FunctionId)))
hir_database_meanings_of d = do
  choices ← hir_database_choices_of d
  dereferences ← hir_database_dereferences_of d
  calls ← hir_database_calls_of d
  Ok (choices, dereferences, calls)

unfoldable pub hir_database_of : Data → Fit HirDatabase
hir_database_of d = do
  ms ← members_of d
  definitions ← hir_database_definitions_of d
  names ← hir_database_names_of d
  bodies ← hir_database_bodies_of d
  meanings ← hir_database_meanings_of d
  with_no_other (codes "crates" ∷ codes "functions" ∷ codes "consts" ∷ codes "statics" ∷ codes "structs" ∷ codes "unions" ∷ codes "enums" ∷ codes "variants" ∷ codes "traits" ∷ codes "aliases" ∷ codes "type_params" ∷ codes "const_params" ∷ codes "closures" ∷ codes "bodies" ∷ codes "layouts" ∷ codes "normals" ∷ codes "impls" ∷ codes "const_impls" ∷ codes "drop_fn" ∷ codes "deref_fn" ∷ codes "deref_mut_fn" ∷ codes "call_fn" ∷ codes "call_mut_fn" ∷ codes "call_once_fn" ∷ []) ms (record { crates = definitions.0.0; functions = definitions.0.1; consts = definitions.0.2; statics = definitions.0.3; structs = definitions.1.0; unions = definitions.1.1; enums = definitions.1.2; variants = definitions.1.3; traits = names.0; aliases = names.1; type_params = names.2; const_params = names.3; closures = bodies.0; bodies = bodies.1; layouts = bodies.2; normals = meanings.0.0; impls = meanings.0.1; const_impls = meanings.0.2; drop_fn = meanings.1.0; deref_fn = meanings.1.1; deref_mut_fn = meanings.1.2; call_fn = meanings.2.0; call_mut_fn = meanings.2.1; call_once_fn = meanings.2.2 })
