-- Rows of the world all of whose ids are in range, and whose lists are short enough for indices of 32 bits.
use Rattle.std.specs.Prelude.{ℕ, ◌&&◌, Bool, true, false, List, length, Option, Some, None}
use Rattle.std.specs.List.{list_all}
use Rattle.std.specs.Option.{option_map}
use Rattle.types.specs.declared.ids.EnumVariantId.{EnumVariantId}
use Rattle.types.specs.declared.ids.FunctionId.{FunctionId}
use Rattle.types.specs.declared.ids.AliasId.{AliasId}
use Rattle.types.specs.declared.ids.GenericParamId.{GenericParamId}
use Rattle.types.specs.declared.ids.TraitId.{TraitId}
use Rattle.types.specs.declared.ty.GenericArgs.{GenericArgs}
use Rattle.types.specs.declared.ty.Ty.{Ty}
use Rattle.world.specs.declared.body.Body.{Body}
use Rattle.world.specs.declared.closures.Capture.{Capture}
use Rattle.world.specs.declared.closures.ClosureRow.{ClosureRow}
use Rattle.world.specs.declared.closures.HirPlaceProjection.{HirPlaceProjection}
use Rattle.world.specs.declared.closures.HirPlaceProjection.TheVariants as projection
use Rattle.world.specs.declared.database.HirDatabase.{HirDatabase}
use Rattle.world.specs.declared.impls.ConstImplRow.{ConstImplRow}
use Rattle.world.specs.declared.impls.ImplRow.{ImplRow}
use Rattle.world.specs.declared.items.ConstParamRow.{ConstParamRow}
use Rattle.world.specs.declared.items.ConstRow.{ConstRow}
use Rattle.world.specs.declared.items.EnumRow.{EnumRow}
use Rattle.world.specs.declared.items.FieldRow.{FieldRow}
use Rattle.world.specs.declared.items.FnSig.{FnSig}
use Rattle.world.specs.declared.items.FunctionRow.{FunctionRow}
use Rattle.world.specs.declared.items.StaticRow.{StaticRow}
use Rattle.world.specs.declared.items.StructRow.{StructRow}
use Rattle.world.specs.declared.items.VariantRow.{VariantRow}
use Rattle.world.specs.declared.layout.Layout.{Layout}
use Rattle.world.specs.declared.layout.Variants.{Variants}
use Rattle.world.specs.declared.layout.Variants.TheVariants as variants
use Rattle.world.specs.Lookups.{body_row}
use Rattle.check_names.specs.Known.{are_args_named, is_def_known, is_field_known, is_in_range, is_nameable, is_param_known, is_ty_named}

-- an optional body is none, or in range
abbrev pub is_body_known : HirDatabase → Option ℕ → Bool
is_body_known world None = true
is_body_known world (Some place) = is_in_range world.bodies place

-- an optional function is none, or in range
abbrev pub is_function_known : HirDatabase → Option FunctionId → Bool
is_function_known world None = true
is_function_known world (Some id) = is_in_range world.functions id.0

-- an optional trait is none, or in range
abbrev pub is_trait_known : HirDatabase → Option TraitId → Bool
is_trait_known world None = true
is_trait_known world (Some id) = is_in_range world.traits id.0

-- the ids of generic parameters are in range, and their list is short enough for indices of 32 bits
abbrev pub are_params_named : HirDatabase → List GenericParamId → Bool
are_params_named world params = is_nameable (length params) && list_all (is_param_known world) params

abbrev pub is_sig_named : HirDatabase → FnSig → Bool
is_sig_named world sig = list_all (is_ty_named world) sig.params && is_ty_named world sig.ret

abbrev pub is_function_named : HirDatabase → FunctionRow → Bool
is_function_named world row =
    is_in_range world.crates row.krate.0
    && is_trait_known world row.in_trait
    && are_params_named world row.generics
    && is_sig_named world row.sig
    && is_body_known world row.body

abbrev pub is_const_named : HirDatabase → ConstRow → Bool
is_const_named world row =
    is_in_range world.crates row.krate.0
    && are_params_named world row.generics
    && is_ty_named world row.ty
    && is_body_known world row.body

abbrev pub is_static_named : HirDatabase → StaticRow → Bool
is_static_named world row =
    is_in_range world.crates row.krate.0
    && is_ty_named world row.ty
    && is_body_known world row.body

-- all ids in the types of fields are in range, and their list is short enough for indices of 32 bits
abbrev pub are_fields_named : HirDatabase → List FieldRow → Bool
are_fields_named world fields = is_nameable (length fields) && list_all (λ (field : FieldRow). is_ty_named world field.ty) fields

-- all ids in the row of a struct or a union are in range, and its list of fields is short enough
abbrev pub is_struct_named : HirDatabase → StructRow → Bool
is_struct_named world row = are_fields_named world row.fields

-- the ids of an enum's variants are in range, and their list is short enough for indices of 32 bits
abbrev pub is_enum_named : HirDatabase → EnumRow → Bool
is_enum_named world row = is_nameable (length row.variants) && list_all (λ (id : EnumVariantId). is_in_range world.variants id.0) row.variants

abbrev pub is_variant_named : HirDatabase → VariantRow → Bool
is_variant_named world row =
    is_in_range world.crates row.krate.0
    && is_in_range world.enums row.parent.0
    && are_fields_named world row.fields
    && is_body_known world row.body

abbrev pub is_const_param_named : HirDatabase → ConstParamRow → Bool
is_const_param_named world row = is_ty_named world row.ty

abbrev pub is_projection_known : HirDatabase → HirPlaceProjection → Bool
is_projection_known world (projection.Field field) = is_field_known world field
is_projection_known world _ = true

-- the binding and the expression of a capture are the body's, and all other ids are in range
abbrev pub is_capture_named : HirDatabase → Body → Capture → Bool
is_capture_named world body capture =
    is_in_range body.bindings capture.local.0
    && list_all (is_projection_known world) capture.projections
    && is_ty_named world capture.ty
    && is_in_range body.exprs capture.span.0

-- the owner of the closure has a body, and the expression and the captures have ids in range for it
abbrev pub is_in_body : HirDatabase → ClosureRow → Option Body → Bool
is_in_body world row None = false
is_in_body world row (Some body) = is_in_range body.exprs row.expr.0 && list_all (is_capture_named world body) row.captures

-- all ids in a closure's row are in range, and its list of captures is short enough for indices of 32 bits
abbrev pub is_closure_named : HirDatabase → ClosureRow → Bool
is_closure_named world row =
    is_def_known world row.owner
    && list_all (is_ty_named world) row.params
    && is_nameable (length row.captures)
    && is_in_body world row (option_map (λ found. found.body) (body_row world row.owner))

-- the lists of a layout with several variants are short enough for indices of 32 bits
abbrev pub are_variants_named : Variants → Bool
are_variants_named (variants.Multiple multiple) = is_nameable (length multiple.variants) && list_all (λ (offsets : List ℕ). is_nameable (length offsets)) multiple.variants
are_variants_named _ = true

-- all ids in a layout's row are in range, and its lists are short enough for indices of 32 bits
abbrev pub is_layout_named : HirDatabase → Ty × Layout → Bool
is_layout_named world row = is_ty_named world row.0 && is_nameable (length row.1.offsets) && are_variants_named row.1.variants

abbrev pub is_normal_named : HirDatabase → AliasId × GenericArgs × Ty → Bool
is_normal_named world row = is_in_range world.aliases row.0.0 && are_args_named world row.1 && is_ty_named world row.2

abbrev pub is_impl_named : HirDatabase → ImplRow → Bool
is_impl_named world row =
    is_in_range world.functions row.function.0
    && are_args_named world row.args
    && is_in_range world.functions row.target.0
    && are_args_named world row.target_args

abbrev pub is_const_impl_named : HirDatabase → ConstImplRow → Bool
is_const_impl_named world row =
    is_in_range world.consts row.konst.0
    && are_args_named world row.args
    && is_in_range world.consts row.target.0
    && are_args_named world row.target_args
