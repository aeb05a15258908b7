use Rattle.std.proofs.Common.{◌≡◌, ◌+◌, ◌*◌, option_map}
use Rattle.serde_json.specs.Data.{depth}
use Rattle.serde_json.specs.View.{view, items_view}
use Rattle.json_kit.specs.Parts.{items_from}
use Rattle.json_types.specs.Types.{ty_of, const_of, generic_arg_by, trait_ref_by}
use Rattle.json_kit.proofs.Arrays.{with_front, rest_from}
use Rattle.json_types.proofs.TypeLayers.{payload_size}
use Rattle.json_types.proofs.ty.+types.Given as goal

abbrev pub decreases-ty : goal.decreases-ty
decreases-ty l = 4 * depth (view l.tree.now) + 2

abbrev pub decreases-layer : goal.decreases-layer
decreases-layer l = 4 * depth (view l.tree.now) + 1

abbrev pub decreases-ty_and_const : goal.decreases-ty_and_const
decreases-ty_and_const l = 4 * depth (view l.tree.now) + 1

abbrev pub decreases-target : goal.decreases-target
decreases-target l = 4 * depth (view l.tree.now) + 1

abbrev pub decreases-adt : goal.decreases-adt
decreases-adt l = 4 * depth (view l.tree.now) + 1

abbrev pub decreases-fn_def : goal.decreases-fn_def
decreases-fn_def l = 4 * depth (view l.tree.now) + 1

abbrev pub decreases-closure : goal.decreases-closure
decreases-closure l = 4 * depth (view l.tree.now) + 1

abbrev pub decreases-alias : goal.decreases-alias
decreases-alias l = 4 * depth (view l.tree.now) + 1

abbrev pub decreases-signature : goal.decreases-signature
decreases-signature l = 4 * depth (view l.tree.now) + 1

abbrev pub decreases-tys : goal.decreases-tys
decreases-tys l = 4 * depth (view l.tree.now) + 1

abbrev pub decreases-trait_refs : goal.decreases-trait_refs
decreases-trait_refs l = 4 * depth (view l.tree.now) + 1

abbrev pub decreases-generic_arg_list : goal.decreases-generic_arg_list
decreases-generic_arg_list l = 4 * depth (view l.tree.now) + 1

abbrev pub decreases-generic_args : goal.decreases-generic_args
decreases-generic_args l = 4 * depth (view l.tree.now) + 2

abbrev pub decreases-generic_arg : goal.decreases-generic_arg
decreases-generic_arg l = 4 * depth (view l.tree.now) + 1

abbrev pub decreases-args : goal.decreases-args
decreases-args l = 4 * depth (view l.tree.now) + 1

abbrev pub decreases-trait_ref : goal.decreases-trait_ref
decreases-trait_ref l = 4 * depth (view l.tree.now) + 2

abbrev pub decreases-konst : goal.decreases-konst
decreases-konst l = 4 * depth (view l.tree.now) + 2

abbrev pub decreases-const_layer : goal.decreases-const_layer
decreases-const_layer l = 4 * depth (view l.tree.now) + 1

abbrev pub decreases-value_const : goal.decreases-value_const
decreases-value_const l = 4 * depth (view l.tree.now) + 1

abbrev pub decreases-unevaluated_const : goal.decreases-unevaluated_const
decreases-unevaluated_const l = 4 * depth (view l.tree.now) + 2

abbrev pub decreases-memory_map : goal.decreases-memory_map
decreases-memory_map l = 4 * depth (view l.tree.now) + 1

abbrev pub decreases-vtable : goal.decreases-vtable
decreases-vtable l = 4 * depth (view l.tree.now) + 1

abbrev pub decreases-complex_memory_map : goal.decreases-complex_memory_map
decreases-complex_memory_map l = 4 * depth (view l.tree.now) + 2

abbrev pub decreases-pointing_ty : goal.decreases-pointing_ty
decreases-pointing_ty l = payload_size (option_map (λ part. view part.now) l.variant.now.payload)

abbrev pub decreases-item_ty : goal.decreases-item_ty
decreases-item_ty l = payload_size (option_map (λ part. view part.now) l.variant.now.payload)

abbrev pub decreases-listing_ty : goal.decreases-listing_ty
decreases-listing_ty l = payload_size (option_map (λ part. view part.now) l.variant.now.payload)

abbrev pub invariant-tys-loop-place : goal.invariant-tys-loop-place
invariant-tys-loop-place l = with_front ty_of l.list (rest_from ty_of l.items l.place) ≡ items_from ty_of 0 (items_view l.items)

abbrev pub invariant-trait_refs-loop-place : goal.invariant-trait_refs-loop-place
invariant-trait_refs-loop-place l = with_front (trait_ref_by ty_of const_of) l.list (rest_from (trait_ref_by ty_of const_of) l.items l.place) ≡ items_from (trait_ref_by ty_of const_of) 0 (items_view l.items)

abbrev pub invariant-generic_arg_list-loop-place : goal.invariant-generic_arg_list-loop-place
invariant-generic_arg_list-loop-place l = with_front (generic_arg_by ty_of const_of) l.list (rest_from (generic_arg_by ty_of const_of) l.items l.place) ≡ items_from (generic_arg_by ty_of const_of) 0 (items_view l.items)
