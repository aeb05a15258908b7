use Rattle.std.proofs.Common.{Ok, Err, option_map, codes, arith}
use Rattle.std.proofs.lemmas.Result.{err_from_is_err_and}
use Rattle.serde_json.specs.View.{view, items_view}
use Rattle.json_kit.specs.Fit.{item_step}
use Rattle.json_kit.specs.Parts.{items_from}
use Rattle.json_types.specs.Types.{ty_of, const_of, generic_arg_by, trait_ref_by}
use Rattle.json_kit.proofs.Faults.{inside_gives}
use Rattle.json_kit.proofs.Arrays.{goes_on, ends, is_done}
use Rattle.json_types.proofs.TypeLayers.{part_smaller, get_smaller, part_at_smaller, item_smaller, list_of_items}
use Rattle.json_types.proofs.ty.+types.Goals as goal

pub args-generic_args-requires : goal.args-generic_args-requires
args-generic_args-requires t c =
    let smaller = get_smaller (codes "args") (view c.args.tree.now) (view c.in-Some.part.now) c.in-Some.ensures in
    (omega (arith, c.decreases, smaller), tt)

pub vtable-tys-requires : goal.vtable-tys-requires
vtable-tys-requires t c =
    let smaller = get_smaller (codes "vtable") (view c.args.tree.now) (view c.in-Some.part.now) c.in-Some.ensures in
    (omega (arith, c.decreases, smaller), tt)

pub const_layer-value_const-requires : goal.const_layer-value_const-requires
const_layer-value_const-requires t c =
    let variant = c.in_ok-variant.variant in
    let smaller = part_smaller (view c.args.tree.now) (codes "Value") variant.name.now (option_map (λ part. view part.now) variant.payload) (view c.in-Some.part.now) c.in_ok-variant.ensures c.in-Some.ensures in
    (omega (arith, c.decreases, smaller), tt)

pub const_layer-unevaluated_const-requires : goal.const_layer-unevaluated_const-requires
const_layer-unevaluated_const-requires t c =
    let variant = c.in_ok-variant.variant in
    let smaller = part_smaller (view c.args.tree.now) (codes "Unevaluated") variant.name.now (option_map (λ part. view part.now) variant.payload) (view c.in-Some-part.part.now) c.in_ok-variant.ensures c.in-Some-part.ensures in
    (omega (arith, c.decreases, smaller), tt)

pub generic_arg-konst-requires : goal.generic_arg-konst-requires
generic_arg-konst-requires t c =
    let variant = c.in_ok-variant.variant in
    let smaller = part_smaller (view c.args.tree.now) (codes "Konst") variant.name.now (option_map (λ part. view part.now) variant.payload) (view c.in-Some-part.part.now) c.in_ok-variant.ensures c.in-Some-part.ensures in
    (omega (arith, c.decreases, smaller), tt)

pub memory_map-complex_memory_map-requires : goal.memory_map-complex_memory_map-requires
memory_map-complex_memory_map-requires t c =
    let variant = c.in_ok-variant.variant in
    let smaller = part_smaller (view c.args.tree.now) (codes "Complex") variant.name.now (option_map (λ part. view part.now) variant.payload) (view c.in-Some-part.part.now) c.in_ok-variant.ensures c.in-Some-part.ensures in
    (omega (arith, c.decreases, smaller), tt)

pub value_const-ty-requires : goal.value_const-ty-requires
value_const-ty-requires t c =
    let smaller = part_at_smaller (codes "ty") (view c.args.tree.now) (view c.in_ok-part_at.field-0.now) c.in_ok-part_at.ensures in
    (omega (arith, c.decreases, smaller), tt)

pub value_const-memory_map-requires : goal.value_const-memory_map-requires
value_const-memory_map-requires t c =
    let smaller = part_at_smaller (codes "memory_map") (view c.args.tree.now) (view c.in_ok-map.map.now) c.in_ok-map.ensures in
    (omega (arith, c.decreases, smaller), tt)

pub tys-ty-requires : goal.tys-ty-requires
tys-ty-requires t c =
    let smaller = item_smaller (view c.args.tree.now) c.in_ok-items.items.now c.loop-place.place c.index-items-place.result c.in_ok-items.ensures c.loop-place-test.true c.index-items-place.is in
    (omega (arith, c.decreases, smaller), tt)

pub tys-returns-in_err-x : goal.tys-returns-in_err-x
tys-returns-in_err-x t c =
    let reads = ty_of in
    let p = err_from_is_err_and c.from_residual-in_err-x.result c.from_residual-in_err-x.ensures.1 in
    let items = c.in_ok-items.items.now in
    let v = c.index-items-place.result in
    let seen = inside_gives (item_step c.loop-place.place) c.ty.result (Err c.in_err-x.field-0.0) (reads (view v)) c.in_err-x.ensures c.ty.ensures in
    rw (p.1, p.2, list_of_items reads (view c.args.tree.now) (items_view items) c.in_ok-items.ensures) (ends reads c.in_err-x.field-0.0 c.loop-place.list items c.loop-place.place v (items_from reads 0 (items_view items)) c.loop-place-test.true c.index-items-place.is seen c.loop-place.invariant)

pub tys-loop-place-preserved : goal.tys-loop-place-preserved
tys-loop-place-preserved t c =
    let reads = ty_of in
    let items = c.in_ok-items.items.now in
    let v = c.index-items-place.result in
    let seen = inside_gives (item_step c.loop-place.place) c.ty.result (Ok c.in_ok-x.x) (reads (view v)) c.in_ok-x.ensures c.ty.ensures in
    rw c.in_ok-push.ensures.ok (goes_on reads c.loop-place.list items c.loop-place.place v c.in_ok-x.x (items_from reads 0 (items_view items)) c.loop-place-test.true c.index-items-place.is seen c.loop-place.invariant)

pub tys-returns : goal.tys-returns
tys-returns t c =
    let reads = ty_of in
    let items = c.in_ok-items.items.now in
    rw (list_of_items reads (view c.args.tree.now) (items_view items) c.in_ok-items.ensures) (is_done reads c.loop-place.list items c.loop-place.place (items_from reads 0 (items_view items)) c.loop-place-test.false c.loop-place.invariant)

pub trait_refs-trait_ref-requires : goal.trait_refs-trait_ref-requires
trait_refs-trait_ref-requires t c =
    let smaller = item_smaller (view c.args.tree.now) c.in_ok-items.items.now c.loop-place.place c.index-items-place.result c.in_ok-items.ensures c.loop-place-test.true c.index-items-place.is in
    (omega (arith, c.decreases, smaller), tt)

pub trait_refs-returns-in_err-x : goal.trait_refs-returns-in_err-x
trait_refs-returns-in_err-x t c =
    let reads = trait_ref_by ty_of const_of in
    let p = err_from_is_err_and c.from_residual-in_err-x.result c.from_residual-in_err-x.ensures.1 in
    let items = c.in_ok-items.items.now in
    let v = c.index-items-place.result in
    let seen = inside_gives (item_step c.loop-place.place) c.trait_ref.result (Err c.in_err-x.field-0.0) (reads (view v)) c.in_err-x.ensures c.trait_ref.ensures in
    rw (p.1, p.2, list_of_items reads (view c.args.tree.now) (items_view items) c.in_ok-items.ensures) (ends reads c.in_err-x.field-0.0 c.loop-place.list items c.loop-place.place v (items_from reads 0 (items_view items)) c.loop-place-test.true c.index-items-place.is seen c.loop-place.invariant)

pub trait_refs-loop-place-preserved : goal.trait_refs-loop-place-preserved
trait_refs-loop-place-preserved t c =
    let reads = trait_ref_by ty_of const_of in
    let items = c.in_ok-items.items.now in
    let v = c.index-items-place.result in
    let seen = inside_gives (item_step c.loop-place.place) c.trait_ref.result (Ok c.in_ok-x.x) (reads (view v)) c.in_ok-x.ensures c.trait_ref.ensures in
    rw c.in_ok-push.ensures.ok (goes_on reads c.loop-place.list items c.loop-place.place v c.in_ok-x.x (items_from reads 0 (items_view items)) c.loop-place-test.true c.index-items-place.is seen c.loop-place.invariant)

pub trait_refs-returns : goal.trait_refs-returns
trait_refs-returns t c =
    let reads = trait_ref_by ty_of const_of in
    let items = c.in_ok-items.items.now in
    rw (list_of_items reads (view c.args.tree.now) (items_view items) c.in_ok-items.ensures) (is_done reads c.loop-place.list items c.loop-place.place (items_from reads 0 (items_view items)) c.loop-place-test.false c.loop-place.invariant)

pub generic_arg_list-generic_arg-requires : goal.generic_arg_list-generic_arg-requires
generic_arg_list-generic_arg-requires t c =
    let smaller = item_smaller (view c.args.tree.now) c.in_ok-items.items.now c.loop-place.place c.index-items-place.result c.in_ok-items.ensures c.loop-place-test.true c.index-items-place.is in
    (omega (arith, c.decreases, smaller), tt)

pub generic_arg_list-returns-in_err-x : goal.generic_arg_list-returns-in_err-x
generic_arg_list-returns-in_err-x t c =
    let reads = generic_arg_by ty_of const_of in
    let p = err_from_is_err_and c.from_residual-in_err-x.result c.from_residual-in_err-x.ensures.1 in
    let items = c.in_ok-items.items.now in
    let v = c.index-items-place.result in
    let seen = inside_gives (item_step c.loop-place.place) c.generic_arg.result (Err c.in_err-x.field-0.0) (reads (view v)) c.in_err-x.ensures c.generic_arg.ensures in
    rw (p.1, p.2, list_of_items reads (view c.args.tree.now) (items_view items) c.in_ok-items.ensures) (ends reads c.in_err-x.field-0.0 c.loop-place.list items c.loop-place.place v (items_from reads 0 (items_view items)) c.loop-place-test.true c.index-items-place.is seen c.loop-place.invariant)

pub generic_arg_list-loop-place-preserved : goal.generic_arg_list-loop-place-preserved
generic_arg_list-loop-place-preserved t c =
    let reads = generic_arg_by ty_of const_of in
    let items = c.in_ok-items.items.now in
    let v = c.index-items-place.result in
    let seen = inside_gives (item_step c.loop-place.place) c.generic_arg.result (Ok c.in_ok-x.x) (reads (view v)) c.in_ok-x.ensures c.generic_arg.ensures in
    rw c.in_ok-push.ensures.ok (goes_on reads c.loop-place.list items c.loop-place.place v c.in_ok-x.x (items_from reads 0 (items_view items)) c.loop-place-test.true c.index-items-place.is seen c.loop-place.invariant)

pub generic_arg_list-returns : goal.generic_arg_list-returns
generic_arg_list-returns t c =
    let reads = generic_arg_by ty_of const_of in
    let items = c.in_ok-items.items.now in
    rw (list_of_items reads (view c.args.tree.now) (items_view items) c.in_ok-items.ensures) (is_done reads c.loop-place.list items c.loop-place.place (items_from reads 0 (items_view items)) c.loop-place-test.false c.loop-place.invariant)
