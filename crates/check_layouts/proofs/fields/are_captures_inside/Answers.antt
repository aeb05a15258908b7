use Rattle.std.proofs.Common.{ℕ, length, Option, None, refl, sym, ◌∙◌, subst, arith}
use Rattle.std.proofs.lemmas.Bool.Decides.{not_from_Decides}
use Rattle.std.proofs.lemmas.Option.{slice_get_read}
use Rattle.std.specs.List.{AllZip}
use Rattle.check_layouts.specs.Laid.{AreCaptured, capture_type}
use Rattle.check_layouts.specs.Sizes.{layout_above}
use Rattle.check_layouts.specs.inner.Places.{IsFixed}
use Rattle.world.specs.declared.closures.Capture.{Capture}
use Rattle.check_layouts.proofs.Deciding.{no, yes}
use Rattle.check_layouts.proofs.Found.{none_found}
use Rattle.check_layouts.proofs.Kept.{kept_at}
use Rattle.check_layouts.proofs.Placed.{captured_of, of_captured, part_decides, part_fails, part_next, parts_end}
use Rattle.check_layouts.proofs.fields.are_captures_inside.Goals as goal

pub returns-then-not-is_part_inside : goal.returns-then-not-is_part_inside
returns-then-not-is_part_inside c =
    let look = layout_above c.args.db.now c.args.i in
    let decides = part_decides look c.args.size c.copied-offset.result c.in_ok-part.part (capture_type c.args.db.now c.args.args.now c.index-items-k.result) c.is_part_inside.result c.in_ok-part.ensures.size c.is_part_inside.ensures in
    no (λ all. part_fails look c.args.size c.args.offsets.now (capture_type c.args.db.now c.args.args.now) c.as_slice-items.result.now c.loop-k.k c.index-items-k.result c.copied-offset.result (c.copied-offset.ensures ∙ c.get.ensures) c.loop-k-test.true c.index-items-k.is
    (not_from_Decides c.is_part_inside.result decides c.if-not-is_part_inside.true)
    (of_captured c.args.db.now look c.args.size c.args.args.now c.args.offsets.now c.as_slice-items.result.now (subst (λ items. AreCaptured c.args.db.now look c.args.size c.args.offsets.now c.args.args.now items) (sym c.as_slice-items.ensures) all)))

pub loop-k-preserved : goal.loop-k-preserved
loop-k-preserved c =
    let look = layout_above c.args.db.now c.args.i in
    let decides = part_decides look c.args.size c.copied-offset.result c.in_ok-part.part (capture_type c.args.db.now c.args.args.now c.index-items-k.result) c.is_part_inside.result c.in_ok-part.ensures.size c.is_part_inside.ensures in
    (part_next look c.args.size c.args.offsets.now (capture_type c.args.db.now c.args.args.now) c.as_slice-items.result.now c.loop-k.k c.index-items-k.result c.copied-offset.result (c.copied-offset.ensures ∙ c.get.ensures) c.loop-k-test.true c.index-items-k.is (decides.0 c.if-not-is_part_inside.false) c.loop-k.invariant.0, c.in_ok-part.ensures.sizes)

pub returns : goal.returns
returns c =
    let look = layout_above c.args.db.now c.args.i in
    yes (subst (λ items. AreCaptured c.args.db.now look c.args.size c.args.offsets.now c.args.args.now items) c.as_slice-items.ensures (captured_of c.args.db.now look c.args.size c.args.args.now c.args.offsets.now c.as_slice-items.result.now (parts_end look c.args.size c.args.offsets.now (capture_type c.args.db.now c.args.args.now) c.as_slice-items.result.now c.loop-k.k c.loop-k-test.false c.loop-k.invariant.0)))

pub loop-k-init : goal.loop-k-init
loop-k-init c = ((λ j h. absurd (omega arith)), none_found c.args.db.now c.args.i c.args.args.now c.new-sizes.result c.new-sizes.ensures)

pub field_size-requires-clause-place : goal.field_size-requires-clause-place
field_size-requires-clause-place c =
    let fact = λ (capture : Capture) (place : Option (Option ℕ)). IsFixed c.args.db.now capture.ty place in
    let here = slice_get_read c.as_slice-items.result.now (length c.as_slice-items.result.now) c.loop-k.k c.index-items-k.result refl c.loop-k-test.true c.index-items-k.is in
    subst (fact c.index-items-k.result) (sym c.place_of_index-fixed.ensures)
    (kept_at fact c.as_slice-items.result.now c.args.places.now c.loop-k.k c.index-items-k.result None here (subst (λ items. AllZip fact items c.args.places.now) (sym c.as_slice-items.ensures) c.requires))
