use Rattle.std.proofs.Common.{ℕ, length, Option, None, refl, sym, ◌∙◌, subst}
use Rattle.std.proofs.lemmas.Bool.Decides.{not_from_Decides}
use Rattle.std.proofs.lemmas.Option.{slice_get_read}
use Rattle.std.specs.List.{AllZip}
use Rattle.check_layouts.specs.Laid.{field_type}
use Rattle.check_layouts.specs.Sizes.{layout_above}
use Rattle.check_layouts.specs.inner.Fields.{ArePartsInside}
use Rattle.check_layouts.specs.inner.Places.{IsFixed}
use Rattle.world.specs.declared.items.FieldRow.{FieldRow}
use Rattle.check_layouts.proofs.Deciding.{no, yes}
use Rattle.check_layouts.proofs.Kept.{kept_at}
use Rattle.check_layouts.proofs.Placed.{part_decides, part_fails, part_next, parts_end}
use Rattle.check_layouts.proofs.fields.are_fields_inside.Goals as goal

pub returns-then-not-is_part_inside-clause-inside : goal.returns-then-not-is_part_inside-clause-inside
returns-then-not-is_part_inside-clause-inside c =
    let look = layout_above c.args.db.now c.args.i in
    let decides = part_decides look c.args.size c.copied-offset.result c.in_ok-part.part (field_type c.args.db.now c.args.args.now c.index-items-k.result) c.is_part_inside.result c.in_ok-part.ensures.size c.is_part_inside.ensures in
    no (λ all. part_fails look c.args.size c.args.offsets.now (field_type c.args.db.now c.args.args.now) c.as_slice-items.result.now c.loop-k.k c.index-items-k.result c.copied-offset.result (c.copied-offset.ensures ∙ c.get.ensures) c.loop-k-test.true c.index-items-k.is
    (not_from_Decides c.is_part_inside.result decides c.if-not-is_part_inside.true)
    (subst (λ items. ArePartsInside look c.args.size c.args.offsets.now (field_type c.args.db.now c.args.args.now) items) (sym c.as_slice-items.ensures) all))

pub loop-k-preserved : goal.loop-k-preserved
loop-k-preserved c =
    let look = layout_above c.args.db.now c.args.i in
    let decides = part_decides look c.args.size c.copied-offset.result c.in_ok-part.part (field_type c.args.db.now c.args.args.now c.index-items-k.result) c.is_part_inside.result c.in_ok-part.ensures.size c.is_part_inside.ensures in
    (part_next look c.args.size c.args.offsets.now (field_type c.args.db.now c.args.args.now) c.as_slice-items.result.now c.loop-k.k c.index-items-k.result c.copied-offset.result (c.copied-offset.ensures ∙ c.get.ensures) c.loop-k-test.true c.index-items-k.is (decides.0 c.if-not-is_part_inside.false) c.loop-k.invariant.0, c.in_ok-part.ensures.sizes)

pub returns-clause-inside : goal.returns-clause-inside
returns-clause-inside c =
    let look = layout_above c.args.db.now c.args.i in
    yes (subst (λ items. ArePartsInside look c.args.size c.args.offsets.now (field_type c.args.db.now c.args.args.now) items) c.as_slice-items.ensures (parts_end look c.args.size c.args.offsets.now (field_type c.args.db.now c.args.args.now) c.as_slice-items.result.now c.loop-k.k c.loop-k-test.false c.loop-k.invariant.0))

pub field_size-requires-clause-place : goal.field_size-requires-clause-place
field_size-requires-clause-place c =
    let fact = λ (field : FieldRow) (place : Option (Option ℕ)). IsFixed c.args.db.now field.ty place in
    let here = slice_get_read c.as_slice-items.result.now (length c.as_slice-items.result.now) c.loop-k.k c.index-items-k.result refl c.loop-k-test.true c.index-items-k.is in
    subst (fact c.index-items-k.result) (sym c.place_of_index-fixed.ensures)
    (kept_at fact c.as_slice-items.result.now c.args.places.now c.loop-k.k c.index-items-k.result None here (subst (λ items. AllZip fact items c.args.places.now) (sym c.as_slice-items.ensures) c.requires.places))
