use Rattle.std.proofs.Common.{Some, sym, ◌∙◌, subst}
use Rattle.std.proofs.lemmas.Bool.Decides.{not_from_Decides}
use Rattle.check_layouts.specs.Sizes.{layout_above}
use Rattle.check_layouts.specs.inner.Fields.{ArePartsInside}
use Rattle.check_layouts.proofs.Deciding.{no, yes}
use Rattle.check_layouts.proofs.Placed.{part_fails, part_next, parts_end}
use Rattle.check_layouts.proofs.fields.are_types_inside.Goals as goal

pub returns-then-not-is_type_inside : goal.returns-then-not-is_type_inside
returns-then-not-is_type_inside c =
    let look = layout_above c.args.db.now c.args.i in
    no (λ all. part_fails look c.args.size c.args.offsets.now Some c.as_slice-items.result.now c.loop-k.k c.index-items-k.result c.copied-offset.result (c.copied-offset.ensures ∙ c.get.ensures) c.loop-k-test.true c.index-items-k.is
    (not_from_Decides c.is_type_inside.result c.is_type_inside.ensures c.if-not-is_type_inside.true)
    (subst (λ types. ArePartsInside look c.args.size c.args.offsets.now Some types) (sym c.as_slice-items.ensures) all))

pub loop-k-preserved : goal.loop-k-preserved
loop-k-preserved c =
    part_next (layout_above c.args.db.now c.args.i) c.args.size c.args.offsets.now Some c.as_slice-items.result.now c.loop-k.k c.index-items-k.result c.copied-offset.result (c.copied-offset.ensures ∙ c.get.ensures) c.loop-k-test.true c.index-items-k.is
    (c.is_type_inside.ensures.0 c.if-not-is_type_inside.false)
    c.loop-k.invariant

pub returns : goal.returns
returns c =
    let look = layout_above c.args.db.now c.args.i in
    yes (subst (λ types. ArePartsInside look c.args.size c.args.offsets.now Some types) c.as_slice-items.ensures (parts_end look c.args.size c.args.offsets.now Some c.as_slice-items.result.now c.loop-k.k c.loop-k-test.false c.loop-k.invariant))
