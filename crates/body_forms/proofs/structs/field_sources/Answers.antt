use Rattle.std.proofs.Common.{List, sym, ap, ◌∙◌}
use Rattle.world.specs.declared.expr.RecordLitField.{RecordLitField}
use Rattle.world.specs.declared.items.FieldRow.{FieldRow}
use Rattle.source_meaning.specs.Structs.{field_sources, place_named, source_by}
use Rattle.body_forms.proofs.Sources.{sources-last, sources-next}
use Rattle.body_forms.proofs.structs.field_sources.Goals as goal

pub loop-i-preserved : goal.loop-i-preserved
loop-i-preserved c =
    let at = c.loop-i in
    let fields = c.as_slice-fields.result.now in
    let written = c.as_slice-written.result.now in
    let id = c.args.literal.made.id in
    let named = c.source_by.ensures ∙ ap (source_by id at.i) c.place_named-place.ensures ∙ ap (λ (row : FieldRow). source_by id at.i (place_named row.name written)) (sym c.index-fields-i.is) in
    sources-next id fields written at.i c.index-fields-i.result c.source_by.result at.sources c.push.new.self _ c.loop-i-test.true c.index-fields-i.is named c.in_ok-push.ensures.ok at.invariant

pub returns : goal.returns
returns c =
    let at = c.loop-i in
    sources-last c.args.literal.made.id c.as_slice-fields.result.now c.as_slice-written.result.now at.i at.sources _ c.loop-i-test.false at.invariant
    ∙ ap (λ (rows : List FieldRow). field_sources c.args.literal.made.id 0 rows c.as_slice-written.result.now) c.as_slice-fields.ensures
    ∙ ap (λ (ws : List RecordLitField). field_sources c.args.literal.made.id 0 c.args.literal.made.fields.now ws) c.as_slice-written.ensures
