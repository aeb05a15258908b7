use Rattle.std.proofs.Common.{◌==◌, List, length, ap, ◌∙◌}
use Rattle.std.specs.Prelude.{count_by, is_some}
use Rattle.world.specs.declared.expr.RecordLitField.{RecordLitField}
use Rattle.world.specs.declared.items.FieldRow.{FieldRow}
use Rattle.source_meaning.specs.Structs.{place_named}
use Rattle.body_forms.proofs.Sources.{known-is}
use Rattle.body_forms.proofs.structs.gives_known_fields.Goals as goal

pub returns : goal.returns
returns c =
    let made = c.args.literal.made in
    let fields = made.fields.now in
    let written = c.args.literal.written.now in
    let counted = c.count_written-count.ensures
    ∙ ap (λ (fs : List FieldRow). count_by (λ (field : FieldRow). is_some (place_named field.name c.as_slice-2.result.now)) fs) c.as_slice.ensures
    ∙ ap (λ (ws : List RecordLitField). count_by (λ (field : FieldRow). is_some (place_named field.name ws)) fields) c.as_slice-2.ensures in
    ap (λ many. c.count_written-count.result == many) c.len.ensures ∙ ap (λ count. count == length written) counted ∙ known-is made.id fields written
