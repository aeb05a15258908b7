use Rattle.std.proofs.Common.{◌≡◌, ◌+◌, drop, sym, ap, ◌∙◌}
use Rattle.std.specs.Prelude.{option_and_then}
use Rattle.std.specs.Option.{option_copied}
use Rattle.mir.specs.Places.{elem_type, type_behind}
use Rattle.mir_rows.proofs.Walks.{none-next, seen-next, type-last, type-next}
use Rattle.mir_rows.proofs.places.type_behind.Goals as goal
use Rattle.mir_rows.proofs.places.type_behind.Goals.{in-Some, in-None}

pub loop-elem-preserved : goal.loop-elem-preserved
loop-elem-preserved c =
    let at = c.loop-elem in
    let elem = c.elem-item.result in
    let next : option_copied c.match-seen.seen ≡ option_and_then (elem_type c.args.db.now elem) (option_copied at.seen) =
    elim c.match-seen.branch [
      | in-Some w ↦ ap option_copied w.seen-is ∙ seen-next c.args.db.now elem at.seen w.in-Some.ty w.elem_type-seen.result w.in-Some.is w.elem_type-seen.ensures
      | in-None w ↦ ap option_copied w.seen-is ∙ none-next c.args.db.now elem at.seen w.in-None.is
    ] in
    ap (type_behind c.args.db.now (drop (at.elem-index + 1) c.args.elements.now)) next
    ∙ sym (type-next c.args.elements.now at.elem-index elem c.loop-elem-test.true c.elem-item.is c.args.db.now (option_copied at.seen))
    ∙ at.invariant

pub returns : goal.returns
returns c =
    let at = c.loop-elem in
    sym (type-last c.args.elements.now at.elem-index c.loop-elem-test.false c.args.db.now (option_copied at.seen)) ∙ at.invariant
