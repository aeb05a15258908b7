use Rattle.std.proofs.Common.{◌≡◌, ◌+◌, drop, sym, ap, ◌∙◌}
use Rattle.std.specs.Prelude.{option_and_then}
use Rattle.std.specs.Option.{option_copied}
use Rattle.mir.specs.Places.{elem_type, leads_past}
use Rattle.mir_rows.proofs.Walks.{none-next, past-behind, past-here, past-last, seen-next}
use Rattle.mir_rows.proofs.bounds.leads_past.Goals as goal
use Rattle.mir_rows.proofs.bounds.leads_past.Goals.{in-Some, in-None}

pub returns-then-elem_past : goal.returns-then-elem_past
returns-then-elem_past g c =
    let at = c.loop-elem in
    let elem = c.elem-item.result in
    sym (past-here c.args.elements.now at.elem-index elem c.loop-elem-test.true c.elem-item.is c.args.db.now (g.N.Numbers.held c.args.numbers.now) (option_copied at.seen) (sym c.elem_past.ensures ∙ c.if-elem_past.true))
    ∙ at.invariant

pub loop-elem-preserved : goal.loop-elem-preserved
loop-elem-preserved g c =
    let at = c.loop-elem in
    let elem = c.elem-item.result in
    let held = g.N.Numbers.held c.args.numbers.now in
    let next : option_copied c.match-seen.seen ≡ option_and_then (elem_type c.args.db.now elem) (option_copied at.seen) =
    elim c.match-seen.branch [
      | in-Some w ↦ ap option_copied w.seen-is ∙ seen-next c.args.db.now elem at.seen w.in-Some.ty w.elem_type-seen.result w.in-Some.is w.elem_type-seen.ensures
      | in-None w ↦ ap option_copied w.seen-is ∙ none-next c.args.db.now elem at.seen w.in-None.is
    ] in
    ap (leads_past c.args.db.now held (drop (at.elem-index + 1) c.args.elements.now)) next
    ∙ sym (past-behind c.args.elements.now at.elem-index elem c.loop-elem-test.true c.elem-item.is c.args.db.now held (option_copied at.seen) (sym c.elem_past.ensures ∙ c.if-elem_past.false))
    ∙ at.invariant

pub returns : goal.returns
returns g c =
    let at = c.loop-elem in
    sym (past-last c.args.elements.now at.elem-index c.loop-elem-test.false c.args.db.now (g.N.Numbers.held c.args.numbers.now) (option_copied at.seen)) ∙ at.invariant
