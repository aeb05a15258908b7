-- Two blocks are reserved, the loop is noted, and the first of the two is opened.
use Rattle.std.proofs.Common.{◌∷◌, sym, subst}
use Rattle.mir_lower.specs.Branches.{IsReserved}
use Rattle.body_forms.specs.Contexts.{source_of}
use Rattle.mir_graph.specs.Graph.{Shape, shape, target_of_blocks}
use Rattle.mir_lower.specs.Growth.{IsSound, IsOpen}
use Rattle.mir_lower.proofs.Jumps.{with_targets-sound, with_targets-open, with_targets-reserved, begin-reserved, enters}
use Rattle.mir_lower.proofs.Reserving.{reserves}
use Rattle.mir_lower.proofs.jump.enter_loop.Goals as goal

pub go_on-requires-clause-opened : goal.go_on-requires-clause-opened
go_on-requires-clause-opened g c =
    let source = source_of c.args.context.now in
    let s0 = shape g.I.Interner.projections c.args.graph.now in
    let r1 = shape g.I.Interner.projections c.reserve_block.new.self in
    let r2 = shape g.I.Interner.projections c.reserve_block-2.new.self in
    let first = reserves source s0 r1 c.in_ok-begin.begin.0 c.requires.sound c.requires.opened c.in_ok-begin.ensures.id c.in_ok-begin.ensures.added in
    let second = reserves source r1 r2 c.in_ok-end.end.0 first.sound first.«open» c.in_ok-end.ensures.id c.in_ok-end.ensures.added in
    subst IsOpen (sym c.in_ok-push_loop.ensures) (with_targets-open _ r2 second.«open»)

pub go_on-requires-clause-reserved : goal.go_on-requires-clause-reserved
go_on-requires-clause-reserved g c =
    let source = source_of c.args.context.now in
    let s0 = shape g.I.Interner.projections c.args.graph.now in
    let r1 = shape g.I.Interner.projections c.reserve_block.new.self in
    let r2 = shape g.I.Interner.projections c.reserve_block-2.new.self in
    subst (λ (s : Shape). IsReserved s c.in_ok-begin.begin.0) (sym c.in_ok-push_loop.ensures)
    (with_targets-reserved _ r2 c.in_ok-begin.begin.0
    (begin-reserved source s0 r1 r2 c.in_ok-begin.begin.0 c.in_ok-end.end.0 c.requires.sound c.requires.opened c.in_ok-begin.ensures.id c.in_ok-begin.ensures.added c.in_ok-end.ensures.id c.in_ok-end.ensures.added))

pub returns-clause-entered : goal.returns-clause-entered
returns-clause-entered g c =
    let source = source_of c.args.context.now in
    let s0 = shape g.I.Interner.projections c.args.graph.now in
    let r1 = shape g.I.Interner.projections c.reserve_block.new.self in
    let r2 = shape g.I.Interner.projections c.reserve_block-2.new.self in
    let target = target_of_blocks (record { node = c.args.node; label = c.args.label; begin = c.in_ok-begin.begin; end = c.in_ok-end.end; to = c.args.to; drop_scope = c.push_drop_scope.result }) in
    let first = reserves source s0 r1 c.in_ok-begin.begin.0 c.requires.sound c.requires.opened c.in_ok-begin.ensures.id c.in_ok-begin.ensures.added in
    let second = reserves source r1 r2 c.in_ok-end.end.0 first.sound first.«open» c.in_ok-end.ensures.id c.in_ok-end.ensures.added in
    let noted : IsSound source (shape g.I.Interner.projections c.push_loop.new.self) = subst (IsSound source) (sym c.in_ok-push_loop.ensures) (with_targets-sound source (target ∷ r2.targets) r2 second.sound) in
    enters source s0 r1 r2 (shape g.I.Interner.projections c.push_loop.new.self) (shape g.I.Interner.projections c.go_on.new.graph) target c.requires.sound c.requires.opened c.in_ok-begin.ensures.id c.in_ok-begin.ensures.added c.in_ok-end.ensures.id c.in_ok-end.ensures.added
    c.push_drop_scope.ensures c.in_ok-push_loop.ensures (c.go_on.ensures source noted)
