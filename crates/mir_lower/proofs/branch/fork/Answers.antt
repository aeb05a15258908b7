-- Three blocks are reserved, the current one is ended by a switch, and the first of the three is opened.
use Rattle.std.proofs.Common.{ap, ◌∙◌}
use Rattle.mir.specs.declared.span.MirSpan.TheVariants.{ExprId}
use Rattle.body_forms.specs.Contexts.{source_of}
use Rattle.mir_graph.specs.Graph.{shape, with_entered}
use Rattle.mir_lower.proofs.Forking.{forks, parts-by-pair}
use Rattle.mir_lower.proofs.Reserving.{stays-open}
use Rattle.mir_lower.proofs.branch.fork.Goals as goal

pub set_terminator-requires : goal.set_terminator-requires
set_terminator-requires g c =
    (stays-open (shape g.I.Interner.projections c.reserve_block-2.new.self) (shape g.I.Interner.projections c.reserve_block-3.new.self) c.in_ok-join.ensures.added
    (stays-open (shape g.I.Interner.projections c.reserve_block.new.self) (shape g.I.Interner.projections c.reserve_block-2.new.self) c.in_ok-other.ensures.added
    (stays-open (shape g.I.Interner.projections c.args.graph.now) (shape g.I.Interner.projections c.reserve_block.new.self) c.in_ok-taken.ensures.added c.requires.opened))).there

pub returns-clause-forked : goal.returns-clause-forked
returns-clause-forked g c =
    forks (source_of c.args.context.now) (shape g.I.Interner.projections c.args.graph.now) (shape g.I.Interner.projections c.reserve_block.new.self) (shape g.I.Interner.projections c.reserve_block-2.new.self) (shape g.I.Interner.projections c.reserve_block-3.new.self) (shape g.I.Interner.projections c.enter_block.new.self)
    c.args.discr c.static_if-targets.result (ExprId c.args.e) c.args.number c.in_ok-taken.taken.0 c.in_ok-other.other.0 c.in_ok-join.join.0 c.requires.sound c.requires.opened
    c.in_ok-taken.ensures.id c.in_ok-taken.ensures.added c.in_ok-other.ensures.id c.in_ok-other.ensures.added c.in_ok-join.ensures.id c.in_ok-join.ensures.added
    (parts-by-pair c.static_if-targets.result c.args.number c.in_ok-taken.taken c.in_ok-other.other c.static_if-targets.ensures.pairs c.static_if-targets.ensures.otherwise)
    (c.enter_block.ensures ∙ ap (with_entered c.in_ok-taken.taken.0) c.set_terminator.ensures)
