-- The block is ended, and the next one opened.
use Rattle.std.proofs.Common.{ap, ◌∙◌}
use Rattle.mir.specs.declared.span.MirSpan.TheVariants.{ExprId}
use Rattle.mir_graph.specs.Graph.{shape, with_entered}
use Rattle.mir_lower.proofs.Forking.{goes-on}
use Rattle.mir_lower.proofs.branch.go_on.Goals as goal

pub returns : goal.returns
returns g c source sound =
    goes-on source (shape g.I.Interner.projections c.args.graph.now) (shape g.I.Interner.projections c.enter_block.new.self) c.args.to c.args.next (ExprId c.args.e) sound c.requires.opened c.requires.reserved
    (c.enter_block.ensures ∙ ap (with_entered c.args.next.0) c.set_terminator.ensures)
