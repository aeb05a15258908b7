-- The innermost loop is taken back, and the block behind it is opened.
use Rattle.std.proofs.Common.{sym, subst}
use Rattle.mir_lower.specs.Branches.{HasGoneOn}
use Rattle.mir_graph.specs.Graph.{Shape, shape}
use Rattle.mir_lower.specs.Growth.{IsSound, IsOpen}
use Rattle.mir_lower.proofs.Jumps.{with_targets-sound, with_targets-open}
use Rattle.mir_lower.proofs.jump.leave_loop.Goals as goal

pub go_on-requires-clause-opened : goal.go_on-requires-clause-opened
go_on-requires-clause-opened g c = subst IsOpen (sym c.pop_loop.ensures.rest) (with_targets-open _ (shape g.I.Interner.projections c.args.graph.now) c.requires.opened)

pub returns : goal.returns
returns g c = λ source first outer sound is.
    let same = c.pop_loop.ensures.outer first outer is in
    subst (λ (s : Shape). HasGoneOn source s (shape g.I.Interner.projections c.go_on.new.graph) c.args.to.0 c.args.blocks.end.0) same
    (c.go_on.ensures source (subst (IsSound source) (sym same) (with_targets-sound source outer (shape g.I.Interner.projections c.args.graph.now) sound)))
