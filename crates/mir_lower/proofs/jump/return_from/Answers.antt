-- All open scopes are left, the block returns, and a new one is opened.
use Rattle.std.proofs.lemmas.Result.{on_ok_weaker}
use Rattle.mir.specs.declared.span.MirSpan.TheVariants.{ExprId}
use Rattle.source_meaning.specs.Source.{drops}
use Rattle.body_forms.specs.Contexts.{source_of}
use Rattle.mir_graph.specs.Graph.{shape}
use Rattle.mir_lower.proofs.Returning as returning
use Rattle.mir_lower.proofs.jump.return_from.Goals as goal

pub returns : goal.returns
returns g c =
    let source = source_of c.args.context.now in
    let s0 = shape g.I.Interner.projections c.args.graph.now in
    on_ok_weaker c.open_block.result
    (λ same. returning.returns source s0 (shape g.I.Interner.projections c.leave_marked.new.graph) (shape g.I.Interner.projections c.set_terminator.new.self) (shape g.I.Interner.projections c.open_block.new.self) (ExprId c.args.e) (drops source s0.scope) c.in_ok-leave_marked.ensures c.set_terminator.ensures same)
    c.open_block.ensures
