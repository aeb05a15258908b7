-- A drop, and then the end of the storage.
use Rattle.std.proofs.Common.{◌≡◌, ℕ, ◌+◌, subst, arith}
use Rattle.std.proofs.lemmas.Result.{on_ok_weaker}
use Rattle.mir.specs.declared.span.MirSpan.TheVariants.{ExprId}
use Rattle.source_meaning.specs.Source.{is_dropped}
use Rattle.body_forms.specs.Contexts.{source_of}
use Rattle.mir_graph.specs.Graph.{shape, cell_of}
use Rattle.mir_lower.specs.Leaving.{Idles, one_if}
use Rattle.mir_lower.proofs.Leaving.{idles-dead, idles-trans}
use Rattle.mir_lower.proofs.leave.leave_local.Goals as goal

pub push_statement-requires : goal.push_statement-requires
push_statement-requires g c = c.in_ok-drop_if_needed.ensures.«open».there

pub returns : goal.returns
returns g c =
    let source = source_of c.args.context.now in
    let turns = one_if (is_dropped source (cell_of c.args.marked.held)) in
    let first : Idles source (shape g.I.Interner.projections c.args.graph.now) (shape g.I.Interner.projections c.drop_if_needed.new.graph) turns = c.in_ok-drop_if_needed.ensures in
    let plain : turns + 0 ≡ turns = omega arith in
    on_ok_weaker c.push_statement.result
    (λ same. subst (λ (n : ℕ). Idles source (shape g.I.Interner.projections c.args.graph.now) (shape g.I.Interner.projections c.push_statement.new.self) n) plain
    (idles-trans source (shape g.I.Interner.projections c.args.graph.now) (shape g.I.Interner.projections c.drop_if_needed.new.graph) (shape g.I.Interner.projections c.push_statement.new.self) turns 0 first
    (idles-dead source (shape g.I.Interner.projections c.drop_if_needed.new.graph) (shape g.I.Interner.projections c.push_statement.new.self) c.args.marked.local (ExprId c.args.at) first.sound first.«open» same)))
    c.push_statement.ensures
