-- One mark after another is taken back, and its cell left.
use Rattle.std.proofs.Common.{length, sym, ap, subst, arith}
use Rattle.source_meaning.specs.Source.{drops}
use Rattle.std.specs.Prelude.{take, drop}
use Rattle.body_forms.specs.Contexts.{source_of}
use Rattle.mir_graph.specs.Graph.{Shape, shape, cell_of, with_scope}
use Rattle.mir_lower.specs.Leaving.{Idles}
use Rattle.mir_lower.proofs.Drops.{none-left, one-left, all-left, without-mark-sound, without-mark-open, fewer-marks}
use Rattle.mir_lower.proofs.leave.leave_scope.Goals as goal

pub loop-marked-init : goal.loop-marked-init
loop-marked-init g c = (none-left (source_of c.args.context.now) (shape g.I.Interner.projections c.args.graph.now) c.requires.sound c.requires.opened, c.requires.within)

pub leave_local-requires-clause-sound : goal.leave_local-requires-clause-sound
leave_local-requires-clause-sound g c =
    without-mark-sound (shape g.I.Interner.projections c.loop-marked.graph) (shape g.I.Interner.projections c.pop_mark.new.self) (cell_of c.in-Some.marked.held) c.in-Some.ensures.last (source_of c.args.context.now) c.loop-marked.invariant.0.idles.sound

pub leave_local-requires-clause-opened : goal.leave_local-requires-clause-opened
leave_local-requires-clause-opened g c =
    without-mark-open (shape g.I.Interner.projections c.loop-marked.graph) (shape g.I.Interner.projections c.pop_mark.new.self) (cell_of c.in-Some.marked.held) c.in-Some.ensures.last c.loop-marked.invariant.0.idles.«open»

pub loop-marked-preserved : goal.loop-marked-preserved
loop-marked-preserved g c =
    let next = c.in_ok-leave_local.ensures in
    let same = ap length next.scope in (
      one-left (source_of c.args.context.now) (shape g.I.Interner.projections c.args.graph.now) (shape g.I.Interner.projections c.loop-marked.graph) (shape g.I.Interner.projections c.pop_mark.new.self) (shape g.I.Interner.projections c.leave_local.new.graph) (cell_of c.in-Some.marked.held) c.loop-marked.invariant.0 c.in-Some.ensures.last next,
      (let within = c.in-Some.ensures.within in omega (arith, same, within)),
    )

pub loop-marked-smaller : goal.loop-marked-smaller
loop-marked-smaller g c =
    let same = ap length c.in_ok-leave_local.ensures.scope in
    let fewer = fewer-marks (shape g.I.Interner.projections c.loop-marked.graph) (shape g.I.Interner.projections c.pop_mark.new.self) (cell_of c.in-Some.marked.held) c.in-Some.ensures.last in
    omega (arith, same, fewer)

pub returns : goal.returns
returns g c =
    let source = source_of c.args.context.now in
    let s0 = shape g.I.Interner.projections c.args.graph.now in
    let n = c.args.token.0 in
    subst (λ (s : Shape). Idles source (with_scope (take n s0.scope) s0) s (drops source (drop n s0.scope))) (sym c.in_default.ensures.same)
    (all-left source s0 (shape g.I.Interner.projections c.loop-marked.graph) n c.loop-marked.invariant.0 c.in_default.ensures.none c.loop-marked.invariant.1)
