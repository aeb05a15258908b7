-- One more local is left.
use Rattle.std.proofs.Common.{◌≡◌, ℕ, suc, ◌-◌, length, Some, refl, ap, subst, arith, drop, inl}
use Rattle.std.specs.Prelude.{slice_get}
use Rattle.std.proofs.lemmas.List.{length-map}
use Rattle.source_meaning.specs.Source.{drops}
use Rattle.body_forms.specs.Contexts.{source_of}
use Rattle.mir_graph.specs.Graph.{shape, cell_of}
use Rattle.mir_lower.specs.Leaving.{Idles}
use Rattle.mir_lower.proofs.Drops.{marked-left, nothing-left, left-as-marked}
use Rattle.mir_graph.proofs.Lists.{at-index}
use Rattle.mir_lower.proofs.leave.leave_marked.Goals as goal

pub loop-left-preserved : goal.loop-left-preserved
loop-left-preserved g c =
    let source = source_of c.args.context.now in
    let s0 = shape g.I.Interner.projections c.args.graph.now in
    let s1 = shape g.I.Interner.projections c.loop-left.graph in
    let s2 = shape g.I.Interner.projections c.leave_local.new.graph in
    let items = c.loop-left.graph.scope.items in
    let marked = c.index-marked.result.now in
    let k = c.loop-left.left - 1 in
    let more = c.loop-left-test.true in
    let most = c.loop-left.invariant.1 in
    let before = c.loop-left.invariant.2 in
    let same : c.loop-left.left ≡ suc k = omega (arith, more) in
    let long : length s1.scope ≡ length s0.scope = ap length before.scope in
    let mapped : length s1.scope ≡ length items = length-map items (λ m. cell_of m.held) in
    let found : slice_get items k ≡ Some marked = at-index items k marked (omega (arith, more, most, long, mapped)) c.index-marked.ensures in (
      inl (omega (arith, more)),
      omega (arith, most),
      marked-left source s0 s1 s2 items marked k refl found (subst (λ (n : ℕ). Idles source s0 s1 (drops source (drop n s0.scope))) same before) c.in_ok-leave_local.ensures,
    )

pub loop-left-init : goal.loop-left-init
loop-left-init g c =
    let source = source_of c.args.context.now in
    let s0 = shape g.I.Interner.projections c.args.graph.now in
    let long : length s0.scope ≡ length c.args.graph.now.scope.items = length-map c.args.graph.now.scope.items (λ m. cell_of m.held) in
    let at = c.len-left.ensures in
    nothing-left source s0 c.args.token.0 c.len-left.result (omega (arith, long, at)) c.requires.sound c.requires.opened

pub returns : goal.returns
returns g c =
    let source = source_of c.args.context.now in
    let s0 = shape g.I.Interner.projections c.args.graph.now in
    let done = c.loop-left-test.false in
    left-as-marked source s0 (shape g.I.Interner.projections c.loop-left.graph) c.args.token.0 c.loop-left.left (omega (arith, done)) c.loop-left.invariant.0 c.loop-left.invariant.2
