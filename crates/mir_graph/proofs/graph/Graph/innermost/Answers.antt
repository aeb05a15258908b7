-- The loop or labelled block at a place is the one that the jump means, or one further out is.
use Rattle.std.proofs.Common.{◌≡◌, suc, ◌-◌, Some, sym, ap, ◌∙◌, arith, take}
use Rattle.std.specs.Prelude.{slice_get, if◌then◌else◌}
use Rattle.mir_graph.specs.Graph.{target_of_blocks, targets_of, meant_target}
use Rattle.mir_graph.proofs.Lists.{at-index}
use Rattle.mir_graph.proofs.Targets.{meant-next}
use Rattle.mir_graph.proofs.graph.Graph.innermost.Goals as goal

pub returns-then-is_meant : goal.returns-then-is_meant
returns-then-is_meant g c =
    let items = c.args.self.now.loops.items in
    let blocks = c.index.result.now in
    let k = c.loop-left.left - 1 in
    let some = c.loop-left-test.true in
    let many = c.loop-left.invariant.0 in
    let same : c.loop-left.left ≡ suc k = omega (arith, some) in
    let found : slice_get items k ≡ Some blocks = at-index items k blocks (omega (arith, some, many)) c.index.ensures in
    let meant = sym c.is_meant.ensures ∙ c.if-is_meant.true in
    sym (
    c.loop-left.invariant.1 ∙ ap (λ n. meant_target c.args.label (targets_of (take n items))) same ∙ meant-next c.args.label items k blocks found
    ∙ ap (λ test. if test then Some (target_of_blocks blocks) else meant_target c.args.label (targets_of (take k items))) meant
    )

pub loop-left-preserved : goal.loop-left-preserved
loop-left-preserved g c =
    let items = c.args.self.now.loops.items in
    let blocks = c.index.result.now in
    let k = c.loop-left.left - 1 in
    let some = c.loop-left-test.true in
    let many = c.loop-left.invariant.0 in
    let same : c.loop-left.left ≡ suc k = omega (arith, some) in
    let found : slice_get items k ≡ Some blocks = at-index items k blocks (omega (arith, some, many)) c.index.ensures in
    let other = sym c.is_meant.ensures ∙ c.if-is_meant.false in (
      omega (arith, many),
      c.loop-left.invariant.1 ∙ ap (λ n. meant_target c.args.label (targets_of (take n items))) same ∙ meant-next c.args.label items k blocks found
          ∙ ap (λ test. if test then Some (target_of_blocks blocks) else meant_target c.args.label (targets_of (take k items))) other,
    )

pub returns : goal.returns
unfolding meant_target
returns g c =
    let none = c.loop-left-test.false in
    let last : c.loop-left.left ≡ 0 = omega (arith, none) in
    sym (c.loop-left.invariant.1 ∙ ap (λ n. meant_target c.args.label (targets_of (take n c.args.self.now.loops.items))) last)
