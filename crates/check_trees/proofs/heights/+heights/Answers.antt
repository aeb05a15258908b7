use Rattle.std.proofs.Common.{◌≡◌, ◌∙◌, ◌<◌, ◌+◌, get_or, max, arith, sym, Some, None}
use Rattle.check_trees.specs.declared.node.BodyNode.TheVariants.{Expr}
use Rattle.check_trees.proofs.Levels.{closed_at, height_at, height_of_levels, heights_more, levels_at, levels_more, levels_whole, path_of_none, path_through, path_within}
use Rattle.check_trees.proofs.heights.+heights.Goals as goal

pub height-returns-else-height-budget-clause-height : goal.height-returns-else-height-budget-clause-height
height-returns-else-height-budget-clause-height t c =
    path_within c.args.body.now c.args.heights.now c.args.budget c.args.node c.in-Height.height (c.requires c.args.node c.in-Height.height (sym c.known.ensures ∙ c.in-Height.is)) (omega arith)

pub height-returns-then-budget-eq0-clause-height : goal.height-returns-then-budget-eq0-clause-height
height-returns-then-budget-eq0-clause-height t c = path_of_none c.args.body.now c.args.heights.now c.args.budget c.args.node c.if-budget-eq0.true

pub height-returns-in_default-clause-height : goal.height-returns-in_default-clause-height
height-returns-in_default-clause-height t c =
    path_through c.args.body.now c.args.heights.now c.note.new.self c.args.budget c.args.node c.as_slice.result.now (c.as_slice.ensures.value ∙ c.in_ok-nodes.ensures) c.note.ensures (levels_at c.args.body.now c.note.new.self _ c.as_slice.result.now c.in_ok-height.field-0 None c.in_ok-height.ensures.levels c.in_default.is)

pub height-returns-clause-heights : goal.height-returns-clause-heights
height-returns-clause-heights t c =
    let fact = levels_at c.args.body.now c.note.new.self _ c.as_slice.result.now c.in_ok-height.field-0 (Some c.in-Some.height) c.in_ok-height.ensures.levels c.in-Some.is in
    heights_more c.args.body.now c.levels_of.new.heights c.note-2.new.self c.args.node c.in-Some.height c.in_ok-height.ensures.heights (height_of_levels c.args.body.now c.args.node c.as_slice.result.now c.in-Some.height (c.as_slice.ensures.value ∙ c.in_ok-nodes.ensures) fact.1) c.note-2.ensures

pub height-returns-clause-height : goal.height-returns-clause-height
height-returns-clause-height t c =
    let fact = levels_at c.args.body.now c.note.new.self _ c.as_slice.result.now c.in_ok-height.field-0 (Some c.in-Some.height) c.in_ok-height.ensures.levels c.in-Some.is in
    let low : c.in-Some.height < c.args.budget = omega (arith, fact.0) in
    (low, height_of_levels c.args.body.now c.args.node c.as_slice.result.now c.in-Some.height (c.as_slice.ensures.value ∙ c.in_ok-nodes.ensures) fact.1)

pub levels_of-loop-i-preserved : goal.levels_of-loop-i-preserved
levels_of-loop-i-preserved t c =
    let fact = height_at c.args.body.now c.loop-i.heights c.args.budget (get_or c.args.nodes.now c.loop-i.i (Expr 0)) c.in_ok-height.field-0 (Some c.in-Some.height) c.in_ok-height.ensures.height c.in-Some.is in
    let most : c.max-levels.result ≡ max c.loop-i.levels (c.in-Some.height + 1) = grind arith in (
      c.in_ok-height.ensures.heights,
      omega (arith, fact.0, most),
      rw most (levels_more c.args.body.now c.args.nodes.now c.loop-i.i (Expr 0) c.loop-i.levels c.in-Some.height c.loop-i-test.true fact.1 c.loop-i.invariant.2),
      λ node e. c.loop-i.invariant.3 node (closed_at c.loop-i.heights c.height.new.heights c.in_ok-height.field-0 c.in-Some.height c.in_ok-height.ensures.closed c.in-Some.is node e),
    )

pub levels_of-returns-clause-levels : goal.levels_of-returns-clause-levels
levels_of-returns-clause-levels t c =
    (c.loop-i.invariant.1, levels_whole c.args.body.now c.args.nodes.now c.loop-i.i c.loop-i.levels c.loop-i-test.false c.loop-i.invariant.2)
