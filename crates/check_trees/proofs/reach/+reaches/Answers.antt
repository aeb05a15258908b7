use Rattle.std.proofs.Common.{◌∙◌, ◌<◌, arith, rules}
use Rattle.check_trees.proofs.Reaches.{parts_below, reach_more, reach_of_parts, some_budget}
use Rattle.check_trees.proofs.reach.+reaches.Goals as goal

pub reach_of_pat-overflow_sub-budget : goal.reach_of_pat-overflow_sub-budget
reach_of_pat-overflow_sub-budget t c =
    let some : 0 < c.args.budget = some_budget c.args.body.now c.args.budget c.args.p c.requires.shallow in
    omega arith

pub reach_of_pat-reach_of_pats-requires : goal.reach_of_pat-reach_of_pats-requires
reach_of_pat-reach_of_pats-requires t c =
    let some : 0 < c.args.budget = some_budget c.args.body.now c.args.budget c.args.p c.requires.shallow in
    let none = parts_below c.args.body.now c.args.budget c.args.p c.as_slice.result.now (c.as_slice.ensures.value ∙ c.in_ok-parts.ensures) c.requires.shallow in
    search rules

pub reach_of_pat-keep-requires-clause-reach : goal.reach_of_pat-keep-requires-clause-reach
reach_of_pat-keep-requires-clause-reach t c =
    reach_of_parts c.args.body.now c.args.p c.as_slice.result.now c.as_slice-2.result.now c.reach_of_exprs.result c.in_ok-below.below c.max-reach.result (c.as_slice.ensures.value ∙ c.in_ok-parts.ensures) (c.as_slice-2.ensures.value ∙ c.in_ok-inner.ensures) c.reach_of_exprs.ensures c.in_ok-below.ensures.reach c.max-reach.ensures

pub reach_of_pat-returns-clause-reach : goal.reach_of_pat-returns-clause-reach
reach_of_pat-returns-clause-reach t c =
    reach_of_parts c.args.body.now c.args.p c.as_slice.result.now c.as_slice-2.result.now c.reach_of_exprs.result c.in_ok-below.below c.max-reach.result (c.as_slice.ensures.value ∙ c.in_ok-parts.ensures) (c.as_slice-2.ensures.value ∙ c.in_ok-inner.ensures) c.reach_of_exprs.ensures c.in_ok-below.ensures.reach c.max-reach.ensures

pub reach_of_pats-loop-i-preserved : goal.reach_of_pats-loop-i-preserved
reach_of_pats-loop-i-preserved t c = (
  c.in_ok-found.ensures.reaches,
  reach_more c.args.body.now c.args.ids.now c.loop-i.i 0 c.loop-i.reach c.in_ok-found.found c.max-reach.result c.loop-i-test.true c.loop-i.invariant.1 c.in_ok-found.ensures.reach c.max-reach.ensures,
)
