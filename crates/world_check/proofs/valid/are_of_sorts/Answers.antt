use Rattle.std.proofs.Common.{◌<◌, ◌≤◌, ◌∙◌, length, refl, sym, arith}
use Rattle.world_check.proofs.Sorts.{counts_differ, sorts_next, sorts_stop, sorts_end}
use Rattle.world_check.proofs.valid.are_of_sorts.Goals as goal

pub returns-then-params-args : goal.returns-then-params-args
returns-then-params-args c = counts_differ c.args.params.now c.args.args.now c.if-params-args.true

pub returns-then-not-is_of_sort : goal.returns-then-not-is_of_sort
returns-then-not-is_of_sort c =
    let within : c.loop-i.i < length c.args.args.now = omega arith in
    sorts_stop c.args.params.now c.args.args.now c.loop-i.i _ _ c.index-args-i.result c.index-args-i.result _ c.loop-i-test.true within refl c.index-args-i.is (sym c.is_of_sort.ensures ∙ c.if-not-is_of_sort.true) c.loop-i.invariant

pub loop-i-preserved : goal.loop-i-preserved
loop-i-preserved c =
    let within : c.loop-i.i < length c.args.args.now = omega arith in
    sorts_next c.args.params.now c.args.args.now c.loop-i.i _ _ c.index-args-i.result c.index-args-i.result _ c.loop-i-test.true within refl c.index-args-i.is (sym c.is_of_sort.ensures ∙ c.if-not-is_of_sort.false) c.loop-i.invariant

pub returns : goal.returns
returns c =
    let past : length c.args.args.now ≤ c.loop-i.i = omega arith in
    sorts_end c.args.params.now c.args.args.now c.loop-i.i _ c.loop-i-test.false past c.loop-i.invariant
