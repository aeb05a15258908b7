use Rattle.std.proofs.Common.{None, Some, refl, sym, subst}
use Rattle.world_check.specs.Meets.{Meets}
use Rattle.check_trees.specs.First.{FindsFailing}
use Rattle.world_check.specs.WorldPlaces.{of_bodies, of_body}
use Rattle.world_check.specs.declared.fault.CheckRow.TheVariants.{C7}
use Rattle.world_check.proofs.Bodies.{found_in_body, passed_bodies, passes_body, row_at}
use Rattle.check_trees.proofs.First.{found_is}
use Rattle.world_check.proofs.trees.wrong_pattern.Goals as goal

pub returns-in-Some : goal.returns-in-Some
returns-in-Some c =
    let rows = c.as_slice-rows.result.now in
    let at = row_at rows rows c.loop-i.i c.index-rows-i.result c.index-rows-i.result c.loop-i-test.true c.index-rows-i.is refl in
    let there = row_at rows c.args.db.now.bodies c.loop-i.i c.index-rows-i.result c.index-rows-i.result c.loop-i-test.true c.index-rows-i.is c.as_slice-rows.ensures in
    let here = found_is (Meets C7 c.args.db.now) (of_body c.loop-i.i c.index-rows-i.result.body) _ (Some c.in-Some.place) (sym c.in-Some.is) (c.wrong_ellipsis_in.ensures c.args.db.now there) in
    subst (λ xs. FindsFailing (Meets C7 c.args.db.now) (of_bodies 0 xs) (Some c.in-Some.place)) c.as_slice-rows.ensures (found_in_body (Meets C7 c.args.db.now) rows c.loop-i.i c.index-rows-i.result c.in-Some.place at here c.loop-i.invariant)

pub loop-i-preserved : goal.loop-i-preserved
loop-i-preserved c =
    let rows = c.as_slice-rows.result.now in
    let at = row_at rows rows c.loop-i.i c.index-rows-i.result c.index-rows-i.result c.loop-i-test.true c.index-rows-i.is refl in
    let there = row_at rows c.args.db.now.bodies c.loop-i.i c.index-rows-i.result c.index-rows-i.result c.loop-i-test.true c.index-rows-i.is c.as_slice-rows.ensures in
    let here = found_is (Meets C7 c.args.db.now) (of_body c.loop-i.i c.index-rows-i.result.body) _ None (sym c.in_default.is) (c.wrong_ellipsis_in.ensures c.args.db.now there) in
    passes_body (Meets C7 c.args.db.now) rows c.loop-i.i c.index-rows-i.result at here c.loop-i.invariant

pub returns : goal.returns
returns c =
    subst (λ xs. FindsFailing (Meets C7 c.args.db.now) (of_bodies 0 xs) None) c.as_slice-rows.ensures (passed_bodies (Meets C7 c.args.db.now) c.as_slice-rows.result.now c.loop-i.i c.loop-i-test.false c.loop-i.invariant)
