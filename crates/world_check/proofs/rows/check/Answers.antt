use Rattle.std.proofs.Common.{refl}
use Rattle.world_check.specs.declared.fault.CheckRow.TheVariants.{C1, C2, C3, C4, C5, C6, C7}
use Rattle.world_check.proofs.CheckedFacts.{IsChecked-from_holds}
use Rattle.world_check.proofs.FirstFailure.{agreement_passed, all_hold, first_failure, ids_passed, labels_passed, layouts_passed, none_passed, resolution_passed, tags_passed, trees_passed}
use Rattle.world_check.proofs.rows.check.Goals as goal

pub returns-in-Some-clause-refused : goal.returns-in-Some-clause-refused
returns-in-Some-clause-refused c =
    let w = c.args.db.now in
    first_failure w 0 C1 _ c.in-Some.place c.refusal.result refl (none_passed w) c.in-Some.is c.in_ok-place.ensures c.refusal.ensures

pub returns-in-Some-2-clause-refused : goal.returns-in-Some-2-clause-refused
returns-in-Some-2-clause-refused c =
    let w = c.args.db.now in
    let p1 = ids_passed w _ c.in_default.is c.in_ok-place.ensures in
    first_failure w 1 C2 _ c.in-Some-2.place c.refusal-in-Some-2.result refl p1 c.in-Some-2.is c.in_ok-place-2.ensures c.refusal-in-Some-2.ensures

pub returns-in-Some-3-clause-refused : goal.returns-in-Some-3-clause-refused
returns-in-Some-3-clause-refused c =
    let w = c.args.db.now in
    let p1 = ids_passed w _ c.in_default.is c.in_ok-place.ensures in
    let p2 = trees_passed w p1 _ c.in_default-2.is c.in_ok-place-2.ensures in
    first_failure w 2 C3 _ c.in-Some-3.place c.refusal-in-Some-3.result refl p2 c.in-Some-3.is c.in_ok-place-3.ensures c.refusal-in-Some-3.ensures

pub returns-in-Some-wrong_resolution-clause-refused : goal.returns-in-Some-wrong_resolution-clause-refused
returns-in-Some-wrong_resolution-clause-refused c =
    let w = c.args.db.now in
    let p1 = ids_passed w _ c.in_default.is c.in_ok-place.ensures in
    let p2 = trees_passed w p1 _ c.in_default-2.is c.in_ok-place-2.ensures in
    let p3 = labels_passed w p2 _ c.in_default-3.is c.in_ok-place-3.ensures in
    first_failure w 3 C4 _ c.in-Some-wrong_resolution.place c.refusal-in-Some-wrong_resolution.result refl p3 refl c.in-Some-wrong_resolution.ensures c.refusal-in-Some-wrong_resolution.ensures

pub returns-in-Some-4-clause-refused : goal.returns-in-Some-4-clause-refused
returns-in-Some-4-clause-refused c =
    let w = c.args.db.now in
    let p1 = ids_passed w _ c.in_default.is c.in_ok-place.ensures in
    let p2 = trees_passed w p1 _ c.in_default-2.is c.in_ok-place-2.ensures in
    let p3 = labels_passed w p2 _ c.in_default-3.is c.in_ok-place-3.ensures in
    let p4 = resolution_passed w p3 _ refl c.in_default-wrong_resolution.ensures in
    first_failure w 4 C5 _ c.in-Some-4.place c.refusal-in-Some-4.result refl p4 c.in-Some-4.is c.in_ok-place-4.ensures c.refusal-in-Some-4.ensures

pub returns-in-Some-wrong_tag-clause-refused : goal.returns-in-Some-wrong_tag-clause-refused
returns-in-Some-wrong_tag-clause-refused c =
    let w = c.args.db.now in
    let p1 = ids_passed w _ c.in_default.is c.in_ok-place.ensures in
    let p2 = trees_passed w p1 _ c.in_default-2.is c.in_ok-place-2.ensures in
    let p3 = labels_passed w p2 _ c.in_default-3.is c.in_ok-place-3.ensures in
    let p4 = resolution_passed w p3 _ refl c.in_default-wrong_resolution.ensures in
    let p5 = layouts_passed w p4 _ c.in_default-4.is c.in_ok-place-4.ensures in
    first_failure w 5 C6 _ c.in-Some-wrong_tag.place c.refusal-in-Some-wrong_tag.result refl p5 refl c.in-Some-wrong_tag.ensures c.refusal-in-Some-wrong_tag.ensures

pub returns-in-Some-5-clause-refused : goal.returns-in-Some-5-clause-refused
returns-in-Some-5-clause-refused c =
    let w = c.args.db.now in
    let p1 = ids_passed w _ c.in_default.is c.in_ok-place.ensures in
    let p2 = trees_passed w p1 _ c.in_default-2.is c.in_ok-place-2.ensures in
    let p3 = labels_passed w p2 _ c.in_default-3.is c.in_ok-place-3.ensures in
    let p4 = resolution_passed w p3 _ refl c.in_default-wrong_resolution.ensures in
    let p5 = layouts_passed w p4 _ c.in_default-4.is c.in_ok-place-4.ensures in
    let p6 = tags_passed w p5 _ refl c.in_default-wrong_tag.ensures in
    first_failure w 6 C7 _ c.in-Some-5.place c.refusal-in-Some-5.result refl p6 c.in-Some-5.is c.in_ok-place-5.ensures c.refusal-in-Some-5.ensures

pub returns-clause-ok : goal.returns-clause-ok
returns-clause-ok c =
    let w = c.args.db.now in
    let p1 = ids_passed w _ c.in_default.is c.in_ok-place.ensures in
    let p2 = trees_passed w p1 _ c.in_default-2.is c.in_ok-place-2.ensures in
    let p3 = labels_passed w p2 _ c.in_default-3.is c.in_ok-place-3.ensures in
    let p4 = resolution_passed w p3 _ refl c.in_default-wrong_resolution.ensures in
    let p5 = layouts_passed w p4 _ c.in_default-4.is c.in_ok-place-4.ensures in
    let p6 = tags_passed w p5 _ refl c.in_default-wrong_tag.ensures in
    let p7 = agreement_passed w p6 _ c.in_default-5.is c.in_ok-place-5.ensures in
    IsChecked-from_holds w (all_hold w p7)

pub returns-clause-holds : goal.returns-clause-holds
returns-clause-holds c =
    let w = c.args.db.now in
    let p1 = ids_passed w _ c.in_default.is c.in_ok-place.ensures in
    let p2 = trees_passed w p1 _ c.in_default-2.is c.in_ok-place-2.ensures in
    let p3 = labels_passed w p2 _ c.in_default-3.is c.in_ok-place-3.ensures in
    let p4 = resolution_passed w p3 _ refl c.in_default-wrong_resolution.ensures in
    let p5 = layouts_passed w p4 _ c.in_default-4.is c.in_ok-place-4.ensures in
    let p6 = tags_passed w p5 _ refl c.in_default-wrong_tag.ensures in
    let p7 = agreement_passed w p6 _ c.in_default-5.is c.in_ok-place-5.ensures in
    all_hold w p7
