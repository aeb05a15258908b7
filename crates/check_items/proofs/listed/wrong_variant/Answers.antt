use Rattle.std.proofs.Common.{◌≡◌, ◌≤◌, false, length, get_or, slice_get, refl, sym, ◌∙◌, ap, subst, arith}
use Rattle.std.proofs.lemmas.Grind.{common_steps}
use Rattle.std.proofs.lemmas.Option.{slice_get_read}
use Rattle.check_items.proofs.Marking.{all_right, listed_right, right_next}
use Rattle.check_items.proofs.listed.wrong_variant.Goals as goal

pub loop-v-preserved : goal.loop-v-preserved
loop-v-preserved c =
    let row = slice_get_read c.as_slice-rows.result.now (length c.as_slice-rows.result.now) c.loop-v.v c.index-rows-v.result refl c.loop-v-test.true c.index-rows-v.is in
    let at = sym (ap (λ xs. slice_get xs c.loop-v.v) c.as_slice-rows.ensures) ∙ row in
    let unmarked : get_or c.mark_misplaced.new.marks c.loop-v.v false ≡ false = grind (arith, common_steps) in
    right_next c.args.db.now c.loop-v.v c.index-rows-v.result at
    (listed_right c.args.db.now c.loop-v.v c.index-rows-v.result at (c.is_listed.ensures.0 c.if-not-is_listed.false) (λ e i. c.mark_misplaced.ensures.own c.loop-v.v e i unmarked))
    c.loop-v.invariant

pub returns-clause-none : goal.returns-clause-none
returns-clause-none c _ = all_right c.args.db.now c.loop-v.v (subst (λ xs. length xs ≤ c.loop-v.v) c.as_slice-rows.ensures c.loop-v-test.false) c.loop-v.invariant
