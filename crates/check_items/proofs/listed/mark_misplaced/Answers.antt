use Rattle.std.proofs.Common.{◌+◌, ◌≤◌, inl, length, get_or, slice_get, refl, sym, ◌∙◌, ap, subst, arith}
use Rattle.std.proofs.lemmas.Bool.Decides.{not_from_Decides}
use Rattle.std.proofs.lemmas.Option.{slice_get-get_or, slice_get_read}
use Rattle.check_items.proofs.Marking.{AreMarks, all_own, elsewhere_inside, enum_next, listed_in, marked_next, own_next}
use Rattle.check_items.proofs.listed.mark_misplaced.Goals as goal
use Rattle.check_items.proofs.listed.mark_misplaced.Goals.{then-not-is_own_place, else-not-is_own_place}

pub loop-i-preserved : goal.loop-i-preserved
loop-i-preserved c =
    let ids = c.as_slice-ids.result.now in
    let id = get_or ids c.loop-i.i (record { 0 = 0 }) in
    let row = slice_get_read c.as_slice-enums.result.now (length c.as_slice-enums.result.now) c.loop-e.e c.index-enums-e.result refl c.loop-e-test.true c.index-enums-e.is in
    let at_row = sym (ap (λ xs. slice_get xs c.loop-e.e) c.as_slice-enums.ensures) ∙ row in
    let at = sym (ap (λ xs. slice_get xs c.loop-i.i) c.as_slice-ids.ensures) ∙ slice_get-get_or ids c.loop-i.i (record { 0 = 0 }) c.loop-i-test.true in
    let listed = listed_in c.args.db.now c.loop-e.e c.loop-i.i c.index-enums-e.result id at_row at in
    elim c.if-not-is_own_place.branch [
      | then-not-is_own_place w ↦
          let elsewhere = not_from_Decides c.is_own_place.result c.is_own_place.ensures w.if-not-is_own_place.true in
          let inside = elsewhere_inside c.args.db.now id.0 c.loop-e.e c.loop-i.i elsewhere in
          subst (AreMarks c.args.db.now c.loop-e.e (c.loop-i.i + 1)) (sym w.marks-is)
          (marked_next c.args.db.now c.loop-e.e c.loop-i.i id.0 c.loop-i.marks c.loop-i.invariant listed (omega arith) elsewhere)
      | else-not-is_own_place w ↦ subst (AreMarks c.args.db.now c.loop-e.e (c.loop-i.i + 1)) (sym w.marks-is)
          (own_next c.args.db.now c.loop-e.e c.loop-i.i id.0 c.loop-i.marks c.loop-i.invariant listed (inl (c.is_own_place.ensures.0 w.if-not-is_own_place.false)))
    ]

pub loop-e-preserved : goal.loop-e-preserved
loop-e-preserved c =
    let row = slice_get_read c.as_slice-enums.result.now (length c.as_slice-enums.result.now) c.loop-e.e c.index-enums-e.result refl c.loop-e-test.true c.index-enums-e.is in
    let at_row = sym (ap (λ xs. slice_get xs c.loop-e.e) c.as_slice-enums.ensures) ∙ row in
    enum_next c.args.db.now c.loop-e.e c.index-enums-e.result c.loop-i.i c.loop-i.marks at_row (subst (λ xs. length xs ≤ c.loop-i.i) c.as_slice-ids.ensures c.loop-i-test.false) c.loop-i.invariant

pub returns-clause-own : goal.returns-clause-own
returns-clause-own c = all_own c.args.db.now c.loop-e.e c.loop-e.marks (subst (λ xs. length xs ≤ c.loop-e.e) c.as_slice-enums.ensures c.loop-e-test.false) c.loop-e.invariant
