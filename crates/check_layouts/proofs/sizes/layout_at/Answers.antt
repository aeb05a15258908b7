use Rattle.std.proofs.Common.{subst}
use Rattle.check_layouts.specs.inner.Fields.{IsPlaceOf}
use Rattle.check_layouts.proofs.Above.{found_here, found_missing, found_past, found_nowhere}
use Rattle.check_layouts.proofs.sizes.layout_at.Goals as goal

pub returns-in-Some-at : goal.returns-in-Some-at
returns-in-Some-at c = λ found is.
    found_here c.args.db.now c.args.i found c.in-Some.place c.in-Some-at.row.now (subst (λ place. IsPlaceOf c.args.db.now found place) c.in-Some.is is) c.if-place-i.true c.in-Some-at.ensures

pub returns-in-None-at : goal.returns-in-None-at
returns-in-None-at c = λ found is.
    found_missing c.args.db.now c.args.i found c.in-Some.place (subst (λ place. IsPlaceOf c.args.db.now found place) c.in-Some.is is) c.if-place-i.true c.in-None-at.ensures

pub returns-else-place-i : goal.returns-else-place-i
returns-else-place-i c = λ found is.
    found_past c.args.db.now c.args.i found c.in-Some.place (subst (λ place. IsPlaceOf c.args.db.now found place) c.in-Some.is is) c.if-place-i.false

pub returns-in-None : goal.returns-in-None
returns-in-None c = λ found is. found_nowhere c.args.db.now c.args.i found (subst (λ place. IsPlaceOf c.args.db.now found place) c.in-None.is is)
