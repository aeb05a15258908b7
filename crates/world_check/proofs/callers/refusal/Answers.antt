use Rattle.std.proofs.Common.{Result, Ok, Err, IfErr, IfSome, sym, subst}
use Rattle.std.specs.Result.{result_err}
use Rattle.world_check.specs.Rows.{IsRefusal}
use Rattle.world_check.proofs.callers.refusal.Goals as goal

-- what holds of the fault of an `Err` holds of the fault that it is turned into
of_err : {T E : Type 0} (P : E → Type 0) (r : Result T E) → IfErr r P → IfSome (result_err r) P
of_err P (Ok t) fact = tt
of_err P (Err fault) fact = fact

pub returns : goal.returns
returns c = subst (λ found. IfSome found (IsRefusal c.args.db.now)) (sym c.err.ensures.value) (of_err (IsRefusal c.args.db.now) c.check.result c.check.ensures.refused)
