use Rattle.std.proofs.Common.{◌≡◌, true, Result, Ok, Err, OnOk, is_ok, sym, ◌∙◌}
use Rattle.world_check.proofs.Laid.{laid_out}
use Rattle.world_check.proofs.callers.passes.Goals as goal

-- a fact that an `Ok` brings
of_ok : {T E : Type 0} (r : Result T E) (P : Type 0) → OnOk r P → is_ok r ≡ true → P
of_ok (Ok t) P fact e = fact
of_ok (Err f) P fact e = cc

pub returns : goal.returns
returns c passed = laid_out c.args.db.now (of_ok c.check.result _ c.check.ensures.holds (sym c.is_ok.ensures.value ∙ passed))
