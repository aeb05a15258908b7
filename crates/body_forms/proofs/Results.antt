-- A fact in the place of what an answer claims.
use Rattle.std.proofs.Common.{Result, Ok, Err}
use Rattle.std.specs.Prelude.{OnOk}

-- a fact that holds of any answer
pub on-ok : {T E : Type 0} (P : Type 0) (r : Result T E) → P → OnOk r P
on-ok P (Ok value) p = p
on-ok P (Err e) p = tt
