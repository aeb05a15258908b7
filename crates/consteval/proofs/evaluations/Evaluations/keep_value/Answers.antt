-- A value is kept once.
use Rattle.std.proofs.lemmas.Result.{on_ok_weaker}
use Rattle.consteval.specs.Kept.{Value}
use Rattle.consteval.proofs.Keeping.{added-kept, added-stays}
use Rattle.consteval.proofs.evaluations.Evaluations.keep_value.Goals as goal

pub returns-clause-kept : goal.returns-clause-kept
returns-clause-kept c =
    on_ok_weaker c.keep.result (added-kept c.args.self.now c.keep.new.self (Value c.args.def c.in_ok-konst.konst)) c.keep.ensures.kept

pub returns-clause-stays : goal.returns-clause-stays
returns-clause-stays c =
    added-stays c.args.self.now c.keep.new.self (Value c.args.def c.in_ok-konst.konst) c.keep.result c.keep.ensures.kept c.keep.ensures.unchanged
