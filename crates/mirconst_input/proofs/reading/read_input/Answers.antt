use Rattle.mirconst_input.proofs.Moving.{too_long, takes_more}
use Rattle.mirconst_input.proofs.reading.read_input.Goals as goal
use Rattle.std.proofs.lemmas.List.{length-take}
use Rattle.std.proofs.Common.{arith}

pub returns-clause-refused : goal.returns-clause-refused
returns-clause-refused g c =
    too_long c.loop-bytes.bytes.items _ _ c.loop-bytes.invariant.0 (omega (arith, c.loop-bytes-test.false, c.len.ensures)) c.loop-bytes.invariant.2

pub returns-in_err-n-clause-few : goal.returns-in_err-n-clause-few
returns-in_err-n-clause-few g c =
    takes_more c.loop-bytes.bytes.items _ _ _ _ c.loop-bytes.invariant.0 c.read_piece.ensures.taken
    (omega (arith, length-take c.min-want.result c.deref_mut.result.now, c.min-want.ensures, c.len-in-loop-bytes.ensures, c.loop-bytes-test.true, c.len.ensures))
