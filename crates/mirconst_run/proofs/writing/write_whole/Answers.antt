use Rattle.std.proofs.Common.{◌-◌, length, take, drop, arith}
use Rattle.std.proofs.lemmas.List.{take_rest}
use Rattle.mirconst_run.proofs.Moving.{more_written, still_within}
use Rattle.mirconst_run.proofs.writing.write_whole.Goals as goal

pub loop-done-preserved : goal.loop-done-preserved
loop-done-preserved g c =
    let n = c.loop-done.done in
    let bytes = c.args.bytes.now in
    let part = take (length bytes - n) (drop n bytes) in
    let rest = take_rest bytes n in (
      still_within bytes part n c.in_ok-done.field-0 rest c.loop-done.invariant.0 c.in_ok-done.ensures.fits,
      more_written _ _ _ bytes part n c.in_ok-done.field-0 rest c.loop-done.invariant.1 c.in_ok-done.ensures.grows,
      omega (arith, c.loop-done.invariant.2, c.in_ok-done.ensures.rising),
    )
