use Rattle.std.proofs.Common.{refl, arith}
use Rattle.json_kit.specs.Hex.{hex_bytes}
use Rattle.json_kit.proofs.HexPairs.{misfits, odd, goes_on, ends, is_done}
use Rattle.json_kit.proofs.hex.pairs.Goals as goal

pub returns-then-digits-ne0 : goal.returns-then-digits-ne0
returns-then-digits-ne0 c = misfits c.here.result (hex_bytes c.args.digits.now) c.here.ensures (odd c.args.digits.now c.if-digits-ne0.true)

pub returns-in-None : goal.returns-in-None
returns-in-None c =
    let none = ends c.loop-place.bytes c.args.digits.now c.loop-place.place (hex_bytes c.args.digits.now) (omega arith) c.in-None.ensures c.loop-place.invariant in
    misfits c.here-in-None.result (hex_bytes c.args.digits.now) c.here-in-None.ensures none

pub loop-place-preserved : goal.loop-place-preserved
loop-place-preserved c =
    rw c.in_ok-push-in-Some.ensures.ok (goes_on c.loop-place.bytes c.args.digits.now c.loop-place.place c.in-Some.x (hex_bytes c.args.digits.now) (omega arith) c.in-Some.ensures c.loop-place.invariant)

pub returns : goal.returns
returns c =
    let done = is_done c.loop-place.bytes c.args.digits.now c.loop-place.place (hex_bytes c.args.digits.now) (omega arith) (omega arith) c.loop-place.invariant in
    rw done refl
