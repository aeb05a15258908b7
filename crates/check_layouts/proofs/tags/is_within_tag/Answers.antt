use Rattle.std.proofs.Common.{◌+◌, ◌*◌, ◌^◌, ◌≤◌, arith}
use Rattle.std.proofs.Math.Nat.{pow-le-pow_right}
use Rattle.check_layouts.proofs.Deciding.{yes}
use Rattle.check_layouts.proofs.tags.is_within_tag.Goals as goal

-- a tag of more than 16 bytes has more values than any sum
pub returns-then-size-gt16 : goal.returns-then-size-gt16
returns-then-size-gt16 c =
    let wide : 2 ^ 136 ≤ 2 ^ (8 * c.args.size) = pow-le-pow_right {n = 2} (omega arith) {i = 136} {j = 8 * c.args.size} (omega arith) in
    let holds : c.args.start + c.args.more ≤ 2 ^ (8 * c.args.size) = omega arith in
    yes holds
