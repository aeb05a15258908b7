use Rattle.std.proofs.Common.{◌≡◌, sym, refl, rules}
use Rattle.numbers.proofs.Keeping.{holds_up_to, wide_holds_unsigned}
use Rattle.numbers.proofs.kept.holds_unsigned.Goals as goal

pub returns-in-1 : goal.returns-in-1
returns-in-1 c = rw c.in-1.is (holds_up_to 1 c.args.value _ refl)

pub returns-in-2 : goal.returns-in-2
returns-in-2 c = rw c.in-2.is (holds_up_to 2 c.args.value _ refl)

pub returns-in-4 : goal.returns-in-4
returns-in-4 c = rw c.in-4.is (holds_up_to 4 c.args.value _ refl)

pub returns-in-8 : goal.returns-in-8
returns-in-8 c = rw c.in-8.is (holds_up_to 8 c.args.value _ refl)

pub returns-in_default : goal.returns-in_default
returns-in_default c =
    let size : c.args.size ≡ 16 = search rules in
    rw size (sym (wide_holds_unsigned c.args.value c.ranges.value.fits))
